use Rattle.std.specs.Prelude.{refl}
use Rattle.lock_table.proofs.Positions.{id_there, id_past}
use Rattle.lock_table.proofs.waits.id_at.Goals as goal

pub returns-in_err-index : goal.returns-in_err-index
returns-in_err-index g c = rw c.in_err-index.was c.from_residual.ensures

pub returns-in_err-entry : goal.returns-in_err-entry
returns-in_err-entry g c =
    let none = id_past c.args.entries.now c.in_ok-index.field-0 c.in_err-entry.ensures.lookup.0 in
    rw (c.in_ok-index.was, none) c.from_residual-in_err-entry.ensures

pub returns : goal.returns
returns g c =
    let e = c.in_ok-entry.entry.now in
    let some = id_there c.args.entries.now c.in_ok-index.field-0 e c.in_ok-entry.ensures.lookup.0 c.in_ok-entry.ensures.lookup.1 in
    rw (c.in_ok-index.was, some, c.id.ensures) refl
