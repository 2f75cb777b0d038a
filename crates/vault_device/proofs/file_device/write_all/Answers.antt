use Rattle.std.proofs.Common.{◌≡◌, ◌∙◌, ◌+◌, Bool, IsTrue, ℕ, length, sym, ap, subst, arith, rules, length-drop}
use Rattle.vault_device.proofs.Parts.{HasPart, part_more, part_fails, rest_is}
use Rattle.vault_device.proofs.file_device.write_all.Goals as goal

pub parts-preserved : goal.parts-preserved
parts-preserved g c =
    let old = g.F.RawFile.bytes c.args.file.now in
    let mid = g.F.RawFile.bytes c.parts.file in
    let new = g.F.RawFile.bytes c.write_some.new.self in
    let bound = c.in_ok-moved.ensures.bound in
    let place : c.in_ok-place.place ≡ c.args.at + c.parts.done = search rules in
    record {
      within = omega (arith, bound, c.unwrap_or-done.ensures, c.parts.invariant.within, ap length (rest_is c.parts.done c.args.text.now), length-drop c.parts.done c.args.text.now);
      honesty = c.in_ok-moved.ensures.honesty ∙ c.parts.invariant.honesty;
      part = λ honest.
          let there : IsTrue mid.honest = subst (λ (b : Bool). IsTrue b) (sym c.parts.invariant.honesty) honest in
          subst (λ (n : ℕ). HasPart c.args.at (c.parts.done + n) c.args.text.now old new) (sym c.unwrap_or-done.ensures)
          (part_more c.args.at c.parts.done c.in_ok-place.place c.args.text.now _ c.in_ok-moved.moved old mid new (c.requires.begin honest) c.parts.invariant.within place (rest_is c.parts.done c.args.text.now)
          (c.parts.invariant.part honest) (c.in_ok-moved.ensures.write there));
    }

pub returns-in_err-moved-clause-write : goal.returns-in_err-moved-clause-write
returns-in_err-moved-clause-write g c honest =
    let old = g.F.RawFile.bytes c.args.file.now in
    let mid = g.F.RawFile.bytes c.parts.file in
    let new = g.F.RawFile.bytes c.write_some.new.self in
    let place : c.in_ok-place.place ≡ c.args.at + c.parts.done = search rules in
    let there : IsTrue mid.honest = subst (λ (b : Bool). IsTrue b) (sym c.parts.invariant.honesty) honest in
    part_fails c.args.at c.parts.done c.in_ok-place.place c.args.text.now _ c.in_err-moved.field-0.0 c.from_residual-in_err-moved.result old mid new c.from_residual-in_err-moved.ensures.0 c.parts.invariant.within place (rest_is c.parts.done c.args.text.now)
    (c.parts.invariant.part honest) (c.in_err-moved.ensures.write there)
