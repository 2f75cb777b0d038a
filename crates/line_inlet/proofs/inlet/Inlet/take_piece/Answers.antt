use Rattle.std.proofs.Common.{◌≡◌, true, false, take, drop, ◌-◌, sym, ap, arith, rules, refl}
use Rattle.line_inlet.specs.Inflow.{Inflow}
use Rattle.line_inlet.proofs.Bytes.{cuts_waiting, takes_waiting}
use Rattle.line_inlet.proofs.inlet.Inlet.take_piece.Goals as goal

pub returns-then-is_long-clause-taken : goal.returns-then-is_long-clause-taken
returns-then-is_long-clause-taken g c = λ so_far keeps.
    let i = c.self.inside in
    let shown = c.self.view_is in
    let taken = ap (λ (s : Inflow). s.taken) shown in
    let long : c.keep-is_long.result ≡ true = search rules in (
      take c.in-Some.count (take (i.end - i.at) (drop i.at i.chunk)),
      cuts_waiting c.args.self.now _ i.chunk i.at i.end c.in-Some.count (sym (ap (λ (s : Inflow). s.pending) shown)) c.self.invariant.0 (omega (arith, c.self.invariant.1)) c.in-Some.ensures refl (omega (arith, taken)) (omega (arith, c.if-left-count.false, c.self.invariant.2)),
      rw long at (c.keep-is_long.ensures.kept so_far keeps),
    )

pub returns-else-is_long-clause-taken : goal.returns-else-is_long-clause-taken
returns-else-is_long-clause-taken g c = λ so_far keeps.
    let i = c.self.inside in
    let shown = c.self.view_is in
    let taken = ap (λ (s : Inflow). s.taken) shown in
    let short : c.keep-is_long.result ≡ false = search rules in (
      take c.in-Some.count (take (i.end - i.at) (drop i.at i.chunk)),
      cuts_waiting c.args.self.now _ i.chunk i.at i.end c.in-Some.count (sym (ap (λ (s : Inflow). s.pending) shown)) c.self.invariant.0 (omega (arith, c.self.invariant.1)) c.in-Some.ensures refl (omega (arith, taken)) (omega (arith, c.if-left-count.false, c.self.invariant.2)),
      rw short at (c.keep-is_long.ensures.kept so_far keeps),
    )

pub returns-else-left-count-2-clause-taken : goal.returns-else-left-count-2-clause-taken
returns-else-left-count-2-clause-taken g c = λ so_far keeps.
    let i = c.self.inside in
    let shown = c.self.view_is in
    let taken = ap (λ (s : Inflow). s.taken) shown in
    takes_waiting c.args.self.now _ i.chunk i.at i.end so_far _ _ (sym (ap (λ (s : Inflow). s.pending) shown)) c.in-None.ensures (c.keep-is_long-in-None.ensures.kept so_far keeps) refl (omega (arith, taken)) (omega (arith, c.if-left-count-2.false, c.self.invariant.2))
