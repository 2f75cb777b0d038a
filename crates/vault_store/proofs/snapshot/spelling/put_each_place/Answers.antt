use Rattle.std.proofs.Common.{◌<◌, ◌-◌, List, ◌++◌, length, ◌∙◌, ap, sym, subst, arith}
use Rattle.std.proofs.lemmas.List.{take_all}
use Rattle.vault_state.specs.Limits.{most_places}
use Rattle.vault_state.specs.declared.place.Place.{Place}
use Rattle.vault_format.specs.Snapshot.{current_version, places_bytes}
use Rattle.vault_format.proofs.Adding.{places_next}
use Rattle.vault_store.proofs.snapshot.spelling.put_each_place.Goals as goal

pub overflow_cast-number : goal.overflow_cast-number
overflow_cast-number g c = let few = subst (λ (t : List Place). length t < most_places) (sym c.tree.ensures) c.requires.few in omega (arith, few, c.loop-number-test.true)

pub loop-number-preserved : goal.loop-number-preserved
loop-number-preserved g c =
    places_next c.args.book.now c.loop-number.number _ _ _ (omega (arith, c.loop-number.auto.number)) (omega (arith, ap length c.tree.ensures, c.len-number-end.ensures, c.loop-number-test.true)) c.loop-number.invariant c.in_ok-put_place.ensures

pub put_place-requires-clause-there : goal.put_place-requires-clause-there
put_place-requires-clause-there g c = omega (arith, c.loop-number-test.true, c.len-number-end.ensures, ap length c.tree.ensures)

pub returns : goal.returns
returns g c =
    c.loop-number.invariant
    ∙ ap (λ (places : List Place). c.args.out.now.items ++ places_bytes current_version c.args.book.now 1 places)
    (take_all (c.loop-number.number - 1) c.args.book.now.tree (omega (arith, c.loop-number-test.false, c.len-number-end.ensures, ap length c.tree.ensures)))
