use Rattle.std.specs.Prelude.{◌≡◌, ◌<◌, true, false, map, slice_get, Some, refl}
use Rattle.std.proofs.Common.{ap, sym, subst, ◌∙◌}
use Rattle.std.specs.List.{remove}
use Rattle.std.proofs.lemmas.Option.{same_Some}
use Rattle.vault_state.specs.Claims.{is_short}
use Rattle.lock_table.specs.declared.entry.Entry.{Entry}
use Rattle.lock_table.proofs.Blockers.{remove_map}
use Rattle.lock_table.proofs.Putting.{read_at}
use Rattle.lock_table.proofs.table.remove_short.Goals as goal

pub remove-requires-then-is_short : goal.remove-requires-then-is_short
remove-requires-then-is_short g c = subst (λ n. c.args.index < n) (sym c.requires.many) c.requires.there

pub returns-then-is_short-clause-done : goal.returns-then-is_short-clause-done
returns-then-is_short-clause-done g c = λ e there.
    let items = c.args.entries.now.items in
    let inside = subst (λ n. c.args.index < n) c.args.entries.now.ok.0 c.requires.there in
    let same = same_Some c.index.result.now e (sym (read_at items c.args.index c.index.result.now inside c.index.ensures) ∙ there) in
    let short : is_short e.id ≡ true = sym (c.if-is_short.ensures ∙ (ap is_short c.id.ensures ∙ ap (λ (x : Entry). is_short x.id) same)) in
    rw short c.remove.ensures.items

pub returns-then-is_short-clause-beside : goal.returns-then-is_short-clause-beside
returns-then-is_short-clause-beside g c = λ old were.
    c.remove-then-is_short.ensures.items ∙ (ap (λ bs. remove bs c.args.index) were ∙ (remove_map old c.args.entries.now.items c.args.index ∙ ap (map old) (sym c.remove.ensures.items)))

pub returns-else-is_short-clause-done : goal.returns-else-is_short-clause-done
returns-else-is_short-clause-done g c = λ e there.
    let inside = subst (λ n. c.args.index < n) c.args.entries.now.ok.0 c.requires.there in
    let mine : slice_get c.args.entries.now.items c.args.index ≡ Some c.index.result.now = read_at c.args.entries.now.items c.args.index c.index.result.now inside c.index.ensures in
    let same : c.index.result.now ≡ e = same_Some c.index.result.now e (sym mine ∙ there) in
    let stays : is_short e.id ≡ false = sym (c.if-is_short.ensures ∙ (ap is_short c.id.ensures ∙ ap (λ (x : Entry). is_short x.id) same)) in
    rw stays refl
