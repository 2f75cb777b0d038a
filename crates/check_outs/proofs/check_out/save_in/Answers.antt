use Rattle.std.proofs.Common.{rules, ◌≡◌, sym, subst, slice_set, insert}
use Rattle.std.proofs.lemmas.List.Sorted.{answers_always}
use Rattle.vault_state.specs.Shelf.{Draft}
use Rattle.check_outs.specs.CheckOuts.{IsRising, with_own}
use Rattle.check_outs.proofs.OwnDrafts.{written_over, put_in, rising_with, insert_ok, insert_rising}
use Rattle.check_outs.proofs.check_out.save_in.Goals as goal

over : (g : _) (c : goal.After-drop-index_mut g) → slice_set c.args.drafts.now.items c.in-Ok.index c.args.draft ≡ with_own c.args.drafts.now.items c.args.draft
over g c =
    let by_place = c.in-Ok.ensures.position (λ (draft : Draft). draft.place) (answers_always _ _ _ (λ f a r g called. search rules)) in
    written_over c.args.drafts.now.items c.requires c.args.draft c.in-Ok.index (rw c.deref.ensures.value at c.in-Ok.ensures.bound) (rw c.deref.ensures.value at by_place)

pub returns-in-Ok-clause-ok : goal.returns-in-Ok-clause-ok
returns-in-Ok-clause-ok g c = over g c

pub returns-in-Ok-clause-rising : goal.returns-in-Ok-clause-rising
returns-in-Ok-clause-rising g c = subst IsRising (sym (over g c)) (rising_with c.args.drafts.now.items c.args.draft c.requires)

in_place : (g : _) (c : goal.After-insert g) → insert c.args.drafts.now.items c.in-Err.index c.args.draft ≡ with_own c.args.drafts.now.items c.args.draft
in_place g c =
    let by_place = c.in-Err.ensures.position (λ (draft : Draft). draft.place) (answers_always _ _ _ (λ f a r g called. search rules)) in
    put_in c.args.drafts.now.items c.requires c.args.draft c.in-Err.index (rw c.deref.ensures.value at by_place)

pub returns-in-Err-clause-ok : goal.returns-in-Err-clause-ok
returns-in-Err-clause-ok g c = insert_ok c.args.drafts.now.items (insert c.args.drafts.now.items c.in-Err.index c.args.draft) c.insert.new.self.items (with_own c.args.drafts.now.items c.args.draft) c.insert.result c.insert.ensures.items (in_place g c)

pub returns-in-Err-clause-rising : goal.returns-in-Err-clause-rising
returns-in-Err-clause-rising g c = insert_rising c.args.drafts.now.items (insert c.args.drafts.now.items c.in-Err.index c.args.draft) c.insert.new.self.items (with_own c.args.drafts.now.items c.args.draft) c.insert.result c.insert.ensures.items (in_place g c) c.requires (rising_with c.args.drafts.now.items c.args.draft c.requires)
