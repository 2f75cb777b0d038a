use Rattle.vault_state.specs.Shelf.{draft_at}
use Rattle.std.proofs.Common.{◌≡◌, true, refl}
use Rattle.vault_state.specs.Drafts.{SavedDraft, new_draft}
use Rattle.vault_model.proofs.Kept.{kept_saved}
use Rattle.vault_checkout.specs.Seen.{vault_of}
use Rattle.check_outs.specs.Typed.{is_open}
use Rattle.check_outs.proofs.AllDrafts.{saved_is}
use Rattle.vault_checkout.proofs.Agreeing.{open_held, agrees_saved}
use Rattle.check_outs.proofs.Weighing.{May, may_is}
use Rattle.vault_checkout.proofs.book.Book.save_draft.Goals as goal

pub save_at-requires : goal.save_at-requires
save_at-requires g c = open_held c.self.inside.tree c.self.inside.line.claims c.self.inside.check_outs.items c.self.invariant.2 c.args.number (rw (← c.self.view_is) at c.requires.held)

pub invariant_of-self-2 : goal.invariant_of-self-2
invariant_of-self-2 g c =
    let opened : is_open c.self.inside.check_outs.items c.args.number ≡ true = open_held c.self.inside.tree c.self.inside.line.claims c.self.inside.check_outs.items c.self.invariant.2 c.args.number (rw (← c.self.view_is) at c.requires.held) in
    let new : SavedDraft = new_draft c.args.number c.args.place c.args.content.now in
    let may : May (vault_of c.self.inside) new = may_is (vault_of c.self.inside) new (rw (← c.self.view_is) at c.requires.may) in
    rw (c.in_ok-save_at.ensures.ok, c.in_ok-content.ensures, saved_is c.args.number (draft_at c.args.place c.args.content.now) c.self.inside.check_outs.items c.self.invariant.2.ascending opened) (
      kept_saved (vault_of c.self.inside) c.self.invariant.0 new
          (record { held = rw (← c.self.view_is) at c.requires.held; changed = rw (← c.self.view_is) at c.requires.changed; there = rw (← c.self.view_is) at c.requires.there; part = rw (← c.self.view_is) at c.requires.part; short = may.short })
          may.few may.light,
      c.self.invariant.1,
      agrees_saved (vault_of c.self.inside) c.self.invariant.0 c.self.inside.check_outs.items c.self.invariant.2 c.args.number (draft_at c.args.place c.args.content.now),
    )

pub returns-clause-saved : goal.returns-clause-saved
returns-clause-saved g c =
    let opened : is_open c.self.inside.check_outs.items c.args.number ≡ true = open_held c.self.inside.tree c.self.inside.line.claims c.self.inside.check_outs.items c.self.invariant.2 c.args.number (rw (← c.self.view_is) at c.requires.held) in
    rw (← c.self.view_is, c.in_ok-save_at.ensures.ok, c.in_ok-content.ensures, saved_is c.args.number (draft_at c.args.place c.args.content.now) c.self.inside.check_outs.items c.self.invariant.2.ascending opened) refl
