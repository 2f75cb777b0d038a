use Rattle.std.specs.Prelude.{◌≡◌, drop, All}
use Rattle.vault_state.specs.declared.ids.ClaimId.TheVariants.{Long}
use Rattle.vault_state.specs.Claims.{put_first}
use Rattle.vault_state.specs.Vault.{IsDraft}
use Rattle.vault_model.specs.After.{drafts_held}
use Rattle.check_outs.specs.Typed.{saved}
use Rattle.vault_checkout.proofs.book.Book.each_stays_held.Given as goal

-- what is left decides
abbrev pub invariant-loop-check_out : goal.invariant-loop-check_out
invariant-loop-check_out g l = record {
  held : drafts_held l.self.tree (put_first l.self.line (Long l.number) l.items) (saved (drop l.check_out-index l.check_outs)) ≡ drafts_held l.self.tree (put_first l.self.line (Long l.number) l.items) (saved l.check_outs);
  drafts : All (IsDraft l.self.tree l.self.line) (saved (drop l.check_out-index l.check_outs));
}
