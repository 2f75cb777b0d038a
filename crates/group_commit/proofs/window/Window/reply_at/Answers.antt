use Rattle.std.proofs.Common.{◌≡◌, ℕ, ◌<◌, List, length, Some, IfOk, sym, subst}
use Rattle.std.specs.Prelude.{slice_get}
use Rattle.group_commit.specs.Entries.{Kept}
use Rattle.group_commit.proofs.WindowReads.{reply_read}
use Rattle.group_commit.proofs.window.Window.reply_at.Goals as goal

pub index-requires : goal.index-requires
index-requires g c = subst (λ (n : ℕ). c.args.position < n) (sym c.self.inside.entries.ok.0) (subst (λ (l : List Kept). c.args.position < length l) (sym c.self.view_is) c.requires)

pub returns : goal.returns
returns g c =
    subst (λ (l : List Kept). IfOk c.reply.result (λ r. (kept : Kept) → slice_get l c.args.position ≡ Some kept → r ≡ kept.entry.reply)) c.self.view_is
    (reply_read c.reply.result c.self.inside.entries.items c.args.position c.index.result.now c.reply.ensures c.index.ensures)
