use Rattle.std.specs.Prelude.{[]}
use Rattle.vault_model.proofs.Kept.{kept_new}
use Rattle.long_locks.proofs.Grown.{grown_new}
use Rattle.vault_checkout.proofs.Agreeing.{agrees_new}
use Rattle.vault_checkout.proofs.book.Book.new.Goals as goal

pub invariant_of-result : goal.invariant_of-result
invariant_of-result g c = rw (c.in_ok-tree.ensures, c.new-2.ensures, c.in_ok-new.ensures, c.new-4.ensures.items, c.new-5.ensures.items) (kept_new, grown_new [], agrees_new)
