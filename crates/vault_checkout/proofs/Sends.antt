-- The types of this crate may be sent between threads, as what they are made of may.
use denote.RattleType.{RattleType}
use denote.Param.Send.{IsSend, Frees, struct_send, recorded_send, view_send}
use denote.Struct.Declared.{shape}
use Rattle.std.specs.declared.alloc.Allocator.{Ghosts}
use Rattle.vault_state.proofs.Sends.{fields, session_send}
use Rattle.design_tree.proofs.Sends.{tree_send}
use Rattle.part_versions.proofs.Sends.{shelf_send}
use Rattle.long_locks.proofs.Sends.{line_send}
use Rattle.check_outs.proofs.Sends.{check_out_send}
use Rattle.vault_checkout.specs.contracts.book.Book as Book
use Rattle.vault_checkout.specs.contracts.book.Book.TheInside as BookInside

module _ (A : RattleType) (g : Ghosts A.Denot) (s : IsSend A) (f : Frees g g.dealloc_token) where
  pub book_send : IsSend (Book.the_field A g).row
  book_send =
      let T = BookInside.the_type A g in
      let t = tree_send A g s f in
      let v = shelf_send A g s f in
      let l = line_send A g s f in
      let c = check_out_send A g s f in
      let m = session_send in
      view_send _ _ _ _ _ (recorded_send _ _ _ T.to_one (struct_send (shape T) (search fields depth 20)))
