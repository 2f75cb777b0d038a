-- The types of this crate may be sent between threads, as what they are made of may.
use denote.RattleType.{RattleType}
use denote.Param.Send.{IsSend, Frees, struct_send, recorded_send, view_send}
use denote.Struct.Declared.{shape}
use Rattle.std.specs.declared.alloc.Allocator.{Ghosts}
use Rattle.vault_state.proofs.Sends.{fields}
use Rattle.part_versions.specs.contracts.part.Part as Part
use Rattle.part_versions.specs.contracts.shelf.Shelf as Shelf
use Rattle.part_versions.specs.contracts.shelf.Shelf.TheInside as ShelfInside

module _ (A : RattleType) (g : Ghosts A.Denot) (s : IsSend A) (f : Frees g g.dealloc_token) where
  part_send : IsSend (Part.the_field A g).row
  part_send = search fields depth 20 fits 20000

  pub shelf_send : IsSend (Shelf.the_field A g).row
  shelf_send =
      let T = ShelfInside.the_type A g in
      let p = part_send in
      view_send _ _ _ _ _ (recorded_send _ _ _ T.to_one (struct_send (shape T) (search fields depth 20)))
