-- The types of this crate may be sent between threads, as what they are made of may.
use denote.RattleType.{RattleType}
use denote.Param.Send.{IsSend, Frees, struct_send, recorded_send, view_send}
use denote.Struct.Declared.{shape}
use Rattle.std.specs.declared.alloc.Allocator.{Ghosts}
use Rattle.vault_state.proofs.Sends.{fields, place_send}
use Rattle.design_tree.specs.contracts.tree.Tree as Tree
use Rattle.design_tree.specs.contracts.tree.Tree.TheInside as TreeInside

pub tree_send : (A : RattleType) (g : Ghosts A.Denot) → IsSend A → Frees g g.dealloc_token → IsSend (Tree.the_field A g).row
tree_send A g s f =
    let T = TreeInside.the_type A g in
    let p = place_send in
    view_send _ _ _ _ _ (recorded_send _ _ _ T.to_one (struct_send (shape T) (search fields depth 20)))
