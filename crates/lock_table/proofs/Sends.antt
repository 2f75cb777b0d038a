-- The types of this crate may be sent between threads, as what they are made of may.
use denote.RattleType.{RattleType}
use denote.Param.Send.{IsSend, Frees, struct_send, recorded_send, view_send}
use denote.Param.{number}
use denote.Struct.Declared.{shape}
use denote.Struct.Field.{unit-field}
use Rattle.std.specs.declared.alloc.Allocator.{Ghosts}
use Rattle.arrayvec.specs.contracts.cells.Cells as Cells
use Rattle.arrayvec.specs.contracts.array_vec.ArrayVec as ArrayVec
use Rattle.arrayvec.specs.contracts.array_vec.ArrayVec.TheInside as ArrayVecInside
use Rattle.vault_state.proofs.Sends.{fields, claim_id_send}
use Rattle.lock_queue.proofs.Sends.{queue_send}
use Rattle.lock_table.specs.declared.locks.TheConstants.{MAX_LOCKS}
use Rattle.lock_table.specs.contracts.locks.Lock as Lock
use Rattle.lock_table.specs.contracts.locks.LockSet as LockSet
use Rattle.lock_table.specs.contracts.locks.LockSet.TheInside as LockSetInside
use Rattle.lock_table.specs.contracts.entry.KeptEntry as KeptEntry
use Rattle.lock_table.specs.contracts.entry.KeptEntry.TheInside as KeptInside
use Rattle.lock_table.specs.contracts.table.Table as Table
use Rattle.lock_table.specs.contracts.table.Table.TheInside as TableInside

lock_send : IsSend Lock.the_row
lock_send = search fields depth 20 fits 20000

-- an `ArrayVec` of what may be sent
array_vec_send : (X N A : RattleType) → IsSend X → IsSend A → IsSend (ArrayVec.the_field X N A).row
array_vec_send X N A x a =
    let C = Cells.the_type X N in
    let T = ArrayVecInside.the_type X N A in
    let c : IsSend (Cells.the_row X N) = recorded_send _ _ _ C.to_one (struct_send (shape C) (search fields depth 20)) in
    view_send _ _ _ _ _ (recorded_send _ _ _ T.to_one (struct_send (shape T) (search fields depth 20)))

pub lock_set_send : IsSend LockSet.the_field.row
lock_set_send =
    let T = LockSetInside.the_type in
    let l = array_vec_send _ (number MAX_LOCKS) unit-field.row lock_send (search fields) in
    view_send _ _ _ _ _ (recorded_send _ _ _ T.to_one (struct_send (shape T) (search fields depth 20)))

module _ (A : RattleType) (g : Ghosts A.Denot) (s : IsSend A) (f : Frees g g.dealloc_token) where
  kept_send : IsSend (KeptEntry.the_field A g).row
  kept_send =
      let T = KeptInside.the_type A g in
      let i = claim_id_send in
      let l = lock_set_send in
      view_send _ _ _ _ _ (recorded_send _ _ _ T.to_one (struct_send (shape T) (search fields depth 20)))

  pub table_send : IsSend (Table.the_field A g).row
  table_send =
      let T = TableInside.the_type A g in
      let e = kept_send in
      let i = claim_id_send in
      let c = queue_send A g s f in
      view_send _ _ _ _ _ (recorded_send _ _ _ T.to_one (struct_send (shape T) (search fields depth 20)))
