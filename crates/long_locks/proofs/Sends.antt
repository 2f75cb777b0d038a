-- The types of this crate may be sent between threads, as what they are made of may.
use denote.RattleType.{RattleType}
use denote.Param.Send.{IsSend, Frees, struct_send, recorded_send, view_send}
use denote.Struct.Declared.{shape}
use Rattle.std.specs.declared.alloc.Allocator.{Ghosts}
use Rattle.std.specs.declared.cmp.PartialEq as eq
use Rattle.std.specs.declared.hash.Hash as hash
use Rattle.std.specs.declared.hash.Hasher as hasher
use Rattle.std.specs.declared.hash.BuildHasher as builder
use Rattle.std.specs.contracts.hash.BuildHasherDefault as Default
use Rattle.std.specs.contracts.hash.FoldHasher as Fold
use Rattle.indexmap.specs.contracts.columns.Columns as Columns
use Rattle.indexmap.specs.contracts.index_table.IndexTable as IndexTable
use Rattle.indexmap.specs.contracts.map.IndexMap as IndexMap
use Rattle.vault_state.proofs.Sends.{fields, claim_id_send, claim_send}
use Rattle.lock_table.proofs.Sends.{table_send}
use Rattle.long_locks.specs.contracts.kept.KeptClaim as KeptClaim
use Rattle.long_locks.specs.contracts.kept.KeptClaim.TheInside as KeptInside
use Rattle.long_locks.specs.contracts.claims.Claims as Claims
use Rattle.long_locks.specs.contracts.claims.Claims.TheInside as ClaimsInside
use Rattle.long_locks.specs.contracts.line.Line as Line
use Rattle.long_locks.specs.contracts.line.Line.TheInside as LineInside

hasher_send : IsSend (Default.the_row Fold.the_row)
hasher_send = search fields depth 20

-- an `IndexMap` of what may be sent
module _ (K V S B T : RattleType) (e : eq.Ghosts K.Denot) (h : hash.Ghosts K.Denot) (b : builder.Ghosts S.Denot T.Denot) (w : hasher.Ghosts T.Denot) (g : Ghosts B.Denot) where
  index_map_send : IsSend K → IsSend V → IsSend S → IsSend B → Frees g g.dealloc_token → IsSend (IndexMap.the_field K V S B T e h b w g).row
  index_map_send sk sv ss sb f =
      let columns : IsSend (Columns.the_field K V B g).row = search fields depth 20 in
      let table : IsSend (IndexTable.the_field B g).row = search fields depth 20 in
      search fields depth 20

module _ (A : RattleType) (g : Ghosts A.Denot) (s : IsSend A) (f : Frees g g.dealloc_token) where
  kept_send : IsSend (KeptClaim.the_field A g).row
  kept_send =
      let T = KeptInside.the_type A g in
      let c = claim_send in
      view_send _ _ _ _ _ (recorded_send _ _ _ T.to_one (struct_send (shape T) (search fields depth 20)))

  claims_send : IsSend (Claims.the_field A g).row
  claims_send =
      let T = ClaimsInside.the_type A g in
      let m = index_map_send _ _ _ _ Fold.the_row _ _ _ _ _ claim_id_send kept_send hasher_send s f in
      view_send _ _ _ _ _ (recorded_send _ _ _ T.to_one (struct_send (shape T) (m, tt)))

  pub line_send : IsSend (Line.the_field A g).row
  line_send =
      let T = LineInside.the_type A g in
      let c = claims_send in
      let t = table_send A g s f in
      view_send _ _ _ _ _ (recorded_send _ _ _ T.to_one (struct_send (shape T) (search fields depth 20)))
