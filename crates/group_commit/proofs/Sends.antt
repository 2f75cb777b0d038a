-- The types of this crate may be sent between threads, as what they are made of may.
use denote.RattleType.{RattleType}
use denote.Param.Send.{IsSend, Frees, struct_send, recorded_send, view_send}
use denote.Builtin.{u8}
use denote.Struct.Declared.{shape}
use Rattle.std.specs.declared.alloc.Allocator.{Ghosts}
use Rattle.vault_state.specs.contracts.name.Name as Name
use Rattle.vault_state.specs.contracts.ids.ClaimId as ClaimId
use Rattle.vault_state.specs.contracts.path.Path as Path
use Rattle.vault_state.specs.contracts.claims.PathItem as PathItem
use Rattle.vault_state.proofs.Sends.{fields, name_send, claim_id_send, listing_send}
use Rattle.vault_model.proofs.Sends.{reply_send}
use Rattle.vault_device.specs.declared.device.Device.{Ghosts as DeviceGhosts}
use Rattle.vault_checkout.proofs.Sends.{book_send}
use Rattle.vault_store.proofs.Sends.{store_send}
use Rattle.group_commit.specs.contracts.entry.Entry as Entry
use Rattle.group_commit.specs.contracts.entry.Entry.TheInside as EntryInside
use Rattle.group_commit.specs.contracts.window.Window as Window
use Rattle.group_commit.specs.contracts.window.Window.TheInside as WindowInside
use Rattle.group_commit.specs.contracts.vault.Vault as Vault
use Rattle.group_commit.specs.contracts.vault.Vault.TheInside as VaultInside

path_send : IsSend Path.the_row
path_send = search fields depth 20 fits 20000

path_item_send : IsSend PathItem.the_row
path_item_send = let p = path_send in search fields depth 20 fits 20000

module _ (A : RattleType) (g : Ghosts A.Denot) (s : IsSend A) (f : Frees g g.dealloc_token) where
  entry_send : IsSend (Entry.the_field A g).row
  entry_send =
      let T = EntryInside.the_type A g in
      let r = reply_send _ _ _ _ _ (listing_send A g Name.the_row name_send s f) (listing_send A g u8 (search fields) s f)
      (listing_send A g PathItem.the_row path_item_send s f) (listing_send A g ClaimId.the_row claim_id_send s f) (listing_send A g Path.the_row path_send s f) in
      view_send _ _ _ _ _ (recorded_send _ _ _ T.to_one (struct_send (shape T) (search fields depth 20)))

  window_send : IsSend (Window.the_field A g).row
  window_send =
      let T = WindowInside.the_type A g in
      let e = entry_send in
      view_send _ _ _ _ _ (recorded_send _ _ _ T.to_one (struct_send (shape T) (search fields depth 20)))

  pub vault_send : (D : RattleType) (d : DeviceGhosts D.Denot) → IsSend D → IsSend (Vault.the_field D A d g).row
  vault_send D d ds =
      let T = VaultInside.the_type D A d g in
      let k = store_send D A d g ds s f in
      let b = book_send A g s f in
      let w = window_send in
      view_send _ _ _ _ _ (recorded_send _ _ _ T.to_one (struct_send (shape T) (search fields depth 20)))
