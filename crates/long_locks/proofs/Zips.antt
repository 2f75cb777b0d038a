-- A line and its table, changed alike.
use Rattle.std.specs.Prelude.{◌≡◌, suc, ◌+◌, not, List, [], ◌∷◌, ◌++◌, length, position, nat_lt, Some, None, All, refl}
use Rattle.std.proofs.Common.{sym, ap, subst, ◌∙◌, cond}
use Rattle.std.specs.List.{AllZip, position_or_len}
use Rattle.std.specs.Option.{option_map}
use Rattle.vault_state.specs.declared.place.Place.{Place}
use Rattle.vault_state.specs.declared.claims.Item.{Item}
use Rattle.vault_state.specs.declared.claims.Claim.{Claim}
use Rattle.vault_state.specs.declared.ids.ClaimId.{ClaimId}
use Rattle.vault_state.specs.Tree.{IsTree}
use Rattle.vault_state.specs.Claims.{same_id, is_short, standing_by, standing_behind, claim_of, before, without, changed}
use Rattle.vault_state.proofs.InPlace.{one_id, one_items}
use Rattle.vault_state.specs.Vault.{AreThere}
use Rattle.lock_table.specs.declared.locks.Lock.{Lock}
use Rattle.lock_table.specs.declared.entry.Entry.{Entry}
use Rattle.lock_table.specs.Tables.{standing_in, entries_without, long_entries, first_in_way, AreLocksOf, IsEntryOf, IsTableOf}
use Rattle.long_locks.specs.declared.ending.Ending.TheVariants.{AllShort}
use Rattle.long_locks.specs.Lines.{left_by}
use Rattle.lock_table.proofs.Lines.{filter_both, way_law, standing_law}

pub zip_length : {X Y : Type 0} (R : X → Y → Type 0) (xs : List X) (ys : List Y) → AllZip R xs ys → length ys ≡ length xs
zip_length R [] [] zip = refl
zip_length R [] (y ∷ ys) zip = absurd zip
zip_length R (x ∷ xs) [] zip = absurd zip
zip_length R (x ∷ xs) (y ∷ ys) zip = ap suc (zip_length R xs ys zip.1)

pub zip_push : {X Y : Type 0} (R : X → Y → Type 0) (xs : List X) (ys : List Y) (x : X) (y : Y) → AllZip R xs ys → R x y → AllZip R (xs ++ x ∷ []) (ys ++ y ∷ [])
zip_push R [] [] x y zip h = (h, tt)
zip_push R [] (v ∷ ys) x y zip h = absurd zip
zip_push R (u ∷ xs) [] x y zip h = absurd zip
zip_push R (u ∷ xs) (v ∷ ys) x y zip h = (zip.0, zip_push R xs ys x y zip.1 h)

-- a claim that changes in its place keeps its entry, where its id and its items stay
pub zip_changed : (tree : List Place) (line : List Claim) (table : List Entry) (id : ClaimId) (f : Claim → Claim) → ((c : Claim) → (f c).id ≡ c.id) → ((c : Claim) → (f c).items ≡ c.items) → IsTableOf tree line table
    → IsTableOf tree (changed line id f) table
zip_changed tree [] [] id f own same zip = tt
zip_changed tree [] (e ∷ table) id f own same zip = absurd zip
zip_changed tree (c ∷ line) [] id f own same zip = absurd zip
zip_changed tree (c ∷ line) (e ∷ table) id f own same zip = (
  record {
    id = zip.0.id ∙ sym (one_id id f own same c);
    locks = subst (λ items. AreLocksOf tree items e.locks) (sym (one_items id f own same c)) zip.0.locks;
  },
  zip_changed tree line table id f own same zip.1,
)

module _ (tree : List Place) (line : List Claim) (table : List Entry) (zip : IsTableOf tree line table) where
  pub as_long : length table ≡ length line
  as_long = zip_length (IsEntryOf tree) line table zip

  -- a claim and its entry stand at the same position
  pub zip_position : (id : ClaimId) → position (λ (e : Entry). same_id e.id id) table ≡ position (λ (c : Claim). same_id c.id id) line
  zip_position id =
      ap (λ n. cond (nat_lt n (length table)) (Some n) None) (as_far id line table zip)
      ∙ ap (λ n. cond (nat_lt (position_or_len (λ (c : Claim). same_id c.id id) line) n) (Some (position_or_len (λ (c : Claim). same_id c.id id) line)) None) as_long
    where
      as_far : (id : ClaimId) (cs : List Claim) (es : List Entry) → IsTableOf tree cs es
          → position_or_len (λ (e : Entry). same_id e.id id) es ≡ position_or_len (λ (c : Claim). same_id c.id id) cs
      as_far id [] [] zip = refl
      as_far id [] (e ∷ es) zip = absurd zip
      as_far id (c ∷ cs) [] zip = absurd zip
      as_far id (c ∷ cs) (e ∷ es) zip =
          ap (λ k. cond (not (same_id k id)) (1 + position_or_len (λ (e : Entry). same_id e.id id) es) 0) zip.0.id
          ∙ ap (λ n. cond (not (same_id c.id id)) (1 + n) 0) (as_far id cs es zip.1)

  pub zip_without : (id : ClaimId) → IsTableOf tree (without line id) (entries_without table id)
  zip_without id = filter_both (IsEntryOf tree) (λ (c : Claim). not (same_id c.id id)) (λ (e : Entry). not (same_id e.id id)) (λ c e of. ap (λ k. not (same_id k id)) (sym of.id)) line table zip

  pub zip_long : IsTableOf tree (left_by AllShort line) (long_entries table)
  zip_long = filter_both (IsEntryOf tree) (λ (c : Claim). not (is_short c.id)) (λ (e : Entry). not (is_short e.id)) (λ c e of. ap (λ k. not (is_short k)) (sym of.id)) line table zip

  pub zip_asked : (c : Claim) (locks : List Lock) → AreLocksOf tree c.items locks → IsTableOf tree (line ++ c ∷ []) (table ++ record { id = c.id; locks = locks } ∷ [])
  zip_asked c locks are = zip_push (IsEntryOf tree) line table c (record { id = c.id; locks = locks }) zip (record { id = refl; locks = are })

  module _ (whole : IsTree tree) (there : All (λ (c : Claim). AreThere tree c.items) line) where
    pub none_stands : (id : ClaimId) → claim_of line id ≡ None → standing_in table id ≡ None
    none_stands id none = standing_law tree whole line table zip there id ∙ ap (option_map (λ (c : Claim). standing_behind tree (before line id) c.items)) none

    pub asked_standing : (items : List Item) (locks : List Lock) → AreThere tree items → AreLocksOf tree items locks → standing_by (first_in_way table locks) ≡ standing_behind tree line items
    asked_standing items locks items_there are = ap standing_by (way_law tree whole line table zip there items locks items_there are)
