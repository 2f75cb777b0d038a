-- A claim put first, in a line and in its table.
use Rattle.std.specs.Prelude.{◌≡◌, ℕ, Bool, true, false, not, List, [], ◌∷◌, Option, None, Some, is_some, All, refl}
use Rattle.std.proofs.Common.{sym, ap, cond}
use Rattle.std.specs.Option.{option_map_or}
use Rattle.std.proofs.lemmas.List.Elements.{All-cons, All-filter}
use Rattle.vault_state.specs.declared.place.Place.{Place}
use Rattle.vault_state.specs.declared.claims.Item.{Item}
use Rattle.vault_state.specs.declared.claims.Claim.{Claim}
use Rattle.vault_state.specs.declared.ids.ClaimId.{ClaimId}
use Rattle.vault_state.specs.Tree.{IsTree}
use Rattle.vault_state.specs.Claims.{same_id, claim_of, without}
use Rattle.vault_state.specs.Vault.{AreThere}
use Rattle.vault_state.proofs.Stays.{own_id, claim_there}
use Rattle.lock_table.specs.declared.locks.Lock.{Lock}
use Rattle.lock_table.specs.declared.entry.Entry.{Entry}
use Rattle.lock_table.specs.declared.entry.Extension.TheVariants.{Done, InTheWay}
use Rattle.lock_table.specs.ClaimModes.{claim_mode}
use Rattle.lock_table.specs.Locks.{mode_at, AreApart}
use Rattle.lock_table.specs.Tables.{extension_by, held_in_way, entry_of, AreLocksOf, IsTableOf}
use Rattle.lock_table.specs.Tables as tables
use Rattle.lock_table.proofs.Lines.{in_way_law}
use Rattle.long_locks.specs.Lines.{LineSeen, IsGrownFrom, IsNumbered, IsLine, put_first, extended_by, in_way_of}
use Rattle.long_locks.proofs.Zips.{zip_without}
use Rattle.long_locks.proofs.LinesKept.{there_grown}

-- the locks of items, read from a copy of them
pub locks_read : (tree : List Place) (items copy : List Item) (locks : List Lock) → copy ≡ items → AreApart locks → ((p : ℕ) → mode_at locks p ≡ claim_mode tree copy p) → AreLocksOf tree items locks
locks_read tree items copy locks same apart modes = record { apart = apart; modes = rw same at modes }

-- what is in their way in the table is so in the line
pub in_way_read : (tree : List Place) → IsTree tree → (line : List Claim) (table : List Entry) → IsTableOf tree line table → All (λ (c : Claim). AreThere tree c.items) line → (id : ClaimId) (items copy : List Item) (locks : List Lock) → AreThere tree items
    → copy ≡ items → AreApart locks → ((p : ℕ) → mode_at locks p ≡ claim_mode tree copy p) → held_in_way table id locks ≡ in_way_of tree line id items
in_way_read tree whole line table zip there id items copy locks items_there same apart modes =
    in_way_law tree whole line table zip there id items locks items_there (locks_read tree items copy locks same apart modes)

pub is_done : (o : Option ClaimId) → Done ≡ extension_by o → o ≡ None
is_done None e = refl
is_done (Some id) e = cc

pub is_in_way : (o : Option ClaimId) (id : ClaimId) → InTheWay id ≡ extension_by o → o ≡ Some id
is_in_way None id e = cc
is_in_way (Some other) id e = let same : id ≡ other = cc in ap Some (sym same)

pub zip_first : (tree : List Place) (line : List Claim) (table : List Entry) (zip : IsTableOf tree line table) (id : ClaimId) (items : List Item) (locks : List Lock) → AreLocksOf tree items locks → is_some (claim_of line id) ≡ true
    → IsTableOf tree (put_first line id items) (tables.put_first table id locks)
zip_first tree line table zip id items locks are some = by_claim (claim_of line id) refl some
  where
    by_claim : (o : Option Claim) → claim_of line id ≡ o → is_some o ≡ true → IsTableOf tree (option_map_or (λ (c : Claim). record c { items = items } ∷ without line id) o line) (tables.put_first table id locks)
    by_claim None e h = cc
    by_claim (Some c) e h = (record { id = sym (own_id line id c e); locks = are }, zip_without tree line table zip id)

-- a claim of the line has its modes in the table
pub entry_there : (tree : List Place) (line : List Claim) (table : List Entry) → IsTableOf tree line table → (id : ClaimId) → is_some (claim_of line id) ≡ true → is_some (entry_of table id) ≡ true
entry_there tree [] [] zip id stands = stands
entry_there tree [] (e ∷ table) zip id stands = absurd zip
entry_there tree (c ∷ line) [] zip id stands = absurd zip
entry_there tree (c ∷ line) (e ∷ table) zip id stands = rw zip.0.id (by_test (same_id c.id id) _ stands (entry_there tree line table zip.1 id))
  where
    by_test : (b : Bool) (d : Entry) → is_some (cond b (Some c) (claim_of line id)) ≡ true → (is_some (claim_of line id) ≡ true → is_some (entry_of table id) ≡ true) → is_some (cond b (Some d) (entry_of table id)) ≡ true
    by_test true d h rest = refl
    by_test false d h rest = rest h

module _ (P : Claim → Type 0) (line : List Claim) (all : All P line) (id : ClaimId) (items : List Item) (changed : (c : Claim) → P c → P (record c { items = items })) where
  -- what holds of each claim, and of one with other items, holds of each after an extension
  pub all_extended : (o : Option ClaimId) → All P (extended_by o line id items)
  all_extended (Some other) = all
  all_extended None = by_claim (claim_of line id) refl
    where
      by_claim : (o : Option Claim) → claim_of line id ≡ o → All P (option_map_or (λ (c : Claim). record c { items = items } ∷ without line id) o line)
      by_claim None e = all
      by_claim (Some c) e = All-cons P (record c { items = items }) (without line id) (changed c (claim_there P line id all c e)) (All-filter (λ (d : Claim). not (same_id d.id id)) P line all)

pub line_extended : (l : LineSeen) (table : List Entry) → IsLine l table → (tree : List Place) → IsTree tree → IsGrownFrom l.tree tree → (id : ClaimId) (items : List Item) → AreThere tree items → (o : Option ClaimId) (new : List Entry)
    → IsTableOf tree (extended_by o l.claims id items) new → IsLine (record l { claims = extended_by o l.claims id items; tree = tree }) new
line_extended l table kept tree whole grown id items items_there o new zip = record {
  tree = whole;
  there = all_extended (λ (c : Claim). AreThere tree c.items) l.claims (there_grown l table kept tree grown) id items (λ c h. items_there) o;
  numbered = all_extended (λ (c : Claim). IsNumbered l.last_long l.last_short c.id) l.claims kept.numbered id items (λ c h. h) o;
  weighed = zip;
}
