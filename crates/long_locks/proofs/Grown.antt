-- A line and its table, as the tree grows.
use Rattle.std.specs.Prelude.{◌≡◌, ℕ, zero, suc, ◌<◌, ◌≤◌, false, ◌||◌, ◌==◌, List, [], ◌∷◌, ◌++◌, length, All, refl}
use Rattle.std.proofs.Common.{sym, ap, subst, ◌∙◌, arith, length-append, append_assoc, append-nil}
use Rattle.long_locks.specs.Lines.{IsGrownFrom}
use Rattle.std.specs.Option.{option_map, option_map_or}
use Rattle.std.proofs.lemmas.List.Elements.{All-head, All-tail, All-weaker}
use Rattle.vault_state.specs.declared.place.Place.{Place}
use Rattle.vault_state.specs.declared.claims.Item.{Item}
use Rattle.vault_state.specs.declared.claims.Claim.{Claim}
use Rattle.vault_state.specs.Tree.{parent_of, is_under_within}
use Rattle.vault_state.specs.Claims.{is_change}
use Rattle.vault_state.specs.Vault.{AreThere}
use Rattle.vault_state.proofs.Walks.{Rises, same_at}
use Rattle.vault_state.proofs.Lists.{slice_get-front}
use Rattle.lock_modes.specs.Modes.{join_of}
use Rattle.lock_table.specs.declared.entry.Entry.{Entry}
use Rattle.lock_table.specs.ClaimModes.{item_mode, item_mode_of, claim_mode}
use Rattle.lock_table.specs.Tables.{IsTableOf}

module _ (tree more : List Place) (rises : Rises tree) where
  parent_stays : (p : ℕ) → p ≤ length tree → parent_of (tree ++ more) p ≡ parent_of tree p
  parent_stays zero h = refl
  parent_stays (suc p) h = ap (option_map (λ (x : Place). x.parent)) (slice_get-front tree more p (omega arith))

  within_stays : (n p q : ℕ) → p ≤ length tree → is_under_within n (tree ++ more) p q ≡ is_under_within n tree p q
  within_stays zero p q h = refl
  within_stays (suc n) p q h =
      ap (λ o. (p == q) || option_map_or (λ r. is_under_within n (tree ++ more) r q) o false) (parent_stays p h)
      ∙ ap (λ b. (p == q) || b) (same_at (parent_of tree p) _ _ false (λ r e. let lower : r < p = rises p r e in within_stays n r q (omega arith)))

  item_stays : (item : Item) (p : ℕ) → item.place ≤ length tree → item_mode (tree ++ more) item p ≡ item_mode tree item p
  item_stays item p h = ap (λ beneath. item_mode_of (item.place == p) beneath (is_change item.intent)) (within_stays item.place item.place p h)

  -- a claim's modes stay
  pub modes_stay : (items : List Item) (p : ℕ) → AreThere tree items → claim_mode (tree ++ more) items p ≡ claim_mode tree items p
  modes_stay [] p there = refl
  modes_stay (item ∷ items) p there =
      ap (λ m. join_of m (claim_mode (tree ++ more) items p)) (item_stays item p (All-head (λ (x : Item). x.place ≤ length tree) item items there))
      ∙ ap (join_of (item_mode tree item p)) (modes_stay items p (All-tail (λ (x : Item). x.place ≤ length tree) item items there))

  pub items_stay : (items : List Item) → AreThere tree items → AreThere (tree ++ more) items
  items_stay items = All-weaker (λ (item : Item). item.place ≤ length tree) (λ (item : Item). item.place ≤ length (tree ++ more)) (λ item h. let longer = length-append tree more in omega arith) items

  pub claims_stay : (line : List Claim) → All (λ (c : Claim). AreThere tree c.items) line → All (λ (c : Claim). AreThere (tree ++ more) c.items) line
  claims_stay = All-weaker (λ (c : Claim). AreThere tree c.items) (λ (c : Claim). AreThere (tree ++ more) c.items) (λ c h. items_stay c.items h)

  -- a line's table is that of the line over the grown tree
  pub table_stays : (line : List Claim) (table : List Entry) → All (λ (c : Claim). AreThere tree c.items) line → IsTableOf tree line table → IsTableOf (tree ++ more) line table
  table_stays [] [] there zip = tt
  table_stays [] (e ∷ table) there zip = absurd zip
  table_stays (c ∷ line) [] there zip = absurd zip
  table_stays (c ∷ line) (e ∷ table) there zip = (
    record {
      id = zip.0.id;
      locks = record {
        apart = zip.0.locks.apart;
        modes = λ p. zip.0.locks.modes p ∙ sym (modes_stay c.items p (All-head (λ (d : Claim). AreThere tree d.items) c line there));
      };
    },
    table_stays line table (All-tail (λ (d : Claim). AreThere tree d.items) c line there) zip.1,
  )

-- each tree has grown from itself, and from the library alone, and a tree grows on
pub grown_itself : (tree : List Place) → IsGrownFrom tree tree
grown_itself tree = ([], sym (append-nil tree))

pub grown_new : (tree : List Place) → IsGrownFrom [] tree
grown_new tree = (tree, refl)

pub grown_along : (small tree : List Place) → small ≡ tree → IsGrownFrom small tree
grown_along small tree e = subst (λ t. IsGrownFrom t tree) (sym e) (grown_itself tree)

pub grown_push : (small tree : List Place) (x : Place) → IsGrownFrom small tree → IsGrownFrom small (tree ++ x ∷ [])
grown_push small tree x grown = (grown.0 ++ x ∷ [], rw grown.1 (append_assoc small grown.0 (x ∷ [])))
