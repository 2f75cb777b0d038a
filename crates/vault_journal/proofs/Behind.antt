-- One field written behind another.
use Rattle.std.proofs.Common.{◌≡◌, ℕ, ◌+◌, ◌<◌, List, [], ◌∷◌, ◌++◌, length, get_or, take, sym, ◌∙◌, ap, subst, arith, length-append}
use Rattle.std.specs.List.{flat_map}
use Rattle.std.proofs.lemmas.List.{flat_map_more, take_more}
use Rattle.vault_device.specs.Disk.{overwritten}
use Rattle.vault_device.proofs.Torn.{overwritten_twice}
use Rattle.vault_model.specs.Said.{Effect}
use Rattle.vault_state.specs.declared.claims.Item.{Item}
use Rattle.vault_journal.specs.Spelling.{item_bytes, record_of}
use Rattle.vault_journal.specs.Written.{IsWritten}

-- one write behind another is one write
pub then : (at : ℕ) (first : List ℕ) (next : ℕ) (second : List ℕ) (end : ℕ) (old mid new : List ℕ) → IsWritten at first next old mid → IsWritten next second end mid new → IsWritten at (first ++ second) end old new
then at first next second end old mid new one two = record {
  written =
      two.written
      ∙ ap (λ (l : List ℕ). overwritten l next second) one.written
      ∙ ap (λ (n : ℕ). overwritten (overwritten old at first) n second) one.behind
      ∙ overwritten_twice old at first second (omega (arith, one.within, one.behind));
  behind = omega (arith, one.behind, two.behind, length-append first second);
  within = omega (arith, two.within, one.size);
  size = two.size ∙ one.size;
}

-- one more item
pub items_more : (at next end i n : ℕ) (items : List Item) (d : Item) (old mid new : List ℕ) → i < length items → IsWritten at (n ∷ flat_map item_bytes (take i items)) next old mid
    → IsWritten next (item_bytes (get_or items i d)) end mid new → IsWritten at (n ∷ flat_map item_bytes (take (i + 1) items)) end old new
items_more at next end i n items d old mid new below so_far one =
    let joined = then at (n ∷ flat_map item_bytes (take i items)) next (item_bytes (get_or items i d)) end old mid new so_far one in
    let more : (n ∷ flat_map item_bytes (take i items)) ++ item_bytes (get_or items i d) ≡ n ∷ flat_map item_bytes (take (i + 1) items) =
    flat_map_more item_bytes (n ∷ []) (take i items) (get_or items i d) ∙ ap (λ (l : List Item). n ∷ flat_map item_bytes l) (sym (take_more items i d below)) in
    rw (← more) joined

-- equal effects have the same record
pub record_is : (at next : ℕ) (effect is : Effect) (old new : List ℕ) → effect ≡ is → IsWritten at (record_of is) next old new → IsWritten at (record_of effect) next old new
record_is at next effect is old new same one = subst (λ (e : Effect). IsWritten at (record_of e) next old new) (sym same) one
