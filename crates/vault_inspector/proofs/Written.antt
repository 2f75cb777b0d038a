-- How much of a text is written, piece by piece.
use Rattle.std.proofs.Common.{◌≡◌, ℕ, suc, ◌+◌, ◌<◌, List, [], ◌∷◌, ◌++◌, Option, sym, ap, ◌∙◌, subst, append_assoc, append-nil, length, get_or, take, drop}
use Rattle.std.specs.Prelude.{Result, Ok, Err, IsErr, OnOk, OnErr}
use Rattle.std.specs.List.{flat_map}
use Rattle.std.proofs.lemmas.Bool.{false≢true}
use Rattle.std.specs.Io.KnownBytes.{Appends}
use Rattle.std.proofs.KnownBytes.{Appends-trans}
use Rattle.std.proofs.Math.Seq.{split_at}
use Rattle.std.proofs.lemmas.Grind.{flat_map-append}
use Rattle.std.proofs.lemmas.List.{take_more}
use Rattle.std.proofs.lemmas.List.Concat.{flat_map-cons}
use Rattle.vault_state.specs.declared.claims.Item.{Item}
use Rattle.vault_state.specs.declared.ids.Intent.{Intent}
use Rattle.vault_state.specs.declared.place.Place.{Place}
use Rattle.vault_state.specs.Path.{path_text}
use Rattle.vault_state.specs.Tree.{path_of}
use Rattle.vault_inspector.specs.Output.{GetsPart, Writes}
use Rattle.vault_inspector.specs.Texts.{intent_text, item_text}

-- a first part of a piece is also a first part of the piece with another behind it
pub part_then : (a b : Option (List ℕ)) (text more : List ℕ) → GetsPart a b text → GetsPart a b (text ++ more)
part_then a b text more p = record {
  part = p.part;
  rest = p.rest ++ more;
  whole = ap (λ (all : List ℕ). all ++ more) p.whole ∙ append_assoc p.part p.rest more;
  got = p.got;
}

-- a piece, and a first part of the next
pub part_after : (a b c : Option (List ℕ)) (text more : List ℕ) → Appends a b text → GetsPart b c more → GetsPart a c (text ++ more)
part_after a b c text more first p = record {
  part = text ++ p.part;
  rest = p.rest;
  whole = ap (λ (all : List ℕ). text ++ all) p.whole ∙ sym (append_assoc text p.part p.rest);
  got = Appends-trans a b c text p.part first p.got;
}

-- two pieces
pub appends_more : (a b c : Option (List ℕ)) (text more : List ℕ) → Appends a b text → Appends b c more → Appends a c (text ++ more)
appends_more a b c text more first second = Appends-trans a b c text more first second

-- a piece, and what comes of the next
pub writes_after : {T E : Type 0} (a b c : Option (List ℕ)) (text more : List ℕ) (result : Result T E)
    → Appends a b text → Writes b c more result → Writes a c (text ++ more) result
writes_after a b c text more (Ok x) first w = Appends-trans a b c text more first w
writes_after a b c text more (Err e) first w = part_after a b c text more first w

-- a first part, where the writer failed
pub writes_part : {T E : Type 0} (a b : Option (List ℕ)) (text : List ℕ) (result : Result T E)
    → IsErr result → GetsPart a b text → Writes a b text result
writes_part a b text (Ok x) failed p = absurd (false≢true failed)
writes_part a b text (Err e) failed p = p

-- the pieces of the first things, and a first part of the next piece
pub part_of_each : {X : Type 0} (f : X → List ℕ) (xs : List X) (i : ℕ) (x : X) (a b c : Option (List ℕ))
    → i < length xs → get_or xs i x ≡ x → Appends a b (flat_map f (take i xs)) → GetsPart b c (f x) → GetsPart a c (flat_map f xs)
part_of_each f xs i x a b c within is first part =
    let cut = split_at xs i x within ∙ ap (λ (y : _). take i xs ++ y ∷ drop (suc i) xs) is in
    let split = ap (flat_map f) cut ∙ flat_map-append f (take i xs) (x ∷ drop (suc i) xs) ∙ ap (λ (l : List ℕ). flat_map f (take i xs) ++ l) (flat_map-cons f x (drop (suc i) xs)) in
    subst (GetsPart a c) (sym split) (part_after a b c (flat_map f (take i xs)) (f x ++ flat_map f (drop (suc i) xs)) first (part_then b c (f x) (flat_map f (drop (suc i) xs)) part))

-- the pieces of the first things, and the whole next piece
pub more_of_each : {X : Type 0} (f : X → List ℕ) (xs : List X) (i : ℕ) (x : X) (a b c : Option (List ℕ))
    → i < length xs → get_or xs i x ≡ x → Appends a b (flat_map f (take i xs)) → Appends b c (f x) → Appends a c (flat_map f (take (i + 1) xs))
more_of_each f xs i x a b c within is first next =
    let cut = take_more xs i x within ∙ ap (λ (y : _). take i xs ++ y ∷ []) is in
    let one = flat_map-cons f x [] ∙ append-nil (f x) in
    let split = ap (flat_map f) cut ∙ flat_map-append f (take i xs) (x ∷ []) ∙ ap (λ (l : List ℕ). flat_map f (take i xs) ++ l) one in
    subst (Appends a c) (sym split) (Appends-trans a b c (flat_map f (take i xs)) (f x) first next)

-- what is written at Ok, and at an error
pub whole_of : {T E : Type 0} (a b : Option (List ℕ)) (text : List ℕ) (result : Result T E) → Writes a b text result → OnOk result (Appends a b text)
whole_of a b text (Ok x) w = w
whole_of a b text (Err e) w = tt

pub part_of : {T E : Type 0} (a b : Option (List ℕ)) (text : List ℕ) (result : Result T E) → Writes a b text result → OnErr result (GetsPart a b text)
part_of a b text (Ok x) w = tt
part_of a b text (Err e) w = w

-- a first part of an item's text, where the writer failed at what the item asks for
pub item_part : {T E : Type 0} (a b : Option (List ℕ)) (tree : List Place) (item : Item) (intent : Intent) (result : Result T E)
    → item.intent ≡ intent → IsErr result → GetsPart a b (intent_text intent) → Writes a b (item_text tree item) result
item_part a b tree item intent result is failed part =
    writes_part a b _ result failed (part_then a b (intent_text item.intent) (path_text (path_of tree item.place)) (subst (λ i. GetsPart a b (intent_text i)) (sym is) part))
