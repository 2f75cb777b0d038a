-- Bytes that are added piece by piece.
use Rattle.std.proofs.Common.{◌≡◌, ℕ, zero, suc, ◌+◌, ◌-◌, ◌<◌, ◌≤◌, ◌==◌, not, All, filter, List, [], ◌∷◌, ◌++◌, sym, ap, ◌∙◌, arith, append_assoc, append-nil, length-append, length, get_or, take, false, true}
use Rattle.std.specs.Prelude.{Result, Ok, Err, Some, slice_get}
use Rattle.std.specs.List.{flat_map}
use Rattle.std.specs.Result.{IsErr}
use Rattle.std.proofs.lemmas.Grind.{flat_map-append}
use Rattle.std.proofs.lemmas.List.{take_more, take_all}
use Rattle.std.proofs.lemmas.List.Concat.{flat_map-cons}
use Rattle.std.proofs.lemmas.Option.{get_or_from_slice_get, slice_get_within, slice_get-get_or}
use Rattle.std.proofs.lemmas.List.Elements.{All-map, All-filter, All-weaker, filter-append}
use Rattle.vault_state.specs.Limits.{longest_content}
use Rattle.vault_state.specs.Shelf.{Draft}
use Rattle.vault_state.specs.declared.place.Place.{Place}
use Rattle.vault_state.specs.declared.claims.Claim.{Claim}
use Rattle.vault_state.specs.Tree.{no_place}
use Rattle.vault_state.specs.Claims.{is_short, without_short}
use Rattle.vault_state.specs.Drafts.{SavedDraft, drafts_of}
use Rattle.vault_state.specs.Vault.{Vault, IsDraft, AreDrafts}
use Rattle.vault_format.specs.Adds.{Adds}
use Rattle.vault_format.specs.Snapshot.{current_version, claim_bytes, place_bytes, places_bytes}

-- a piece, and what comes of the next
pub adds_after : {E : Type 0} (a b c text more : List ℕ) (result : Result (Unit {0}) E) → b ≡ a ++ text → Adds b c more result → Adds a c (text ++ more) result
adds_after a b c text more (Ok x) first next = next ∙ ap (λ (l : List ℕ). l ++ more) first ∙ append_assoc a text more
adds_after a b c text more (Err e) first next = tt

-- an error promises no bytes
pub adds_nothing : {E : Type 0} (a c text : List ℕ) (result : Result (Unit {0}) E) → IsErr result → Adds a c text result
adds_nothing a c text (Ok x) h = let no : false ≡ true = h in cc
adds_nothing a c text (Err e) h = tt

-- the bytes of the first things, and of the next
pub adds_more : {X : Type 0} (f : X → List ℕ) (xs : List X) (i : ℕ) (x : X) (a b c : List ℕ)
    → i < length xs → get_or xs i x ≡ x → b ≡ a ++ flat_map f (take i xs) → c ≡ b ++ f x → c ≡ a ++ flat_map f (take (i + 1) xs)
adds_more f xs i x a b c within is first next =
    let cut = take_more xs i x within ∙ ap (λ (y : _). take i xs ++ y ∷ []) is in
    let one = flat_map-cons f x [] ∙ append-nil (f x) in
    let split = ap (flat_map f) cut ∙ flat_map-append f (take i xs) (x ∷ []) ∙ ap (λ (l : List ℕ). flat_map f (take i xs) ++ l) one in
    next ∙ ap (λ (l : List ℕ). l ++ f x) first ∙ append_assoc a (flat_map f (take i xs)) (f x) ∙ ap (λ (l : List ℕ). a ++ l) (sym split)

-- the bytes of all things, when none is left
pub adds_all : {X : Type 0} (f : X → List ℕ) (xs : List X) (i : ℕ) (a b : List ℕ) → length xs ≤ i → b ≡ a ++ flat_map f (take i xs) → b ≡ a ++ flat_map f xs
adds_all f xs i a b none_left first = first ∙ ap (λ (ys : List _). a ++ flat_map f ys) (take_all i xs none_left)

-- the first places, and the next
pub places_more : (v : Vault) (n i : ℕ) (xs : List Place) (x : Place) → i < length xs → get_or xs i x ≡ x → places_bytes current_version v n (take (suc i) xs) ≡ places_bytes current_version v n (take i xs) ++ place_bytes current_version v (i + n) x
places_more v n i [] x within is = absurd (omega (arith, within))
places_more v n zero (y ∷ xs) x within is =
    let here : n ≡ zero + n = omega arith in
    ap (λ (z : Place). place_bytes current_version v n z ++ []) is ∙ append-nil (place_bytes current_version v n x) ∙ ap (λ (k : ℕ). place_bytes current_version v k x) here
places_more v n (suc i) (y ∷ xs) x within is =
    let later : i + suc n ≡ suc i + n = omega arith in
    ap (λ (l : List ℕ). place_bytes current_version v n y ++ l) (places_more v (suc n) i xs x (omega (arith, within)) is ∙ ap (λ (k : ℕ). places_bytes current_version v (suc n) (take i xs) ++ place_bytes current_version v k x) later)
    ∙ sym (append_assoc (place_bytes current_version v n y) (places_bytes current_version v (suc n) (take i xs)) (place_bytes current_version v (suc i + n) x))

-- the places before this one, and it
pub places_next : (v : Vault) (number : ℕ) (a b c : List ℕ) → 0 < number → number ≤ length v.tree → b ≡ a ++ places_bytes current_version v 1 (take (number - 1) v.tree)
    → ((place : Place) → slice_get v.tree (number - 1) ≡ Some place → c ≡ b ++ place_bytes current_version v number place) → c ≡ a ++ places_bytes current_version v 1 (take (number + 1 - 1) v.tree)
places_next v number a b c some there first next =
    let i : ℕ = number - 1 in
    let within : i < length v.tree = omega (arith, some, there) in
    let x : Place = get_or v.tree i no_place in
    let at = slice_get-get_or v.tree i no_place within in
    let here : i + 1 ≡ number = omega (arith, some) in
    let later : suc i ≡ number + 1 - 1 = omega (arith, some) in
    let more = places_more v 1 i v.tree x within (get_or_from_slice_get v.tree i x x at) in
    next x at ∙ ap (λ (l : List ℕ). l ++ place_bytes current_version v number x) first ∙ append_assoc a (places_bytes current_version v 1 (take i v.tree)) (place_bytes current_version v number x)
    ∙ ap (λ (k : ℕ). a ++ (places_bytes current_version v 1 (take i v.tree) ++ place_bytes current_version v k x)) (sym here)
    ∙ ap (λ (l : List ℕ). a ++ l) (sym more) ∙ ap (λ (k : ℕ). a ++ places_bytes current_version v 1 (take k v.tree)) later

-- the drafts of a check-out are short
pub drafts_short : (tree : List Place) (line : List Claim) (drafts : List SavedDraft) (number : ℕ) → AreDrafts tree line drafts → All (λ (d : Draft). length d.content ≤ longest_content) (drafts_of drafts number)
drafts_short tree line drafts number are =
    let short = All-weaker (IsDraft tree line) (λ (x : SavedDraft). length x.draft.content ≤ longest_content) (λ x is. is.short) drafts are.each in
    All-map (λ (d : Draft). length d.content ≤ longest_content) (λ (x : SavedDraft). x.draft) (filter (λ (x : SavedDraft). x.claim == number) drafts) (All-filter (λ (x : SavedDraft). x.claim == number) (λ (x : SavedDraft). length x.draft.content ≤ longest_content) drafts short)

-- the bytes of the long claims among the first claims of a queue, and of the next claim
pub long_more : (v : Vault) (i : ℕ) (claim : Claim) (a b c : List ℕ) → slice_get v.line i ≡ Some claim → b ≡ a ++ flat_map (claim_bytes current_version v) (without_short (take i v.line))
    → c ≡ b ++ flat_map (claim_bytes current_version v) (without_short (claim ∷ [])) → c ≡ a ++ flat_map (claim_bytes current_version v) (without_short (take (i + 1) v.line))
long_more v i claim a b c at first next =
    let within = slice_get_within v.line i claim at in
    let cut = take_more v.line i claim within ∙ ap (λ (y : Claim). take i v.line ++ y ∷ []) (get_or_from_slice_get v.line i claim claim at) in
    let split = ap without_short cut ∙ filter-append (λ (x : Claim). not (is_short x.id)) (take i v.line) (claim ∷ []) in
    let bytes = ap (flat_map (claim_bytes current_version v)) split ∙ flat_map-append (claim_bytes current_version v) (without_short (take i v.line)) (without_short (claim ∷ [])) in
    next ∙ ap (λ (l : List ℕ). l ++ flat_map (claim_bytes current_version v) (without_short (claim ∷ []))) first
    ∙ append_assoc a (flat_map (claim_bytes current_version v) (without_short (take i v.line))) (flat_map (claim_bytes current_version v) (without_short (claim ∷ []))) ∙ ap (λ (l : List ℕ). a ++ l) (sym bytes)

-- how many long claims there are among the first ones, and with the next
pub long_counted : (line : List Claim) (i : ℕ) (claim : Claim) → slice_get line i ≡ Some claim → length (without_short (take (i + 1) line)) ≡ length (without_short (take i line)) + length (without_short (claim ∷ []))
long_counted line i claim at =
    let within = slice_get_within line i claim at in
    let cut = take_more line i claim within ∙ ap (λ (y : Claim). take i line ++ y ∷ []) (get_or_from_slice_get line i claim claim at) in
    let split = ap without_short cut ∙ filter-append (λ (x : Claim). not (is_short x.id)) (take i line) (claim ∷ []) in
    ap length split ∙ length-append (without_short (take i line)) (without_short (claim ∷ []))
