-- A history is replayed in two parts.
use Rattle.std.proofs.Common.{◌≡◌, ℕ, zero, suc, ◌+◌, ◌-◌, ◌≤◌, List, [], ◌∷◌, ◌++◌, take, drop, refl, sym, ap, ◌∙◌, arith, append_assoc}
use Rattle.std.proofs.lemmas.List.{map-append, take-append-drop, drop-drop}
use Rattle.vault_state.specs.Vault.{Vault}
use Rattle.group_commit.specs.Entries.{Kept}
use Rattle.group_commit.specs.History.{Member, Given, moved, replay, IsLegal, members}

pub replay-append : (v : Vault) (xs ys : List Member) → replay v (xs ++ ys) ≡ replay (replay v xs) ys
replay-append v [] ys = refl
replay-append v (x ∷ xs) ys = replay-append (moved v x) xs ys

pub legal_append : (v : Vault) (xs ys : List Member) → IsLegal v xs → IsLegal (replay v xs) ys → IsLegal v (xs ++ ys)
legal_append v [] ys p q = q
legal_append v (x ∷ xs) ys p q = (p.0, legal_append (moved v x) xs ys p.1 q)

pub legal_front : (v : Vault) (xs ys : List Member) → IsLegal v (xs ++ ys) → IsLegal v xs
legal_front v [] ys p = tt
legal_front v (x ∷ xs) ys p = (p.0, legal_front (moved v x) xs ys p.1)

pub members-append : (xs ys : List Kept) → members (xs ++ ys) ≡ members xs ++ members ys
members-append xs ys = map-append (λ (kept : Kept). Given kept.entry) xs ys

pub sub_zero : (n : ℕ) → n - 0 ≡ n
sub_zero n = omega arith

pub sub_suc : (n r : ℕ) → suc n - suc r ≡ n - r
sub_suc n r = omega arith

pub take_part : {A : Type 0} (n r : ℕ) (xs : List A) → r ≤ n → take r xs ++ take (n - r) (drop r xs) ≡ take n xs
take_part n zero xs h = ap (λ k. take k xs) (sub_zero n)
take_part zero (suc r) xs h = absurd (omega arith)
take_part (suc n) (suc r) [] h = ap (λ k. take k []) (sub_suc n r) ∙ take_none (n - r)
  where
    take_none : {A : Type 0} (k : ℕ) → take {A = A} k [] ≡ []
    take_none zero = refl
    take_none (suc k) = refl
take_part (suc n) (suc r) (x ∷ xs) h = ap (λ k. x ∷ (take r xs ++ take k (drop r xs))) (sub_suc n r) ∙ ap (λ l. x ∷ l) (take_part n r xs (omega arith))

pub drop_part : {A : Type 0} (n r : ℕ) (xs : List A) → r ≤ n → drop (n - r) (drop r xs) ≡ drop n xs
drop_part n r xs h = drop-drop (n - r) r xs ∙ ap (λ k. drop k xs) (whole n r h)
  where
    whole : (n r : ℕ) → r ≤ n → r + (n - r) ≡ n
    whole n r h = omega arith

-- a beginning of the history, cut further
pub members_part : (base : List Member) (n r : ℕ) (life : List Kept) → r ≤ n → (base ++ members (take r life)) ++ members (take (n - r) (drop r life)) ≡ base ++ members (take n life)
members_part base n r life h =
    append_assoc base (members (take r life)) (members (take (n - r) (drop r life)))
    ∙ ap (λ l. base ++ l) (sym (members-append (take r life) (take (n - r) (drop r life))) ∙ ap members (take_part n r life h))

pub members_rest : (base : List Member) (r : ℕ) (life : List Kept) → (base ++ members (take r life)) ++ members (drop r life) ≡ base ++ members life
members_rest base r life =
    append_assoc base (members (take r life)) (members (drop r life))
    ∙ ap (λ l. base ++ l) (sym (members-append (take r life) (drop r life)) ∙ ap members (take-append-drop r life))
