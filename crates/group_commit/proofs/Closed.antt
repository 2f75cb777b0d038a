-- What is kept does not depend on marks.
use Rattle.std.proofs.Common.{◌≡◌, ℕ, ◌-◌, cond, List, [], ◌∷◌, ◌++◌, take, drop, refl, sym, ap, ◌∙◌}
use Rattle.std.specs.Prelude.{option_to_list}
use Rattle.std.proofs.lemmas.List.{take-map, drop-map}
use Rattle.vault_state.specs.Vault.{Vault, durable}
use Rattle.vault_store.specs.Phases.{is_idle}
use Rattle.group_commit.specs.Entries.{Entry, Kept}
use Rattle.group_commit.specs.History.{Member, Given, replay, outcome_of, members, effects}
use Rattle.group_commit.specs.View.{View}
use Rattle.group_commit.specs.Seen.{framed, state_of}

abbrev given : Kept → Member
given kept = Given kept.entry

members-take : (n : ℕ) (l : List Kept) → members (take n l) ≡ take n (members l)
members-take n l = sym (take-map given n l)

members-drop : (n : ℕ) (l : List Kept) → members (drop n l) ≡ drop n (members l)
members-drop n l = sym (drop-map given n l)

effects-members : (v : Vault) (xs ys : List Kept) → members xs ≡ members ys → effects v xs ≡ effects v ys
effects-members v [] [] e = refl
effects-members v [] (y ∷ ys) e = absurd (cc)
effects-members v (x ∷ xs) [] e = absurd (cc)
effects-members v (x ∷ xs) (y ∷ ys) e =
    let first : x.entry ≡ y.entry = cc in
    let rest : members xs ≡ members ys = cc in
    ap (λ (en : Entry). option_to_list (outcome_of v en).effect ++ effects (outcome_of v en).vault xs) first
    ∙ ap (λ es. option_to_list (outcome_of v y.entry).effect ++ es) (effects-members (outcome_of v y.entry).vault xs ys rest)

-- the same entries, whatever became of their tickets
pub state_closed : (v : View) (kept : List Kept) (told : ℕ) → members kept ≡ members v.kept → state_of (record v { kept = kept; told = told }) ≡ state_of v
state_closed v kept told same =
    let front : (n : ℕ) → members (take n kept) ≡ members (take n v.kept) = λ n. members-take n kept ∙ ap (take n) same ∙ sym (members-take n v.kept) in
    let back : (n : ℕ) → members (drop n kept) ≡ members (drop n v.kept) = λ n. members-drop n kept ∙ ap (drop n) same ∙ sym (members-drop n v.kept) in
    let part : (n m : ℕ) → members (take m (drop n kept)) ≡ members (take m (drop n v.kept)) =
    λ n m. members-take m (drop n kept) ∙ ap (take m) (back n) ∙ sym (members-take m (drop n v.kept)) in
    let at : (n : ℕ) → replay v.base (members (take n kept)) ≡ replay v.base (members (take n v.kept)) = λ n. ap (replay v.base) (front n) in
    let settled = ap durable (at (v.settled - v.retired)) in
    let sealed = ap durable (at (framed v - v.retired)) in
    let noted = ap (λ ms. durable (replay v.base ms)) same in
    let sealing = ap (λ w. effects w (take (v.sealed - v.settled) (drop (v.settled - v.retired) kept))) (at (v.settled - v.retired)) ∙ effects-members _ (take (v.sealed - v.settled) (drop (v.settled - v.retired) kept)) (take (v.sealed - v.settled) (drop (v.settled - v.retired) v.kept)) (part (v.settled - v.retired) (v.sealed - v.settled)) in
    let buffer = ap (λ w. effects w (drop (framed v - v.retired) kept)) (at (framed v - v.retired)) ∙ effects-members _ (drop (framed v - v.retired) kept) (drop (framed v - v.retired) v.kept) (back (framed v - v.retired)) in
    λ i. record { settled = settled i; sealed = sealed i; noted = noted i; sealing = cond (is_idle v.phase) [] (sealing i); buffer = buffer i; phase = v.phase; broken = v.broken }
