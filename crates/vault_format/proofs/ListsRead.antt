-- Lists read one item after another.
use Rattle.std.proofs.Common.{◌≡◌, ℕ, zero, suc, ◌+◌, ◌<◌, List, [], ◌∷◌, ◌++◌, length, refl, sym, ◌∙◌, ap, subst, arith, append_assoc, All}
use Rattle.std.specs.List.{flat_map}
use Rattle.std.proofs.lemmas.List.{length_push, append-nil}
use Rattle.std.proofs.lemmas.List.Concat.{flat_map-append, flat_map-cons}
use Rattle.std.proofs.lemmas.List.Elements.{All-nil, All-head, All-push}
use Rattle.vault_format.proofs.SpelledLists.{Tells, lists_tell}
use Rattle.vault_state.proofs.Lists.{All-back, All-front}

-- what holds for all items holds for one between others
pub all_next : {X : Type 0} (P : X → Type 0) (xs ys : List X) (x : X) → All P (xs ++ x ∷ ys) → P x
all_next P xs ys x all = All-head P x ys (All-back P xs (x ∷ ys) all)

-- a list, cut at one of its items
pub record IsCutAt {X : Type 0} (xs : List X) (n : ℕ) : Type 0 where
  pub before : List X
  pub here : X
  pub behind : List X
  pub parts : xs ≡ before ++ here ∷ behind
  pub size : length before ≡ n

pub cut_at : {X : Type 0} (xs : List X) (n : ℕ) → n < length xs → IsCutAt xs n
cut_at [] n h = absurd (omega (arith, h))
cut_at (x ∷ xs) zero h = record { before = []; here = x; behind = xs; parts = refl; size = refl }
cut_at {X} (x ∷ xs) (suc n) h =
    let rest = cut_at xs n (omega (arith, h)) in
    record { before = x ∷ rest.before; here = rest.here; behind = rest.behind; parts = ap (λ (l : List X). x ∷ l) rest.parts; size = ap suc rest.size }

-- these `n` items were read
pub record AreItemsRead {X : Type 0} (spell : X → List ℕ) (Has : X → Type 0) (items : List X) (n : ℕ) (bytes rest : List ℕ) : Type 0 where
  pub size : length items ≡ n
  pub each : All Has items
  pub spelled : bytes ≡ flat_map spell items ++ rest

pub no_item_read : {X : Type 0} (spell : X → List ℕ) (Has : X → Type 0) (bytes : List ℕ) → AreItemsRead spell Has [] 0 bytes bytes
no_item_read spell Has bytes = record { size = refl; each = All-nil Has; spelled = refl }

pub one_item_more : {X : Type 0} (spell : X → List ℕ) (Has : X → Type 0) (items : List X) (n : ℕ) (bytes rest after : List ℕ) → AreItemsRead spell Has items n bytes rest → (x : X) → Has x → rest ≡ spell x ++ after → AreItemsRead spell Has (items ++ x ∷ []) (n + 1) bytes after
one_item_more spell Has items n bytes rest after so x has here = record {
  size = omega (arith, so.size, length_push items x);
  each = All-push Has items x so.each has;
  spelled =
      so.spelled ∙ ap (λ (l : List ℕ). flat_map spell items ++ l) here ∙ sym (append_assoc (flat_map spell items) (spell x) after)
      ∙ ap (λ (l : List ℕ). l ++ after) (ap (λ (l : List ℕ). flat_map spell items ++ l) (sym (flat_map-cons spell x [] ∙ append-nil (spell x))) ∙ sym (flat_map-append spell items (x ∷ [])));
}

-- they are the first of any whose spelling stands there, and the next one's spelling stands behind them
pub record IsNextItem {X : Type 0} (spell : X → List ℕ) (Has : X → Type 0) (before : List X) (rest : List ℕ) (xs : List X) (behind : List ℕ) : Type 0 where
  pub here : X
  pub others : List X
  pub has : Has here
  pub parts : xs ≡ before ++ here ∷ others
  pub spelled : rest ≡ spell here ++ (flat_map spell others ++ behind)

pub next_item : {X : Type 0} (spell : X → List ℕ) (Has : X → Type 0) → Tells spell Has → (items : List X) (n : ℕ) (bytes rest : List ℕ) → AreItemsRead spell Has items n bytes rest → (xs : List X) (behind : List ℕ) → n < length xs → All Has xs → bytes ≡ flat_map spell xs ++ behind → IsNextItem spell Has items rest xs behind
next_item {X} spell Has tells items n bytes rest so xs behind within has same =
    let cut = cut_at xs n within in
    let split : flat_map spell xs ++ behind ≡ flat_map spell cut.before ++ (spell cut.here ++ (flat_map spell cut.behind ++ behind)) =
    ap (λ (l : List X). flat_map spell l ++ behind) cut.parts ∙ regroup cut.before cut.here cut.behind in
    let has_cut = subst (λ (l : List X). All Has l) cut.parts has in
    let told =
    lists_tell spell Has tells items cut.before rest (spell cut.here ++ (flat_map spell cut.behind ++ behind)) (so.size ∙ sym cut.size) so.each (All-front Has cut.before (cut.here ∷ cut.behind) has_cut)
    (sym so.spelled ∙ same ∙ split) in
    record {
      here = cut.here;
      others = cut.behind;
      has = all_next Has cut.before cut.behind cut.here has_cut;
      parts = cut.parts ∙ ap (λ (l : List X). l ++ cut.here ∷ cut.behind) (sym told.0);
      spelled = told.1;
    }
  where
    regroup : (ys : List X) (y : X) (zs : List X) → flat_map spell (ys ++ y ∷ zs) ++ behind ≡ flat_map spell ys ++ (spell y ++ (flat_map spell zs ++ behind))
    regroup ys y zs =
        ap (λ (l : List ℕ). l ++ behind) (flat_map-append spell ys (y ∷ zs) ∙ ap (λ (l : List ℕ). flat_map spell ys ++ l) (flat_map-cons spell y zs))
        ∙ append_assoc (flat_map spell ys) (spell y ++ flat_map spell zs) behind
        ∙ ap (λ (l : List ℕ). flat_map spell ys ++ l) (append_assoc (spell y) (flat_map spell zs) behind)
