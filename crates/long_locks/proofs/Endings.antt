-- Claims that end together, taken out one after another.
use Rattle.std.specs.Prelude.{◌≡◌, ℕ, zero, suc, Bool, true, false, not, List, [], ◌∷◌, ◌++◌, length, map, filter, take, drop, slice_get, None, Some, All, refl}
use Rattle.std.proofs.Common.{ap, subst, ◌∙◌, cond, arith}
use Rattle.std.specs.List.{IsDistinct, AllByRecursion}
use Rattle.std.proofs.lemmas.List.Elements.{All-nil, All-cons, All-head, All-tail, All-filter}
use Rattle.vault_state.specs.declared.place.Place.{Place}
use Rattle.vault_state.specs.declared.claims.Claim.{Claim}
use Rattle.vault_state.specs.declared.ids.ClaimId.{ClaimId}
use Rattle.vault_state.specs.declared.ids.ClaimId.TheVariants.{Long, Short}
use Rattle.vault_state.specs.Claims.{same_id, without}
use Rattle.vault_state.specs.Vault.{AreThere}
use Rattle.lock_table.specs.declared.entry.Entry.{Entry}
use Rattle.lock_table.specs.Tables.{IsTableOf}
use Rattle.vault_state.proofs.Stays.{ids, same_id_itself, same_id_turned}
use Rattle.long_locks.specs.Lines.{LineSeen, IsNumbered, IsLine, is_short, ends, left_by}
use Rattle.long_locks.specs.declared.ending.Ending.{Ending}
use Rattle.long_locks.specs.declared.ending.Ending.TheVariants.{AllShort}

-- a line's claims are its table's
pub same_ids : (tree : List Place) (line : List Claim) (table : List Entry) → IsTableOf tree line table → map (λ (e : Entry). e.id) table ≡ ids line
same_ids tree [] [] zip = refl
same_ids tree [] (e ∷ table) zip = absurd zip
same_ids tree (c ∷ line) [] zip = absurd zip
same_ids tree (c ∷ line) (e ∷ table) zip = rw zip.0.id (ap (λ ks. c.id ∷ ks) (same_ids tree line table zip.1))

pub distinct_claims : (tree : List Place) (line : List Claim) (table : List Entry) → IsTableOf tree line table → IsDistinct same_id (map (λ (e : Entry). e.id) table) → IsDistinct same_id (ids line)
distinct_claims tree line table zip distinct = subst (λ ks. IsDistinct same_id ks) (same_ids tree line table zip) distinct

others_stay : (id : ClaimId) (line : List Claim) → AllByRecursion (λ k. same_id id k ≡ false) (ids line) → without line id ≡ line
others_stay id [] all = refl
others_stay id (c ∷ line) all = rw (same_id_turned id c.id all.0) (ap (λ rest. c ∷ rest) (others_stay id line all.1))

apart_at : (id : ClaimId) (line : List Claim) (i : ℕ) (c : Claim) → AllByRecursion (λ k. same_id id k ≡ false) (ids line) → slice_get line i ≡ Some c → same_id id c.id ≡ false
apart_at id [] i c all e = cc
apart_at id (x ∷ line) zero c all e = let same : x ≡ c = cc in subst (λ (d : Claim). same_id id d.id ≡ false) same all.0
apart_at id (x ∷ line) (suc i) c all e = apart_at id line i c all.1 e

module _ (t : Claim → Bool) where
  apart_kept : (P : ClaimId → Type 0) (line : List Claim) → AllByRecursion P (ids line) → AllByRecursion P (ids (filter (λ (d : Claim). not (t d)) line))
  apart_kept P [] all = all
  apart_kept P (c ∷ line) all = by_test (t c) (apart_kept P line all.1)
    where
      by_test : (b : Bool) → AllByRecursion P (ids (filter (λ (d : Claim). not (t d)) line)) → AllByRecursion P (ids (cond (not b) (c ∷ filter (λ (d : Claim). not (t d)) line) (filter (λ (d : Claim). not (t d)) line)))
      by_test true rest = rest
      by_test false rest = (all.0, rest)

  -- nothing was removed behind the end of the line
  pub none_behind : (line : List Claim) (n : ℕ) → n ≡ length line → take n line ++ filter (λ (d : Claim). not (t d)) (drop n line) ≡ line
  none_behind [] zero e = refl
  none_behind [] (suc n) e = refl
  none_behind (c ∷ line) zero e = let clash : zero ≡ suc (length line) = e in absurd (omega (arith, clash))
  none_behind (c ∷ line) (suc n) e = ap (λ ys. c ∷ ys) (none_behind line n (let one : suc n ≡ suc (length line) = e in omega (arith, one)))

  -- one that isn't there, and one that stays, change nothing
  pub behind_none : (line : List Claim) (i : ℕ) → slice_get line i ≡ None
      → take (suc i) line ++ filter (λ (d : Claim). not (t d)) (drop (suc i) line) ≡ take i line ++ filter (λ (d : Claim). not (t d)) (drop i line)
  behind_none [] zero e = refl
  behind_none [] (suc i) e = refl
  behind_none (x ∷ line) zero e = cc
  behind_none (x ∷ line) (suc i) e = ap (λ ys. x ∷ ys) (behind_none line i e)

  pub behind_kept : (line : List Claim) (i : ℕ) (c : Claim) → slice_get line i ≡ Some c → t c ≡ false
      → take (suc i) line ++ filter (λ (d : Claim). not (t d)) (drop (suc i) line) ≡ take i line ++ filter (λ (d : Claim). not (t d)) (drop i line)
  behind_kept [] i c e h = cc
  behind_kept (x ∷ line) zero c e h = let same : x ≡ c = cc in let stays : t x ≡ false = ap t same ∙ h in rw stays refl
  behind_kept (x ∷ line) (suc i) c e h = ap (λ ys. x ∷ ys) (behind_kept line i c e h)

  -- one that ends is taken out, and no other
  pub behind_taken : (line : List Claim) (i : ℕ) (c : Claim) → IsDistinct same_id (ids line) → slice_get line i ≡ Some c → t c ≡ true
      → without (take (suc i) line ++ filter (λ (d : Claim). not (t d)) (drop (suc i) line)) c.id ≡ take i line ++ filter (λ (d : Claim). not (t d)) (drop i line)
  unfolding IsDistinct
  behind_taken [] i c distinct e h = cc
  behind_taken (x ∷ line) zero c distinct e h =
      let kept : List Claim = filter (λ (d : Claim). not (t d)) line in
      let same : x ≡ c = cc in
      let here : same_id x.id c.id ≡ true = subst (λ (d : Claim). same_id x.id d.id ≡ true) same (same_id_itself x.id) in
      let gone : without kept c.id ≡ kept = subst (λ (d : Claim). without kept d.id ≡ kept) same (others_stay x.id kept (apart_kept (λ k. same_id x.id k ≡ false) line distinct.0)) in
      let ending : t x ≡ true = ap t same ∙ h in
      rw (here, gone, ending) refl
  behind_taken (x ∷ line) (suc i) c distinct e h = rw (apart_at x.id line i c distinct.0 e) (ap (λ ys. x ∷ ys) (behind_taken line i c distinct.1 e h))

pub line_left : (l : LineSeen) (table : List Entry) → IsLine l table → (ending : Ending) (new : List Entry) → IsTableOf l.tree (left_by ending l.claims) new → IsLine (record l { claims = left_by ending l.claims }) new
line_left l table kept ending new zip = record {
  tree = kept.tree;
  there = All-filter (λ (c : Claim). not (ends ending c)) (λ (c : Claim). AreThere l.tree c.items) l.claims kept.there;
  numbered = All-filter (λ (c : Claim). not (ends ending c)) (λ (c : Claim). IsNumbered l.last_long l.last_short c.id) l.claims kept.numbered;
  weighed = zip;
}

numbered_left : (last_long last_short : ℕ) (line : List Claim) → All (λ (c : Claim). IsNumbered last_long last_short c.id) line → All (λ (c : Claim). IsNumbered last_long 0 c.id) (left_by AllShort line)
numbered_left last_long last_short [] all = All-nil (λ (c : Claim). IsNumbered last_long 0 c.id)
numbered_left last_long last_short (c ∷ line) all =
    by_kind c.id (All-head (λ (d : Claim). IsNumbered last_long last_short d.id) c line all) refl (numbered_left last_long last_short line (All-tail (λ (d : Claim). IsNumbered last_long last_short d.id) c line all))
  where
    by_kind : (k : ClaimId) → IsNumbered last_long last_short k → c.id ≡ k → All (λ (d : Claim). IsNumbered last_long 0 d.id) (left_by AllShort line) → All (λ (d : Claim). IsNumbered last_long 0 d.id) (cond (not (is_short k)) (c ∷ left_by AllShort line) (left_by AllShort line))
    by_kind (Long n) h e rest = All-cons (λ (d : Claim). IsNumbered last_long 0 d.id) c (left_by AllShort line) (rw e h) rest
    by_kind (Short n) h e rest = rest

pub line_restarted : (l : LineSeen) (table : List Entry) → IsLine l table → (new : List Entry) → IsTableOf l.tree (left_by AllShort l.claims) new → IsLine (record l { claims = left_by AllShort l.claims; last_short = 0 }) new
line_restarted l table kept new zip = record {
  tree = kept.tree;
  there = All-filter (λ (c : Claim). not (ends AllShort c)) (λ (c : Claim). AreThere l.tree c.items) l.claims kept.there;
  numbered = numbered_left l.last_long l.last_short l.claims kept.numbered;
  weighed = zip;
}
