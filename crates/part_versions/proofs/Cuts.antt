-- Contents as a file spells them, one after another: how many, how long, one more and one fewer.
use Rattle.std.specs.Prelude.{◌≡◌, ℕ, zero, suc, ◌+◌, ◌-◌, ◌<◌, ◌≤◌, List, [], ◌∷◌, ◌++◌, length, map, take, Some, None, slice_get, slice_range}
use Rattle.std.specs.Int.{w16, to_be_bytes}
use Rattle.std.specs.List.{range_with_len, flat_map}
use Rattle.std.proofs.Common.{arith, ap, sym, refl, ◌∙◌, subst, inl, inr, drop, get_or, append-nil, length-append, length-take, length-take-le, length-drop, take-add}
use Rattle.std.proofs.lemmas.Bool.{cases_lt}
use Rattle.std.proofs.lemmas.Grind.{flat_map-append}
use Rattle.std.proofs.lemmas.List.{length_push, get_or_push, get_or_append_left, get_or-take, drop-append-le, take-append-le, drop_at, take_all, take-take, drop-take, drop-drop, take_more}
use Rattle.std.proofs.lemmas.List.Concat.{flat_map-cons}
use Rattle.std.proofs.lemmas.List.FromFn.{length-map-range_with_len, get_or-map-range_with_len, sum_by-map-range_with_len_more, fill_by_all}
use Rattle.std.proofs.lemmas.Option.{slice_get-get_or, slice_get_past}
use Rattle.vault_state.specs.Shelf.{content_weight, versions_weight}
use Rattle.part_versions.specs.Cuts.{spelled, end_of, spelling_at, content_at, contents_of, IsCut}

pub length-contents_of : (ends bytes : List ℕ) → length (contents_of ends bytes) ≡ length ends
length-contents_of ends bytes = length-map-range_with_len (content_at ends bytes) 0 (length ends)

-- the content at an index
pub contents_of-at : (ends bytes : List ℕ) (i : ℕ) (d : List ℕ) → i < length ends → get_or (contents_of ends bytes) i d ≡ content_at ends bytes i
contents_of-at ends bytes i d h = get_or-map-range_with_len (content_at ends bytes) 0 (length ends) i i d h (omega arith)

pub slice_get-contents_of : (ends bytes : List ℕ) (i : ℕ) → i < length ends → Some (content_at ends bytes i) ≡ slice_get (contents_of ends bytes) i
slice_get-contents_of ends bytes i h =
    let inside : i < length (contents_of ends bytes) = omega (arith, h, length-contents_of ends bytes) in
    sym (slice_get-get_or (contents_of ends bytes) i [] inside ∙ ap Some (contents_of-at ends bytes i [] h))

pub slice_get-contents_past : (ends bytes : List ℕ) (i : ℕ) → length ends ≤ i → None ≡ slice_get (contents_of ends bytes) i
slice_get-contents_past ends bytes i h = sym (slice_get_past (contents_of ends bytes) i (omega (arith, h, length-contents_of ends bytes)))

-- an end is at most the last
climb : (ends bytes : List ℕ) → IsCut ends bytes → (k n : ℕ) → n + k ≡ length ends → end_of ends n ≤ length bytes
climb ends bytes cut zero n e =
    let P : ℕ → Type 0 = λ m. end_of ends m ≡ length bytes in
    let last : length ends ≡ n = omega (arith, e) in
    let whole = subst P last cut.whole in
    omega (arith, whole)
climb ends bytes cut (suc k) n e =
    let inside : n < length ends = omega (arith, e) in
    let next = climb ends bytes cut k (suc n) (omega (arith, e)) in
    omega (arith, next, cut.rising n inside)

pub end_of-within : (ends bytes : List ℕ) → IsCut ends bytes → (n : ℕ) → n ≤ length ends → end_of ends n ≤ length bytes
end_of-within ends bytes cut n h = climb ends bytes cut (length ends - n) n (omega arith)

length-spelling_at : (ends bytes : List ℕ) → IsCut ends bytes → (i : ℕ) → i < length ends → length (spelling_at ends bytes i) + end_of ends i ≡ end_of ends (suc i)
length-spelling_at ends bytes cut i h =
    let within : end_of ends (suc i) ≤ length bytes = end_of-within ends bytes cut (suc i) (omega arith) in
    let rises = cut.rising i h in
    omega (arith, within, rises, length-take (end_of ends (suc i) - end_of ends i) (drop (end_of ends i) bytes), length-drop (end_of ends i) bytes)

-- the bytes weigh no more than the contents
weight-front : (ends bytes : List ℕ) → IsCut ends bytes → (n : ℕ) → n ≤ length ends → end_of ends n ≤ versions_weight (map (content_at ends bytes) (range_with_len 0 n))
weight-front ends bytes cut zero h = omega arith
weight-front ends bytes cut (suc n) h =
    let rest = weight-front ends bytes cut n (omega arith) in
    let more = sum_by-map-range_with_len_more content_weight (content_at ends bytes) 0 n n (omega arith) in
    let long = length-spelling_at ends bytes cut n (omega arith) in
    let behind = length-drop 2 (spelling_at ends bytes n) in
    let P : ℕ → Type 0 = λ m. versions_weight (map (content_at ends bytes) (range_with_len 0 m)) ≡ versions_weight (map (content_at ends bytes) (range_with_len 0 n)) + content_weight (content_at ends bytes n) in
    let plain : n + 1 ≡ suc n = omega arith in
    let whole = subst P plain more in
    omega (arith, rest, long, behind, whole)

pub length-bytes : (ends bytes : List ℕ) → IsCut ends bytes → length bytes ≤ versions_weight (contents_of ends bytes)
length-bytes ends bytes cut = let front = weight-front ends bytes cut (length ends) (omega arith) in omega (arith, front, cut.whole)

end_of-push : (ends : List ℕ) (end n : ℕ) → n ≤ length ends → end_of (ends ++ end ∷ []) n ≡ end_of ends n
end_of-push ends end zero h = refl
end_of-push ends end (suc n) h = get_or_append_left ends (end ∷ []) 0 n (omega arith)

end_of-push_last : (ends : List ℕ) (end : ℕ) → end_of (ends ++ end ∷ []) (suc (length ends)) ≡ end
end_of-push_last ends end = get_or_push ends end 0 (length ends) refl

slice_range-append : (bytes more : List ℕ) (a b : ℕ) → a ≤ b → b ≤ length bytes → slice_range (bytes ++ more) a b ≡ slice_range bytes a b
slice_range-append bytes more a b h k =
    let left : b - a ≤ length (drop a bytes) = omega (arith, length-drop a bytes) in
    ap (take (b - a)) (drop-append-le a bytes more (omega arith)) ∙ take-append-le (b - a) (drop a bytes) more left

-- the content of a spelling stands behind its length
pub behind_length : (content : List ℕ) → drop 2 (spelled content) ≡ content
behind_length content = refl

-- when one more spelling is appended, the others stay
spelling_at-push : (ends bytes more : List ℕ) (i : ℕ) → IsCut ends bytes → i < length ends → spelling_at (ends ++ length (bytes ++ more) ∷ []) (bytes ++ more) i ≡ spelling_at ends bytes i
spelling_at-push ends bytes more i cut h =
    let here = end_of-push ends (length (bytes ++ more)) i (omega arith) in
    let next = end_of-push ends (length (bytes ++ more)) (suc i) (omega arith) in
    ap (λ a. slice_range (bytes ++ more) a (end_of (ends ++ length (bytes ++ more) ∷ []) (suc i))) here
    ∙ ap (λ b. slice_range (bytes ++ more) (end_of ends i) b) next
    ∙ slice_range-append bytes more (end_of ends i) (end_of ends (suc i)) (cut.rising i h) (end_of-within ends bytes cut (suc i) (omega arith))

-- and it is the last
spelling_at-push_last : (ends bytes more : List ℕ) → IsCut ends bytes → spelling_at (ends ++ length (bytes ++ more) ∷ []) (bytes ++ more) (length ends) ≡ more
spelling_at-push_last ends bytes more cut =
    let here : end_of (ends ++ length (bytes ++ more) ∷ []) (length ends) ≡ length bytes = end_of-push ends (length (bytes ++ more)) (length ends) (omega arith) ∙ cut.whole in
    let next : end_of (ends ++ length (bytes ++ more) ∷ []) (suc (length ends)) ≡ length (bytes ++ more) = end_of-push_last ends (length (bytes ++ more)) in
    let long : length more ≤ length (bytes ++ more) - length bytes = omega (arith, length-append bytes more) in
    ap (λ a. slice_range (bytes ++ more) a (end_of (ends ++ length (bytes ++ more) ∷ []) (suc (length ends)))) here
    ∙ ap (λ b. slice_range (bytes ++ more) (length bytes) b) next
    ∙ ap (take (length (bytes ++ more) - length bytes)) (drop_at bytes more (length bytes) refl)
    ∙ take_all (length (bytes ++ more) - length bytes) more long

-- with one more spelling, the ends rise
rising-push : (ends bytes more : List ℕ) (i : ℕ) → IsCut ends bytes → i < length (ends ++ length (bytes ++ more) ∷ [])
    → end_of (ends ++ length (bytes ++ more) ∷ []) i ≤ end_of (ends ++ length (bytes ++ more) ∷ []) (suc i)
rising-push ends bytes more i cut h = elim (cases_lt i (length ends)) [
  | inl before ↦
      let here = end_of-push ends (length (bytes ++ more)) i (omega arith) in
      let next = end_of-push ends (length (bytes ++ more)) (suc i) (omega arith) in
      omega (arith, cut.rising i before, here, next)
  | inr past ↦
      let last : i ≡ length ends = omega (arith, h, past, length_push ends (length (bytes ++ more))) in
      let here = end_of-push ends (length (bytes ++ more)) i (omega arith) in
      let within = end_of-within ends bytes cut i (omega arith) in
      let P : ℕ → Type 0 = λ m. end_of (ends ++ length (bytes ++ more) ∷ []) (suc m) ≡ length (bytes ++ more) in
      let next = subst P (sym last) (end_of-push_last ends (length (bytes ++ more))) in
      omega (arith, here, within, next, length-append bytes more)
]

-- and each spelling
each-push : (ends bytes content : List ℕ) (i : ℕ) → IsCut ends bytes → i < length (ends ++ length (bytes ++ spelled content) ∷ [])
    → spelling_at (ends ++ length (bytes ++ spelled content) ∷ []) (bytes ++ spelled content) i
    ≡ spelled (content_at (ends ++ length (bytes ++ spelled content) ∷ []) (bytes ++ spelled content) i)
each-push ends bytes content i cut h =
    let more : List ℕ = spelled content in
    let at : List ℕ = spelling_at (ends ++ length (bytes ++ more) ∷ []) (bytes ++ more) i in
    elim (cases_lt i (length ends)) [
      | inl before ↦
          let same : at ≡ spelling_at ends bytes i = spelling_at-push ends bytes more i cut before in
          same ∙ cut.each i before ∙ ap (λ (l : List ℕ). spelled (drop 2 l)) (sym same)
      | inr past ↦
          let last : length ends ≡ i = omega (arith, h, past, length_push ends (length (bytes ++ more))) in
          let P : ℕ → Type 0 = λ m. spelling_at (ends ++ length (bytes ++ more) ∷ []) (bytes ++ more) m ≡ more in
          let same : at ≡ more = subst P last (spelling_at-push_last ends bytes more cut) in
          same ∙ ap spelled (sym (behind_length content)) ∙ ap (λ (l : List ℕ). spelled (drop 2 l)) (sym same)
    ]

-- one more content, behind the others
pub cut-push : (ends bytes content : List ℕ) → IsCut ends bytes → IsCut (ends ++ length (bytes ++ spelled content) ∷ []) (bytes ++ spelled content)
cut-push ends bytes content cut = record {
  rising = λ i h. rising-push ends bytes (spelled content) i cut h;
  whole =
      let P : ℕ → Type 0 = λ m. end_of (ends ++ length (bytes ++ spelled content) ∷ []) m ≡ length (bytes ++ spelled content) in
      let one : suc (length ends) ≡ length (ends ++ length (bytes ++ spelled content) ∷ []) = omega (arith, length_push ends (length (bytes ++ spelled content))) in
      subst P one (end_of-push_last ends (length (bytes ++ spelled content)));
  each = λ i h. each-push ends bytes content i cut h;
}

pub contents_of-push : (ends bytes content : List ℕ) → IsCut ends bytes
    → contents_of (ends ++ length (bytes ++ spelled content) ∷ []) (bytes ++ spelled content) ≡ contents_of ends bytes ++ content ∷ []
contents_of-push ends bytes content cut =
    sym (fill_by_all (content_at (ends ++ length (bytes ++ spelled content) ∷ []) (bytes ++ spelled content)) (contents_of ends bytes ++ content ∷ [])
    (length (ends ++ length (bytes ++ spelled content) ∷ [])) [] whole each)
  where
    whole : length (contents_of ends bytes ++ content ∷ []) ≡ length (ends ++ length (bytes ++ spelled content) ∷ [])
    whole = omega (arith, length_push (contents_of ends bytes) content, length-contents_of ends bytes, length_push ends (length (bytes ++ spelled content)))

    each : (k : ℕ) → k < length (ends ++ length (bytes ++ spelled content) ∷ [])
        → get_or (contents_of ends bytes ++ content ∷ []) k [] ≡ content_at (ends ++ length (bytes ++ spelled content) ∷ []) (bytes ++ spelled content) k
    each k h = elim (cases_lt k (length ends)) [
      | inl before ↦
          let inside : k < length (contents_of ends bytes) = omega (arith, before, length-contents_of ends bytes) in
          get_or_append_left (contents_of ends bytes) (content ∷ []) [] k inside
          ∙ contents_of-at ends bytes k [] before
          ∙ ap (drop 2) (sym (spelling_at-push ends bytes (spelled content) k cut before))
      | inr past ↦
          let last : length (contents_of ends bytes) ≡ k = omega (arith, h, past, length_push ends (length (bytes ++ spelled content)), length-contents_of ends bytes) in
          let same : length ends ≡ k = omega (arith, last, length-contents_of ends bytes) in
          let P : ℕ → Type 0 = λ m. content ≡ content_at (ends ++ length (bytes ++ spelled content) ∷ []) (bytes ++ spelled content) m in
          get_or_push (contents_of ends bytes) content [] k last
          ∙ subst P same (sym (ap (drop 2) (spelling_at-push_last ends bytes (spelled content) cut) ∙ behind_length content))
    ]

end_of-take : (ends : List ℕ) (m n : ℕ) → n ≤ m → end_of (take m ends) n ≡ end_of ends n
end_of-take ends m zero h = refl
end_of-take ends m (suc n) h = get_or-take m ends n 0 (omega arith)

slice_range-take : (bytes : List ℕ) (a b e : ℕ) → a ≤ b → b ≤ e → slice_range (take e bytes) a b ≡ slice_range bytes a b
slice_range-take bytes a b e h k =
    let plain : a + (e - a) ≡ e = omega arith in
    let fewer : b - a ≤ e - a = omega arith in
    ap (λ n. take (b - a) (drop a (take n bytes))) (sym plain) ∙ ap (take (b - a)) (drop-take a (e - a) bytes) ∙ take-take (b - a) (e - a) (drop a bytes) fewer

end_climbs : (ends bytes : List ℕ) (n k j : ℕ) → IsCut ends bytes → n ≤ length ends → j + k ≡ n → end_of ends j ≤ end_of ends n
end_climbs ends bytes n zero j cut h e = let P : ℕ → Type 0 = λ m. end_of ends j ≤ end_of ends m in let same : j ≡ n = omega (arith, e) in subst P same (omega arith)
end_climbs ends bytes n (suc k) j cut h e =
    let next = end_climbs ends bytes n k (suc j) cut h (omega (arith, e)) in
    let inside : j < length ends = omega (arith, e, h) in
    omega (arith, next, cut.rising j inside)

-- of the first `n` spellings, each stays
spelling_at-front : (ends bytes : List ℕ) (n i : ℕ) → IsCut ends bytes → n ≤ length ends → i < n
    → spelling_at (take n ends) (take (end_of (take n ends) n) bytes) i ≡ spelling_at ends bytes i
spelling_at-front ends bytes n i cut h front =
    let inside : i < length ends = omega (arith, front, h) in
    let here = end_of-take ends n i (omega arith) in
    let next = end_of-take ends n (suc i) (omega arith) in
    let last = end_of-take ends n n (omega arith) in
    let most = end_climbs ends bytes n (n - suc i) (suc i) cut h (omega arith) in
    ap (λ e. slice_range (take e bytes) (end_of (take n ends) i) (end_of (take n ends) (suc i))) last
    ∙ ap (λ a. slice_range (take (end_of ends n) bytes) a (end_of (take n ends) (suc i))) here
    ∙ ap (λ b. slice_range (take (end_of ends n) bytes) (end_of ends i) b) next
    ∙ slice_range-take bytes (end_of ends i) (end_of ends (suc i)) (end_of ends n) (cut.rising i inside) most

-- the first `n` contents
pub contents_of-front : (ends bytes : List ℕ) (n : ℕ) → IsCut ends bytes → n ≤ length ends → contents_of (take n ends) (take (end_of (take n ends) n) bytes) ≡ take n (contents_of ends bytes)
contents_of-front ends bytes n cut h =
    sym (fill_by_all (content_at (take n ends) (take (end_of (take n ends) n) bytes)) (take n (contents_of ends bytes)) (length (take n ends)) [] whole each)
  where
    whole : length (take n (contents_of ends bytes)) ≡ length (take n ends)
    whole = omega (arith, length-take n (contents_of ends bytes), length-contents_of ends bytes, length-take n ends)

    each : (k : ℕ) → k < length (take n ends) → get_or (take n (contents_of ends bytes)) k [] ≡ content_at (take n ends) (take (end_of (take n ends) n) bytes) k
    each k g =
        let front : k < n = omega (arith, g, length-take n ends) in
        let inside : k < length ends = omega (arith, front, h) in
        get_or-take n (contents_of ends bytes) k [] front
        ∙ contents_of-at ends bytes k [] inside
        ∙ ap (drop 2) (sym (spelling_at-front ends bytes n k cut h front))

pub cut-front : (ends bytes : List ℕ) (n : ℕ) → IsCut ends bytes → n ≤ length ends → IsCut (take n ends) (take (end_of (take n ends) n) bytes)
cut-front ends bytes n cut h =
    let long : length (take n ends) ≡ n = length-take-le n ends h in
    let last = end_of-take ends n n (omega arith) in
    let within = end_of-within ends bytes cut n h in
    record {
      rising = λ i g.
          let front : i < n = omega (arith, g, long) in
          let here = end_of-take ends n i (omega arith) in
          let next = end_of-take ends n (suc i) (omega arith) in
          let rises = cut.rising i (omega arith) in
          omega (arith, here, next, rises);
      whole = ap (end_of (take n ends)) long ∙ sym (length-take-le (end_of (take n ends) n) bytes (omega (arith, last, within)));
      each = λ i g.
          let front : i < n = omega (arith, g, long) in
          let inside : i < length ends = omega (arith, front, h) in
          let same = spelling_at-front ends bytes n i cut h front in
          same ∙ cut.each i inside ∙ ap (λ (l : List ℕ). spelled (drop 2 l)) (sym same);
    }

take-slice_range : (bytes : List ℕ) (a b : ℕ) → a ≤ b → take b bytes ≡ take a bytes ++ slice_range bytes a b
take-slice_range bytes a b h =
    let whole : a + (b - a) ≡ b = omega arith in
    ap (λ n. take n bytes) (sym whole) ∙ take-add a (b - a) bytes

-- the first bytes are the spellings of the first contents
spelled-front : (ends bytes : List ℕ) (n : ℕ) → IsCut ends bytes → n ≤ length ends → take (end_of ends n) bytes ≡ flat_map spelled (take n (contents_of ends bytes))
spelled-front ends bytes zero cut h = refl
spelled-front ends bytes (suc n) cut h =
    let inside : n < length (contents_of ends bytes) = omega (arith, h, length-contents_of ends bytes) in
    let here : n < length ends = omega (arith, h) in
    let plain : n + 1 ≡ suc n = omega arith in
    let content : List ℕ = content_at ends bytes n in
    let more : take (suc n) (contents_of ends bytes) ≡ take n (contents_of ends bytes) ++ content ∷ [] =
    ap (λ m. take m (contents_of ends bytes)) (sym plain) ∙ take_more (contents_of ends bytes) n [] inside
    ∙ ap (λ (l : List ℕ). take n (contents_of ends bytes) ++ l ∷ []) (contents_of-at ends bytes n [] here) in
    let one : flat_map spelled (content ∷ []) ≡ spelled content = flat_map-cons spelled content [] ∙ append-nil (spelled content) in
    take-slice_range bytes (end_of ends n) (end_of ends (suc n)) (cut.rising n here)
    ∙ ap (λ (l : List ℕ). l ++ spelling_at ends bytes n) (spelled-front ends bytes n cut (omega (arith, h)))
    ∙ ap (λ (l : List ℕ). flat_map spelled (take n (contents_of ends bytes)) ++ l) (cut.each n here ∙ sym one)
    ∙ sym (flat_map-append spelled (take n (contents_of ends bytes)) (content ∷ []))
    ∙ ap (flat_map spelled) (sym more)

-- all bytes are the spellings of all contents
pub bytes_spelled : (ends bytes : List ℕ) → IsCut ends bytes → bytes ≡ flat_map spelled (contents_of ends bytes)
bytes_spelled ends bytes cut =
    sym (take_all (end_of ends (length ends)) bytes (omega (arith, cut.whole)))
    ∙ spelled-front ends bytes (length ends) cut (omega arith)
    ∙ ap (flat_map spelled) (take_all (length ends) (contents_of ends bytes) (omega (arith, length-contents_of ends bytes)))

-- a content is cut out behind its length
pub slice_behind_length : (bytes : List ℕ) (a b : ℕ) → a + 2 ≤ b → slice_range bytes (a + 2) b ≡ drop 2 (slice_range bytes a b)
slice_behind_length bytes a b h =
    let left : 2 + (b - (a + 2)) ≡ b - a = omega (arith, h) in
    sym (ap (λ n. drop 2 (take n (drop a bytes))) (sym left) ∙ drop-take 2 (b - (a + 2)) (drop a bytes) ∙ ap (take (b - (a + 2))) (drop-drop 2 a bytes))

-- a spelling has the two bytes of a length
pub end_behind_length : (ends bytes : List ℕ) (i : ℕ) → IsCut ends bytes → i < length ends → end_of ends i + 2 ≤ end_of ends (suc i)
end_behind_length ends bytes i cut h =
    let long = length-spelling_at ends bytes cut i h in
    let whole = ap length (cut.each i h) in
    let two = length-append (to_be_bytes w16 (length (content_at ends bytes i))) (content_at ends bytes i) in
    omega (arith, long, whole, two)
