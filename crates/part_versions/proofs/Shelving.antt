-- Parts in a list: one more version, many more, and all of them removed again.
use Rattle.std.specs.Prelude.{◌≡◌, ◌≢◌, ◌⊎◌, ℕ, zero, suc, ◌+◌, ◌-◌, ◌<◌, ◌≤◌, true, false, List, [], ◌∷◌, ◌++◌, length, take, drop, slice_set, replicate, All}
use Rattle.std.proofs.Common.{arith, ap, sym, refl, ◌∙◌, subst, inl, inr, eqb, get_or, set, length-set, length-take-le, length-append}
use Rattle.std.proofs.lemmas.Bool.{cases_lt}
use Rattle.std.proofs.lemmas.Bool.Decides.{eqb_tells}
use Rattle.std.proofs.lemmas.List.{get_or-set_same, get_or-set_other, get_or_past, set_past, take_at, get_or-take, ext_get_or, take_more, length_push, append_assoc, replicate_more, get_or_read}
use Rattle.std.proofs.Math.Seq.{drop-cons}
use Rattle.std.proofs.lemmas.List.Elements.{All-nil, All-cons}
use Rattle.std.proofs.lemmas.List.Sums.{sum_by_more_le}
use Rattle.vault_state.specs.Shelf.{Draft, versions_of, shelved, shelved_all, content_weight, drafts_weight, versions_weight, weight}
use Rattle.vault_state.specs.Limits.{most_weight}
use Rattle.vault_state.proofs.Shelves.{versions_of-shelved, versions_of-shelved_other, length-shelved, weight-shelved_all}
use Rattle.part_versions.specs.Taken.{but_last, taken, taken_all}

-- a place in the list gets its version where it stands
pub shelved-inside : (shelf : List (List (List ℕ))) (place : ℕ) (content : List ℕ) → place < length shelf → shelved shelf place content ≡ slice_set shelf place (versions_of shelf place ++ content ∷ [])
shelved-inside [] place content h = absurd (omega (arith, h))
shelved-inside (versions ∷ shelf) zero content h = refl
shelved-inside (versions ∷ shelf) (suc place) content h = ap (λ s. versions ∷ s) (shelved-inside shelf place content (omega (arith, h)))

-- a place behind the end of the list gets it behind places without versions
pub shelved-past : (shelf : List (List (List ℕ))) (place : ℕ) (content : List ℕ) → length shelf ≤ place → shelved shelf place content ≡ (shelf ++ replicate (place - length shelf) []) ++ (content ∷ []) ∷ []
shelved-past [] zero content h = refl
shelved-past [] (suc place) content h =
    let plain : suc (place - 0) ≡ suc place - 0 = omega arith in
    ap (λ s. [] ∷ s) (shelved-past [] place content (omega arith)) ∙ ap (λ n. replicate n [] ++ (content ∷ []) ∷ []) plain
shelved-past (versions ∷ shelf) zero content h = absurd (omega (arith, h))
shelved-past (versions ∷ shelf) (suc place) content h =
    let fewer : place - length shelf ≡ suc place - length (versions ∷ shelf) = omega arith in
    ap (λ s. versions ∷ s) (shelved-past shelf place content (omega (arith, h)) ∙ ap (λ n. (shelf ++ replicate n []) ++ (content ∷ []) ∷ []) fewer)

shelved_all-append : (shelf : List (List (List ℕ))) (drafts more : List Draft) → shelved_all shelf (drafts ++ more) ≡ shelved_all (shelved_all shelf drafts) more
shelved_all-append shelf [] more = refl
shelved_all-append shelf (draft ∷ drafts) more = shelved_all-append (shelved shelf draft.place draft.content) drafts more

-- one more draft
pub shelved_all-more : (shelf : List (List (List ℕ))) (drafts : List Draft) (i : ℕ) (d : Draft) → i < length drafts
    → shelved_all shelf (take (i + 1) drafts) ≡ shelved (shelved_all shelf (take i drafts)) (get_or drafts i d).place (get_or drafts i d).content
shelved_all-more shelf drafts i d h = ap (shelved_all shelf) (take_more drafts i d h) ∙ shelved_all-append shelf (take i drafts) (get_or drafts i d ∷ [])

-- and there is room for it if there is room for all
pub weight-more : (shelf : List (List (List ℕ))) (drafts : List Draft) (i : ℕ) (d : Draft) → i < length drafts
    → weight (shelved_all shelf (take i drafts)) + content_weight (get_or drafts i d).content ≤ weight shelf + drafts_weight drafts
weight-more shelf drafts i d h =
    let front = weight-shelved_all shelf (take i drafts) in
    let more = sum_by_more_le (λ (draft : Draft). content_weight draft.content) drafts i d h in
    omega (arith, front, more)

length-shelved_all : (shelf : List (List (List ℕ))) (drafts : List Draft) → length shelf ≤ length (shelved_all shelf drafts)
length-shelved_all shelf [] = omega arith
length-shelved_all shelf (draft ∷ drafts) = omega (arith, length-shelved shelf draft.place draft.content, length-shelved_all (shelved shelf draft.place draft.content) drafts)

-- the drafts' places are in the list
pub places_there : (shelf : List (List (List ℕ))) (drafts : List Draft) → All (λ (draft : Draft). draft.place < length (shelved_all shelf drafts)) drafts
places_there shelf [] = All-nil (λ (draft : Draft). draft.place < length shelf)
places_there shelf (draft ∷ drafts) =
    All-cons (λ (d : Draft). d.place < length (shelved_all (shelved shelf draft.place draft.content) drafts)) draft drafts
    (omega (arith, length-shelved shelf draft.place draft.content, length-shelved_all (shelved shelf draft.place draft.content) drafts))
    (places_there (shelved shelf draft.place draft.content) drafts)

versions_of-taken : (shelf : List (List (List ℕ))) (place : ℕ) → versions_of (taken shelf place) place ≡ but_last (versions_of shelf place)
versions_of-taken shelf place = elim (cases_lt place (length shelf)) [
  | inl inside ↦ get_or-set_same shelf place (but_last (versions_of shelf place)) [] inside
  | inr past ↦ ap (λ s. get_or s place []) (set_past shelf place (but_last (versions_of shelf place)) past) ∙ get_or_past shelf place [] past ∙ ap but_last (sym (get_or_past shelf place [] past))
]

versions_of-taken_other : (shelf : List (List (List ℕ))) (place other : ℕ) → place ≢ other → versions_of (taken shelf place) other ≡ versions_of shelf other
versions_of-taken_other shelf place other differ = get_or-set_other shelf place other (but_last (versions_of shelf place)) [] (λ e. differ (sym e))

but_last-push : (versions : List (List ℕ)) (content : List ℕ) → but_last (versions ++ content ∷ []) ≡ versions
but_last-push versions content =
    let n : length versions ≡ length (versions ++ content ∷ []) - 1 = omega (arith, length_push versions content) in
    take_at versions (content ∷ []) (length (versions ++ content ∷ []) - 1) n

-- each place has the versions that it had
undone : (shelf : List (List (List ℕ))) (drafts : List Draft) (place : ℕ) → versions_of (taken_all (shelved_all shelf drafts) drafts) place ≡ versions_of shelf place
undone shelf [] place = refl
undone shelf (draft ∷ drafts) place = by_place (undone (shelved shelf draft.place draft.content) drafts) (eqb_tells draft.place place)
  where
    by_place : ((p : ℕ) → versions_of (taken_all (shelved_all (shelved shelf draft.place draft.content) drafts) drafts) p ≡ versions_of (shelved shelf draft.place draft.content) p)
        → ((eqb draft.place place ≡ true) × (draft.place ≡ place)) ⊎ ((eqb draft.place place ≡ false) × (draft.place ≢ place))
        → versions_of (taken (taken_all (shelved_all (shelved shelf draft.place draft.content) drafts) drafts) draft.place) place ≡ versions_of shelf place
    by_place rest (inl h) =
        let P : ℕ → Type 0 = λ p. versions_of (taken (taken_all (shelved_all (shelved shelf draft.place draft.content) drafts) drafts) draft.place) p ≡ versions_of shelf p in
        subst P h.1 (
        versions_of-taken (taken_all (shelved_all (shelved shelf draft.place draft.content) drafts) drafts) draft.place
        ∙ ap but_last (rest draft.place ∙ versions_of-shelved shelf draft.place draft.content)
        ∙ but_last-push (versions_of shelf draft.place) draft.content)
    by_place rest (inr h) =
        versions_of-taken_other (taken_all (shelved_all (shelved shelf draft.place draft.content) drafts) drafts) draft.place place h.1
        ∙ rest place
        ∙ versions_of-shelved_other shelf draft.place draft.content place h.1

pub length-taken_all : (shelf : List (List (List ℕ))) (drafts : List Draft) → length (taken_all shelf drafts) ≡ length shelf
length-taken_all shelf [] = refl
length-taken_all shelf (draft ∷ drafts) = length-set (taken_all shelf drafts) draft.place (but_last (versions_of (taken_all shelf drafts) draft.place)) ∙ length-taken_all shelf drafts

-- appending drafts and removing them again leaves the shelf as it was, but for places behind its end
pub taken_back : (shelf : List (List (List ℕ))) (drafts : List Draft) → take (length shelf) (taken_all (shelved_all shelf drafts) drafts) ≡ shelf
taken_back shelf drafts =
    let long = length-taken_all (shelved_all shelf drafts) drafts in
    let more = length-shelved_all shelf drafts in
    let within : length shelf ≤ length (taken_all (shelved_all shelf drafts) drafts) = omega (arith, long, more) in
    let whole = length-take-le (length shelf) (taken_all (shelved_all shelf drafts) drafts) within in
    ext_get_or [] (take (length shelf) (taken_all (shelved_all shelf drafts) drafts)) shelf whole
    (λ i h. get_or-take (length shelf) (taken_all (shelved_all shelf drafts) drafts) i [] (omega (arith, h, whole)) ∙ undone shelf drafts i)

-- one more version removed, after those of the later drafts
pub taken_all-more : (shelf parts : List (List (List ℕ))) (drafts : List Draft) (i left place : ℕ) (d : Draft) (now new : List (List ℕ)) → i < length drafts → suc i ≡ left
    → parts ≡ taken_all shelf (drop left drafts) → place ≡ (get_or drafts i d).place → place < length parts → now ≡ get_or parts place now → new ≡ but_last now
    → slice_set parts place new ≡ taken_all shelf (drop i drafts)
taken_all-more shelf parts drafts i left place d now new h next rest is inside read less =
    ap (slice_set parts place) (less ∙ ap but_last (get_or_read parts place now inside read []))
    ∙ ap (λ s. taken s place) (rest ∙ ap (λ n. taken_all shelf (drop n drafts)) (sym next))
    ∙ ap (taken (taken_all shelf (drop (suc i) drafts))) is
    ∙ sym (ap (taken_all shelf) (drop-cons drafts i d h))

-- one more place without versions, behind those added before
pub padded : (shelf longer longest : List (List (List ℕ))) (versions : List (List ℕ)) → longer ≡ shelf ++ replicate (length longer - length shelf) [] → longest ≡ longer ++ versions ∷ [] → versions ≡ []
    → longest ≡ shelf ++ replicate (length longest - length shelf) []
padded shelf longer longest versions e l none =
    let grown : length longest ≡ length longer + 1 = ap length l ∙ length_push longer versions in
    let more : length shelf ≤ length longer = omega (arith, ap length e, length-append shelf (replicate (length longer - length shelf) [])) in
    let one : (length longer - length shelf) + 1 ≡ length longest - length shelf = omega (arith, grown, more) in
    l ∙ ap (λ s. s ++ versions ∷ []) e ∙ append_assoc shelf (replicate (length longer - length shelf) []) (versions ∷ [])
    ∙ ap (λ v. shelf ++ (replicate (length longer - length shelf) [] ++ v ∷ [])) none
    ∙ ap (λ s. shelf ++ s) (replicate_more (length longer - length shelf) []) ∙ ap (λ n. shelf ++ replicate n []) one

-- a place in the list, with its versions written back
pub put_inside : (shelf : List (List (List ℕ))) (at place : ℕ) (now new : List (List ℕ)) (content : List ℕ) → at ≡ place → at < length shelf → now ≡ get_or shelf at now → new ≡ now ++ content ∷ []
    → slice_set shelf at new ≡ shelved shelf place content
put_inside shelf at place now new content e h read pushed =
    let P : ℕ → Type 0 = λ p. slice_set shelf at new ≡ shelved shelf p content in
    subst P e (ap (set shelf at) (pushed ∙ ap (λ v. v ++ content ∷ []) (get_or_read shelf at now h read [])) ∙ sym (shelved-inside shelf at content h))

-- a place behind the end of the list, after padding
pub put_past : (shelf longer last : List (List (List ℕ))) (at place : ℕ) (versions : List (List ℕ)) (content : List ℕ) → at ≡ place → length shelf ≤ at → longer ≡ shelf ++ replicate (at - length shelf) []
    → versions ≡ content ∷ [] → last ≡ longer ++ versions ∷ [] → last ≡ shelved shelf place content
put_past shelf longer last at place versions content e h pad one pushed =
    let P : ℕ → Type 0 = λ p. last ≡ shelved shelf p content in
    subst P e (pushed ∙ ap (λ s. s ++ versions ∷ []) pad ∙ ap (λ v. (shelf ++ replicate (at - length shelf) []) ++ v ∷ []) one ∙ sym (shelved-past shelf at content h))

-- the versions of one place weigh no more than all
pub light_at : (shelf : List (List (List ℕ))) (at : ℕ) (now : List (List ℕ)) (more : ℕ) → at < length shelf → now ≡ get_or shelf at now → weight shelf + more ≤ most_weight → versions_weight now + more ≤ most_weight
light_at shelf at now more inside read h =
    let within = sum_by_more_le versions_weight shelf at now inside in
    let same = ap versions_weight read in
    omega (arith, within, same, h)
