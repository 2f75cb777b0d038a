-- A record that is read is the record of what was read, and the record of an effect is read again.
use Rattle.std.proofs.Common.{◌≡◌, ℕ, true, cond, eqb, List, ◌∷◌, ◌++◌, Option, Some, None, sym, ap, subst, ◌∙◌, append_assoc, inl, inr}
use Rattle.std.proofs.lemmas.Bool.{eqb-true}
use Rattle.vault_model.specs.Said.{Effect}
use Rattle.vault_model.specs.declared.effects.Effect.TheVariants.{Made, Nested, Asked, Extended, Saved, CheckedIn, Abandoned, Given, Noted}
use Rattle.vault_state.specs.declared.claims.Item.{Item}
use Rattle.vault_state.proofs.Lists.{chosen}
use Rattle.vault_journal.specs.Spelling.{in_four, name_bytes, items_bytes, content_bytes, note_bytes, record_of, HasRecord}
use Rattle.vault_journal.specs.Reading.{◌>>=◌, u8_at, u32_at, name_at, items_at, content_at, note_at, claim_at, made_at, asked_at, extended_at, saved_at, checked_in_at, abandoned_at, given_at, noted_at, nested_at, effect_of_kind, effect_at}
use Rattle.vault_journal.specs.Laws.{AreBytes}
use Rattle.vault_journal.proofs.Takes.{bind_some, guard_passed, some_is, Takes, Takes-then, Takes-behind}
use Rattle.vault_journal.proofs.Fields.{u8_takes, u32_takes, u32_again, name_takes, name_again, items_take, items_again, content_takes, content_again, note_takes, note_again, claim_takes, claim_again}

abbrev IsRead : ℕ → List ℕ → Effect × List ℕ → Type 0
IsRead kind bytes x = Takes (kind ∷ bytes) (record_of x.0) x.1 × HasRecord x.0

made_takes : (bytes : List ℕ) (f : Effect) (rest : List ℕ) → AreBytes bytes → made_at bytes ≡ Some (f, rest) → IsRead 1 bytes (f, rest)
unfolding made_at
made_takes bytes f rest fits e =
    let a = bind_some (u32_at bytes) (λ parent. name_at parent.1 >>= λ child. Some (Made parent.0 child.0, child.1)) (f, rest) e in
    let b = bind_some (name_at a.0.1) (λ child. Some (Made a.0.0 child.0, child.1)) (f, rest) a.2 in
    let t = u32_takes bytes a.0.0 a.0.1 fits a.1 in
    let u = name_takes a.0.1 b.0.0 b.0.1 t.0.rest_fits b.1 in
    let joined = Takes-behind 1 bytes (in_four a.0.0 ++ name_bytes b.0.0) b.0.1 (Takes-then bytes (in_four a.0.0) a.0.1 (name_bytes b.0.0) b.0.1 t.0 u.0) in
    subst (IsRead 1 bytes) (some_is (Made a.0.0 b.0.0, b.0.1) (f, rest) b.2) (joined, (t.1, u.1))

asked_takes : (bytes : List ℕ) (f : Effect) (rest : List ℕ) → AreBytes bytes → asked_at bytes ≡ Some (f, rest) → IsRead 2 bytes (f, rest)
unfolding asked_at
asked_takes bytes f rest fits e =
    let a = bind_some (claim_at bytes) (λ claim. name_at claim.1 >>= λ owner. items_at owner.1 >>= λ items. Some (Asked claim.0 owner.0 items.0, items.1)) (f, rest) e in
    let b = bind_some (name_at a.0.1) (λ owner. items_at owner.1 >>= λ items. Some (Asked a.0.0 owner.0 items.0, items.1)) (f, rest) a.2 in
    let d = bind_some (items_at b.0.1) (λ items. Some (Asked a.0.0 b.0.0 items.0, items.1)) (f, rest) b.2 in
    let t = claim_takes bytes a.0.0 a.0.1 fits a.1 in
    let u = name_takes a.0.1 b.0.0 b.0.1 t.0.rest_fits b.1 in
    let v = items_take b.0.1 d.0.0 d.0.1 u.0.rest_fits d.1 in
    let first = Takes-then bytes (in_four a.0.0) a.0.1 (name_bytes b.0.0) b.0.1 t.0 u.0 in
    let all = Takes-then bytes (in_four a.0.0 ++ name_bytes b.0.0) b.0.1 (items_bytes d.0.0) d.0.1 first v.0 in
    subst (IsRead 2 bytes) (some_is (Asked a.0.0 b.0.0 d.0.0, d.0.1) (f, rest) d.2) (Takes-behind 2 bytes (in_four a.0.0 ++ name_bytes b.0.0 ++ items_bytes d.0.0) d.0.1 all, (t.1, u.1, v.1))

extended_takes : (bytes : List ℕ) (f : Effect) (rest : List ℕ) → AreBytes bytes → extended_at bytes ≡ Some (f, rest) → IsRead 3 bytes (f, rest)
unfolding extended_at
extended_takes bytes f rest fits e =
    let a = bind_some (claim_at bytes) (λ claim. items_at claim.1 >>= λ items. Some (Extended claim.0 items.0, items.1)) (f, rest) e in
    let b = bind_some (items_at a.0.1) (λ items. Some (Extended a.0.0 items.0, items.1)) (f, rest) a.2 in
    let t = claim_takes bytes a.0.0 a.0.1 fits a.1 in
    let u = items_take a.0.1 b.0.0 b.0.1 t.0.rest_fits b.1 in
    let all = Takes-then bytes (in_four a.0.0) a.0.1 (items_bytes b.0.0) b.0.1 t.0 u.0 in
    subst (IsRead 3 bytes) (some_is (Extended a.0.0 b.0.0, b.0.1) (f, rest) b.2) (Takes-behind 3 bytes (in_four a.0.0 ++ items_bytes b.0.0) b.0.1 all, (t.1, u.1))

saved_takes : (bytes : List ℕ) (f : Effect) (rest : List ℕ) → AreBytes bytes → saved_at bytes ≡ Some (f, rest) → IsRead 4 bytes (f, rest)
unfolding saved_at
saved_takes bytes f rest fits e =
    let a = bind_some (claim_at bytes) (λ claim. u32_at claim.1 >>= λ place. content_at place.1 >>= λ content. Some (Saved claim.0 place.0 content.0, content.1)) (f, rest) e in
    let b = bind_some (u32_at a.0.1) (λ place. content_at place.1 >>= λ content. Some (Saved a.0.0 place.0 content.0, content.1)) (f, rest) a.2 in
    let d = bind_some (content_at b.0.1) (λ content. Some (Saved a.0.0 b.0.0 content.0, content.1)) (f, rest) b.2 in
    let t = claim_takes bytes a.0.0 a.0.1 fits a.1 in
    let u = u32_takes a.0.1 b.0.0 b.0.1 t.0.rest_fits b.1 in
    let v = content_takes b.0.1 d.0.0 d.0.1 u.0.rest_fits d.1 in
    let first = Takes-then bytes (in_four a.0.0) a.0.1 (in_four b.0.0) b.0.1 t.0 u.0 in
    let all = Takes-then bytes (in_four a.0.0 ++ in_four b.0.0) b.0.1 (content_bytes d.0.0) d.0.1 first v.0 in
    subst (IsRead 4 bytes) (some_is (Saved a.0.0 b.0.0 d.0.0, d.0.1) (f, rest) d.2) (Takes-behind 4 bytes (in_four a.0.0 ++ in_four b.0.0 ++ content_bytes d.0.0) d.0.1 all, (t.1, u.1, v.1))

checked_in_takes : (bytes : List ℕ) (f : Effect) (rest : List ℕ) → AreBytes bytes → checked_in_at bytes ≡ Some (f, rest) → IsRead 5 bytes (f, rest)
unfolding checked_in_at
checked_in_takes bytes f rest fits e =
    let a = bind_some (claim_at bytes) (λ claim. Some (CheckedIn claim.0, claim.1)) (f, rest) e in
    let t = claim_takes bytes a.0.0 a.0.1 fits a.1 in
    subst (IsRead 5 bytes) (some_is (CheckedIn a.0.0, a.0.1) (f, rest) a.2) (Takes-behind 5 bytes (in_four a.0.0) a.0.1 t.0, t.1)

abandoned_takes : (bytes : List ℕ) (f : Effect) (rest : List ℕ) → AreBytes bytes → abandoned_at bytes ≡ Some (f, rest) → IsRead 6 bytes (f, rest)
unfolding abandoned_at
abandoned_takes bytes f rest fits e =
    let a = bind_some (claim_at bytes) (λ claim. Some (Abandoned claim.0, claim.1)) (f, rest) e in
    let t = claim_takes bytes a.0.0 a.0.1 fits a.1 in
    subst (IsRead 6 bytes) (some_is (Abandoned a.0.0, a.0.1) (f, rest) a.2) (Takes-behind 6 bytes (in_four a.0.0) a.0.1 t.0, t.1)

given_takes : (bytes : List ℕ) (f : Effect) (rest : List ℕ) → AreBytes bytes → given_at bytes ≡ Some (f, rest) → IsRead 7 bytes (f, rest)
unfolding given_at
given_takes bytes f rest fits e =
    let a = bind_some (claim_at bytes) (λ claim. name_at claim.1 >>= λ designer. Some (Given claim.0 designer.0, designer.1)) (f, rest) e in
    let b = bind_some (name_at a.0.1) (λ designer. Some (Given a.0.0 designer.0, designer.1)) (f, rest) a.2 in
    let t = claim_takes bytes a.0.0 a.0.1 fits a.1 in
    let u = name_takes a.0.1 b.0.0 b.0.1 t.0.rest_fits b.1 in
    let all = Takes-then bytes (in_four a.0.0) a.0.1 (name_bytes b.0.0) b.0.1 t.0 u.0 in
    subst (IsRead 7 bytes) (some_is (Given a.0.0 b.0.0, b.0.1) (f, rest) b.2) (Takes-behind 7 bytes (in_four a.0.0 ++ name_bytes b.0.0) b.0.1 all, (t.1, u.1))

noted_takes : (bytes : List ℕ) (f : Effect) (rest : List ℕ) → AreBytes bytes → noted_at bytes ≡ Some (f, rest) → IsRead 8 bytes (f, rest)
unfolding noted_at
noted_takes bytes f rest fits e =
    let a = bind_some (claim_at bytes) (λ claim. note_at claim.1 >>= λ note. Some (Noted claim.0 note.0, note.1)) (f, rest) e in
    let b = bind_some (note_at a.0.1) (λ note. Some (Noted a.0.0 note.0, note.1)) (f, rest) a.2 in
    let t = claim_takes bytes a.0.0 a.0.1 fits a.1 in
    let u = note_takes a.0.1 b.0.0 b.0.1 t.0.rest_fits b.1 in
    let all = Takes-then bytes (in_four a.0.0) a.0.1 (note_bytes b.0.0) b.0.1 t.0 u.0 in
    subst (IsRead 8 bytes) (some_is (Noted a.0.0 b.0.0, b.0.1) (f, rest) b.2) (Takes-behind 8 bytes (in_four a.0.0 ++ note_bytes b.0.0) b.0.1 all, (t.1, u.1))

nested_takes : (bytes : List ℕ) (f : Effect) (rest : List ℕ) → AreBytes bytes → nested_at bytes ≡ Some (f, rest) → IsRead 9 bytes (f, rest)
unfolding nested_at
nested_takes bytes f rest fits e =
    let a = bind_some (u32_at bytes) (λ parent. name_at parent.1 >>= λ child. Some (Nested parent.0 child.0, child.1)) (f, rest) e in
    let b = bind_some (name_at a.0.1) (λ child. Some (Nested a.0.0 child.0, child.1)) (f, rest) a.2 in
    let t = u32_takes bytes a.0.0 a.0.1 fits a.1 in
    let u = name_takes a.0.1 b.0.0 b.0.1 t.0.rest_fits b.1 in
    let joined = Takes-behind 9 bytes (in_four a.0.0 ++ name_bytes b.0.0) b.0.1 (Takes-then bytes (in_four a.0.0) a.0.1 (name_bytes b.0.0) b.0.1 t.0 u.0) in
    subst (IsRead 9 bytes) (some_is (Nested a.0.0 b.0.0, b.0.1) (f, rest) b.2) (joined, (t.1, u.1))

-- the kinds that are still to try, from each number on
abbrev from_nine : ℕ → List ℕ → Option (Effect × List ℕ)
from_nine kind bytes = cond (eqb kind 9) (nested_at bytes) None

abbrev from_eight : ℕ → List ℕ → Option (Effect × List ℕ)
from_eight kind bytes = cond (eqb kind 8) (noted_at bytes) (from_nine kind bytes)

abbrev from_seven : ℕ → List ℕ → Option (Effect × List ℕ)
from_seven kind bytes = cond (eqb kind 7) (given_at bytes) (from_eight kind bytes)

abbrev from_six : ℕ → List ℕ → Option (Effect × List ℕ)
from_six kind bytes = cond (eqb kind 6) (abandoned_at bytes) (from_seven kind bytes)

abbrev from_five : ℕ → List ℕ → Option (Effect × List ℕ)
from_five kind bytes = cond (eqb kind 5) (checked_in_at bytes) (from_six kind bytes)

abbrev from_four : ℕ → List ℕ → Option (Effect × List ℕ)
from_four kind bytes = cond (eqb kind 4) (saved_at bytes) (from_five kind bytes)

abbrev from_three : ℕ → List ℕ → Option (Effect × List ℕ)
from_three kind bytes = cond (eqb kind 3) (extended_at bytes) (from_four kind bytes)

abbrev from_two : ℕ → List ℕ → Option (Effect × List ℕ)
from_two kind bytes = cond (eqb kind 2) (asked_at bytes) (from_three kind bytes)

module _ (kind : ℕ) (bytes : List ℕ) (f : Effect) (rest : List ℕ) (fits : AreBytes bytes) where
  as_kind : (k : ℕ) → eqb kind k ≡ true → IsRead k bytes (f, rest) → IsRead kind bytes (f, rest)
  as_kind k is read = subst (λ (t : ℕ). IsRead t bytes (f, rest)) (sym (eqb-true kind k is)) read

  nine : from_nine kind bytes ≡ Some (f, rest) → IsRead kind bytes (f, rest)
  nine e = let g = guard_passed (eqb kind 9) (nested_at bytes) (f, rest) e in as_kind 9 g.0 (nested_takes bytes f rest fits g.1)

  eight : from_eight kind bytes ≡ Some (f, rest) → IsRead kind bytes (f, rest)
  eight e = elim (chosen (eqb kind 8) (noted_at bytes) (from_nine kind bytes) (Some (f, rest)) e) [ inl g ↦ as_kind 8 g.0 (noted_takes bytes f rest fits g.1) | inr g ↦ nine g.1 ]

  seven : from_seven kind bytes ≡ Some (f, rest) → IsRead kind bytes (f, rest)
  seven e = elim (chosen (eqb kind 7) (given_at bytes) (from_eight kind bytes) (Some (f, rest)) e) [ inl g ↦ as_kind 7 g.0 (given_takes bytes f rest fits g.1) | inr g ↦ eight g.1 ]

  six : from_six kind bytes ≡ Some (f, rest) → IsRead kind bytes (f, rest)
  six e = elim (chosen (eqb kind 6) (abandoned_at bytes) (from_seven kind bytes) (Some (f, rest)) e) [ inl g ↦ as_kind 6 g.0 (abandoned_takes bytes f rest fits g.1) | inr g ↦ seven g.1 ]

  five : from_five kind bytes ≡ Some (f, rest) → IsRead kind bytes (f, rest)
  five e = elim (chosen (eqb kind 5) (checked_in_at bytes) (from_six kind bytes) (Some (f, rest)) e) [ inl g ↦ as_kind 5 g.0 (checked_in_takes bytes f rest fits g.1) | inr g ↦ six g.1 ]

  four : from_four kind bytes ≡ Some (f, rest) → IsRead kind bytes (f, rest)
  four e = elim (chosen (eqb kind 4) (saved_at bytes) (from_five kind bytes) (Some (f, rest)) e) [ inl g ↦ as_kind 4 g.0 (saved_takes bytes f rest fits g.1) | inr g ↦ five g.1 ]

  three : from_three kind bytes ≡ Some (f, rest) → IsRead kind bytes (f, rest)
  three e = elim (chosen (eqb kind 3) (extended_at bytes) (from_four kind bytes) (Some (f, rest)) e) [ inl g ↦ as_kind 3 g.0 (extended_takes bytes f rest fits g.1) | inr g ↦ four g.1 ]

  two : from_two kind bytes ≡ Some (f, rest) → IsRead kind bytes (f, rest)
  two e = elim (chosen (eqb kind 2) (asked_at bytes) (from_three kind bytes) (Some (f, rest)) e) [ inl g ↦ as_kind 2 g.0 (asked_takes bytes f rest fits g.1) | inr g ↦ three g.1 ]

  pub kind_takes : effect_of_kind kind bytes ≡ Some (f, rest) → IsRead kind bytes (f, rest)
  unfolding effect_of_kind
  kind_takes e = elim (chosen (eqb kind 1) (made_at bytes) (from_two kind bytes) (Some (f, rest)) e) [ inl g ↦ as_kind 1 g.0 (made_takes bytes f rest fits g.1) | inr g ↦ two g.1 ]

pub effect_takes : (bytes : List ℕ) (f : Effect) (rest : List ℕ) → AreBytes bytes → effect_at bytes ≡ Some (f, rest) → Takes bytes (record_of f) rest × HasRecord f
unfolding effect_at
effect_takes bytes f rest fits e =
    let a = bind_some (u8_at bytes) (λ kind. effect_of_kind kind.0 kind.1) (f, rest) e in
    let t = u8_takes bytes a.0.0 a.0.1 fits a.1 in
    let read = kind_takes a.0.0 a.0.1 f rest t.0.rest_fits a.2 in
    (subst (λ (l : List ℕ). Takes l (record_of f) rest) (sym t.0.parts) read.0, read.1)

-- the record of an effect is read again, whatever follows
pub effect_again : (e : Effect) (rest : List ℕ) → HasRecord e → effect_at (record_of e ++ rest) ≡ Some (e, rest)
unfolding effect_at effect_of_kind made_at asked_at extended_at saved_at checked_in_at abandoned_at given_at noted_at nested_at
effect_again (Made parent child) rest has =
    let regrouped : (in_four parent ++ name_bytes child) ++ rest ≡ in_four parent ++ (name_bytes child ++ rest) = append_assoc (in_four parent) (name_bytes child) rest in
    ap (λ (l : List ℕ). made_at l) regrouped
    ∙ ap (λ (r : Option (ℕ × List ℕ)). r >>= λ parent. name_at parent.1 >>= λ child. Some (Made parent.0 child.0, child.1)) (u32_again parent (name_bytes child ++ rest) has.0)
    ∙ ap (λ (r : Option (List ℕ × List ℕ)). r >>= λ child. Some (Made parent child.0, child.1)) (name_again child rest has.1)
effect_again (Nested parent child) rest has =
    let regrouped : (in_four parent ++ name_bytes child) ++ rest ≡ in_four parent ++ (name_bytes child ++ rest) = append_assoc (in_four parent) (name_bytes child) rest in
    ap (λ (l : List ℕ). nested_at l) regrouped
    ∙ ap (λ (r : Option (ℕ × List ℕ)). r >>= λ parent. name_at parent.1 >>= λ child. Some (Nested parent.0 child.0, child.1)) (u32_again parent (name_bytes child ++ rest) has.0)
    ∙ ap (λ (r : Option (List ℕ × List ℕ)). r >>= λ child. Some (Nested parent child.0, child.1)) (name_again child rest has.1)
effect_again (Asked claim owner items) rest has =
    let regrouped : (in_four claim ++ name_bytes owner ++ items_bytes items) ++ rest ≡ in_four claim ++ (name_bytes owner ++ (items_bytes items ++ rest)) =
    append_assoc (in_four claim ++ name_bytes owner) (items_bytes items) rest ∙ append_assoc (in_four claim) (name_bytes owner) (items_bytes items ++ rest) in
    ap (λ (l : List ℕ). asked_at l) regrouped
    ∙ ap (λ (r : Option (ℕ × List ℕ)). r >>= λ claim. name_at claim.1 >>= λ owner. items_at owner.1 >>= λ items. Some (Asked claim.0 owner.0 items.0, items.1)) (claim_again claim (name_bytes owner ++ (items_bytes items ++ rest)) has.0)
    ∙ ap (λ (r : Option (List ℕ × List ℕ)). r >>= λ owner. items_at owner.1 >>= λ items. Some (Asked claim owner.0 items.0, items.1)) (name_again owner (items_bytes items ++ rest) has.1)
    ∙ ap (λ (r : Option (List Item × List ℕ)). r >>= λ items. Some (Asked claim owner items.0, items.1)) (items_again items rest has.2)
effect_again (Extended claim items) rest has =
    let regrouped : (in_four claim ++ items_bytes items) ++ rest ≡ in_four claim ++ (items_bytes items ++ rest) = append_assoc (in_four claim) (items_bytes items) rest in
    ap (λ (l : List ℕ). extended_at l) regrouped
    ∙ ap (λ (r : Option (ℕ × List ℕ)). r >>= λ claim. items_at claim.1 >>= λ items. Some (Extended claim.0 items.0, items.1)) (claim_again claim (items_bytes items ++ rest) has.0)
    ∙ ap (λ (r : Option (List Item × List ℕ)). r >>= λ items. Some (Extended claim items.0, items.1)) (items_again items rest has.1)
effect_again (Saved claim place content) rest has =
    let regrouped : (in_four claim ++ in_four place ++ content_bytes content) ++ rest ≡ in_four claim ++ (in_four place ++ (content_bytes content ++ rest)) =
    append_assoc (in_four claim ++ in_four place) (content_bytes content) rest ∙ append_assoc (in_four claim) (in_four place) (content_bytes content ++ rest) in
    ap (λ (l : List ℕ). saved_at l) regrouped
    ∙ ap (λ (r : Option (ℕ × List ℕ)). r >>= λ claim. u32_at claim.1 >>= λ place. content_at place.1 >>= λ content. Some (Saved claim.0 place.0 content.0, content.1)) (claim_again claim (in_four place ++ (content_bytes content ++ rest)) has.0)
    ∙ ap (λ (r : Option (ℕ × List ℕ)). r >>= λ place. content_at place.1 >>= λ content. Some (Saved claim place.0 content.0, content.1)) (u32_again place (content_bytes content ++ rest) has.1)
    ∙ ap (λ (r : Option (List ℕ × List ℕ)). r >>= λ content. Some (Saved claim place content.0, content.1)) (content_again content rest has.2)
effect_again (CheckedIn claim) rest has = ap (λ (r : Option (ℕ × List ℕ)). r >>= λ claim. Some (CheckedIn claim.0, claim.1)) (claim_again claim rest has)
effect_again (Abandoned claim) rest has = ap (λ (r : Option (ℕ × List ℕ)). r >>= λ claim. Some (Abandoned claim.0, claim.1)) (claim_again claim rest has)
effect_again (Given claim designer) rest has =
    let regrouped : (in_four claim ++ name_bytes designer) ++ rest ≡ in_four claim ++ (name_bytes designer ++ rest) = append_assoc (in_four claim) (name_bytes designer) rest in
    ap (λ (l : List ℕ). given_at l) regrouped
    ∙ ap (λ (r : Option (ℕ × List ℕ)). r >>= λ claim. name_at claim.1 >>= λ designer. Some (Given claim.0 designer.0, designer.1)) (claim_again claim (name_bytes designer ++ rest) has.0)
    ∙ ap (λ (r : Option (List ℕ × List ℕ)). r >>= λ designer. Some (Given claim designer.0, designer.1)) (name_again designer rest has.1)
effect_again (Noted claim note) rest has =
    let regrouped : (in_four claim ++ note_bytes note) ++ rest ≡ in_four claim ++ (note_bytes note ++ rest) = append_assoc (in_four claim) (note_bytes note) rest in
    ap (λ (l : List ℕ). noted_at l) regrouped
    ∙ ap (λ (r : Option (ℕ × List ℕ)). r >>= λ claim. note_at claim.1 >>= λ note. Some (Noted claim.0 note.0, note.1)) (claim_again claim (note_bytes note ++ rest) has.0)
    ∙ ap (λ (r : Option (List ℕ × List ℕ)). r >>= λ note. Some (Noted claim note.0, note.1)) (note_again note rest has.1)
