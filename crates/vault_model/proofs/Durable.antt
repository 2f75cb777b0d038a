-- An effect is the durable change.
use Rattle.std.specs.Prelude.{◌≡◌, ℕ, ◌+◌, ◌<◌, ◌≤◌, ◌==◌, ◌&&◌, nat_le, nat_lt, not, Bool, true, false, List, [], ◌∷◌, ◌++◌, length, filter, Option, None, Some, is_some, All, refl}
use Rattle.std.proofs.Common.{cond, ap, sym, subst, arith, length-append, ◌∙◌}
use Rattle.std.specs.Option.{option_and_then}
use Rattle.std.proofs.lemmas.Bool.Decides.{nat_tests}
use Rattle.std.proofs.lemmas.List.{append-nil}
use Rattle.std.proofs.lemmas.List.Elements.{filter-append, All-weaker, All-head, All-tail, All-cons, All-nil, All-append}
use Rattle.std.proofs.lemmas.List.Sums.{length-filter, count_by-le-length}
use Rattle.vault_state.specs.Limits.{most_items, most_claims, last_number}
use Rattle.vault_state.specs.Note.{is_note}
use Rattle.vault_state.specs.declared.place.Kind.TheVariants.{Assembly}
use Rattle.vault_state.specs.Tree.{child, is_part, is_full, kind_under, may_nest_under}
use Rattle.vault_model.specs.Said.{Effect}
use Rattle.vault_model.specs.declared.effects.Effect.TheVariants as effects
use Rattle.vault_state.specs.declared.place.Place.{Place}
use Rattle.vault_state.specs.declared.claims.Item.{Item}
use Rattle.vault_state.specs.declared.claims.Claim.{Claim}
use Rattle.vault_state.specs.declared.claims.Owner.{Owner}
use Rattle.vault_state.specs.declared.claims.Owner.TheVariants as owners
use Rattle.vault_state.specs.declared.ids.ClaimId.{ClaimId}
use Rattle.vault_state.specs.declared.ids.ClaimId.TheVariants.{Long, Short}
use Rattle.vault_state.specs.Claims.{changed, given_to, noted_as, new_check_out, new_hold, same_id, change_set, claim_of, without, without_short, is_short, is_session, is_held, put_first}
use Rattle.vault_state.specs.Vault.{Vault, AreThere, Owns, IsClaim, IsVault, durable, counted}
use Rattle.vault_model.specs.Step.{extension, may_save}
use Rattle.vault_state.specs.Shelf.{is_shelvable}
use Rattle.vault_state.proofs.Shelves.{true_le}
use Rattle.vault_state.specs.Drafts.{new_draft, drafts_of, without_drafts}
use Rattle.vault_model.specs.After.{only_if, are_there, may_make, may_ask, may_extend, after_made, after_nested, after_asked, drafts_held, after_extended, after_saved, after_checked_in, after_abandoned, after_given, after_noted, after, IsDurable, IsDurableChange}
use Rattle.vault_model.specs.Laws.{EffectIsTheDurableChange, DurableStays}
use Rattle.vault_state.proofs.Overlaps.{and_both, and_intro, eq_from, eq_itself}
use Rattle.vault_state.proofs.Stays.{own_id, claim_of-kept, held_kept, kept_there, claim_there}
use Rattle.vault_model.proofs.Fronts.{held_claim, stands_held}
use Rattle.vault_model.proofs.Kept.{kept_first, kept_without, kept_checked_in, kept_durable}
use Rattle.vault_model.proofs.Transitions.{CanMake, CanExtend, Transition, answered, joined, left, made, nested, asked, taken, extended, saved, checked_in, abandoned, given, noted, released, by_transition, by_count}
use Rattle.vault_state.proofs.InPlace.{one_id, filter-changed}
use Rattle.vault_model.proofs.KeptInPlace.{kept_given, kept_noted}
use Rattle.vault_model.specs.Changes.{gone, with_place, with_check_out, with_items, with_content, with_versions, without_check_out, with_owner, with_note}
use Rattle.vault_model.proofs.DraftsKept.{all_held, drafts_put_first}
use Rattle.vault_model.proofs.WellFormed.{transition_keeps, not_last}
use Rattle.vault_state.proofs.Lists.{not_false, three, four, five}

only_if_true : (b : Bool) (w : Vault) → b ≡ true → only_if b w ≡ Some w
only_if_true true w e = refl
only_if_true false w e = cc

only_if_some : (b : Bool) (w next : Vault) → only_if b w ≡ Some next → (b ≡ true) × (w ≡ next)
only_if_some true w next e = let same : w ≡ next = cc in (refl, same)
only_if_some false w next e = cc

pub all_there : (tree : List Place) (items : List Item) → AreThere tree items → are_there tree items ≡ true
all_there tree [] there = refl
all_there tree (item ∷ items) there =
    let here = All-head (λ (i : Item). i.place ≤ length tree) item items there in
    and_intro (nat_le item.place (length tree)) (are_there tree items) (grind (arith, nat_tests, here)) (all_there tree items (All-tail (λ (i : Item). i.place ≤ length tree) item items there))

pub there_all : (tree : List Place) (items : List Item) → are_there tree items ≡ true → AreThere tree items
there_all tree [] e = All-nil (λ (i : Item). i.place ≤ length tree)
there_all tree (item ∷ items) e =
    let both = and_both (nat_le item.place (length tree)) (are_there tree items) e in
    All-cons (λ (i : Item). i.place ≤ length tree) item items (grind (arith, nat_tests, both.0)) (there_all tree items both.1)

-- filters of a line
filter_swap : (p q : Claim → Bool) (line : List Claim) → filter p (filter q line) ≡ filter q (filter p line)
filter_swap p q [] = refl
filter_swap p q (x ∷ line) = by_tests (p x) refl (q x) refl (filter_swap p q line)
  where
    by_tests : (a : Bool) → p x ≡ a → (b : Bool) → q x ≡ b → filter p (filter q line) ≡ filter q (filter p line)
        → filter p (cond b (x ∷ filter q line) (filter q line)) ≡ filter q (cond a (x ∷ filter p line) (filter p line))
    by_tests true e true g ih = rw (e, g) (ap (λ rest. x ∷ rest) ih)
    by_tests true e false g ih = rw g ih
    by_tests false e true g ih = rw e ih
    by_tests false e false g ih = ih

filter_absorbs : (p q : Claim → Bool) (line : List Claim) → All (λ c. p c ≡ true → q c ≡ true) line → filter p (filter q line) ≡ filter p line
filter_absorbs p q [] all = refl
filter_absorbs p q (x ∷ line) all =
    by_tests (p x) refl (q x) refl (All-head (λ c. p c ≡ true → q c ≡ true) x line all) (filter_absorbs p q line (All-tail (λ c. p c ≡ true → q c ≡ true) x line all))
  where
    by_tests : (a : Bool) → p x ≡ a → (b : Bool) → q x ≡ b → (p x ≡ true → q x ≡ true) → filter p (filter q line) ≡ filter p line
        → filter p (cond b (x ∷ filter q line) (filter q line)) ≡ cond a (x ∷ filter p line) (filter p line)
    by_tests true e true g h ih = rw e (ap (λ rest. x ∷ rest) ih)
    by_tests true e false g h ih = let clash : true ≡ false = sym (h e) ∙ g in cc
    by_tests false e true g h ih = rw e ih
    by_tests false e false g h ih = ih

always : (P : Claim → Type 0) → ((c : Claim) → P c) → (line : List Claim) → All P line
always P each [] = All-nil P
always P each (x ∷ line) = All-cons P x line (each x) (always P each line)

abbrev lasts : Claim → Bool
lasts c = not (is_short c.id)

-- without one short claim, the long claims are the same
short_gone : (line : List Claim) (n : ℕ) → without_short (without line (Short n)) ≡ without_short line
short_gone line n = filter_absorbs lasts (λ (c : Claim). not (same_id c.id (Short n))) line (always (λ c. lasts c ≡ true → not (same_id c.id (Short n)) ≡ true) (λ c h. by_id c.id h) line)
  where
    by_id : (id : ClaimId) → not (is_short id) ≡ true → not (same_id id (Short n)) ≡ true
    by_id (Long m) e = refl
    by_id (Short m) e = cc

short_first : (line : List Claim) (n : ℕ) (items : List Item) (claim : Claim) → claim_of line (Short n) ≡ Some claim → without_short (put_first line (Short n) items) ≡ without_short line
short_first line n items claim found = rw found (rw (own_id line (Short n) claim found) (short_gone line n))

long_first : (line : List Claim) (n : ℕ) (items : List Item) (claim : Claim) → claim_of line (Long n) ≡ Some claim → claim_of (without_short line) (Long n) ≡ Some claim → without_short (put_first line (Long n) items) ≡ put_first (without_short line) (Long n) items
long_first line n items claim found lasting = rw (found, lasting) (by_id claim.id (own_id line (Long n) claim found))
  where
    by_id : (id : ClaimId) → id ≡ Long n → cond (not (is_short id)) (record claim { items = items } ∷ without_short (without line (Long n))) (without_short (without line (Long n))) ≡ record claim { items = items } ∷ without (without_short line) (Long n)
    by_id id e = rw e (ap (λ rest. record claim { items = items } ∷ rest) (filter_swap lasts (λ (c : Claim). not (same_id c.id (Long n))) line))

counted_durable : (n : ℕ) (w : Vault) → durable (counted n w) ≡ durable w
counted_durable n w = by_count (λ x. durable x ≡ durable w) n w refl refl

counted_change : (v : Vault) (n : ℕ) (effect : Option Effect) (w : Vault) → IsDurableChange v effect w → IsDurableChange v effect (counted n w)
counted_change v n None w change = counted_durable n w ∙ change
counted_change v n (Some effect) w change = change ∙ ap Some (sym (counted_durable n w))

-- each effect is applicable where its command may do it
makes : (w : Vault) (parent : ℕ) (name : List ℕ) → CanMake w.tree parent name → after w (effects.Made parent name) ≡ Some (with_place w parent name (kind_under w.tree parent))
unfolding after after_made
makes w parent name can = let there = can.there in let near : nat_le parent (length w.tree) ≡ true = grind (arith, nat_tests, there) in rw (near, can.above, can.fresh, can.room) refl

nests : (w : Vault) (parent : ℕ) (name : List ℕ) → CanMake w.tree parent name → may_nest_under w.tree parent ≡ true → after w (effects.Nested parent name) ≡ Some (with_place w parent name Assembly)
unfolding after after_nested
nests w parent name can between = let there = can.there in let near : nat_le parent (length w.tree) ≡ true = grind (arith, nat_tests, there) in rw (near, can.above, can.fresh, can.room, between) refl

asks_for : (w : Vault) (designer : List ℕ) (items : List Item) → 0 < length items → length items ≤ most_items → AreThere w.tree items → length w.line < most_claims → w.last_long < last_number
    → after w (effects.Asked (w.last_long + 1) designer items)
    ≡ Some (with_check_out w (w.last_long + 1) designer items)
unfolding after after_asked
asks_for w designer items some few there room below =
    let own : (w.last_long + 1 == w.last_long + 1) ≡ true = eq_itself (w.last_long + 1) in
    let any : (length items == 0) ≡ false = grind (arith, nat_tests, some) in
    let most : nat_le (length items) most_items ≡ true = grind (arith, nat_tests, few) in
    let free : nat_lt (length w.line) most_claims ≡ true = grind (arith, nat_tests, room) in
    let may : nat_le (w.last_long + 1) last_number ≡ true = grind (arith, nat_tests, below) in
    rw (own, any, most, all_there w.tree items there, free, may) refl

extends : (w : Vault) (number : ℕ) (claim : Claim) (items : List Item) → claim_of w.line (Long number) ≡ Some claim → is_held w.tree w.line claim ≡ true → length claim.items + length items ≤ most_items → AreThere w.tree items → drafts_held w.tree (put_first w.line (Long number) (claim.items ++ items)) w.drafts ≡ true
    → after w (effects.Extended number items) ≡ Some (with_items w (Long number) (claim.items ++ items))
unfolding after after_extended
extends w number claim items found held few there drafts = by_claim (claim_of w.line (Long number)) found
  where
    most : nat_le (length claim.items + length items) most_items ≡ true
    most = grind (arith, nat_tests, few)

    by_claim : (o : Option Claim) → o ≡ Some claim
        → option_and_then (λ (c : Claim). only_if (may_extend w c items && drafts_held w.tree (put_first w.line (Long number) (c.items ++ items)) w.drafts) (with_items w (Long number) (c.items ++ items))) o ≡ Some (with_items w (Long number) (claim.items ++ items))
    by_claim o e = rw e (only_if_true (may_extend w claim items && drafts_held w.tree (put_first w.line (Long number) (claim.items ++ items)) w.drafts) _
        (and_intro (may_extend w claim items) (drafts_held w.tree (put_first w.line (Long number) (claim.items ++ items)) w.drafts)
        (and_intro (is_held w.tree w.line claim && nat_le (length claim.items + length items) most_items) (are_there w.tree items)
        (and_intro (is_held w.tree w.line claim) (nat_le (length claim.items + length items) most_items) held most) (all_there w.tree items there)) drafts))

gives_up : (w : Vault) (number : ℕ) → is_some (claim_of w.line (Long number)) ≡ true → after w (effects.Abandoned number) ≡ Some (without_check_out w number)
unfolding after after_abandoned
gives_up w number stands = only_if_true (is_some (claim_of w.line (Long number))) _ stands

gives : (w : Vault) (number : ℕ) (designer : List ℕ) → is_some (claim_of w.line (Long number)) ≡ true → after w (effects.Given number designer) ≡ Some (with_owner w number designer)
unfolding after after_given
gives w number designer stands = only_if_true (is_some (claim_of w.line (Long number))) _ stands

notes : (w : Vault) (number : ℕ) (note : List ℕ) → is_some (claim_of w.line (Long number)) ≡ true → is_note note ≡ true → after w (effects.Noted number note) ≡ Some (with_note w number note)
unfolding after after_noted
notes w number note stands short = only_if_true (is_some (claim_of w.line (Long number)) && is_note note) _ (and_intro (is_some (claim_of w.line (Long number))) (is_note note) stands short)

saves : (w : Vault) (number place : ℕ) (content : List ℕ) (claim : Claim) → claim_of w.line (Long number) ≡ Some claim → is_held w.tree w.line claim ≡ true → place ≤ length w.tree → is_part w.tree place ≡ true
    → change_set w.tree claim.items place ≡ true → may_save w (new_draft number place content) ≡ true
    → after w (effects.Saved number place content) ≡ Some (with_content w number place content)
unfolding after after_saved
saves w number place content claim found held there part changed may =
    let near : nat_le place (length w.tree) ≡ true = grind (arith, nat_tests, there) in
    rw found (only_if_true _ _ (and_intro _ _ (and_intro _ _ (and_intro _ _ (and_intro (is_held w.tree w.line claim) (nat_le place (length w.tree)) held near) part) changed) may))

checks_in : (w : Vault) (number : ℕ) (claim : Claim) → claim_of w.line (Long number) ≡ Some claim → is_held w.tree w.line claim ≡ true → is_shelvable w.shelf (drafts_of w.drafts number) ≡ true
    → after w (effects.CheckedIn number) ≡ Some (with_versions w number)
unfolding after after_checked_in
checks_in w number claim found held fits = rw found (only_if_true _ _ (and_intro (is_held w.tree w.line claim) (is_shelvable w.shelf (drafts_of w.drafts number)) held fits))

module _ (v : Vault) (kept : IsVault v) where
  -- a long claim is in the durable vault as it is
  lasting : (number : ℕ) (claim : Claim) → claim_of v.line (Long number) ≡ Some claim → claim_of (without_short v.line) (Long number) ≡ Some claim
  lasting number claim found =
      let there = kept_there lasts v.line (Long number) (λ c own. rw own refl) (rw found refl) in
      claim_of-kept lasts v.line (Long number) kept.apart there ∙ found

  lasting_held : (number : ℕ) (claim : Claim) → claim_of v.line (Long number) ≡ Some claim → is_held v.tree v.line claim ≡ true → is_held v.tree (without_short v.line) claim ≡ true
  lasting_held number claim found held =
      let there = kept_there lasts v.line (Long number) (λ c own. rw own refl) (rw found refl) in
      held_claim v.tree (without_short v.line) (Long number) claim (lasting number claim found) (held_kept lasts v.tree v.line (Long number) kept.apart there (stands_held v.tree v.line (Long number) claim found held))

  -- a change and then `durable` gives the same as `durable` and then the change
  asked_lasts : (number : ℕ) (designer : List ℕ) (items : List Item) → durable (with_check_out v number designer items) ≡ with_check_out (durable v) number designer items
  asked_lasts number designer items = ap (λ line. record (durable v) { line = line; last_long = number }) (filter-append lasts v.line (new_check_out number designer items ∷ []))

  items_last : (number : ℕ) (claim : Claim) (items : List Item) → claim_of v.line (Long number) ≡ Some claim → durable (with_items v (Long number) items) ≡ with_items (durable v) (Long number) items
  items_last number claim items found = ap (λ line. record (durable v) { line = line }) (long_first v.line number items claim found (lasting number claim found))

  abandoned_lasts : (number : ℕ) → durable (without_check_out v number) ≡ without_check_out (durable v) number
  abandoned_lasts number = ap (λ line. record (durable v) { line = line; drafts = without_drafts v.drafts number }) (filter_swap lasts (λ (c : Claim). not (same_id c.id (Long number))) v.line)

  changed_lasts : (number : ℕ) (f : Claim → Claim) → ((c : Claim) → (f c).id ≡ c.id) → ((c : Claim) → (f c).items ≡ c.items) → without_short (changed v.line (Long number) f) ≡ changed (without_short v.line) (Long number) f
  changed_lasts number f own same = filter-changed (Long number) f own same lasts v.line (λ c. ap (λ k. not (is_short k)) (one_id (Long number) f own same c))

  owner_lasts : (number : ℕ) (designer : List ℕ) → durable (with_owner v number designer) ≡ with_owner (durable v) number designer
  owner_lasts number designer = ap (λ line. record (durable v) { line = line }) (changed_lasts number (given_to designer) (λ c. refl) (λ c. refl))

  note_lasts : (number : ℕ) (note : List ℕ) → durable (with_note v number note) ≡ with_note (durable v) number note
  note_lasts number note = ap (λ line. record (durable v) { line = line }) (changed_lasts number (noted_as note) (λ c. refl) (λ c. refl))

  versions_last : (number : ℕ) → durable (with_versions v number) ≡ with_versions (durable v) number
  versions_last number = ap (λ line. record (with_versions (durable v) number) { line = line }) (filter_swap lasts (λ (c : Claim). not (same_id c.id (Long number))) v.line)

  -- so one that was durable stays so
  stays : (f : Vault → Vault) → durable (f v) ≡ f (durable v) → IsDurable v → IsDurable (f v)
  stays f e d = e ∙ ap f d

  -- an effect of an extension
  extended_change : (id : ClaimId) (claim : Claim) (items : List Item) → CanExtend v id claim items → IsVault (with_items v id (claim.items ++ items)) → IsDurableChange v (extension id items) (with_items v id (claim.items ++ items))
  extended_change (Short k) claim items can next = ap (λ line. record (durable v) { line = line }) (short_first v.line k (claim.items ++ items) claim can.used.found)
  extended_change (Long k) claim items can next =
      let found = can.used.found in
      let moved = long_first v.line k (claim.items ++ items) claim found (lasting k claim found) in
      let drafts : drafts_held v.tree (put_first (without_short v.line) (Long k) (claim.items ++ items)) v.drafts ≡ true =
      subst (λ line. drafts_held v.tree line v.drafts ≡ true) moved (all_held v.tree (without_short (put_first v.line (Long k) (claim.items ++ items))) v.drafts (kept_durable (with_items v (Long k) (claim.items ++ items)) next).drafts.each) in
      extends (durable v) k claim items (lasting k claim found) (lasting_held k claim found can.used.held) can.few can.there drafts
      ∙ ap Some (sym (items_last k claim (claim.items ++ items) found))

  -- a session that leaves has no long claims
  gone_durable : (session : ℕ) → durable (gone v session) ≡ durable v
  gone_durable session = ap (λ line. record (durable v) { line = line }) (filter_absorbs lasts (λ (c : Claim). not (is_session session c.owner)) v.line (each v.line kept.claims))
    where
      by_owner : (owner : Owner) (id : ClaimId) → Owns v.sessions owner id → not (is_short id) ≡ true → not (is_session session owner) ≡ true
      by_owner (owners.Designer name) (Long k) owned e = refl
      by_owner (owners.Session number) (Short k) owned e = cc
      by_owner (owners.Designer name) (Short k) owned e = absurd owned
      by_owner (owners.Session number) (Long k) owned e = absurd owned

      each : (line : List Claim) → All (IsClaim v.tree v.sessions v.last_long v.last_short) line → All (λ c. lasts c ≡ true → not (is_session session c.owner) ≡ true) line
      each line claims = All-weaker (IsClaim v.tree v.sessions v.last_long v.last_short) (λ c. lasts c ≡ true → not (is_session session c.owner) ≡ true) (λ c h. by_owner c.owner c.id h.owned) line claims

  -- each change is its effect, made on the durable vault
  transition_durable : (effect : Option Effect) (w : Vault) → Transition v effect w → IsDurableChange v effect w
  transition_durable effect w answered = refl
  transition_durable effect w (joined name room unspent) = refl
  transition_durable effect w (left session) = gone_durable session
  transition_durable effect w (made parent name can) = makes (durable v) parent name can
  transition_durable effect w (nested parent name can between) = nests (durable v) parent name can between
  transition_durable effect w (asked designer items can) =
      let room = can.room in
      let shorter = length-filter lasts v.line in
      let bound = count_by-le-length lasts v.line in
      let fewer : length (without_short v.line) < most_claims = omega arith in
      asks_for (durable v) designer items can.some can.few can.there fewer (not_last v.last_long kept.numbers.long can.unspent)
      ∙ ap Some (sym (asked_lasts (v.last_long + 1) designer items))
  transition_durable effect w (taken session items stands can) =
      ap (λ line. record (durable v) { line = line }) (filter-append lasts v.line (new_hold (v.last_short + 1) session items ∷ []) ∙ append-nil (without_short v.line))
  transition_durable effect w (extended id claim items can) = extended_change id claim items can (transition_keeps v kept _ _ (extended id claim items can))
  transition_durable effect w (saved claim number place content can) =
      let found = can.used.found in
      saves (durable v) number place content claim (lasting number claim found) (lasting_held number claim found can.used.held) can.there can.part can.changed can.limits
  transition_durable effect w (checked_in number claim used fits) =
      checks_in (durable v) number claim (lasting number claim used.found) (lasting_held number claim used.found used.held) fits
      ∙ ap Some (sym (versions_last number))
  transition_durable effect w (abandoned number claim found) =
      gives_up (durable v) number (rw (lasting number claim found) refl) ∙ ap Some (sym (abandoned_lasts number))
  transition_durable effect w (given number designer claim found) =
      gives (durable v) number designer (rw (lasting number claim found) refl) ∙ ap Some (sym (owner_lasts number designer))
  transition_durable effect w (noted number text claim found short) =
      notes (durable v) number text (rw (lasting number claim found) refl) short ∙ ap Some (sym (note_lasts number text))
  transition_durable effect w (released number) = ap (λ line. record (durable v) { line = line }) (short_gone v.line number)

pub effect_is_the_durable_change : EffectIsTheDurableChange
effect_is_the_durable_change v n command kept = by_transition (λ effect w. IsDurableChange v effect w) v n command (λ effect w change. counted_change v n effect w (transition_durable v kept effect w change))

-- a line of durable claims has no short ones
module _ (w : Vault) (kept : IsVault w) where
  can_make : (parent : ℕ) (name : List ℕ) → may_make w parent name ≡ true → CanMake w.tree parent name
  can_make parent name may =
      let all = four (nat_le parent (length w.tree)) (not (is_part w.tree parent)) (not (is_some (child w.tree parent name))) (not (is_full w.tree parent)) may in
      record { there = grind (arith, nat_tests, all.0); above = not_false (is_part w.tree parent) all.1; fresh = not_false _ all.2; room = not_false (is_full w.tree parent) all.3 }

  made_stays : (parent : ℕ) (name : List ℕ) (next : Vault) → after_made w parent name ≡ Some next → IsVault next × (IsDurable w → IsDurable next)
  unfolding after_made
  made_stays parent name next e =
      let is = only_if_some (may_make w parent name) _ next e in
      subst (λ (x : Vault). IsVault x × (IsDurable w → IsDurable x)) is.1
      (transition_keeps w kept _ _ (made parent name (can_make parent name is.0)), stays w kept (λ x. with_place x parent name (kind_under w.tree parent)) refl)

  nested_stays : (parent : ℕ) (name : List ℕ) (next : Vault) → after_nested w parent name ≡ Some next → IsVault next × (IsDurable w → IsDurable next)
  unfolding after_nested
  nested_stays parent name next e =
      let is = only_if_some (may_make w parent name && may_nest_under w.tree parent) _ next e in
      let both = and_both (may_make w parent name) (may_nest_under w.tree parent) is.0 in
      subst (λ (x : Vault). IsVault x × (IsDurable w → IsDurable x)) is.1
      (transition_keeps w kept _ _ (nested parent name (can_make parent name both.0) both.1), stays w kept (λ x. with_place x parent name Assembly) refl)

  asked_stays : (number : ℕ) (designer : List ℕ) (items : List Item) (next : Vault) → after_asked w number designer items ≡ Some next → IsVault next × (IsDurable w → IsDurable next)
  unfolding after_asked
  asked_stays number designer items next e =
      let is = only_if_some (may_ask w number items) _ next e in
      let last = and_both ((number == w.last_long + 1) && not (length items == 0) && nat_le (length items) most_items && are_there w.tree items && nat_lt (length w.line) most_claims) (nat_le number last_number) is.0 in
      let all = five (number == w.last_long + 1) (not (length items == 0)) (nat_le (length items) most_items) (are_there w.tree items) (nat_lt (length w.line) most_claims) last.0 in
      let own : number ≡ w.last_long + 1 = eq_from number (w.last_long + 1) all.0 in
      let any = not_false (length items == 0) all.1 in
      let some : 0 < length items = grind (arith, nat_tests, any) in
      let few : length items ≤ most_items = grind (arith, nat_tests, all.2) in
      let room : length w.line < most_claims = grind (arith, nat_tests, all.4) in
      let below = true_le number last_number last.1 in
      let unspent : (w.last_long == last_number) ≡ false = grind (arith, nat_tests, own, below) in
      subst (λ (x : Vault). IsVault x × (IsDurable w → IsDurable x)) is.1 (
        rw own (transition_keeps w kept _ _ (asked designer items (record { some = some; few = few; there = there_all w.tree items all.3; room = room; unspent = unspent }))),
        stays w kept (λ x. with_check_out x number designer items) (asked_lasts w kept number designer items),
      )

  abandoned_stays : (number : ℕ) (next : Vault) → after_abandoned w number ≡ Some next → IsVault next × (IsDurable w → IsDurable next)
  unfolding after_abandoned
  abandoned_stays number next e =
      let is = only_if_some (is_some (claim_of w.line (Long number))) _ next e in
      subst (λ (x : Vault). IsVault x × (IsDurable w → IsDurable x)) is.1 (
        kept_without w kept number,
        stays w kept (λ x. without_check_out x number) (abandoned_lasts w kept number),
      )

  given_stays : (number : ℕ) (designer : List ℕ) (next : Vault) → after_given w number designer ≡ Some next → IsVault next × (IsDurable w → IsDurable next)
  unfolding after_given
  given_stays number designer next e =
      let is = only_if_some (is_some (claim_of w.line (Long number))) _ next e in
      subst (λ (x : Vault). IsVault x × (IsDurable w → IsDurable x)) is.1 (
        kept_given w kept number designer,
        stays w kept (λ x. with_owner x number designer) (owner_lasts w kept number designer),
      )

  noted_stays : (number : ℕ) (note : List ℕ) (next : Vault) → after_noted w number note ≡ Some next → IsVault next × (IsDurable w → IsDurable next)
  unfolding after_noted
  noted_stays number note next e =
      let is = only_if_some (is_some (claim_of w.line (Long number)) && is_note note) _ next e in
      let both = and_both (is_some (claim_of w.line (Long number))) (is_note note) is.0 in
      subst (λ (x : Vault). IsVault x × (IsDurable w → IsDurable x)) is.1 (
        kept_noted w kept number note (true_le _ _ both.1),
        stays w kept (λ x. with_note x number note) (note_lasts w kept number note),
      )

  extended_stays : (number : ℕ) (items : List Item) (next : Vault) → after_extended w number items ≡ Some next → IsVault next × (IsDurable w → IsDurable next)
  unfolding after_extended
  extended_stays number items next e = by_claim (claim_of w.line (Long number)) refl e
    where
      by_claim : (o : Option Claim) → claim_of w.line (Long number) ≡ o
          → option_and_then (λ (claim : Claim). only_if (may_extend w claim items && drafts_held w.tree (put_first w.line (Long number) (claim.items ++ items)) w.drafts) (with_items w (Long number) (claim.items ++ items))) o ≡ Some next
          → IsVault next × (IsDurable w → IsDurable next)
      by_claim None found h = cc
      by_claim (Some claim) found h =
          let is = only_if_some (may_extend w claim items && drafts_held w.tree (put_first w.line (Long number) (claim.items ++ items)) w.drafts) _ next h in
          let two = and_both (may_extend w claim items) (drafts_held w.tree (put_first w.line (Long number) (claim.items ++ items)) w.drafts) is.0 in
          let all = three (is_held w.tree w.line claim) (nat_le (length claim.items + length items) most_items) (are_there w.tree items) two.0 in
          let drafts = drafts_put_first w.tree w.line (Long number) claim items w.drafts kept.apart found two.1 kept.drafts in
          let own = claim_there (IsClaim w.tree w.sessions w.last_long w.last_short) w.line (Long number) kept.claims claim found in
          let longer = length-append claim.items items in
          let before = own.some in
          let some : 0 < length (claim.items ++ items) = omega arith in
          let few : length (claim.items ++ items) ≤ most_items = grind (arith, nat_tests, all.1, longer) in
          subst (λ (x : Vault). IsVault x × (IsDurable w → IsDurable x)) is.1 (
            kept_first w kept (Long number) claim (claim.items ++ items) found some few (All-append (λ (item : Item). item.place ≤ length w.tree) claim.items items own.there (there_all w.tree items all.2)) drafts,
            stays w kept (λ x. with_items x (Long number) (claim.items ++ items)) (items_last w kept number claim (claim.items ++ items) found),
          )

  saved_stays : (number place : ℕ) (content : List ℕ) (next : Vault) → after_saved w number place content ≡ Some next → IsVault next × (IsDurable w → IsDurable next)
  unfolding after_saved
  saved_stays number place content next e = by_claim (claim_of w.line (Long number)) refl e
    where
      by_claim : (o : Option Claim) → claim_of w.line (Long number) ≡ o
          → option_and_then
          (λ (claim : Claim).
          only_if
          (is_held w.tree w.line claim && nat_le place (length w.tree) && is_part w.tree place && change_set w.tree claim.items place && may_save w (new_draft number place content))
          (with_content w number place content))
          o ≡ Some next
          → IsVault next × (IsDurable w → IsDurable next)
      by_claim None found h = cc
      by_claim (Some claim) found h =
          let is = only_if_some (is_held w.tree w.line claim && nat_le place (length w.tree) && is_part w.tree place && change_set w.tree claim.items place && may_save w (new_draft number place content)) _ next h in
          let all = five (is_held w.tree w.line claim) (nat_le place (length w.tree)) (is_part w.tree place) (change_set w.tree claim.items place) (may_save w (new_draft number place content)) is.0 in
          subst (λ (x : Vault). IsVault x × (IsDurable w → IsDurable x)) is.1 (
            transition_keeps w kept _ _ (saved claim number place content (record { used = record { found = found; held = all.0 }; there = true_le _ _ all.1; part = all.2; changed = all.3; limits = all.4 })),
            stays w kept (λ x. with_content x number place content) refl,
          )

  checked_in_stays : (number : ℕ) (next : Vault) → after_checked_in w number ≡ Some next → IsVault next × (IsDurable w → IsDurable next)
  unfolding after_checked_in
  checked_in_stays number next e = by_claim (claim_of w.line (Long number)) refl e
    where
      by_claim : (o : Option Claim) → claim_of w.line (Long number) ≡ o
          → option_and_then
          (λ (claim : Claim).
          only_if (is_held w.tree w.line claim && is_shelvable w.shelf (drafts_of w.drafts number))
          (with_versions w number))
          o ≡ Some next
          → IsVault next × (IsDurable w → IsDurable next)
      by_claim None found h = cc
      by_claim (Some claim) found h =
          let is = only_if_some (is_held w.tree w.line claim && is_shelvable w.shelf (drafts_of w.drafts number)) _ next h in
          let both = and_both (is_held w.tree w.line claim) (is_shelvable w.shelf (drafts_of w.drafts number)) is.0 in
          subst (λ (x : Vault). IsVault x × (IsDurable w → IsDurable x)) is.1 (
            kept_checked_in w kept number both.1,
            stays w kept (λ x. with_versions x number) (versions_last w kept number),
          )

pub durable_stays : DurableStays
unfolding after
durable_stays w next (effects.Made parent name) kept e = made_stays w kept parent name next e
durable_stays w next (effects.Nested parent name) kept e = nested_stays w kept parent name next e
durable_stays w next (effects.Asked number designer items) kept e = asked_stays w kept number designer items next e
durable_stays w next (effects.Extended number items) kept e = extended_stays w kept number items next e
durable_stays w next (effects.Saved number place content) kept e = saved_stays w kept number place content next e
durable_stays w next (effects.CheckedIn number) kept e = checked_in_stays w kept number next e
durable_stays w next (effects.Abandoned number) kept e = abandoned_stays w kept number next e
durable_stays w next (effects.Given number designer) kept e = given_stays w kept number designer next e
durable_stays w next (effects.Noted number note) kept e = noted_stays w kept number note next e
