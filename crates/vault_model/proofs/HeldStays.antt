-- A claim that is held and still stands after a step is held there.
use Rattle.std.specs.Prelude.{◌++◌, Option, ◌≡◌, Bool, true, false, not, List, [], ◌∷◌, All, Some, is_some, find, ◌⊎◌, refl}
use Rattle.std.proofs.Common.{sym, subst, ◌∙◌, cond, inl, inr}
use Rattle.std.proofs.lemmas.List.Elements.{All-weaker}
use Rattle.vault_state.specs.declared.place.Place.{Place}
use Rattle.vault_state.specs.declared.claims.Claim.{Claim}
use Rattle.vault_state.specs.declared.claims.Standing.TheVariants.{Held}
use Rattle.vault_state.specs.declared.ids.ClaimId.{ClaimId}
use Rattle.vault_state.specs.declared.ids.ClaimId.TheVariants.{Long, Short}
use Rattle.vault_state.specs.Claims.{given_to, noted_as, is_session, is_short, same_id, overlap, standing_behind, claim_of, before, standing_of}
use Rattle.vault_state.specs.Vault.{Vault, AreThere, IsClaim, IsVault}
use Rattle.vault_model.specs.Said.{Effect}
use Rattle.vault_state.specs.declared.place.Kind.TheVariants.{Assembly}
use Rattle.vault_state.specs.Tree.{new_place, kind_under}
use Rattle.vault_model.specs.Laws.{HeldStays, HeldIsDurable, HeldAreApart}
use Rattle.vault_state.proofs.Grown.{standing_of-grown}
use Rattle.vault_state.proofs.Stays.{held_there, stood, take_while-cons, standing_of-push, find-filter, held_none, held_kept, kept_there, same_id_is}
use Rattle.vault_model.proofs.Fronts.{none_passes, held_front}
use Rattle.vault_model.proofs.Meetings.{symmetric}
use Rattle.vault_model.proofs.Transitions.{Transition, left, made, nested, asked, taken, extended, checked_in, abandoned, given, noted, released, by_transition, by_count}
use Rattle.vault_state.proofs.InPlace.{standing_of-changed}

-- a claim is held, if it stands
abbrev IsHeldIn : ClaimId → Vault → Type 0
IsHeldIn id w = is_some (claim_of w.line id) ≡ true → standing_of w.tree w.line id ≡ Some Held

-- held stays held under each change
module _ (v : Vault) (id : ClaimId) (kept : IsVault v) (held : standing_of v.tree v.line id ≡ Some Held) where
  all_there : All (λ (c : Claim). AreThere v.tree c.items) v.line
  all_there = All-weaker (IsClaim v.tree v.sessions v.last_long v.last_short) (λ (c : Claim). AreThere v.tree c.items) (λ c h. h.there) v.line kept.claims

  transition_held : (effect : Option Effect) (w : Vault) → Transition v effect w → IsHeldIn id w
  transition_held effect w (made parent name can) stands =
      standing_of-grown v.tree (new_place parent name (kind_under v.tree parent)) kept.tree.parents can.there v.line id all_there ∙ held
  transition_held effect w (nested parent name can between) stands =
      standing_of-grown v.tree (new_place parent name Assembly) kept.tree.parents can.there v.line id all_there ∙ held
  transition_held effect w (asked designer items can) stands = standing_of-push v.tree v.line _ id (held_there v.tree v.line id held) ∙ held
  transition_held effect w (taken session items owner can) stands = standing_of-push v.tree v.line _ id (held_there v.tree v.line id held) ∙ held
  transition_held effect w (extended first claim items can) stands = held_front v.tree v.line first (claim.items ++ items) kept.apart (rw can.used.found refl) can.free id held
  transition_held effect w (left session) stands = held_kept (λ (c : Claim). not (is_session session c.owner)) v.tree v.line id kept.apart stands held
  transition_held effect w (checked_in number claim used fits) stands = held_kept (λ (c : Claim). not (same_id c.id (Long number))) v.tree v.line id kept.apart stands held
  transition_held effect w (abandoned number claim found) stands = held_kept (λ (c : Claim). not (same_id c.id (Long number))) v.tree v.line id kept.apart stands held
  transition_held effect w (given number designer claim found) stands = standing_of-changed (Long number) (given_to designer) (λ c. refl) (λ c. refl) v.tree v.line id ∙ held
  transition_held effect w (noted number text claim found short) stands = standing_of-changed (Long number) (noted_as text) (λ c. refl) (λ c. refl) v.tree v.line id ∙ held
  transition_held effect w (released number) stands = held_kept (λ (c : Claim). not (same_id c.id (Short number))) v.tree v.line id kept.apart stands held
  transition_held effect w change stands = held

pub held_stays : HeldStays
held_stays v n command id kept held =
    by_transition (λ effect w. IsHeldIn id w) v n command (λ effect w change. let h = transition_held v id kept held effect w change in by_count (IsHeldIn id) n w h h)

-- a long claim that is held is held in the durable vault
pub held_is_durable : HeldIsDurable
held_is_durable v n kept held =
    held_kept (λ (c : Claim). not (is_short c.id)) v.tree v.line (Long n) kept.apart (kept_there (λ (c : Claim). not (is_short c.id)) v.line (Long n) (λ c own. rw own refl) (held_there v.tree v.line (Long n) held)) held

-- of two claims of a line one stands before the other
ahead : (line : List Claim) (a b : ClaimId) (c d : Claim) → same_id a b ≡ false → claim_of line a ≡ Some c → claim_of line b ≡ Some d → (claim_of (before line b) a ≡ Some c) ⊎ (claim_of (before line a) b ≡ Some d)
ahead [] a b c d apart first second = cc
ahead (x ∷ line) a b c d apart first second =
    rw (take_while-cons (λ (e : Claim). not (same_id e.id b)) x line, take_while-cons (λ (e : Claim). not (same_id e.id a)) x line)
    (by_tests (same_id x.id a) refl (same_id x.id b) refl first second (ahead line a b c d apart))
  where
    by_tests : (s : Bool) → same_id x.id a ≡ s → (t : Bool) → same_id x.id b ≡ t → cond s (Some x) (claim_of line a) ≡ Some c → cond t (Some x) (claim_of line b) ≡ Some d
        → (claim_of line a ≡ Some c → claim_of line b ≡ Some d → (claim_of (before line b) a ≡ Some c) ⊎ (claim_of (before line a) b ≡ Some d))
        → (claim_of (cond (not t) (x ∷ before line b) []) a ≡ Some c) ⊎ (claim_of (cond (not s) (x ∷ before line a) []) b ≡ Some d)
    by_tests true g true h j k ih =
        let one : x.id ≡ a = same_id_is x.id a g in
        let clash : same_id a b ≡ true = subst (λ y. same_id y b ≡ true) one h in
        let no : true ≡ false = sym clash ∙ apart in
        cc
    by_tests true g false h j k ih = inl (rw g j)
    by_tests false g true h j k ih = inr (rw h k)
    by_tests false g false h j k ih = by_side (ih j k)
      where
        by_side : (claim_of (before line b) a ≡ Some c) ⊎ (claim_of (before line a) b ≡ Some d) → (claim_of (x ∷ before line b) a ≡ Some c) ⊎ (claim_of (x ∷ before line a) b ≡ Some d)
        by_side (inl e) = inl (rw g e)
        by_side (inr e) = inr (rw h e)

-- a held claim overlaps none that stands before it
clear_before : (tree : List Place) (line : List Claim) (a b : ClaimId) (c d : Claim) → claim_of line b ≡ Some d → standing_of tree line b ≡ Some Held → claim_of (before line b) a ≡ Some c → overlap tree d.items c.items ≡ false
clear_before tree line a b c d found held there =
    let behind : stood tree (before line b) (Some d) ≡ Some Held = subst (λ o. stood tree (before line b) o ≡ Some Held) found held in
    let is : standing_behind tree (before line b) d.items ≡ Held = cc in
    let none = held_none (find (λ e. overlap tree d.items e.items) (before line b)) is in
    none_passes (λ e. overlap tree d.items e.items) (λ _. true) (before line b) a c (find-filter (λ e. overlap tree d.items e.items) (λ _. true) (before line b) none) there refl

-- two held claims don't overlap
pub held_are_apart : HeldAreApart
held_are_apart tree line a b c d apart first second held other = by_side (ahead line a b c d apart first second)
  where
    by_side : (claim_of (before line b) a ≡ Some c) ⊎ (claim_of (before line a) b ≡ Some d) → overlap tree c.items d.items ≡ false
    by_side (inl e) = symmetric tree c.items d.items ∙ clear_before tree line a b c d second other e
    by_side (inr e) = clear_before tree line b a d c first held e
