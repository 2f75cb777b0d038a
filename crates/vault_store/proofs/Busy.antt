-- Whether a commit or a snapshot is under way.
use Rattle.std.proofs.Common.{◌≡◌, ◌⊎◌, inl, inr, ⊎_elim, Bool, true, false, refl, sym, ap, ◌∙◌}
use Rattle.std.proofs.lemmas.Bool.{false≢true}
use Rattle.vault_store.specs.declared.phase.Phase.{Phase}
use Rattle.vault_store.specs.declared.phase.Phase.TheVariants.{Idle, Written, Bodied, Opening, Start, Closing, Writing, Filled, Ready, SnapOpening}
use Rattle.vault_store.specs.Phases.{is_idle, is_snapshot, is_opening, may_open}

-- a phase is Idle, or not idle
pub idle_or_busy : (p : Phase) → (p ≡ Idle) ⊎ (is_idle p ≡ false)
idle_or_busy Idle = inl refl
idle_or_busy Written = inr refl
idle_or_busy Bodied = inr refl
idle_or_busy Opening = inr refl
idle_or_busy Start = inr refl
idle_or_busy Closing = inr refl
idle_or_busy (Writing left) = inr refl
idle_or_busy Filled = inr refl
idle_or_busy Ready = inr refl
idle_or_busy SnapOpening = inr refl

pub idle_is : (p : Phase) → is_idle p ≡ true → p ≡ Idle
idle_is p e = ⊎_elim (λ idle. idle) (λ busy. absurd (false≢true (sym busy ∙ e))) (idle_or_busy p)

-- what doesn't hold in Idle holds only of a phase under way
busy_where : (holds : Phase → Bool) → holds Idle ≡ false → (p : Phase) → holds p ≡ true → is_idle p ≡ false
busy_where holds not_idle p e = ⊎_elim (λ idle. absurd (false≢true (sym not_idle ∙ ap holds (sym idle) ∙ e))) (λ busy. busy) (idle_or_busy p)

pub snapshot_is_busy : (p : Phase) → is_snapshot p ≡ true → is_idle p ≡ false
snapshot_is_busy = busy_where is_snapshot refl

-- a gate is opened in a commit or a snapshot alone
pub opening_is_busy : (p : Phase) → is_opening p ≡ true → is_idle p ≡ false
opening_is_busy = busy_where is_opening refl

pub may_open_is_busy : (p : Phase) → may_open p ≡ true → is_idle p ≡ false
may_open_is_busy = busy_where may_open refl
