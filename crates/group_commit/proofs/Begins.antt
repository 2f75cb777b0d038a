-- A vault at the beginning of a life.
use Rattle.std.proofs.Common.{◌≡◌, ℕ, false, List, [], refl, sym, subst, arith}
use Rattle.vault_state.specs.Vault.{Vault}
use Rattle.vault_model.specs.After.{IsDurable}
use Rattle.vault_device.specs.Disk.{Disk}
use Rattle.vault_store.specs.declared.phase.Phase.TheVariants.{Idle}
use Rattle.vault_store.specs.State.{at_rest}
use Rattle.vault_store.specs.Seen.{StoreSeen, Keeps}
use Rattle.group_commit.specs.Entries.{Kept}
use Rattle.group_commit.specs.View.{View, opened_view}
use Rattle.group_commit.specs.Seen.{VaultSeen, state_of}
use Rattle.group_commit.specs.Inside.{IsSoundVault}
use Rattle.group_commit.proofs.SoundViews.{opened_sound}

state_opened : (base : Vault) → IsDurable base → state_of (opened_view base) ≡ at_rest base
state_opened base d = λ i. record { settled = d i; sealed = d i; noted = d i; sealing = []; buffer = []; phase = Idle; broken = false }

abbrev begun : {D : Type 0} → Vault → List Kept → StoreSeen D → ℕ → VaultSeen D
begun base kept store life = record {
  view = record { base = base; kept = kept; settled = 0; sealed = 0; retired = 0; told = 0; phase = store.phase; broken = false };
  life = life;
  store = store;
}

pub begun_view : {D : Type 0} (disk : D → Disk) (base book : Vault) (kept : List Kept) (store : StoreSeen D) (life : ℕ) → base ≡ book → kept ≡ [] → Keeps disk store (at_rest book) → (begun base kept store life).view ≡ opened_view book
begun_view disk base book kept store life same none stands =
    λ i. record { base = same i; kept = none i; settled = 0; sealed = 0; retired = 0; told = 0; phase = stands.phase i; broken = false }

pub begun_kept : {D : Type 0} (disk : D → Disk) (base book : Vault) (kept : List Kept) (store : StoreSeen D) (life : ℕ) → base ≡ book → kept ≡ [] → Keeps disk store (at_rest book) → IsSoundVault disk (begun base kept store life) book
begun_kept disk base book kept store life same none stands =
    subst (λ (v : View). IsSoundVault disk (record { view = v; life = life; store = store }) book) (sym (begun_view disk base book kept store life same none stands))
    (record { book_is = refl; sound = opened_sound book stands.spelled.well_formed stands.spelled.durable; fits = omega arith; stands = subst (Keeps disk store) (sym (state_opened book stands.spelled.durable)) stands })
