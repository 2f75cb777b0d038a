-- What the start of a snapshot leaves.
use Rattle.std.proofs.Common.{◌≡◌, inr, ℕ, Bool, true, false, refl, sym, ap, ◌∙◌, subst}
use Rattle.vault_state.specs.Vault.{Vault, IsVault, durable}
use Rattle.vault_device.specs.Disk.{Disk}
use Rattle.vault_format.specs.Snapshot.{HasSnapshot}
use Rattle.vault_store.specs.Laws.{NotedIsSpelled}
use Rattle.vault_store.specs.Phases.{is_idle}
use Rattle.vault_store.specs.State.{started}
use Rattle.vault_store.specs.Seen.{StoreSeen, Keeps, MayStart as MayStartStore, started_seen}
use Rattle.group_commit.specs.World.{StartSnapshot}
use Rattle.group_commit.specs.View.{View, length_of, view_acted}
use Rattle.group_commit.specs.Seen.{VaultSeen, snapshot_length, state_of}
use Rattle.group_commit.specs.Calls.{MayStart}
use Rattle.group_commit.specs.Inside.{IsSoundVault}
use Rattle.group_commit.specs.Pasts.{IsAnswered}
use Rattle.group_commit.proofs.States.{state_started, book_well_formed}
use Rattle.group_commit.proofs.SoundViews.{started_sound}

module _ {D : Type 0} (disk : D → Disk) (seen : VaultSeen D) (book : Vault) (k : IsSoundVault disk seen book) where
  pub book_is_vault : IsVault book
  book_is_vault = subst IsVault (sym k.book_is) (book_well_formed seen.view k.sound)

  pub book_is_spelled : NotedIsSpelled disk → HasSnapshot (durable book)
  book_is_spelled law = subst (λ (v : Vault). HasSnapshot (durable v)) (sym k.book_is) (law seen.store (state_of seen.view) k.stands)

  -- the store may begin one where the vault may
  pub may_start : MayStartStore seen.store → MayStart seen
  may_start may = record { idle = sym k.stands.phase ∙ may.idle; fits = may.fits }

  pub store_may_start : MayStart seen → MayStartStore seen.store
  store_may_start may = record { idle = k.stands.phase ∙ may.idle; whole = k.stands.broken ∙ whole seen.view.broken refl; fits = may.fits }
    where
      whole : (b : Bool) → seen.view.broken ≡ b → b ≡ false
      whole true e = let clash : true ≡ false = sym (ap is_idle may.idle) ∙ k.sound.busy e in absurd (cc)
      whole false e = refl

  abbrev pub after_start : StoreSeen D → ℕ → VaultSeen D
  after_start store sealed = record { view = record seen.view { sealed = sealed; phase = store.phase }; life = seen.life; store = store }

  pub started_view : (store : StoreSeen D) (sealed : ℕ) → store ≡ started_seen seen.store (durable book) → sealed ≡ length_of seen.view
      → (after_start store sealed).view ≡ view_acted snapshot_length seen.view StartSnapshot
  started_view store sealed is n =
      let p = ap (λ (s : StoreSeen D). s.phase) is in
      λ i. record seen.view { sealed = n i; phase = p i }

  pub started_kept : (store : StoreSeen D) (sealed : ℕ) → store ≡ started_seen seen.store (durable book) → sealed ≡ length_of seen.view → MayStartStore seen.store
      → Keeps disk store (started (state_of seen.view)) → IsSoundVault disk (after_start store sealed) book
  started_kept store sealed is n may keeps =
      subst (λ (v : View). IsSoundVault disk (record { view = v; life = seen.life; store = store }) book) (sym (started_view store sealed is n))
      (record {
        book_is = k.book_is;
        sound = started_sound seen.view k.sound;
        fits = k.fits;
        stands = subst (Keeps disk store) (sym (state_started seen.view (sym k.stands.phase ∙ may.idle))) keeps;
      })

  pub started_is_answered : (store : StoreSeen D) (sealed : ℕ) → store ≡ started_seen seen.store (durable book) → sealed ≡ length_of seen.view → MayStartStore seen.store → IsAnswered seen (after_start store sealed)
  started_is_answered store sealed is n may = inr (StartSnapshot, record { allowed = (sym k.stands.broken ∙ may.whole, sym k.stands.phase ∙ may.idle); made = started_view store sealed is n; life = refl })
