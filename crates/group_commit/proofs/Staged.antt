-- What staging a command leaves.
use Rattle.std.proofs.Common.{◌≡◌, ◌≢◌, ℕ, ◌+◌, ◌-◌, ◌^◌, ◌<◌, List, [], ◌∷◌, ◌++◌, length, Option, None, Some, sym, ap, ◌∙◌, subst, arith, length-append}
use Rattle.std.specs.Prelude.{IfSome}
use Rattle.vault_model.specs.Said.{Command, Reply, Effect}
use Rattle.vault_state.specs.Vault.{Vault, CountsBelow, durable}
use Rattle.vault_model.specs.Step.{step}
use Rattle.vault_model.specs.After.{after}
use Rattle.vault_device.specs.Disk.{Disk}
use Rattle.vault_store.specs.State.{StoreState, with_effect}
use Rattle.vault_store.specs.Seen.{StoreSeen, Keeps}
use Rattle.group_commit.specs.Entries.{Kept, opened}
use Rattle.group_commit.specs.History.{number_of, entry_of}
use Rattle.group_commit.specs.View.{View, length_of, book_of}
use Rattle.group_commit.specs.Seen.{VaultSeen, most_kept, state_of}
use Rattle.group_commit.specs.Inside.{IsSoundVault}
use Rattle.group_commit.specs.Calls.{noted}
use Rattle.group_commit.proofs.HasRecords.{HasOne, step_has_record}
use Rattle.group_commit.proofs.States.{staged, book_staged, book_well_formed, state_noted, state_silent, effect_applies}
use Rattle.group_commit.proofs.SoundViews.{staged_sound, counts_fit}

-- what noting an effect keeps
abbrev pub Notes : {D : Type 0} → (D → Disk) → StoreSeen D → StoreSeen D → Effect → Type 0
Notes disk old new effect = (s : StoreState) (next : Vault) → Keeps disk old s → after s.noted effect ≡ Some next → Keeps disk new (with_effect s effect next)

-- a length that isn't the greatest
pub another_fits : (length position : ℕ) → position ≡ length → length < 2 ^ 64 → position ≢ 2 ^ 64 - 1 → length < 2 ^ 64 - 1
another_fits length position is fits most = omega (arith, is, fits, most)

-- one position more
staged_fits : (retired : ℕ) (kept : List Kept) (entry : Kept) → retired + length kept < 2 ^ 64 - 1 → retired + length (kept ++ entry ∷ []) < 2 ^ 64
staged_fits retired kept entry last = let more : length (kept ++ entry ∷ []) ≡ length kept + 1 = length-append kept (entry ∷ []) in omega arith

module _ {D : Type 0} (disk : D → Disk) (seen : VaultSeen D) (book : Vault) (session : ℕ) (command : Command) (k : IsSoundVault disk seen book) where
  pub counts_are_few : length_of seen.view < 2 ^ 64 - 1 → CountsBelow (2 ^ 64 - 1) book
  counts_are_few h = subst (CountsBelow (2 ^ 64 - 1)) (sym k.book_is) (counts_fit seen.view (2 ^ 64 - 1) h k.sound)

  pub has_record : (effect : Option Effect) → effect ≡ (step book session command).effect → HasOne effect
  has_record effect e = subst HasOne (sym (e ∙ ap (λ b. (step b session command).effect) k.book_is)) (step_has_record (book_of seen.view) session command (book_well_formed seen.view k.sound))

  stands : (effect : Option Effect) (store : StoreSeen D) → effect ≡ (step (book_of seen.view) session command).effect → store ≡ noted effect seen.store → IfSome effect (Notes disk seen.store store) → Keeps disk store (state_of (staged seen.view session command))
  stands None store e same notes = subst (λ s. Keeps disk s (state_of (staged seen.view session command))) (sym same) (subst (Keeps disk seen.store) (sym (state_silent seen.view session command k.sound (sym e))) k.stands)
  stands (Some effect) store e same notes =
      subst (Keeps disk store) (sym (state_noted seen.view session command k.sound effect (sym e)))
      (notes (state_of seen.view) (durable (step (book_of seen.view) session command).vault) k.stands (effect_applies seen.view session command k.sound effect (sym e)))

  same_phase : (effect : Option Effect) (store : StoreSeen D) → store ≡ noted effect seen.store → store.phase ≡ seen.store.phase
  same_phase None store e = ap (λ (s : StoreSeen D). s.phase) e
  same_phase (Some effect) store e = ap (λ (s : StoreSeen D). s.phase) e

  pub stage_kept : (effect : Option Effect) (store : StoreSeen D) (before next : Vault) (reply : Reply) (entry : Kept) (kept : List Kept) → seen.store.phase ≡ seen.view.phase → length seen.view.kept < most_kept → length_of seen.view < 2 ^ 64 - 1
      → effect ≡ (step book session command).effect → store ≡ noted effect seen.store → IfSome effect (Notes disk seen.store store) → before ≡ book → reply ≡ (step book session command).reply
      → entry ≡ opened (record { session = session; number = number_of before session; command = command; reply = reply }) → kept ≡ seen.view.kept ++ entry ∷ [] → next ≡ (step book session command).vault
      → IsSoundVault disk (record { view = record seen.view { kept = kept; phase = store.phase }; life = seen.life; store = store }) next
  stage_kept effect store before next reply entry kept phase room last e same notes b r is more n =
      let here : before ≡ book_of seen.view = b ∙ k.book_is in
      let told : reply ≡ (step (book_of seen.view) session command).reply = r ∙ ap (λ x. (step x session command).reply) k.book_is in
      let given : entry ≡ opened (entry_of (book_of seen.view) session command) = is ∙ (λ i. opened (record { session = session; number = number_of (here i) session; command = command; reply = told i })) in
      let list = more ∙ ap (λ x. seen.view.kept ++ x ∷ []) given in
      let stays = same_phase effect store same ∙ phase in
      subst (λ (v : View). IsSoundVault disk (record { view = v; life = seen.life; store = store }) next) (λ i. record seen.view { kept = (sym list) i; phase = (sym stays) i })
      (record {
        book_is = n ∙ ap (λ x. (step x session command).vault) k.book_is ∙ sym (book_staged seen.view session command);
        sound = staged_sound seen.view session command room k.sound;
        fits = staged_fits seen.view.retired seen.view.kept (opened (entry_of (book_of seen.view) session command)) last;
        stands = stands effect store (e ∙ ap (λ x. (step x session command).effect) k.book_is) same notes;
      })
