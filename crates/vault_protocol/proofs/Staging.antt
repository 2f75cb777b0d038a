-- A command gets its place in the history, and a line waits for its reply.
use Rattle.std.proofs.Common.{◌≡◌, ℕ, ◌+◌, ◌-◌, ◌^◌, ◌<◌, ◌==◌, ◌||◌, ◌&&◌, Bool, true, false, cond, List, [], ◌∷◌, ◌++◌, length, refl, sym, ap, ◌∙◌, arith, inl, inr, eq-eqb, slice_set, length-append, subst}
use Rattle.std.specs.Prelude.{nat_le, nat_lt, slice_index, Option, Some, None}
use Rattle.std.proofs.lemmas.Bool.{cond-false, leb-true, ltb-true, eqb-true, leb-false, ltb-false, le-leb, lt-ltb, and_from}
use Rattle.vault_state.proofs.Overlaps.{neither}
use Rattle.vault_model.specs.Said.{Command, Effect}
use Rattle.vault_model.specs.Step.{step}
use Rattle.vault_state.proofs.Lists.{refuted, and_never}
use Rattle.vault_journal.specs.Spelling.{record_of}
use Rattle.vault_store.specs.Seen.{StoreSeen, has_room, most_noted, last_tail}
use Rattle.group_commit.specs.World.{Stage}
use Rattle.group_commit.specs.View.{View, length_of, book_of, view_acted}
use Rattle.group_commit.specs.Entries.{opened}
use Rattle.group_commit.specs.History.{entry_of}
use Rattle.group_commit.specs.Seen.{VaultSeen, snapshot_length, most_kept}
use Rattle.group_commit.specs.Calls.{IsBusy, noted}
use Rattle.vault_protocol.specs.Talk.{Line, Awaited, Talk, is_full, noted_length, staged}
use Rattle.vault_model.specs.declared.replies.Outside.TheVariants.{Busy}
use Rattle.vault_lines.specs.Texts.{outside_text}
use Rattle.vault_protocol.specs.Script.{with_refusal, answered}

-- what contracts see of a runner
abbrev pub talk_of : {D : Type 0} → VaultSeen D → List ℕ → List ℕ → List Line → Talk
talk_of seen sessions asked lines = record { view = seen.view; buffer = length seen.store.buffer; generation = seen.store.generation; tail = seen.store.tail; sessions = sessions; asked = asked; lines = lines }

noted_size : {D : Type 0} (effect : Option Effect) (store : StoreSeen D) → length (noted effect store).buffer ≡ length store.buffer + noted_length effect
noted_size None store = omega arith
noted_size (Some effect) store = length-append store.buffer (record_of effect)

noted_tail : {D : Type 0} (effect : Option Effect) (store : StoreSeen D) → (noted effect store).tail ≡ store.tail
noted_tail None store = refl
noted_tail (Some effect) store = refl

noted_generation : {D : Type 0} (effect : Option Effect) (store : StoreSeen D) → (noted effect store).generation ≡ store.generation
noted_generation None store = refl
noted_generation (Some effect) store = refl

one_longer : (v : View) (session : ℕ) (command : Command) → length_of (view_acted snapshot_length v (Stage session command)) ≡ length_of v + 1
one_longer v session command = omega (arith, length-append v.kept (opened (entry_of (book_of v) session command) ∷ []))

-- a vault that isn't busy isn't full
pub not_full : {D : Type 0} (seen : VaultSeen D) (sessions asked : List ℕ) (lines : List Line) → (IsBusy seen → ⊥) → is_full (talk_of seen sessions asked lines) ≡ false
not_full seen sessions asked lines h =
    let kept : nat_le most_kept (length seen.view.kept) ≡ false = refuted _ (λ t. h (inl (leb-true _ _ t))) in
    let last : (length_of seen.view == 2 ^ 64 - 1) ≡ false = refuted _ (λ t. h (inr (inr (eqb-true _ _ t)))) in
    let buffer : nat_lt most_noted (length seen.store.buffer) ≡ false =
    refuted _ (λ t. h (inr (inl (ap (λ b. b && nat_lt seen.store.tail last_tail) (refuted (nat_le (length seen.store.buffer) most_noted) (λ u. let below = ltb-true _ _ t in let above = leb-true _ _ u in omega arith)))))) in
    let tail : nat_le last_tail seen.store.tail ≡ false =
    refuted _ (λ t. h (inr (inl (ap (λ b. nat_le (length seen.store.buffer) most_noted && b) (refuted (nat_lt seen.store.tail last_tail) (λ u. let below = leb-true _ _ t in let above = ltb-true _ _ u in omega arith)) ∙ and_never _)))) in
    ap (λ b. b || (length_of seen.view == 2 ^ 64 - 1) || nat_lt most_noted (length seen.store.buffer) || nat_le last_tail seen.store.tail) kept
    ∙ ap (λ b. b || nat_lt most_noted (length seen.store.buffer) || nat_le last_tail seen.store.tail) last
    ∙ ap (λ b. b || nat_le last_tail seen.store.tail) buffer ∙ tail

-- a busy one is
pub busy_is_full : {D : Type 0} (seen : VaultSeen D) (sessions asked : List ℕ) (lines : List Line) → IsBusy seen → is_full (talk_of seen sessions asked lines) ≡ true
busy_is_full seen sessions asked lines busy = by_test (is_full (talk_of seen sessions asked lines)) refl
  where
    none : is_full (talk_of seen sessions asked lines) ≡ false → ⊥
    none h =
        let most = nat_le most_kept (length seen.view.kept) in
        let last = length_of seen.view == 2 ^ 64 - 1 in
        let buffer = nat_lt most_noted (length seen.store.buffer) in
        let three = neither (most || last || buffer) (nat_le last_tail seen.store.tail) h in
        let two = neither (most || last) buffer three.0 in
        let one = neither most last two.0 in
        elim busy [
          | inl most ↦ let below : length seen.view.kept < most_kept = leb-false most_kept (length seen.view.kept) one.0 in absurd (omega (arith, below, most))
          | inr (inl room) ↦
              let buffer : nat_le (length seen.store.buffer) most_noted ≡ true = le-leb _ _ (ltb-false _ _ two.1) in
              let tail : nat_lt seen.store.tail last_tail ≡ true = lt-ltb _ _ (leb-false _ _ three.1) in
              let there : has_room seen.store ≡ true = and_from _ _ buffer tail in
              absurd (cc (sym there ∙ room))
          | inr (inr last) ↦ absurd (cc (sym (eq-eqb _ _ last) ∙ one.1))
        ]

    by_test : (b : Bool) → is_full (talk_of seen sessions asked lines) ≡ b → is_full (talk_of seen sessions asked lines) ≡ true
    by_test true e = e
    by_test false e = absurd (none e)

pub staged_talk : {D : Type 0} (old new : VaultSeen D) (sessions asked : List ℕ) (lines more : List Line) (now refused : Talk) (connection session place len : ℕ) (command : Command)
    → talk_of old sessions asked lines ≡ now
    → (IsBusy old → ⊥)
    → session ≡ slice_index sessions (connection - 1)
    → new.view ≡ view_acted snapshot_length old.view (Stage session command)
    → new.store ≡ noted (step (book_of old.view) session command).effect old.store
    → place ≡ connection - 1
    → len ≡ length_of new.view
    → more ≡ lines ++ Awaited connection (length_of old.view) ∷ []
    → talk_of new sessions (slice_set asked place len) more ≡ cond (is_full now) refused (staged now connection command)
staged_talk old new sessions asked lines more now refused connection session place len command is free is_session view store is_place is_len is_more =
    subst (λ (t : Talk). talk_of new sessions (slice_set asked place len) more ≡ cond (is_full t) refused (staged t connection command)) is
    (path ∙ sym (cond-false (is_full (talk_of old sessions asked lines)) refused (staged (talk_of old sessions asked lines) connection command) (not_full old sessions asked lines free)))
  where
    path : talk_of new sessions (slice_set asked place len) more ≡ staged (talk_of old sessions asked lines) connection command
    path = λ i. record {
      view = (view ∙ ap (λ s. view_acted snapshot_length old.view (Stage s command)) is_session) i;
      buffer = (ap (λ s. length s.buffer) store ∙ noted_size (step (book_of old.view) session command).effect old.store ∙ ap (λ s. length old.store.buffer + noted_length (step (book_of old.view) s command).effect) is_session) i;
      generation = (ap (λ s. s.generation) store ∙ noted_generation (step (book_of old.view) session command).effect old.store) i;
      tail = (ap (λ s. s.tail) store ∙ noted_tail (step (book_of old.view) session command).effect old.store) i;
      sessions = sessions;
      asked = (ap (λ p. slice_set asked p len) is_place ∙ ap (λ n. slice_set asked (connection - 1) n) (is_len ∙ ap length_of view ∙ one_longer old.view session command)) i;
      lines = is_more i;
    }

-- a command that a busy vault refused leaves all as it was, and its line is answered by the refusal
pub refused_talk : {D : Type 0} (old new : VaultSeen D) (sessions asked : List ℕ) (lines : List Line) (now : Talk) (connection : ℕ) (command : Command)
    → talk_of new sessions asked lines ≡ now
    → new ≡ old
    → IsBusy old
    → with_refusal (talk_of new sessions asked lines) connection (outside_text Busy) ≡ answered now connection (Some command)
refused_talk old new sessions asked lines now connection command is same busy =
    let full : is_full now ≡ true = ap is_full (sym is) ∙ ap (λ v. is_full (talk_of v sessions asked lines)) same ∙ busy_is_full old sessions asked lines busy in
    ap (λ t. with_refusal t connection (outside_text Busy)) is
    ∙ sym (ap (λ b. cond b (with_refusal now connection (outside_text Busy)) (staged now connection command)) full)
