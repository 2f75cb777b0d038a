-- Pumps, one after another.
use Rattle.std.proofs.Common.{◌≡◌, ◌≢◌, ℕ, ◌+◌, ◌^◌, ◌&&◌, Bool, true, false, not, cond, List, [], length, refl, sym, ap, ◌∙◌, subst}
use Rattle.std.specs.Prelude.{nat_lt, Result, Ok}
use Rattle.std.proofs.lemmas.Bool.{and_from, and_parts, lt-ltb, ltb-true}
use Rattle.vault_state.specs.Vault.{durable}
use Rattle.vault_device.specs.declared.device.Fault.{Fault}
use Rattle.vault_store.specs.declared.phase.Advanced.{Advanced as Pumped}
use Rattle.vault_store.specs.declared.phase.Advanced.TheVariants as answers
use Rattle.vault_store.specs.declared.starting.Started.{Started}
use Rattle.vault_store.specs.declared.starting.Started.TheVariants as starts
use Rattle.vault_store.specs.Phases.{is_idle}
use Rattle.vault_store.specs.Seen.{started_seen}
use Rattle.group_commit.specs.World.{Pump, StartSnapshot}
use Rattle.group_commit.specs.View.{book_of, view_row, view_acted}
use Rattle.group_commit.specs.Seen.{VaultSeen, snapshot_length}
use Rattle.group_commit.specs.Calls.{AreNumbers, MayStart, generation_after, tail_after}
use Rattle.vault_store.proofs.Busy.{idle_is}
use Rattle.vault_protocol.specs.Talk.{Line, Talk, pumped, may_start, started}
use Rattle.vault_protocol.proofs.Staging.{talk_of}
use Rattle.vault_state.proofs.Lists.{refuted}

same_answer : (a b : Pumped) (e : ◌≡◌ {A = Result Pumped Fault} (Ok a) (Ok b)) → a ≡ b
same_answer a b e = cc e

emptied : (idle : Bool) (buffer : List ℕ) → length (cond (idle && true) [] buffer) ≡ cond idle 0 (length buffer)
emptied true buffer = refl
emptied false buffer = refl

-- a pump that was answered, by a vault none of whose device calls had failed
pub pumped_talk : {D : Type 0} (old new : VaultSeen D) (answer : Pumped) (sessions asked : List ℕ) (lines : List Line) (now : Talk)
    → talk_of old sessions asked lines ≡ now
    → answer ≢ answers.Broken
    → (old.view.broken ≡ true → ◌≡◌ {A = Result Pumped Fault} (Ok answer) (Ok answers.Broken))
    → (old.view.broken ≡ false → answer ≡ (view_row snapshot_length old.view).answer)
    → (old.view.broken ≡ false → new.view ≡ view_acted snapshot_length old.view Pump)
    → AreNumbers old new (Ok answer)
    → talk_of new sessions asked lines ≡ pumped now
unfolding pumped
pumped_talk old new answer sessions asked lines now is answered broken row view numbers =
    let good : old.view.broken ≡ false = refuted old.view.broken (λ b. answered (same_answer answer answers.Broken (broken b))) in
    subst (λ (t : Talk). talk_of new sessions asked lines ≡ pumped t) is (λ i. record {
      view = view good i;
      buffer = (ap length numbers.buffer ∙ ap (λ b. length (cond (is_idle old.view.phase && not b) [] old.store.buffer)) good ∙ emptied (is_idle old.view.phase) old.store.buffer) i;
      generation = (numbers.generation ∙ ap (λ (a : Pumped). generation_after old.view (Ok a) old.store.generation) (row good)) i;
      tail = (numbers.tail ∙ ap (λ (a : Pumped). tail_after old.view (Ok a) old.store.tail) (row good)) i;
      sessions = sessions;
      asked = asked;
      lines = lines;
    })

-- The start of a snapshot.
module _ {D E : Type 0} (old new : VaultSeen D) (answer : Started) (sessions asked : List ℕ) (lines : List Line) (now : Talk)
    (is : talk_of old sessions asked lines ≡ now)
    (view : ◌≡◌ {A = Result Started E} (Ok answer) (Ok starts.Yes) → new.view ≡ view_acted snapshot_length old.view StartSnapshot)
    (store : ◌≡◌ {A = Result Started E} (Ok answer) (Ok starts.Yes) → new.store ≡ started_seen old.store (durable (book_of old.view)))
    (may : ◌≡◌ {A = Result Started E} (Ok answer) (Ok starts.Yes) → MayStart old)
    (may_not : ◌≡◌ {A = Result Started E} (Ok answer) (Ok starts.NotNow) → MayStart old → ⊥)
    (same : ◌≡◌ {A = Result Started E} (Ok answer) (Ok starts.NotNow) → new ≡ old) where
  abbrev before : Talk
  before = talk_of old sessions asked lines

  can_start : MayStart old → may_start before ≡ true
  can_start able = and_from (is_idle old.view.phase) (nat_lt (old.store.generation + 1) (2 ^ 64)) (ap is_idle able.idle) (lt-ltb (old.store.generation + 1) (2 ^ 64) able.fits)

  has_to : may_start before ≡ true → MayStart old
  has_to able =
      let parts = and_parts (is_idle old.view.phase) (nat_lt (old.store.generation + 1) (2 ^ 64)) able in
      record { idle = idle_is old.view.phase parts.0; fits = ltb-true (old.store.generation + 1) (2 ^ 64) parts.1 }

  at_yes : answer ≡ starts.Yes → talk_of new sessions asked lines ≡ started before
  unfolding started
  at_yes e =
      let begun : ◌≡◌ {A = Result Started E} (Ok answer) (Ok starts.Yes) = ap Ok e in
      let views = view begun in
      let stores = store begun in
      (λ i. record { view = views i; buffer = length (stores i).buffer; generation = (stores i).generation; tail = (stores i).tail; sessions = sessions; asked = asked; lines = lines })
      ∙ sym (ap (λ b. cond b (record before { view = view_acted snapshot_length old.view StartSnapshot; buffer = 0 }) before) (can_start (may begun)))

  at_not_now : answer ≡ starts.NotNow → talk_of new sessions asked lines ≡ started before
  unfolding started
  at_not_now e =
      let rests : ◌≡◌ {A = Result Started E} (Ok answer) (Ok starts.NotNow) = ap Ok e in
      let stays : may_start before ≡ false = refuted (may_start before) (λ able. may_not rests (has_to able)) in
      ap (λ (s : VaultSeen D). talk_of s sessions asked lines) (same rests)
      ∙ sym (ap (λ b. cond b (record before { view = view_acted snapshot_length old.view StartSnapshot; buffer = 0 }) before) stays)

  pub started_talk : talk_of new sessions asked lines ≡ started now
  started_talk = subst (λ (t : Talk). talk_of new sessions asked lines ≡ started t) is (by_answer answer refl)
    where
      by_answer : (a : Started) → answer ≡ a → talk_of new sessions asked lines ≡ started before
      by_answer starts.Yes e = at_yes e
      by_answer starts.NotNow e = at_not_now e
