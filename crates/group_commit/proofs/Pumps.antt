-- What a pump leaves.
use Rattle.std.proofs.Common.{◌≡◌, ◌≢◌, ℕ, ◌+◌, ◌-◌, ◌≤◌, Bool, true, false, cond, List, [], ◌∷◌, length, drop, refl, sym, ap, ◌∙◌, subst, arith, length-drop, ◌⊎◌, inl, ⊎_elim}
use Rattle.std.proofs.lemmas.List.{drop_all}
use Rattle.std.specs.Prelude.{IsTrue, not, ◌&&◌, Result, Ok, Err, IfOk, OnOk, OnErr}
use Rattle.vault_model.specs.Said.{Effect}
use Rattle.vault_state.specs.Vault.{Vault, durable}
use Rattle.vault_device.specs.Disk.{Disk}
use Rattle.vault_store.specs.declared.phase.Phase.{Phase}
use Rattle.vault_store.specs.declared.phase.Phase.TheVariants.{Idle, Written, Bodied, Opening, Start, Closing, Writing, Filled, Ready, SnapOpening}
use Rattle.vault_device.specs.declared.device.Fault.{Fault as DeviceFault}
use Rattle.vault_journal.specs.Spelling.{records_of}
use Rattle.vault_store.specs.declared.phase.Advanced.{Advanced as Pumped}
use Rattle.vault_store.specs.declared.phase.Advanced.TheVariants as answers
use Rattle.vault_format.specs.Files.{header, frame_extra}
use Rattle.vault_store.specs.Step.{IsStep, IsAtMostOneCall, MayBeLeft, renews as store_renews, gained as store_gained, AreNumbers as AreStoreNumbers}
use Rattle.vault_store.specs.Phases.{Waiting, DeviceCall, NoCall, Write, Sync, NoMore, TheSealed, All, Row, row, rests, ends, seals, is_idle, is_snapshot, settled_by, after_fault}
use Rattle.vault_store.specs.State.{StoreState, waiting_in, row_of, advanced, failed}
use Rattle.vault_format.specs.Snapshot.{current_version}
use Rattle.vault_store.specs.Seen.{StoreSeen, other, first_of, second_of, Keeps, IsLeftInside}
use Rattle.vault_store.proofs.Asides.{length-behind}
use Rattle.vault_store.proofs.Busy.{idle_or_busy, snapshot_is_busy}
use Rattle.group_commit.specs.Entries.{Kept}
use Rattle.group_commit.specs.History.{effects}
use Rattle.group_commit.specs.Phases.{waiting, InOrder}
use Rattle.group_commit.specs.World.{Pump, Fault}
use Rattle.group_commit.specs.View.{View, length_of, view_at, view_row, ViewAllows, view_acted}
use Rattle.group_commit.specs.Seen.{VaultSeen, snapshot_length, effects_from, effects_between, state_of, IsSoundView}
use Rattle.group_commit.specs.Inside.{IsSoundVault}
use Rattle.group_commit.specs.Calls.{renews, gained, behind_snapshot, AreNumbers}
use Rattle.group_commit.specs.Promises.{MomentsStand}
use Rattle.group_commit.proofs.States.{state_pumped, state_failed}
use Rattle.group_commit.proofs.SoundViews.{pumped_sound, failed_sound}

-- a row of a commit or a snapshot under way
record IsUnderWay (r : Row) : Type 0 where
  seals : r.seals ≡ false
  settled : r.answer ≡ answers.Settled → r.settles ≡ TheSealed
  moved : r.answer ≡ answers.Moved → r.settles ≡ NoMore
  not_idle : r.answer ≢ answers.Idle
  not_broken : r.answer ≢ answers.Broken
  calls : r.call ≢ NoCall

moves_on : (call : DeviceCall) (next : Phase) → call ≢ NoCall → IsUnderWay (record { call = call; next = next; seals = false; settles = NoMore; answer = answers.Moved })
moves_on call next calls = record { seals = refl; settled = λ e. absurd (cc); moved = λ e. refl; not_idle = λ e. cc; not_broken = λ e. cc; calls = calls }

is_last : IsUnderWay (ends Sync TheSealed)
is_last = record { seals = refl; settled = λ e. refl; moved = λ e. absurd (cc); not_idle = λ e. cc; not_broken = λ e. cc; calls = λ e. cc }

under_way : (p : Phase) (w : Waiting) (n : ℕ) → is_idle p ≡ false → IsUnderWay (row p w n)
under_way Idle w n h = absurd (cc)
under_way Written w n h = moves_on Sync Bodied (λ e. cc)
under_way Bodied w n h = moves_on Write Opening (λ e. cc)
under_way Opening w n h = is_last
under_way Start w n h = moves_on Write Closing (λ e. cc)
under_way Closing w n h = moves_on Sync _ (λ e. cc)
under_way (Writing left) w n h = moves_on Write _ (λ e. cc)
under_way Filled w n h = moves_on Sync Ready (λ e. cc)
under_way Ready w n h = moves_on Write SnapOpening (λ e. cc)
under_way SnapOpening w n h = is_last

-- such a row doesn't depend on what waits
same_row : (p : Phase) (w x : Waiting) (n m : ℕ) → is_idle p ≡ false → n ≡ m → row p w n ≡ row p x m
same_row Idle w x n m h e = absurd (cc)
same_row Written w x n m h e = refl
same_row Bodied w x n m h e = refl
same_row Opening w x n m h e = refl
same_row Start w x n m h e = refl
same_row Closing w x n m h e = ap (row Closing w) e
same_row (Writing left) w x n m h e = refl
same_row Filled w x n m h e = refl
same_row Ready w x n m h e = refl
same_row SnapOpening w x n m h e = refl

abbrev pub vault_row : View → Row
vault_row v = view_row snapshot_length v

busy_rows : (v : View) → is_idle v.phase ≡ false → vault_row v ≡ row_of (state_of v)
busy_rows v busy =
    same_row v.phase (waiting (drop (v.settled - v.retired) v.kept) (effects_from v v.settled)) (waiting_in (state_of v).buffer) (snapshot_length (durable (view_at v v.sealed))) (snapshot_length (state_of v).sealed) busy
    (sym (ap (λ b. snapshot_length (durable (view_at v (cond b v.settled v.sealed)))) busy))

vault_under_way : (v : View) → is_idle v.phase ≡ false → IsUnderWay (vault_row v)
vault_under_way v busy = under_way v.phase _ _ busy

-- what the store's row in Idle says of the vault's
record IsIdleRow (u : List Kept) (q r : Row) : Type 0 where
  none : q.answer ≡ answers.Idle → u ≡ [] → r ≡ rests
  all : q.answer ≡ answers.Idle → u ≢ [] → r ≡ ends NoCall All
  not_settled : q.answer ≢ answers.Settled
  not_broken : q.answer ≢ answers.Broken
  moved : q.answer ≡ answers.Moved → r ≡ seals Write Written
  called : q.call ≢ NoCall → r ≡ seals Write Written
  still : r.call ≡ NoCall → q.call ≡ NoCall

idle_row : (u : List Kept) (es : List Effect) (n m : ℕ) → (u ≡ [] → es ≡ []) → IsIdleRow u (row Idle (waiting_in es) m) (row Idle (waiting u es) n)
idle_row [] [] n m h = record { none = λ e f. refl; all = λ e f. absurd (f refl); not_settled = λ e. cc; not_broken = λ e. cc; moved = λ e. absurd (cc); called = λ e. absurd (e refl); still = λ e. refl }
idle_row [] (y ∷ ys) n m h = let clash : y ∷ ys ≡ [] = h refl in absurd (cc)
idle_row (x ∷ xs) [] n m h = record { none = λ e f. absurd (cc); all = λ e f. refl; not_settled = λ e. cc; not_broken = λ e. cc; moved = λ e. absurd (cc); called = λ e. absurd (e refl); still = λ e. refl }
idle_row (x ∷ xs) (y ∷ ys) n m h = record { none = λ e f. absurd (cc); all = λ e f. absurd (cc); not_settled = λ e. cc; not_broken = λ e. cc; moved = λ e. refl; called = λ e. refl; still = λ e. absurd (cc) }

abbrev unsettled : View → List Kept
unsettled v = drop (v.settled - v.retired) v.kept

vault_idle : (v : View) → v.phase ≡ Idle → IsIdleRow (unsettled v) (row_of (state_of v)) (vault_row v)
vault_idle v idle = subst (λ p. IsIdleRow (unsettled v) (row_of (state_of (record v { phase = p }))) (vault_row (record v { phase = p }))) (sym idle) (idle_row (unsettled v) (effects_from v v.settled) _ _ (λ e. ap (effects (view_at v v.settled)) e))

all_settled : (v : View) → v.settled ≡ length_of v → unsettled v ≡ []
all_settled v e = drop_all (v.settled - v.retired) v.kept (omega arith)

some_unsettled : (v : View) → InOrder (length_of v) v.retired v.settled v.sealed v.phase → v.settled ≢ length_of v → unsettled v ≢ []
some_unsettled v o h e = h (let l = length-drop (v.settled - v.retired) v.kept in let none : length (unsettled v) ≡ 0 = ap length e in let a : v.settled ≤ length_of v = o.settled_all in let b : v.retired ≤ v.settled = o.retired_settled in omega arith)

-- The vault's row, by what the store answered.

pub row_rests : (v : View) → (row_of (state_of v)).answer ≡ answers.Idle → v.settled ≡ length_of v → vault_row v ≡ rests
row_rests v e whole = ⊎_elim (λ idle. (vault_idle v idle).none e (all_settled v whole)) (λ busy. absurd ((under_way v.phase _ _ busy).not_idle e)) (idle_or_busy v.phase)

pub row_settles_all : (v : View) → IsSoundView v → (row_of (state_of v)).answer ≡ answers.Idle → v.settled ≢ length_of v → vault_row v ≡ ends NoCall All
row_settles_all v s e some = ⊎_elim (λ idle. (vault_idle v idle).all e (some_unsettled v s.order some)) (λ busy. absurd ((under_way v.phase _ _ busy).not_idle e)) (idle_or_busy v.phase)

pub row_settles : (v : View) → (row_of (state_of v)).answer ≡ answers.Settled → (is_idle v.phase ≡ false) × ((vault_row v).settles ≡ TheSealed) × ((vault_row v).seals ≡ false) × ((vault_row v).answer ≡ answers.Settled)
row_settles v e = ⊎_elim (λ idle. absurd ((vault_idle v idle).not_settled e)) (λ busy. (busy, (vault_under_way v busy).settled (answered busy), (vault_under_way v busy).seals, answered busy)) (idle_or_busy v.phase)
  where
    answered : is_idle v.phase ≡ false → (vault_row v).answer ≡ answers.Settled
    answered busy = ap (λ (r : Row). r.answer) (busy_rows v busy) ∙ e

pub row_seals : (v : View) → (row_of (state_of v)).answer ≡ answers.Moved → v.phase ≡ Idle → vault_row v ≡ seals Write Written
row_seals v e idle = (vault_idle v idle).moved e

pub row_moves : (v : View) → (row_of (state_of v)).answer ≡ answers.Moved → is_idle v.phase ≡ false → ((vault_row v).settles ≡ NoMore) × ((vault_row v).seals ≡ false) × ((vault_row v).answer ≡ answers.Moved)
row_moves v e busy = let answered : (vault_row v).answer ≡ answers.Moved = ap (λ (r : Row). r.answer) (busy_rows v busy) ∙ e in ((vault_under_way v busy).moved answered, (vault_under_way v busy).seals, answered)

pub never_broken : (v : View) → (row_of (state_of v)).answer ≢ answers.Broken
never_broken v e = ⊎_elim (λ idle. (vault_idle v idle).not_broken e) (λ busy. (under_way v.phase _ _ busy).not_broken e) (idle_or_busy v.phase)

pub row_fails_sealing : (v : View) → (row_of (state_of v)).call ≢ NoCall → v.phase ≡ Idle → vault_row v ≡ seals Write Written
row_fails_sealing v called idle = (vault_idle v idle).called called

pub row_fails : (v : View) → is_idle v.phase ≡ false → ((vault_row v).seals ≡ false) × ((vault_row v).call ≢ NoCall)
row_fails v busy = ((vault_under_way v busy).seals, (vault_under_way v busy).calls)

-- where the vault's row makes no call, nor does the store's
pub row_still : (v : View) → (vault_row v).call ≡ NoCall → (row_of (state_of v)).call ≡ NoCall
row_still v e = ⊎_elim (λ idle. (vault_idle v idle).still e) (λ busy. absurd ((vault_under_way v busy).calls e)) (idle_or_busy v.phase)

-- a vault whose store made the step, with the durable and the sealed length of its row
module _ {D : Type 0} (disk : D → Disk) (seen : VaultSeen D) (book : Vault) (k : IsSoundVault disk seen book) (store : StoreSeen D) where
  abbrev after_step : ℕ → ℕ → Bool → VaultSeen D
  after_step settled sealed broken = record { view = record seen.view { settled = settled; sealed = sealed; phase = store.phase; broken = broken }; life = seen.life; store = store }

  pub pumped_view : (settled sealed : ℕ) → seen.view.broken ≡ false → Keeps disk store (advanced (state_of seen.view))
      → settled ≡ (view_acted snapshot_length seen.view Pump).settled → sealed ≡ (view_acted snapshot_length seen.view Pump).sealed
      → (after_step settled sealed seen.view.broken).view ≡ view_acted snapshot_length seen.view Pump
  pumped_view settled sealed whole keeps d e =
      let p = keeps.phase ∙ ap (λ (s : StoreState). s.phase) (sym (state_pumped seen.view k.sound whole)) in
      λ i. record seen.view { settled = d i; sealed = e i; phase = p i }

  pub pumped_kept : (settled sealed : ℕ) → seen.view.broken ≡ false → Keeps disk store (advanced (state_of seen.view))
      → settled ≡ (view_acted snapshot_length seen.view Pump).settled → sealed ≡ (view_acted snapshot_length seen.view Pump).sealed
      → IsSoundVault disk (after_step settled sealed seen.view.broken) book
  pumped_kept settled sealed whole keeps d e =
      subst (λ (v : View). IsSoundVault disk (record { view = v; life = seen.life; store = store }) book) (sym (pumped_view settled sealed whole keeps d e))
      (record { book_is = k.book_is; sound = pumped_sound seen.view whole k.sound; fits = k.fits; stands = subst (Keeps disk store) (sym (state_pumped seen.view k.sound whole)) keeps })

  pub failed_view : (sealed : ℕ) → Keeps disk store (failed (row_of (state_of seen.view)) (state_of seen.view)) → sealed ≡ (view_acted snapshot_length seen.view Fault).sealed
      → (after_step seen.view.settled sealed true).view ≡ view_acted snapshot_length seen.view Fault
  failed_view sealed keeps e =
      let p = keeps.phase ∙ ap (λ (s : StoreState). s.phase) (sym (state_failed seen.view)) in
      λ i. record seen.view { sealed = e i; phase = p i; broken = true }

  pub failed_kept : (sealed : ℕ) → (vault_row seen.view).call ≢ NoCall → Keeps disk store (failed (row_of (state_of seen.view)) (state_of seen.view)) → sealed ≡ (view_acted snapshot_length seen.view Fault).sealed
      → IsSoundVault disk (after_step seen.view.settled sealed true) book
  failed_kept sealed called keeps e =
      subst (λ (v : View). IsSoundVault disk (record { view = v; life = seen.life; store = store }) book) (sym (failed_view sealed keeps e))
      (record { book_is = k.book_is; sound = failed_sound seen.view called k.sound; fits = k.fits; stands = subst (Keeps disk store) (sym (state_failed seen.view)) keeps })

after_same : {A : Type 0} (call : DeviceCall) (x : A) → after_fault call x x ≡ x
after_same NoCall x = refl
after_same Write x = refl
after_same Sync x = refl

-- what a pump did: all that it promises
pub record IsPump {D : Type 0} (disk : D → Disk) (old new : VaultSeen D) (result : Result Pumped DeviceFault) : Type 0 where
  pub broken : old.view.broken ≡ true → (result ≡ Ok answers.Broken) × (new ≡ old)
  pub answer : old.view.broken ≡ false → IfOk result (λ answer. answer ≡ (vault_row old.view).answer)
  pub pumped : old.view.broken ≡ false → OnOk result (new.view ≡ view_acted snapshot_length old.view Pump)
  pub failed : OnErr result (ViewAllows snapshot_length old.view Fault × (new.view ≡ view_acted snapshot_length old.view Fault))
  pub life : new.life ≡ old.life
  pub still : (vault_row old.view).call ≡ NoCall → new.store ≡ old.store
  pub calls : IsAtMostOneCall (disk (first_of old.store)) (disk (second_of old.store)) (disk (first_of new.store)) (disk (second_of new.store)) result
  pub numbers : AreNumbers old new result
  pub moments : old.view.broken ≡ false → MomentsStand disk old new

-- what the store's step gave, which answered this
pub record IsStoreStep {D : Type 0} (disk : D → Disk) (old new : StoreSeen D) (s : StoreState) (result : Result Pumped DeviceFault) : Type 0 where
  pub step : IsStep disk old new result s
  pub numbers : AreStoreNumbers old new result
  pub calls : IsAtMostOneCall (disk (first_of old)) (disk (second_of old)) (disk (first_of new)) (disk (second_of new)) result
  pub rests : (result ≡ Ok answers.Idle) ⊎ (result ≡ Ok answers.Broken) → new ≡ old
  pub moments : (x y : List ℕ) → IsTrue (disk (first_of old)).honest → IsTrue (disk (second_of old)).honest → MayBeLeft (disk (first_of old)) (disk (second_of old)) (disk (first_of new)) (disk (second_of new)) x y → IsLeftInside old s x y

-- what the call promised of any state, at the one that the vault shows
pub store_step : {D : Type 0} {disk : D → Disk} {old new : StoreSeen D} {s : StoreState} {result answer : Result Pumped DeviceFault} → result ≡ answer → Keeps disk old s
    → ((s : StoreState) → Keeps disk old s → IsStep disk old new result s) → AreStoreNumbers old new result
    → IsAtMostOneCall (disk (first_of old)) (disk (second_of old)) (disk (first_of new)) (disk (second_of new)) result
    → ((result ≡ Ok answers.Idle) ⊎ (result ≡ Ok answers.Broken) → new ≡ old)
    → ((s : StoreState) (x y : List ℕ) → Keeps disk old s → IsTrue (disk (first_of old)).honest → IsTrue (disk (second_of old)).honest
    → MayBeLeft (disk (first_of old)) (disk (second_of old)) (disk (first_of new)) (disk (second_of new)) x y → IsLeftInside old s x y)
    → IsStoreStep disk old new s answer
store_step {D} {disk} {old} {new} {s} same keeps step numbers calls rests moments =
    subst (IsStoreStep disk old new s) same
    (record { step = step s keeps; numbers = numbers; calls = calls; rests = rests; moments = λ x y h i left. moments s x y keeps h i left })

chosen : {A : Type 0} (b c : Bool) (x y z w : A) → b ≡ c → (c ≡ true → x ≡ z) → (c ≡ false → y ≡ w) → cond b x y ≡ cond c z w
chosen b true x y z w e t f = ap (λ d. cond d x y) e ∙ t refl
chosen b false x y z w e t f = ap (λ d. cond d x y) e ∙ f refl

clash : {b : Bool} → b ≡ false → b ≡ true → {P : Type 0} → P
clash e f = let x : false ≡ true = sym e ∙ f in absurd (cc)

module _ {D : Type 0} (disk : D → Disk) (seen : VaultSeen D) (book : Vault) (k : IsSoundVault disk seen book) (store : StoreSeen D) (whole : seen.view.broken ≡ false) where
  abbrev Made : Result Pumped DeviceFault → Type 0
  Made result = IsStoreStep disk seen.store store (state_of seen.view) result

  abbrev after_pump : ℕ → ℕ → VaultSeen D
  after_pump settled sealed = after_step disk seen book k store settled sealed seen.view.broken

  answered : (answer : Pumped) → Made (Ok answer) → (row_of (state_of seen.view)).answer ≡ answer
  answered answer made = sym (made.step.0 ∙ ap (λ b. cond b answers.Broken (row_of (state_of seen.view)).answer) whole)

  buffer_is : (result : Result Pumped DeviceFault) → Made result → store.buffer ≡ cond (is_idle seen.view.phase && not seen.view.broken) [] seen.store.buffer
  buffer_is result made =
      made.numbers.buffer
      ∙ ap (λ p. cond (is_idle p && not seen.store.broken) [] seen.store.buffer) k.stands.phase
      ∙ ap (λ b. cond (is_idle seen.view.phase && not b) [] seen.store.buffer) k.stands.broken

  -- what a snapshot writes ends with its tail gate
  rest_is : is_snapshot seen.view.phase ≡ true → length seen.store.rest ≡ behind_snapshot seen.view
  rest_is under =
      ap length (k.stands.renewal under).bytes
      ∙ length-behind (seen.store.generation + 1) (state_of seen.view).sealed
      ∙ ap (λ b. header + snapshot_length (durable (view_at seen.view (cond b seen.view.settled seen.view.sealed)))) (snapshot_is_busy seen.view.phase under)

  -- the store's answer and the vault's speak of the same numbers
  record AnswersAlike (result answer : Result Pumped DeviceFault) : Type 0 where
    renewed : store_renews seen.store result ≡ renews seen.view answer
    under : renews seen.view answer ≡ true → is_snapshot seen.view.phase ≡ true
    gains : renews seen.view answer ≡ false → store_gained seen.store result ≡ gained seen.view answer

  numbers_are : (settled sealed : ℕ) (broken : Bool) (result answer : Result Pumped DeviceFault) → Made result → AnswersAlike result answer → AreNumbers seen (after_step disk seen book k store settled sealed broken) answer
  numbers_are settled sealed broken result answer made alike = record {
    which = made.numbers.which ∙ ap (λ b. cond b (other seen.store.which) seen.store.which) alike.renewed;
    version = made.numbers.version ∙ ap (λ b. cond b current_version seen.store.version) alike.renewed;
    generation = made.numbers.generation ∙ ap (λ b. cond b (seen.store.generation + 1) seen.store.generation) alike.renewed;
    tail =
        made.numbers.tail
        ∙ chosen (store_renews seen.store result) (renews seen.view answer) (length seen.store.rest) (seen.store.tail + store_gained seen.store result) (behind_snapshot seen.view) (seen.store.tail + gained seen.view answer)
        alike.renewed (λ e. rest_is (alike.under e)) (λ e. ap (λ n. seen.store.tail + n) (alike.gains e));
    journal_length =
        made.numbers.journal_length
        ∙ chosen (store_renews seen.store result) (renews seen.view answer) 0 (seen.store.journal_length + store_gained seen.store result) 0 (seen.store.journal_length + gained seen.view answer)
        alike.renewed (λ e. refl) (λ e. ap (λ n. seen.store.journal_length + n) (alike.gains e));
    buffer = buffer_is result made;
  }

  ok_calls : (answer other : Pumped) → Made (Ok answer) → IsAtMostOneCall {E = DeviceFault} (disk (first_of seen.store)) (disk (second_of seen.store)) (disk (first_of store)) (disk (second_of store)) (Ok other)
  ok_calls answer other made = record { first_honest = made.calls.first_honest; second_honest = made.calls.second_honest; calls = made.calls.calls; faults = made.calls.faults; cause = λ e. absurd (cc) }

  -- whatever the store answered, where it is no fault
  ok_pump : (settled sealed : ℕ) (answer other : Pumped) → Made (Ok answer) → settled ≡ (view_acted snapshot_length seen.view Pump).settled → sealed ≡ (view_acted snapshot_length seen.view Pump).sealed
      → other ≡ (vault_row seen.view).answer → ((vault_row seen.view).call ≡ NoCall → store ≡ seen.store) → AnswersAlike (Ok answer) (Ok other)
      → IsPump disk seen (after_pump settled sealed) (Ok other)
  ok_pump settled sealed answer other made d e a still alike = record {
    broken = λ b. clash whole b;
    answer = λ _. a;
    pumped = λ _. pumped_view disk seen book k store settled sealed whole made.step.1 d e;
    failed = tt;
    life = refl;
    still = still;
    calls = ok_calls answer other made;
    numbers = numbers_are settled sealed seen.view.broken (Ok answer) (Ok other) made alike;
    moments = λ _ x y honest left. made.moments x y honest.first honest.second left;
  }

  row_is_settled : (r : Row) → vault_row seen.view ≡ r → settled_by r.settles seen.view.settled seen.view.sealed (length_of seen.view) ≡ (view_acted snapshot_length seen.view Pump).settled
  row_is_settled r e = ap (λ (x : Row). settled_by x.settles seen.view.settled seen.view.sealed (length_of seen.view)) (sym e)

  row_is_sealed : (r : Row) → vault_row seen.view ≡ r → cond r.seals (length_of seen.view) seen.view.sealed ≡ (view_acted snapshot_length seen.view Pump).sealed
  row_is_sealed r e = ap (λ (x : Row). cond x.seals (length_of seen.view) seen.view.sealed) (sym e)

  row_answers : (r : Row) → vault_row seen.view ≡ r → r.answer ≡ (vault_row seen.view).answer
  row_answers r e = ap (λ (x : Row). x.answer) (sym e)

  -- it rested, and all is durable
  pub rested : Made (Ok answers.Idle) → seen.view.settled ≡ length_of seen.view → IsPump disk seen (after_pump seen.view.settled seen.view.sealed) (Ok answers.Idle)
  rested made all =
      let r = row_rests seen.view (answered answers.Idle made) all in
      ok_pump seen.view.settled seen.view.sealed answers.Idle answers.Idle made (row_is_settled rests r) (row_is_sealed rests r) (row_answers rests r) (λ _. made.rests (inl refl)) (record { renewed = refl; under = λ e. clash refl e; gains = λ _. refl })

  idle_phase : (row_of (state_of seen.view)).answer ≡ answers.Idle → seen.view.phase ≡ Idle
  idle_phase e = ⊎_elim (λ idle. idle) (λ busy. absurd ((under_way seen.view.phase _ _ busy).not_idle e)) (idle_or_busy seen.view.phase)

  no_frame : seen.view.phase ≡ Idle → ◌≡◌ {A = ℕ} 0 (gained seen.view (Ok answers.Settled))
  no_frame idle = ap (λ p. cond (is_idle p) 0 (frame_extra + length (records_of (effects_between seen.view seen.view.settled seen.view.sealed)))) (sym idle)

  all_at_once : seen.view.phase ≡ Idle → AnswersAlike (Ok answers.Idle) (Ok answers.Settled)
  all_at_once idle = record { renewed = sym (ap is_snapshot idle); under = λ e. e; gains = λ _. no_frame idle }

  -- it rested, and the rest becomes durable without a commit
  pub settled_all : Made (Ok answers.Idle) → seen.view.settled ≢ length_of seen.view → IsPump disk seen (after_pump (length_of seen.view) seen.view.sealed) (Ok answers.Settled)
  settled_all made some =
      let r = row_settles_all seen.view k.sound (answered answers.Idle made) some in
      ok_pump (length_of seen.view) seen.view.sealed answers.Idle answers.Settled made (row_is_settled (ends NoCall All) r) (row_is_sealed (ends NoCall All) r) (row_answers (ends NoCall All) r) (λ _. made.rests (inl refl)) (all_at_once (idle_phase (answered answers.Idle made)))

  pub settled_all_kept : Made (Ok answers.Idle) → seen.view.settled ≢ length_of seen.view → IsSoundVault disk (after_pump (length_of seen.view) seen.view.sealed) book
  settled_all_kept made some =
      let r = row_settles_all seen.view k.sound (answered answers.Idle made) some in
      pumped_kept disk seen book k store (length_of seen.view) seen.view.sealed whole made.step.1 (row_is_settled (ends NoCall All) r) (row_is_sealed (ends NoCall All) r)

  frame_is : is_idle seen.view.phase ≡ false → is_snapshot seen.view.phase ≡ false → frame_extra + seen.store.sealed ≡ gained seen.view (Ok answers.Settled)
  frame_is busy commit =
      ap (λ n. frame_extra + n) (k.stands.sealed_bytes ∙ ap (λ b. cond b 0 (length (records_of (state_of seen.view).sealing))) commit ∙ ap (λ b. length (records_of (cond b [] (effects_between seen.view seen.view.settled seen.view.sealed)))) busy)
      ∙ ap (λ b. cond b 0 (frame_extra + length (records_of (effects_between seen.view seen.view.settled seen.view.sealed)))) (sym busy)

  last_of : is_idle seen.view.phase ≡ false → AnswersAlike (Ok answers.Settled) (Ok answers.Settled)
  last_of busy = record { renewed = ap is_snapshot k.stands.phase; under = λ e. e; gains = frame_is busy }

  -- the commit or the snapshot is durable
  last_settled : (r : ((is_idle seen.view.phase ≡ false) × ((vault_row seen.view).settles ≡ TheSealed) × ((vault_row seen.view).seals ≡ false) × ((vault_row seen.view).answer ≡ answers.Settled))) → seen.view.sealed ≡ (view_acted snapshot_length seen.view Pump).settled
  last_settled r = ap (λ x. settled_by x seen.view.settled seen.view.sealed (length_of seen.view)) (sym r.1)

  unsealed : (vault_row seen.view).seals ≡ false → seen.view.sealed ≡ (view_acted snapshot_length seen.view Pump).sealed
  unsealed e = ap (λ b. cond b (length_of seen.view) seen.view.sealed) (sym e)

  pub settled_sealed : Made (Ok answers.Settled) → IsPump disk seen (after_pump seen.view.sealed seen.view.sealed) (Ok answers.Settled)
  settled_sealed made =
      let r = row_settles seen.view (answered answers.Settled made) in
      ok_pump seen.view.sealed seen.view.sealed answers.Settled answers.Settled made (last_settled r) (unsealed r.2) (sym r.3) (λ e. absurd ((vault_under_way seen.view r.0).calls e)) (last_of r.0)

  pub settled_sealed_kept : Made (Ok answers.Settled) → IsSoundVault disk (after_pump seen.view.sealed seen.view.sealed) book
  settled_sealed_kept made =
      let r = row_settles seen.view (answered answers.Settled made) in
      pumped_kept disk seen book k store seen.view.sealed seen.view.sealed whole made.step.1 (last_settled r) (unsealed r.2)

  abbrev sealed_next : ℕ
  sealed_next = cond (is_idle seen.view.phase) (length_of seen.view) seen.view.sealed

  -- what a step that moved on leaves
  record HasMoved : Type 0 where
    settled : seen.view.settled ≡ (view_acted snapshot_length seen.view Pump).settled
    sealed : sealed_next ≡ (view_acted snapshot_length seen.view Pump).sealed
    answer : answers.Moved ≡ (vault_row seen.view).answer
    calls : (vault_row seen.view).call ≢ NoCall

  has_moved : (row_of (state_of seen.view)).answer ≡ answers.Moved → HasMoved
  has_moved e = ⊎_elim
      (λ (idle : seen.view.phase ≡ Idle).
      let r = row_seals seen.view e idle in
      record {
        settled = row_is_settled (seals Write Written) r;
        sealed = ap (λ p. cond (is_idle p) (length_of seen.view) seen.view.sealed) idle ∙ row_is_sealed (seals Write Written) r;
        answer = row_answers (seals Write Written) r;
        calls = λ h. let x : Write ≡ NoCall = ap (λ (x : Row). x.call) (sym r) ∙ h in cc;
      })
      (λ (busy : is_idle seen.view.phase ≡ false).
      let r = row_moves seen.view e busy in
      record {
        settled = ap (λ x. settled_by x seen.view.settled seen.view.sealed (length_of seen.view)) (sym r.0);
        sealed = ap (λ b. cond b (length_of seen.view) seen.view.sealed) busy ∙ unsealed r.1;
        answer = sym r.2;
        calls = (vault_under_way seen.view busy).calls;
      })
      (idle_or_busy seen.view.phase)

  pub moved : (sealed : ℕ) → Made (Ok answers.Moved) → sealed ≡ sealed_next → IsPump disk seen (after_pump seen.view.settled sealed) (Ok answers.Moved)
  moved sealed made is =
      let m = has_moved (answered answers.Moved made) in
      ok_pump seen.view.settled sealed answers.Moved answers.Moved made m.settled (is ∙ m.sealed) m.answer (λ e. absurd (m.calls e)) (record { renewed = refl; under = λ e. clash refl e; gains = λ _. refl })

  pub moved_kept : (sealed : ℕ) → Made (Ok answers.Moved) → sealed ≡ sealed_next → IsSoundVault disk (after_pump seen.view.settled sealed) book
  moved_kept sealed made is =
      let m = has_moved (answered answers.Moved made) in
      pumped_kept disk seen book k store seen.view.settled sealed whole made.step.1 m.settled (is ∙ m.sealed)

  failed_sealed : (row_of (state_of seen.view)).call ≢ NoCall → (sealed_next ≡ (view_acted snapshot_length seen.view Fault).sealed) × ((vault_row seen.view).call ≢ NoCall)
  failed_sealed called = ⊎_elim
      (λ (idle : seen.view.phase ≡ Idle).
      let r = row_fails_sealing seen.view called idle in (
        ap (λ p. cond (is_idle p) (length_of seen.view) seen.view.sealed) idle ∙ ap (λ (x : Row). after_fault x.call seen.view.sealed (cond x.seals (length_of seen.view) seen.view.sealed)) (sym r),
        λ h. let x : Write ≡ NoCall = ap (λ (x : Row). x.call) (sym r) ∙ h in cc,
      ))
      (λ (busy : is_idle seen.view.phase ≡ false).
      let r = row_fails seen.view busy in (
        ap (λ b. cond b (length_of seen.view) seen.view.sealed) busy ∙ sym (after_same (vault_row seen.view).call seen.view.sealed) ∙ ap (λ b. after_fault (vault_row seen.view).call seen.view.sealed (cond b (length_of seen.view) seen.view.sealed)) (sym r.0),
        r.1,
      ))
      (idle_or_busy seen.view.phase)

  pub fault : (sealed : ℕ) (why : DeviceFault) → Made (Err why) → sealed ≡ sealed_next → IsPump disk seen (after_step disk seen book k store seen.view.settled sealed true) (Err why)
  fault sealed why made is =
      let f = failed_sealed made.step.1 in
      record {
        broken = λ b. clash whole b;
        answer = λ _. tt;
        pumped = λ _. tt;
        failed = ((whole, f.1), failed_view disk seen book k store sealed made.step.2 (is ∙ f.0));
        life = refl;
        still = λ e. absurd (f.1 e);
        calls = made.calls;
        numbers = numbers_are seen.view.settled sealed true (Err why) (Err why) made (record { renewed = refl; under = λ e. clash refl e; gains = λ _. refl });
        moments = λ _ x y honest left. made.moments x y honest.first honest.second left;
      }

  pub fault_kept : (sealed : ℕ) (why : DeviceFault) → Made (Err why) → sealed ≡ sealed_next → IsSoundVault disk (after_step disk seen book k store seen.view.settled sealed true) book
  fault_kept sealed why made is = let f = failed_sealed made.step.1 in failed_kept disk seen book k store sealed f.1 made.step.2 (is ∙ f.0)

  -- a store whose vault isn't broken doesn't say that it is
  pub not_broken : Made (Ok answers.Broken) → ⊥
  not_broken made = never_broken seen.view (answered answers.Broken made)
