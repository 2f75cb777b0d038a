-- The pumps of a commit make all entries durable.
use Rattle.std.proofs.Common.{◌≡◌, ℕ, zero, suc, ◌+◌, ◌-◌, ◌*◌, ◌<◌, ◌≤◌, Bool, true, false, cond, List, [], ◌∷◌, length, drop, refl, sym, ap, ◌∙◌, subst, arith, length-drop}
use Rattle.std.specs.Prelude.{◌/◌, ◌↔◌, IsTrue, nat_le, nat_lt}
use Rattle.std.proofs.Math.Nat.{add-div_right}
use Rattle.std.proofs.lemmas.Nat.{div-mul-add}
use Rattle.std.proofs.lemmas.Bool.{cond-true, lt-ltb, leb-true, leb-false}
use Rattle.std.proofs.lemmas.List.{drop_all}
use Rattle.vault_model.specs.Said.{Effect}
use Rattle.vault_state.specs.Vault.{durable}
use Rattle.vault_store.specs.declared.phase.Phase.{Phase}
use Rattle.vault_store.specs.declared.phase.Phase.TheVariants.{Idle, Written, Bodied, Opening, Start, Closing, Writing, Filled, Ready, SnapOpening}
use Rattle.vault_format.specs.Files.{header}
use Rattle.vault_store.specs.Phases.{Waiting, Nothing, NoEffects, Effects, row, behind_piece, most_piece}
use Rattle.group_commit.specs.Entries.{Kept}
use Rattle.group_commit.specs.History.{effects}
use Rattle.group_commit.specs.Phases.{InOrder, waiting}
use Rattle.group_commit.specs.World.{World, new_world, Pump}
use Rattle.group_commit.specs.Runs.{run}
use Rattle.group_commit.specs.View.{View, length_of, view_at, view_pumped, view_acted}
use Rattle.group_commit.specs.Seen.{snapshot_length}
use Rattle.group_commit.specs.Laws.{IsReachable}
use Rattle.group_commit.proofs.Order.{order_row}
use Rattle.group_commit.proofs.Sound.{IsSound, after_run}
use Rattle.group_commit.proofs.ViewLaw.{len_is}
use Rattle.vault_protocol.specs.Talk.{Line, Known, Awaited, Talk, Said, told, said_of, said, pumped, pumps, pieces, pumps_for, waits_behind, pumps_needed, committed}
use Rattle.vault_protocol.proofs.OpenLines.{AreBelow, open_below}
use Rattle.vault_protocol.proofs.ScriptRuns.{IsSoundTalk}

-- a pump, on the view alone
abbrev pump : View → View
pump v = view_acted snapshot_length v Pump

abbrev pumps_on : ℕ → View → View
pumps_on zero v = v
pumps_on (suc n) v = pumps_on n (pump v)

-- all entries are durable, and nothing is under way
abbrev pub all_settled : View → ℕ → View
all_settled v sealed = record v { settled = length_of v; sealed = sealed; phase = Idle }

-- The pieces of a snapshot.

pieces_last : (n : ℕ) → n ≤ most_piece → pieces n ≡ 1
pieces_last n h =
    let small : n - 1 < most_piece = omega arith in
    let same : n - 1 ≡ 0 * most_piece + (n - 1) = omega arith in
    ap (λ x. suc (x / most_piece)) same ∙ ap suc (div-mul-add 0 most_piece (n - 1) small)

pieces_more : (n : ℕ) → most_piece < n → pieces n ≡ suc (pieces (n - most_piece))
pieces_more n h =
    let same : n - 1 ≡ n - most_piece - 1 + most_piece = omega arith in
    let next : (n - most_piece - 1 + most_piece) / most_piece ≡ (n - most_piece - 1) / most_piece + 1 = add-div_right (n - most_piece - 1) (omega arith) in
    let one : (n - most_piece - 1) / most_piece + 1 ≡ suc ((n - most_piece - 1) / most_piece) = omega arith in
    ap (λ x. suc (x / most_piece)) same ∙ ap suc (next ∙ one)

-- Each pump leaves one pump fewer to make.

abbrev waits : View → Waiting
waits v = waits_behind v v.settled

none_wait : (v : View) (position : ℕ) → length v.kept ≤ position - v.retired → waits_behind v position ≡ Nothing
none_wait v position h = ap (λ entries. waiting entries (effects (view_at v position) entries)) (drop_all (position - v.retired) v.kept h)

all_behind : (v : View) → length v.kept ≤ length_of v - v.retired
all_behind v = omega arith

one_less : (a b x k : ℕ) → a ≡ suc b → a + x ≡ suc k → b + x ≡ k
one_less a b x k h e = omega arith

none_more : (a x k : ℕ) → x ≡ 0 → suc a ≡ suc k → a + x ≡ k
none_more a x k h e = omega arith

plain : (x n : ℕ) → 0 + x ≡ n → x ≡ n
plain x n e = omega arith

-- from rest
idle_falls : (v : View) (k : ℕ) (w : Waiting) → waits v ≡ w → pumps_for w ≡ suc k
    → pumps_needed (view_pumped (row Idle w (snapshot_length (durable (view_at v v.sealed)))) (record v { phase = Idle })) ≡ k
idle_falls v k Nothing w e = absurd (cc)
idle_falls v k NoEffects w e =
    let none : pumps_for (waits_behind v (length_of v)) ≡ 0 = ap pumps_for (none_wait v (length_of v) (all_behind v)) in
    none_more 0 (pumps_for (waits_behind v (length_of v))) k none e
idle_falls v k Effects w e =
    let none : pumps_for (waits_behind v (length_of v)) ≡ 0 = ap pumps_for (none_wait v (length_of v) (all_behind v)) in
    none_more 3 (pumps_for (waits_behind v (length_of v))) k none e

-- after a piece
piece_falls : (v : View) (left x k : ℕ) → 3 + pieces left + x ≡ suc k → x ≡ pumps_for (waits_behind v v.sealed) → pumps_needed (record v { phase = behind_piece left }) ≡ k
piece_falls v left x k e same = by_test (nat_le left most_piece) refl
  where
    by_test : (b : Bool) → nat_le left most_piece ≡ b → pumps_needed (record v { phase = cond b Filled (Writing (left - most_piece)) }) ≡ k
    by_test true h = let last : pieces left ≡ 1 = pieces_last left (leb-true _ _ h) in ap (λ y. 3 + y) (sym same) ∙ one_less 4 3 x k refl (ap (λ p. 3 + p + x) (sym last) ∙ e)
    by_test false h =
        let more : pieces left ≡ suc (pieces (left - most_piece)) = pieces_more left (leb-false _ _ h) in
        ap (λ y. 3 + pieces (left - most_piece) + y) (sym same)
        ∙ one_less (3 + pieces left) (3 + pieces (left - most_piece)) x k (omega (arith, more)) e

falls_in : (p : Phase) (v : View) (k : ℕ) → pumps_needed (record v { phase = p }) ≡ suc k → pumps_needed (pump (record v { phase = p })) ≡ k
falls_in Idle v k e = idle_falls v k (waits v) refl (plain (pumps_for (waits v)) (suc k) e)
falls_in Written v k e = one_less 3 2 (pumps_for (waits_behind v v.sealed)) k refl e
falls_in Bodied v k e = one_less 2 1 (pumps_for (waits_behind v v.sealed)) k refl e
falls_in Opening v k e = one_less 1 0 (pumps_for (waits_behind v v.sealed)) k refl e
falls_in Start v k e =
    let n = pieces (header + snapshot_length (durable (view_at v v.sealed))) in
    one_less (5 + n) (4 + n) (pumps_for (waits_behind v v.sealed)) k (omega arith) e
falls_in Closing v k e =
    let n = pieces (header + snapshot_length (durable (view_at v v.sealed))) in
    one_less (4 + n) (3 + n) (pumps_for (waits_behind v v.sealed)) k (omega arith) e
falls_in (Writing left) v k e = piece_falls v left (pumps_for (waits_behind v v.sealed)) k e refl
falls_in Filled v k e = one_less 3 2 (pumps_for (waits_behind v v.sealed)) k refl e
falls_in Ready v k e = one_less 2 1 (pumps_for (waits_behind v v.sealed)) k refl e
falls_in SnapOpening v k e = one_less 1 0 (pumps_for (waits_behind v v.sealed)) k refl e

pub needed_falls : (v : View) (k : ℕ) → pumps_needed v ≡ suc k → pumps_needed (pump v) ≡ k
needed_falls v k e = falls_in v.phase v k e

-- If no pump is left to make, all entries are durable, and nothing is under way.

some_waits : (x : Kept) (xs : List Kept) (effects : List Effect) → waiting (x ∷ xs) effects ≡ Nothing → ⊥
some_waits x xs [] h = cc h
some_waits x xs (effect ∷ effects) h = cc h

-- if nothing waits, all entries are durable
all_was_settled : (v : View) → waits v ≡ Nothing → v.retired ≤ v.settled → v.settled ≤ length_of v → v.settled ≡ length_of v
all_was_settled v h kept within =
    let none : length (drop (v.settled - v.retired) v.kept) ≡ 0 = ap length (by_entries (drop (v.settled - v.retired) v.kept) h) in
    let size = length-drop (v.settled - v.retired) v.kept in
    omega (arith, none, size, kept, within)
  where
    by_entries : (entries : List Kept) → waiting entries (effects (view_at v v.settled) entries) ≡ Nothing → entries ≡ []
    by_entries [] h = refl
    by_entries (x ∷ xs) h = absurd (some_waits x xs (effects (view_at v v.settled) (x ∷ xs)) h)

none_for : (w : Waiting) → pumps_for w ≡ 0 → w ≡ Nothing
none_for Nothing e = refl
none_for NoEffects e = absurd (cc)
none_for Effects e = absurd (cc)

abbrev pub IsAtRest : View → Type 0
IsAtRest v = (v.phase ≡ Idle) × (v.settled ≡ length_of v)

some_left : (a x : ℕ) → 1 ≤ a → a + x ≡ 0 → ⊥
some_left a x h e = omega arith

rest_in : (p : Phase) (v : View) → InOrder (length_of v) v.retired v.settled v.sealed p → pumps_needed (record v { phase = p }) ≡ 0 → IsAtRest (record v { phase = p })
rest_in Idle v o e = (refl, all_was_settled v (none_for (waits v) (plain (pumps_for (waits v)) 0 e)) o.retired_settled o.settled_all)
rest_in Written v o e = absurd (some_left 3 (pumps_for (waits_behind v v.sealed)) (omega arith) e)
rest_in Bodied v o e = absurd (some_left 2 (pumps_for (waits_behind v v.sealed)) (omega arith) e)
rest_in Opening v o e = absurd (some_left 1 (pumps_for (waits_behind v v.sealed)) (omega arith) e)
rest_in Start v o e = absurd (some_left (5 + pieces (header + snapshot_length (durable (view_at v v.sealed)))) (pumps_for (waits_behind v v.sealed)) (omega arith) e)
rest_in Closing v o e = absurd (some_left (4 + pieces (header + snapshot_length (durable (view_at v v.sealed)))) (pumps_for (waits_behind v v.sealed)) (omega arith) e)
rest_in (Writing left) v o e = absurd (some_left (3 + pieces left) (pumps_for (waits_behind v v.sealed)) (omega arith) e)
rest_in Filled v o e = absurd (some_left 3 (pumps_for (waits_behind v v.sealed)) (omega arith) e)
rest_in Ready v o e = absurd (some_left 2 (pumps_for (waits_behind v v.sealed)) (omega arith) e)
rest_in SnapOpening v o e = absurd (some_left 1 (pumps_for (waits_behind v v.sealed)) (omega arith) e)

pub at_rest : (v : View) → InOrder (length_of v) v.retired v.settled v.sealed v.phase → pumps_needed v ≡ 0 → IsAtRest v
at_rest v o e = rest_in v.phase v o e

pub rest_needs_none : (v : View) → IsAtRest v → pumps_needed v ≡ 0
rest_needs_none v rest =
    ap (λ (p : Phase). pumps_needed (record v { phase = p })) rest.0
    ∙ ap (λ w. 0 + pumps_for w) (none_wait v v.settled (let all : v.settled ≡ length_of v = rest.1 in omega arith))

-- That number of pumps makes all entries durable.

orders : (v : View) → InOrder (length_of v) v.retired v.settled v.sealed v.phase → InOrder (length_of (pump v)) (pump v).retired (pump v).settled (pump v).sealed (pump v).phase
orders v o = order_row (length_of v) v.retired v.settled v.sealed v.phase _ _ o

pumps_settle : (n : ℕ) (v : View) → InOrder (length_of v) v.retired v.settled v.sealed v.phase → pumps_needed v ≡ n → (sealed : ℕ) × (pumps_on n v ≡ all_settled v sealed)
pumps_settle zero v o e = let rest = at_rest v o e in (v.sealed, λ i. record v { settled = rest.1 i; phase = rest.0 i })
pumps_settle (suc n) v o e = let more = pumps_settle n (pump v) (orders v o) (needed_falls v n e) in (more.0, more.1)

-- if it isn't true that no pump is needed
pub some_needed : (b : Bool) (v : View) → (IsTrue b ↔ (pumps_needed v ≡ 0)) → b ≡ false → pumps_needed v ≡ 0 → ⊥
some_needed true v is goes e = cc goes
some_needed false v is goes e = let none : false ≡ true = is.1 e in cc none

-- one of the needed pumps was made
module _ (talk next : Talk) (some : pumps_needed talk.view ≡ 0 → ⊥) (same : next ≡ pumped talk) where
  needed_next : (k : ℕ) → pumps_needed talk.view ≡ suc k → pumps_needed next.view ≡ k
  unfolding pumped
  needed_next k e = ap (λ (t : Talk). pumps_needed t.view) same ∙ needed_falls talk.view k e

  pub one_pump : (all : Talk) → pumps (pumps_needed talk.view) talk ≡ all → pumps (pumps_needed next.view) next ≡ all
  one_pump all is = by_count (pumps_needed talk.view) refl
    where
      by_count : (n : ℕ) → pumps_needed talk.view ≡ n → pumps (pumps_needed next.view) next ≡ all
      by_count zero e = absurd (some e)
      by_count (suc k) e = ap (λ n. pumps n next) (needed_next k e) ∙ ap (pumps k) same ∙ sym (ap (λ n. pumps n talk) e) ∙ is

  pub one_fewer : suc (pumps_needed next.view) ≤ pumps_needed talk.view
  one_fewer = by_count (pumps_needed talk.view) refl
    where
      by_count : (n : ℕ) → pumps_needed talk.view ≡ n → suc (pumps_needed next.view) ≤ pumps_needed talk.view
      by_count zero e = absurd (some e)
      by_count (suc k) e = let next_needs : pumps_needed next.view ≡ k = needed_next k e in omega (arith, next_needs, e)

-- no pump is needed any more
pub no_pump : (talk all : Talk) → pumps_needed talk.view ≡ 0 → pumps (pumps_needed talk.view) talk ≡ all → talk ≡ all
no_pump talk all e is = sym (ap (λ n. pumps n talk) e) ∙ is

pumps_view : (n : ℕ) (talk : Talk) → (pumps n talk).view ≡ pumps_on n talk.view
unfolding pumped
pumps_view zero talk = refl
pumps_view (suc n) talk = pumps_view n (pumped talk)

committed_view : (talk : Talk) → (committed talk).view ≡ pumps_on (pumps_needed talk.view) talk.view
unfolding committed
committed_view talk = pumps_view (pumps_needed talk.view) talk

-- the numbers of a view that some run reaches are in order
pub in_order : (view : View) → IsReachable snapshot_length view → InOrder (length_of view) view.retired view.settled view.sealed view.phase
in_order view r =
    let w : World = run snapshot_length new_world r.events in
    let sound : IsSound w = after_run snapshot_length r.events r.is_run in
    subst (λ (v : View). InOrder (length_of v) v.retired v.settled v.sealed v.phase) r.reaches
    (subst (λ n. InOrder n w.retired w.settled w.sealed w.phase) (sym (len_is w sound)) sound.order)

-- a commit makes all entries durable, and changes nothing else of the view but the number of sealed entries
pub commit_settles : (talk : Talk) → IsSoundTalk (IsReachable snapshot_length) talk → (committed talk).view ≡ all_settled talk.view (committed talk).view.sealed
commit_settles talk s =
    let all = pumps_settle (pumps_needed talk.view) talk.view (in_order talk.view s.vault.holds) refl in
    let whole = committed_view talk ∙ all.1 in
    whole ∙ ap (all_settled talk.view) (sym (ap (λ (v : View). v.sealed) whole))

-- What is printed once all entries are durable.

none_waits : (talk : Talk) (lines : List Line) → AreBelow talk.view.settled lines → (said_of talk lines).talk.lines ≡ []
none_waits talk [] b = refl
none_waits talk (Known text ∷ lines) b = none_waits talk lines b
none_waits talk (Awaited connection position ∷ lines) b =
    ap (λ (s : Said). s.talk.lines) (cond-true (nat_lt position talk.view.settled) _ _ (lt-ltb _ _ b.0)) ∙ none_waits (told talk connection position) lines b.1

-- after a commit no line is left waiting
pub commit_tells : (talk : Talk) → IsSoundTalk (IsReachable snapshot_length) talk → IsSoundTalk (IsReachable snapshot_length) (committed talk) → (said (committed talk)).talk.lines ≡ []
commit_tells talk before behind =
    let whole = commit_settles talk before in
    let settled : (committed talk).view.settled ≡ length_of (committed talk).view =
    ap (λ (v : View). v.settled) whole ∙ sym (ap length_of whole) in
    let view = (committed talk).view in
    none_waits (committed talk) (committed talk).lines
    (subst (λ n. AreBelow n (committed talk).lines) (sym settled) (open_below view.kept view.retired view.retired (committed talk).lines (omega arith) behind.awaited))
