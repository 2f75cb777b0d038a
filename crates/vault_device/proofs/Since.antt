-- The events of a memory since its last sync or crash.
use Rattle.std.proofs.Common.{◌≡◌, ℕ, zero, suc, ◌+◌, ◌-◌, ◌<◌, ◌≤◌, min, max, true, List, [], ◌∷◌, ◌++◌, length, get_or, replicate, reverse, take, drop, refl, sym, ◌∙◌, ap, subst, arith, vec_capacity, length-append, ◌==◌}
use Rattle.std.proofs.lemmas.Bool.Decides.{nat_tests}
use Rattle.std.proofs.lemmas.List.{reverse-append, drop-append-le, drop_all, length-drop, length-replicate, drop_more, take_all}
use Rattle.vault_device.specs.Disk.{overwritten}
use Rattle.vault_device.specs.declared.history.Event.TheVariants.{Wrote, Synced, Crashed}
use Rattle.vault_device.specs.declared.history.Pick.{Pick}
use Rattle.vault_device.specs.declared.history.Pick.TheVariants.{Old, New, Bytes}
use Rattle.vault_device.specs.Memory.{Event, Content, content_of, covered, left, LeadsTo, is_at_rest, picked, at_rest}
use Rattle.vault_device.specs.declared.memory.Memory.TheInside.{Inside}
use Rattle.vault_device.proofs.Torn.{length-overwritten}
use Rattle.vault_device.specs.MemoryView.{history_of, since, IsMemory}

history-push : (events : List Event) (e : Event) → reverse (events ++ e ∷ []) ≡ e ∷ reverse events
history-push events e = reverse-append events (e ∷ [])

covered-push : (b : ℕ) (later : List Event) (at : ℕ) (bytes x : List ℕ) → covered b (later ++ Wrote at bytes ∷ []) x ≡ overwritten (covered b later x) at (replicate (length bytes) b)
covered-push b [] at bytes x = refl
covered-push b (Wrote k text ∷ later) at bytes x = covered-push b later at bytes (overwritten x k (replicate (length text) b))
covered-push b (Synced ∷ later) at bytes x = covered-push b later at bytes x
covered-push b (Crashed pick ∷ later) at bytes x = covered-push b later at bytes x

leads-push : (len total : ℕ) (later : List Event) (at : ℕ) (bytes : List ℕ) → LeadsTo len total later → at ≤ total → LeadsTo len (max total (at + length bytes)) (later ++ Wrote at bytes ∷ [])
leads-push len total [] at bytes leads le = (omega (arith, leads, le), ap (λ (n : ℕ). max n (at + length bytes)) leads)
leads-push len total (Wrote k text ∷ later) at bytes leads le = (leads.0, leads-push (max len (k + length text)) total later at bytes leads.1 le)
leads-push len total (Synced ∷ later) at bytes leads le = leads-push len total later at bytes leads le
leads-push len total (Crashed pick ∷ later) at bytes leads le = leads-push len total later at bytes leads le

-- fewer bytes at the front are the same
fewer_same : (k n : ℕ) (x y : List ℕ) → k ≤ n → take n x ≡ take n y → take k x ≡ take k y
fewer_same k n x y le same = sym (take_fewer k n x le) ∙ ap (take k) same ∙ take_fewer k n y le
  where
    take_fewer : (k n : ℕ) (x : List ℕ) → k ≤ n → take k (take n x) ≡ take k x
    take_fewer zero n x le = refl
    take_fewer (suc k) zero x le = absurd (omega arith)
    take_fewer (suc k) (suc n) [] le = refl
    take_fewer (suc k) (suc n) (b ∷ x) le = ap (λ rest. b ∷ rest) (take_fewer k n x (omega arith))

-- what is put behind the first bytes leaves them
untouched : (k at : ℕ) (bytes rest old : List ℕ) → k ≤ at → at ≤ length old → take k (take at old ++ bytes ++ rest) ≡ take k old
untouched zero at bytes rest old le within = refl
untouched (suc k) zero bytes rest old le within = absurd (omega arith)
untouched (suc k) (suc at) bytes rest [] le within = absurd (omega arith)
untouched (suc k) (suc at) bytes rest (b ∷ old) le within = ap (λ more. b ∷ more) (untouched k at bytes rest old (omega arith) (omega arith))

pub put_kept : {A : Type 0} (old new : Inside A) (at : ℕ) (bytes : List ℕ) → IsMemory old → at ≤ length old.shown.items
    → new.shown.items ≡ overwritten old.shown.items at bytes → new.settled.items ≡ old.settled.items → new.events.items ≡ old.events.items ++ Wrote at bytes ∷ [] → new.start ≡ old.start → new.clean ≡ min old.clean at
    → length new.shown.items ≤ vec_capacity new.settled → length new.events.items < vec_capacity new.events → IsMemory new
put_kept old new at bytes kept le shown settled events start clean room slot = record {
  shown = shown ∙ ap (λ (l : List ℕ). overwritten l at bytes) kept.shown ∙ sym (ap (λ (h : List Event). (content_of h).shown) history_is);
  settled = settled ∙ kept.settled ∙ sym (ap (λ (h : List Event). (content_of h).settled) history_is);
  filled = λ b.
      ap (λ (h : List Event). (content_of h).filled b) history_is ∙ ap (λ (l : List ℕ). overwritten l at (replicate (length bytes) b)) (kept.filled b)
      ∙ sym (covered-push b (since old) at bytes old.settled.items) ∙ ap (λ (l : List Event). covered b l old.settled.items) (sym since_is) ∙ ap (λ (x : List ℕ). covered b (since new) x) (sym settled);
  leads =
      let longer = leads-push (length old.settled.items) (length old.shown.items) (since old) at bytes kept.leads le in
      let size : max (length old.shown.items) (at + length bytes) ≡ length new.shown.items = sym (ap length shown ∙ length-overwritten old.shown.items at bytes le) in
      subst (λ (n : ℕ). LeadsTo (length new.settled.items) n (since new)) size
      (subst (λ (n : ℕ). LeadsTo n (max (length old.shown.items) (at + length bytes)) (since new)) (ap length (sym settled))
      (subst (λ (l : List Event). LeadsTo (length old.settled.items) (max (length old.shown.items) (at + length bytes)) l) (sym since_is) longer));
  start = omega (arith, start, kept.start, grown);
  rest = rested;
  clean = omega (arith, clean, kept.clean, ap length settled);
  same =
      ap (λ (l : List ℕ). take new.clean l) settled ∙ ap (λ (n : ℕ). take n old.settled.items) clean
      ∙ fewer_same (min old.clean at) old.clean old.settled.items old.shown.items (omega arith) kept.same
      ∙ sym (untouched (min old.clean at) at bytes (drop (at + length bytes) old.shown.items) old.shown.items (omega arith) le)
      ∙ sym (ap (λ (n : ℕ). take n (overwritten old.shown.items at bytes)) clean) ∙ sym (ap (λ (l : List ℕ). take new.clean l) shown);
  room = room;
  slot = λ lt. slot;
}
  where
    grown : length new.events.items ≡ length old.events.items + 1
    grown = ap length events ∙ length-append old.events.items (Wrote at bytes ∷ [])

    history_is : history_of new ≡ Wrote at bytes ∷ history_of old
    history_is = ap (λ (l : List Event). reverse l) events ∙ history-push old.events.items (Wrote at bytes)

    rested : (new.start == length new.events.items) ≡ is_at_rest (history_of new)
    rested = grind (arith, nat_tests, start, kept.start, grown) ∙ sym (ap (λ (h : List Event). is_at_rest h) history_is)

    since_is : since new ≡ since old ++ Wrote at bytes ∷ []
    since_is = ap (λ (n : ℕ). drop n new.events.items) start ∙ ap (λ (l : List Event). drop old.start l) events ∙ drop-append-le old.start old.events.items (Wrote at bytes ∷ []) kept.start

pub leads_up : (len total : ℕ) (later : List Event) → LeadsTo len total later → len ≤ total
leads_up len total [] leads = omega (arith, leads)
leads_up len total (Wrote at bytes ∷ later) leads = omega (arith, leads_up (max len (at + length bytes)) total later leads.1)
leads_up len total (Synced ∷ later) leads = leads_up len total later leads
leads_up len total (Crashed pick ∷ later) leads = leads_up len total later leads

-- a write among them has room
pub leads_room : (len total at : ℕ) (bytes : List ℕ) (events : List Event) (i : ℕ) (e : Event) → i < length events → e ≡ get_or events i e → e ≡ Wrote at bytes → LeadsTo len total (drop i events) → at + length bytes ≤ total
leads_room len total at bytes events i e below is-item is-write leads =
    let first : drop i events ≡ Wrote at bytes ∷ drop (i + 1) events =
    drop_more events i e below ∙ ap (λ (t : Event). t ∷ drop (i + 1) events) (sym is-item ∙ is-write) in
    let split = subst (λ (l : List Event). LeadsTo len total l) first leads in
    omega (arith, leads_up (max len (at + length bytes)) total (drop (i + 1) events) split.1)

-- one more event is covered, where it wrote
pub cover_wrote : (b total at : ℕ) (text : List ℕ) (events : List Event) (i : ℕ) (e : Event) (x y first : List ℕ) → i < length events → e ≡ get_or events i e → e ≡ Wrote at text → y ≡ overwritten x at (replicate (length text) b)
    → LeadsTo (length x) total (drop i events) → covered b (drop i events) x ≡ first → LeadsTo (length y) total (drop (i + 1) events) × (covered b (drop (i + 1) events) y ≡ first)
cover_wrote b total at text events i e x y first below is-item is-write is-cover leads is-first =
    let split : drop i events ≡ Wrote at text ∷ drop (i + 1) events = drop_more events i e below ∙ ap (λ (t : Event). t ∷ drop (i + 1) events) (sym is-item ∙ is-write) in
    let there = subst (λ (l : List Event). LeadsTo (length x) total l) split leads in
    let size : length y ≡ max (length x) (at + length text) = ap length is-cover ∙ length-overwritten x at (replicate (length text) b) there.0 ∙ ap (λ (n : ℕ). max (length x) (at + n)) (length-replicate (length text) b) in (
      subst (λ (n : ℕ). LeadsTo n total (drop (i + 1) events)) (sym size) there.1,
      ap (λ (l : List ℕ). covered b (drop (i + 1) events) l) is-cover ∙ ap (λ (l : List Event). covered b l x) (sym split) ∙ is-first,
    )

pub cover_synced : (b total : ℕ) (events : List Event) (i : ℕ) (e : Event) (x y first : List ℕ) → i < length events → e ≡ get_or events i e → e ≡ Synced → y ≡ x
    → LeadsTo (length x) total (drop i events) → covered b (drop i events) x ≡ first → LeadsTo (length y) total (drop (i + 1) events) × (covered b (drop (i + 1) events) y ≡ first)
cover_synced b total events i e x y first below is-item is-sync same leads is-first =
    let split : drop i events ≡ Synced ∷ drop (i + 1) events = drop_more events i e below ∙ ap (λ (t : Event). t ∷ drop (i + 1) events) (sym is-item ∙ is-sync) in (
      subst (λ (l : List ℕ). LeadsTo (length l) total (drop (i + 1) events)) (sym same) (subst (λ (l : List Event). LeadsTo (length x) total l) split leads),
      ap (λ (l : List ℕ). covered b (drop (i + 1) events) l) same ∙ ap (λ (l : List Event). covered b l x) (sym split) ∙ is-first,
    )

pub cover_crashed : (b total : ℕ) (pick : Pick) (events : List Event) (i : ℕ) (e : Event) (x y first : List ℕ) → i < length events → e ≡ get_or events i e → e ≡ Crashed pick → y ≡ x
    → LeadsTo (length x) total (drop i events) → covered b (drop i events) x ≡ first → LeadsTo (length y) total (drop (i + 1) events) × (covered b (drop (i + 1) events) y ≡ first)
cover_crashed b total pick events i e x y first below is-item is-crash same leads is-first =
    let split : drop i events ≡ Crashed pick ∷ drop (i + 1) events = drop_more events i e below ∙ ap (λ (t : Event). t ∷ drop (i + 1) events) (sym is-item ∙ is-crash) in (
      subst (λ (l : List ℕ). LeadsTo (length l) total (drop (i + 1) events)) (sym same) (subst (λ (l : List Event). LeadsTo (length x) total l) split leads),
      ap (λ (l : List ℕ). covered b (drop (i + 1) events) l) same ∙ ap (λ (l : List Event). covered b l x) (sym split) ∙ is-first,
    )

-- all of these bytes are durable now
pub rest_kept : {A : Type 0} (old new : Inside A) (e : Event) (bytes : List ℕ) → content_of (e ∷ history_of old) ≡ at_rest bytes → is_at_rest (e ∷ history_of old) ≡ true
    → new.shown.items ≡ bytes → new.settled.items ≡ bytes → new.events.items ≡ old.events.items ++ e ∷ [] → new.start ≡ length new.events.items → new.clean ≡ length new.shown.items → length bytes ≤ vec_capacity new.settled → IsMemory new
rest_kept old new e bytes content rest shown settled events start clean room = record {
  shown = shown ∙ sym (ap (λ (k : Content). k.shown) now);
  settled = settled ∙ sym (ap (λ (k : Content). k.settled) now);
  filled = λ b. ap (λ (k : Content). k.filled b) now ∙ sym settled ∙ sym (ap (λ (l : List Event). covered b l new.settled.items) none);
  leads = subst (λ (l : List Event). LeadsTo (length new.settled.items) (length new.shown.items) l) (sym none) (ap length (settled ∙ sym shown));
  start = omega (arith, start);
  rest = let same = start in grind (arith, nat_tests) ∙ sym (ap (λ (h : List Event). is_at_rest h) history_is ∙ rest);
  clean = omega (arith, clean, ap length shown, ap length settled);
  same = ap (λ (l : List ℕ). take new.clean l) (settled ∙ sym shown);
  room = omega (arith, room, ap length shown);
  slot = λ lt. absurd (omega (arith, lt, start));
}
  where
    history_is : history_of new ≡ e ∷ history_of old
    history_is = ap (λ (l : List Event). reverse l) events ∙ history-push old.events.items e

    now : content_of (history_of new) ≡ at_rest bytes
    now = ap (λ (h : List Event). content_of h) history_is ∙ content

    none : since new ≡ []
    none = drop_all new.start new.events.items (omega (arith, start))

left_picked : {A : Type 0} (pick : Pick) (old : Inside A) → IsMemory old → left pick old.shown.items old.settled.items (since old) ≡ picked pick (content_of (history_of old))
left_picked Old old kept = kept.settled
left_picked New old kept = kept.shown
left_picked (Bytes b) old kept = sym (kept.filled b)

-- a slice of the events from the last sync or crash on is what was done since
left_since : (pick : Pick) (shown other settled : List ℕ) (start : ℕ) (all events : List Event) → other ≡ settled → all ≡ events
    → left pick shown other (take (length all - start) (drop start all)) ≡ left pick shown settled (drop start events)
left_since pick shown other settled start all events same same_events =
    ap (λ (s : List ℕ). left pick shown s (take (length all - start) (drop start all))) same
    ∙ ap (λ (l : List Event). left pick shown settled l) (take_all (length all - start) (drop start all) (omega (arith, length-drop start all)) ∙ ap (λ (l : List Event). drop start l) same_events)

-- a crash, where what it picks was made of slices of the fields
pub crash_kept : {A : Type 0} (pick : Pick) (old new : Inside A) (other : List ℕ) (all : List Event) → IsMemory old → new.shown.items ≡ left pick old.shown.items other (take (length all - old.start) (drop old.start all)) → other ≡ old.settled.items → all ≡ old.events.items
    → new.settled.items ≡ new.shown.items → new.events.items ≡ old.events.items ++ Crashed pick ∷ [] → new.start ≡ length new.events.items → new.clean ≡ length new.shown.items → length new.shown.items ≤ vec_capacity new.settled → IsMemory new
crash_kept pick old new other all kept shown same same_events settled events start clean room =
    let is : new.shown.items ≡ picked pick (content_of (history_of old)) =
    shown ∙ left_since pick old.shown.items other old.settled.items old.start all old.events.items same same_events ∙ left_picked pick old kept in
    rest_kept old new (Crashed pick) (picked pick (content_of (history_of old))) refl refl is (settled ∙ is) events start clean (omega (arith, room, ap length is))
