-- A dialogue goes from step to step, and ends.
use Rattle.std.proofs.Common.{◌≡◌, ◌≢◌, ℕ, ◌+◌, ◌<◌, ◌≤◌, Bool, true, false, List, length, drop, drop_of_length-le, sym, refl, subst, arith, Option}
use Rattle.std.proofs.lemmas.Bool.Decides.{nat_tests}
use Rattle.std.specs.Prelude.{◌==◌}
use Rattle.std.specs.Io.KnownBytes.{Appends}
use Rattle.std.proofs.KnownBytes.{Appends-nil}
use Rattle.line_inlet.specs.Inflow.{Inflow}
use Rattle.line_inlet.specs.Reading.{Reading}
use Rattle.group_commit.specs.View.{View}
use Rattle.vault_desk.specs.Serving.{AreSeen, session_of, left_behind, lost_by, Counts, CountsWith}
use Rattle.vault_desk.specs.Talking.{Stands, Knows, TellsOn}
use Rattle.vault_sessions.specs.Dialogues.{IsDone, StandsIn, is_done, has_ended, awaits_of}
use Rattle.vault_desk.specs.declared.report.Out.{Out}
use Rattle.vault_desk.specs.declared.report.Ended.{Ended}
use Rattle.vault_desk.specs.declared.report.Ended.TheVariants as ends
use Rattle.group_commit.specs.Ticket.{TicketSeen}
use Rattle.vault_sessions.specs.declared.dialogue.Awaits.TheVariants as awaited
use Rattle.vault_desk.specs.declared.tally.Totals.{Totals}
use Rattle.vault_desk.specs.declared.turn.Telling.{Telling}
use Rattle.vault_desk.specs.declared.turn.Turn.{Turn}
use Rattle.vault_desk.specs.declared.turn.Turn.TheVariants.{Hear, Keep, Wait, Tell, Over}
use Rattle.vault_sessions.specs.declared.next.Next.{Next}
use Rattle.vault_sessions.specs.declared.next.Next.TheVariants.{Takes, GivenUp, Done, TakenOut}
use Rattle.vault_desk.specs.declared.waits.PendingWait.{PendingWait}
use Rattle.vault_desk.proofs.Talks.{part_end, ends_so, readers, told_on}

-- its session is the one that the answers leave open
pub stands_for : {A : Type 0} (next : Next A) (r0 r : Reading) (w0 w : Option (List ℕ)) (s0 : Totals) (inflow : Inflow) (kept : List ℕ) (is_long : Bool)
    (outs : List (Out A)) (session : ℕ) (share : Totals) → StandsIn next r0 r w0 w s0 inflow kept is_long outs session share → session ≡ session_of 0 outs
stands_for (Takes turn) r0 r w0 w s0 inflow kept is_long outs session share h = h.session_is
stands_for (GivenUp ended) r0 r w0 w s0 inflow kept is_long outs session share h = h.session_is
stands_for (Done ended left) r0 r w0 w s0 inflow kept is_long outs session share h = h.0.session_is
stands_for TakenOut r0 r w0 w s0 inflow kept is_long outs session share h = absurd h

-- where no step is left it has ended
pub done_ended : {A : Type 0} (next : Next A) → is_done next ≡ true → has_ended next ≡ true
done_ended (Takes turn) e = absurd (cc)
done_ended (GivenUp ended) e = refl
done_ended (Done ended left) e = refl
done_ended TakenOut e = refl

-- writing an answer asks for nothing
pub told_knows : {A : Type 0} (telling : Telling A) (turn : Turn A) (old new : Option (List ℕ)) (seen : List View) (outs : List (Out A))
    → TellsOn telling turn old new → AreSeen seen outs → Knows turn seen outs
told_knows telling Hear old new seen outs is all = record { told = all; asked = tt }
told_knows telling (Keep kept) old new seen outs is all = record { told = all; asked = tt }
told_knows telling (Wait ticket) old new seen outs is all = absurd is
told_knows telling (Tell more) old new seen outs is all = record { told = all; asked = tt }
told_knows telling (Over ended) old new seen outs is all = record { told = all; asked = tt }

-- a turn that isn't this one is for something else
pub hears_no_more : {A : Type 0} (turn : Turn A) → (turn ≡ Hear → ⊥) → awaits_of (Takes turn) ≢ awaited.Line
hears_no_more Hear other e = absurd (other refl)
hears_no_more (Keep kept) other e = absurd (cc)
hears_no_more (Wait ticket) other e = absurd (cc)
hears_no_more (Tell telling) other e = absurd (cc)
hears_no_more (Over ended) other e = absurd (cc)

pub keeps_no_more : {A : Type 0} (turn : Turn A) → ((kept : PendingWait) → turn ≡ Keep kept → ⊥) → awaits_of (Takes turn) ≢ awaited.Claim
keeps_no_more Hear other e = absurd (cc)
keeps_no_more (Keep kept) other e = absurd (other kept refl)
keeps_no_more (Wait ticket) other e = absurd (cc)
keeps_no_more (Tell telling) other e = absurd (cc)
keeps_no_more (Over ended) other e = absurd (cc)

pub waits_no_more : {A : Type 0} (turn : Turn A) → ((ticket : TicketSeen) → turn ≡ Wait ticket → ⊥) → awaits_of (Takes turn) ≢ awaited.Reply
waits_no_more Hear other e = absurd (cc)
waits_no_more (Keep kept) other e = absurd (cc)
waits_no_more (Wait ticket) other e = absurd (other ticket refl)
waits_no_more (Tell telling) other e = absurd (cc)
waits_no_more (Over ended) other e = absurd (cc)

pub tells_no_more : {A : Type 0} (turn : Turn A) → ((telling : Telling A) → turn ≡ Tell telling → ⊥) → awaits_of (Takes turn) ≢ awaited.Telling
tells_no_more Hear other e = absurd (cc)
tells_no_more (Keep kept) other e = absurd (cc)
tells_no_more (Wait ticket) other e = absurd (cc)
tells_no_more (Tell telling) other e = absurd (other telling refl)
tells_no_more (Over ended) other e = absurd (cc)

-- what may be counted with some lost may be with more
counts_less : {A : Type 0} (old new : Totals) (outs : List (Out A)) (lost more : ℕ) → CountsWith old outs lost new → CountsWith old outs (lost + more) new
counts_less old new outs lost more h = record { told = h.told; least = h.least; most = omega (arith, h.most) }

-- a session that is still open is left behind
left_one : {A : Type 0} (outs : List (Out A)) → session_of 0 outs ≢ 0 → left_behind outs ≡ 1
left_one outs stands =
    let no : (session_of 0 outs == 0) ≡ false = grind (arith, nat_tests) in
    rw no refl

-- one last leave is counted
counts_leave : {A : Type 0} (old mid new : Totals) (outs : List (Out A)) (lost : ℕ) → CountsWith old outs lost mid → Counts mid 0 1 new
    → session_of 0 outs ≢ 0 → CountsWith old outs (lost + left_behind outs) new
counts_leave old mid new outs lost h more stands = record {
  told = omega (arith, h.told, more.told);
  least = omega (arith, h.least, more.least);
  most = omega (arith, h.most, more.most, left_one outs stands);
}

-- a conversation that ended is done with no last leave
pub done_so : {A : Type 0} (ended : Ended) (r0 r : Reading) (w0 w : Option (List ℕ)) (s0 : Totals) (inflow : Inflow) (kept : List ℕ) (is_long : Bool)
    (outs : List (Out A)) (session : ℕ) (share : Totals)
    → Stands (Over ended) r0 r w0 w s0 inflow kept is_long outs session share → IsDone ended r0 r w0 w s0 outs session share
done_so ended r0 r w0 w s0 inflow kept is_long outs session share h = record {
  heard = h.heard;
  few = omega (arith, h.few);
  spoken = h.spoken;
  session_is = h.session_is;
  written = h.written.0;
  quit = h.written.1;
  counted = counts_less s0 share outs (lost_by ended) (left_behind outs) h.counted;
}

-- and with one of the session that is open
pub done_left : {A : Type 0} (ended : Ended) (r0 r : Reading) (w0 w : Option (List ℕ)) (s0 : Totals) (inflow : Inflow) (kept : List ℕ) (is_long : Bool)
    (outs : List (Out A)) (session : ℕ) (share new : Totals)
    → Stands (Over ended) r0 r w0 w s0 inflow kept is_long outs session share → session ≢ 0 → Counts share 0 1 new
    → IsDone ended r0 r w0 w s0 outs session new
done_left ended r0 r w0 w s0 inflow kept is_long outs session share new h stands more = record {
  heard = h.heard;
  few = omega (arith, h.few);
  spoken = h.spoken;
  session_is = h.session_is;
  written = h.written.0;
  quit = h.written.1;
  counted = counts_leave s0 share new outs (lost_by ended) h.counted more (subst (λ n. n ≢ 0) h.session_is stands);
}

-- a conversation that would hear a line ends as a reader that fails
pub stops_hearing : {A : Type 0} (r0 r : Reading) (w0 w : Option (List ℕ)) (s0 : Totals) (inflow : Inflow) (kept : List ℕ) (is_long : Bool)
    (outs : List (Out A)) (session : ℕ) (share : Totals)
    → Stands Hear r0 r w0 w s0 inflow kept is_long outs session share → Stands (Over ends.Read) r0 r w0 w s0 inflow kept is_long outs session share
stops_hearing r0 r w0 w s0 inflow kept is_long outs session share h =
    ends_so ends.Read r0 r r w0 w s0 inflow inflow kept kept is_long is_long outs session share
    (part_end r0 r inflow kept is_long outs ends.Read h.heard (λ given left. tt)) (readers ends.Read tt) h

-- one that has bytes of an answer to write ends as a writer that fails
pub stops_telling : {A : Type 0} (telling : Telling A) (r0 r : Reading) (w0 w : Option (List ℕ)) (s0 : Totals) (inflow : Inflow) (kept : List ℕ) (is_long : Bool)
    (outs : List (Out A)) (session : ℕ) (share : Totals) → telling.written < length telling.text.items
    → Stands (Tell telling) r0 r w0 w s0 inflow kept is_long outs session share → Stands (Over ends.Write) r0 r w0 w s0 inflow kept is_long outs session share
stops_telling telling r0 r w0 w s0 inflow kept is_long outs session share less h =
    let told : TellsOn telling (Over ends.Write) w w = (0, omega (arith, less), Appends-nil w) in
    told_on telling (Over ends.Write) r0 r w0 w w s0 inflow kept is_long outs session share told h

-- one that has none is through with it
told_nothing : {A : Type 0} (telling : Telling A) (w : Option (List ℕ)) → length telling.text.items ≤ telling.written
    → Appends w w (drop telling.written telling.text.items)
told_nothing telling w long = subst (Appends w w) (sym (drop_of_length-le telling.text.items {i = telling.written} long)) (Appends-nil w)

pub stops_told : {A : Type 0} (telling : Telling A) (r0 r : Reading) (w0 w : Option (List ℕ)) (s0 : Totals) (inflow : Inflow) (kept : List ℕ) (is_long : Bool)
    (outs : List (Out A)) (session : ℕ) (share : Totals) → length telling.text.items ≤ telling.written → telling.is_left ≡ false
    → Stands (Tell telling) r0 r w0 w s0 inflow kept is_long outs session share → Stands (Over ends.Read) r0 r w0 w s0 inflow kept is_long outs session share
stops_told telling r0 r w0 w s0 inflow kept is_long outs session share long stays h =
    stops_hearing r0 r w0 w s0 inflow kept is_long outs session share
    (told_on telling Hear r0 r w0 w w s0 inflow kept is_long outs session share (told_nothing telling w long, stays) h)

pub stops_left : {A : Type 0} (telling : Telling A) (r0 r : Reading) (w0 w : Option (List ℕ)) (s0 : Totals) (inflow : Inflow) (kept : List ℕ) (is_long : Bool)
    (outs : List (Out A)) (session : ℕ) (share : Totals) → length telling.text.items ≤ telling.written → telling.is_left ≡ true
    → Stands (Tell telling) r0 r w0 w s0 inflow kept is_long outs session share → Stands (Over ends.Quit) r0 r w0 w s0 inflow kept is_long outs session share
stops_left telling r0 r w0 w s0 inflow kept is_long outs session share long left h =
    told_on telling (Over ends.Quit) r0 r w0 w w s0 inflow kept is_long outs session share (told_nothing telling w long, left) h
