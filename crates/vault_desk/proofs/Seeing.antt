-- What was seen of a vault stands in its history.
use Rattle.std.proofs.Common.{◌≡◌, ℕ, ◌+◌, ◌≤◌, List, [], ◌∷◌, ◌++◌, length, Some, slice_get, refl, ap, sym, ◌∙◌, subst, arith}
use Rattle.std.specs.Prelude.{zero, suc}
use mathlib.Core.List.{IsPrefix}
use Rattle.vault_model.specs.Said.{Command}
use Rattle.group_commit.specs.Entries.{Entry}
use Rattle.group_commit.specs.History.{entry_of}
use Rattle.group_commit.specs.World.{Act, Stage, Pump, Fault, StartSnapshot, Forget, Retire}
use Rattle.group_commit.specs.World as world
use Rattle.group_commit.specs.View.{View, length_of, book_of, ViewAllows, view_acted}
use Rattle.group_commit.specs.Ticket.{TicketSeen, Told as ToldSeen, ticket_of}
use Rattle.group_commit.specs.Calls.{IsReceiptOf}
use Rattle.group_commit.specs.Positions.{HasEntry, HasTold}
use Rattle.group_commit.specs.Seen.{VaultSeen, snapshot_length}
use Rattle.group_commit.specs.Pasts.{IsAnswered}
use Rattle.group_commit.proofs.Positions.{staged_at, positions_stay, receipts_are_told}
use Rattle.vault_desk.specs.Acts.{view_after, AreAllowed, GoesOn}
use Rattle.vault_desk.specs.Sights.{WentThrough, IsStaged, WasStaged, WasTold, Acknowledged, SeenIsAcknowledged}
use Rattle.vault_desk.specs.Talking.{Knows, IsAnswered as IsToTell}
use Rattle.vault_desk.specs.declared.turn.Turn.{Turn}
use Rattle.vault_desk.specs.declared.turn.Turn.TheVariants.{Hear, Keep, Wait, Tell, Over}
use Rattle.vault_desk.specs.Serving.{IsSeen, AreSeen, IsOfHistory, AreOfHistory}
use Rattle.vault_desk.specs.declared.report.Out.{Out}
use Rattle.vault_desk.specs.declared.report.Out.TheVariants.{Told, Refused}
use Rattle.vault_desk.proofs.Acts.{begins, answered}
use Rattle.vault_desk.proofs.Prefixes.{prefix_get, last_at}

abbrev pub after_both : (v : View) (xs ys : List Act) → view_after v (ys ++ xs) ≡ view_after (view_after v xs) ys
after_both v xs [] = refl
after_both v xs (y ∷ ys) = ap (λ (u : View). view_acted snapshot_length u y) (after_both v xs ys)

abbrev pub allowed_both : (v : View) (xs ys : List Act) → AreAllowed v xs → AreAllowed (view_after v xs) ys → AreAllowed v (ys ++ xs)
allowed_both v xs [] p q = p
allowed_both v xs (y ∷ ys) p q = (subst (λ (u : View). ViewAllows snapshot_length u y) (sym (after_both v xs ys)) q.0, allowed_both v xs ys p q.1)

-- from one view to a second one, and from there to a third
abbrev pub goes_further : (a b c : View) → GoesOn a b → GoesOn b c → GoesOn a c
goes_further a b c p q = record {
  acts = q.acts ++ p.acts;
  allowed = allowed_both a p.acts q.acts p.allowed (subst (λ (v : View). AreAllowed v q.acts) (sym p.leads) q.allowed);
  leads = after_both a p.acts q.acts ∙ (ap (λ (v : View). view_after v q.acts) p.leads ∙ q.leads);
}

-- a vault that goes on went through the same views
pub went_on : (old now new : View) (log : List View) → WentThrough old now log → GoesOn now new → WentThrough old new log
went_on old now new [] h on = tt
went_on old now new (v ∷ vs) h on = (h.0, goes_further v now new h.1 on, went_on old now new vs h.2 on)

pub went_call : {D : Type 0} (first : View) (old new : VaultSeen D) (log : List View) → WentThrough first old.view log → IsAnswered old new
    → WentThrough first new.view log
went_call first old new log h is = went_on first old.view new.view log h (answered old.view old new (begins old.view) is)

-- and it goes through its present one
pub went_here : (old now : View) (log : List View) → WentThrough old now log → GoesOn old now → WentThrough old now (log ++ now ∷ [])
went_here old now [] h on = (on, begins now, tt)
went_here old now (v ∷ vs) h on = (h.0, h.1, went_here old now vs h.2 on)

-- of what it went through, a beginning is such, too
pub went_prefix : (old new : View) (xs ys : List View) → IsPrefix xs ys → WentThrough old new ys → WentThrough old new xs
went_prefix old new [] ys p h = tt
went_prefix old new (x ∷ xs) [] p h = absurd (cc (p.1))
went_prefix old new (x ∷ xs) (y ∷ ys) p h =
    let same : y ≡ x = cc (p.1) in
    (subst (λ (v : View). GoesOn old v) same h.0, subst (λ (v : View). GoesOn v new) same h.1, went_prefix old new xs ys (p.0, cc (p.1)) h.2)

pub went_at : (old new : View) (log : List View) (k : ℕ) (v : View) → WentThrough old new log → slice_get log k ≡ Some v → GoesOn old v × GoesOn v new
went_at old new [] k v h e = absurd cc
went_at old new (x ∷ xs) zero v h e =
    let same : x ≡ v = cc e in
    (subst (λ (u : View). GoesOn old u) same h.0, subst (λ (u : View). GoesOn u new) same h.1)
went_at old new (x ∷ xs) (suc k) v h e = went_at old new xs k v h.2 e

-- what was seen is seen in all that was seen since
pub staged_in : (xs ys : List View) (claim : TicketSeen) → IsPrefix xs ys → WasStaged xs claim → WasStaged ys claim
staged_in xs ys claim p h = record { place = h.place; view = h.view; is_seen = prefix_get xs ys h.place h.view p h.is_seen; staged = h.staged }

pub told_in : (xs ys : List View) (told : ToldSeen) → IsPrefix xs ys → WasTold xs told → WasTold ys told
told_in xs ys told p h = record { place = h.place; view = h.view; is_seen = prefix_get xs ys h.place h.view p h.is_seen; has = h.has }

-- an entry that was staged is seen at the last moment
pub staged_last : (before : List View) (v : View) (claim : TicketSeen) → IsStaged v claim → WasStaged (before ++ v ∷ []) claim
staged_last before v claim h = record { place = length before; view = v; is_seen = last_at before v; staged = h }

pub told_last : (before : List View) (v : View) (told : ToldSeen) → HasTold v told → WasTold (before ++ v ∷ []) told
told_last before v told h = record { place = length before; view = v; is_seen = last_at before v; has = h }

-- so is what was shown, in all that was seen since
pub shown_staged : (before shown new : List View) (v : View) (claim : TicketSeen) → shown ≡ before ++ v ∷ [] → IsPrefix shown new → IsStaged v claim
    → WasStaged new claim
shown_staged before shown new v claim is p h = staged_in shown new claim p (subst (λ (l : List View). WasStaged l claim) (sym is) (staged_last before v claim h))

pub shown_told : (before shown new : List View) (v : View) (told : ToldSeen) → shown ≡ before ++ v ∷ [] → IsPrefix shown new → HasTold v told → WasTold new told
shown_told before shown new v told is p h = told_in shown new told p (subst (λ (l : List View). WasTold l told) (sym is) (told_last before v told h))

-- a command that was staged just now is
pub staged_now : (old new : View) (life session : ℕ) (command : Command) (claim : TicketSeen) → new ≡ view_acted snapshot_length old (Stage session command)
    → claim ≡ ticket_of life (length_of old) (entry_of (book_of old) session command) → IsStaged new claim
staged_now old new life session command claim made is =
    let entry = entry_of (book_of old) session command in
    let there = staged_at old session command in
    let P : View → TicketSeen → Type 0 = λ v c. IsStaged v c in
    subst (λ (v : View). P v claim) (sym made) (subst (P (view_acted snapshot_length old (Stage session command))) (sym is)
    (record { entry = entry; stands = there; names = refl }))

retired_rises : (v : View) (act : Act) → v.retired ≤ (view_acted snapshot_length v act).retired
retired_rises v (Stage session command) = omega arith
retired_rises v Pump = omega arith
retired_rises v Fault = omega arith
retired_rises v StartSnapshot = omega arith
retired_rises v (world.Tell position) = omega arith
retired_rises v (Forget position) = omega arith
retired_rises v Retire = omega arith

acts_stay : (v : View) (acts : List Act) (position : ℕ) (entry : Entry) → HasEntry v position entry → (view_after v acts).retired ≤ position
    → HasEntry (view_after v acts) position entry
acts_stay v [] position entry h le = h
acts_stay v (act ∷ earlier) position entry h le =
    let before = acts_stay v earlier position entry h (omega (arith, retired_rises (view_after v earlier) act, le)) in
    positions_stay (view_after v earlier) act position entry before le

-- an entry stays until it is retired
pub entry_stays : (old new : View) (position : ℕ) (entry : Entry) → GoesOn old new → HasEntry old position entry → new.retired ≤ position
    → HasEntry new position entry
entry_stays old new position entry on h le =
    subst (λ (v : View). HasEntry v position entry) on.leads (acts_stay old on.acts position entry h (subst (λ (v : View). v.retired ≤ position) (sym on.leads) le))

-- the receipt for a ticket whose entry was seen is that entry's, which is acknowledged
pub told_now : (first old new : View) (log : List View) (claim : TicketSeen) (receipt : ToldSeen) → WentThrough first old log → WasStaged log claim
    → ViewAllows snapshot_length old (world.Tell claim.position) → IsReceiptOf claim old receipt → new ≡ view_acted snapshot_length old (world.Tell claim.position)
    → HasTold new receipt
told_now first old new log claim receipt went was allowed is made =
    let on = (went_at first old log was.place was.view went was.is_seen).1 in
    let entry = was.staged.entry in
    let here : HasEntry old claim.position entry = entry_stays was.view old claim.position entry on was.staged.stands allowed.1 in
    let of_ticket : IsReceiptOf (ticket_of claim.life claim.position entry) old receipt = subst (λ (c : TicketSeen). IsReceiptOf c old receipt) was.staged.names is in
    subst (λ (v : View). HasTold v receipt) (sym made) (receipts_are_told old claim.life claim.position entry receipt here of_ticket)

-- the same of all answers
one_in : {A : Type 0} (xs ys : List View) (out : Out A) → IsPrefix xs ys → IsSeen xs out → IsSeen ys out
one_in xs ys (Told receipt) p h = told_in xs ys receipt p h
one_in xs ys (Refused outside) p h = tt

pub all_in : {A : Type 0} (xs ys : List View) (outs : List (Out A)) → IsPrefix xs ys → AreSeen xs outs → AreSeen ys outs
all_in xs ys [] p h = tt
all_in xs ys (out ∷ outs) p h = (one_in xs ys out p h.0, all_in xs ys outs p h.1)

pub all_more : {A : Type 0} (log : List View) (outs : List (Out A)) (out : Out A) → AreSeen log outs → IsSeen log out → AreSeen log (outs ++ out ∷ [])
all_more log [] out h one = (one, tt)
all_more log (o ∷ outs) out h one = (h.0, all_more log outs out h.1 one)

-- and so they stand in the history of a vault that went through what was seen
one_of : {A : Type 0} (old new : View) (log : List View) (out : Out A) → WentThrough old new log → IsSeen log out → IsOfHistory old new out
one_of old new log (Told receipt) went h =
    let on = went_at old new log h.place h.view went h.is_seen in
    record { between = h.view; before = on.0; has = h.has; after = on.1 }
one_of old new log (Refused outside) went h = tt

pub all_of : {A : Type 0} (old new : View) (log : List View) (outs : List (Out A)) → WentThrough old new log → AreSeen log outs → AreOfHistory old new outs
all_of old new log [] went h = tt
all_of old new log (out ∷ outs) went h = (one_of old new log out went h.0, all_of old new log outs went h.1)

pub seen_is_acknowledged : SeenIsAcknowledged
seen_is_acknowledged old new log told went was =
    let on = went_at old new log was.place was.view went was.is_seen in
    record { between = was.view; before = on.0; has = was.has; after = on.1 }

-- an answer is no command that is waited for
pub answered_knows : {A : Type 0} (out : Out A) (turn : Turn A) (seen : List View) (outs : List (Out A)) → IsToTell out turn → AreSeen seen outs
    → Knows turn seen outs
answered_knows out Hear seen outs is all = absurd is
answered_knows out (Keep kept) seen outs is all = absurd is
answered_knows out (Wait ticket) seen outs is all = absurd is
answered_knows out (Tell telling) seen outs is all = record { told = all; asked = tt }
answered_knows out (Over ended) seen outs is all = record { told = all; asked = tt }
