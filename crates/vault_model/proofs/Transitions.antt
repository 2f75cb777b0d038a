-- What a decided command did, by one walk over all commands; the laws of the step match on it.
use Rattle.std.specs.Prelude.{◌≡◌, ℕ, ◌+◌, ◌<◌, ◌≤◌, ◌==◌, ◌||◌, not, nat_le, nat_lt, Bool, true, false, List, [], ◌∷◌, ◌++◌, length, Option, None, Some, is_some, Result, Ok, Err, refl}
use Rattle.std.proofs.Common.{cond, arith}
use Rattle.std.specs.Option.{ok_or, IfSome, option_map, option_and_then}
use Rattle.std.proofs.lemmas.Bool.Decides.{nat_tests}
use Rattle.std.proofs.lemmas.List.Elements.{All-nil, All-cons}
use Rattle.vault_state.specs.Limits.{most_items, most_claims, most_sessions, last_number}
use Rattle.vault_state.specs.Note.{is_note}
use Rattle.vault_state.specs.declared.place.Kind.TheVariants.{Assembly}
use Rattle.vault_state.specs.Tree.{find_place, child, is_part, is_full, kind_under, may_nest_under}
use Rattle.vault_model.specs.Said.{Command, Effect}
use Rattle.vault_model.specs.declared.commands.Command.TheVariants as commands
use Rattle.vault_model.specs.declared.effects.Effect.TheVariants as effects
use Rattle.vault_state.specs.declared.place.Place.{Place}
use Rattle.vault_state.specs.declared.claims.Item.{Item}
use Rattle.vault_state.specs.declared.claims.Claim.{Claim}
use Rattle.vault_state.specs.declared.claims.PathItem.{PathItem}
use Rattle.vault_state.specs.declared.ids.ClaimId.{ClaimId}
use Rattle.vault_state.specs.declared.ids.ClaimId.TheVariants.{Long}
use Rattle.vault_state.specs.declared.session.Session.{Session}
use Rattle.vault_model.specs.declared.replies.Refusal.{Refusal}
use Rattle.vault_model.specs.declared.replies.Refusal.TheVariants.{NoSession, Exists, NoClaim, NotYours, NotHeld, Limit}
use Rattle.vault_state.specs.Claims.{change_set, claim_of, is_held, in_way_of}
use Rattle.vault_state.specs.Shelf.{is_shelvable}
use Rattle.vault_state.specs.Drafts.{new_draft, drafts_of}
use Rattle.vault_state.specs.Vault.{Vault, AreThere, session_of, counted, counted_in}
use Rattle.vault_model.specs.Changes.{with_session, gone, with_place, with_check_out, with_hold, with_items, with_content, with_versions, without_check_out, with_owner, with_note, without_hold}
use Rattle.vault_model.specs.Step.{Outcome, ◌>>=◌, chained, refuse_if, refuse_by, is_owned_by, placed, owned, usable, join, permitted, admitted, make, nest, check_out, extension, extend, abandon, hold, release, state, list, may_save, save, check_in, fetch, count, give, note, read_note, show, claims, drafts, draft, at_door, in_session, decide, outcome_of, step}
use Rattle.vault_state.proofs.Overlaps.{neither}
use Rattle.vault_state.proofs.Growth.{find_place_there}
use Rattle.vault_model.proofs.Kept.{length-placed, session_stands}

affirmed : (b : Bool) → not b ≡ false → b ≡ true
affirmed true e = refl
affirmed false e = cc

-- What the guards of a command leave: that a place may be made
pub record CanMake (tree : List Place) (parent : ℕ) (name : List ℕ) : Type 0 where
  pub there : parent ≤ length tree
  pub above : is_part tree parent ≡ false
  pub fresh : is_some (child tree parent name) ≡ false
  pub room : is_full tree parent ≡ false

-- that items may be asked for, where this is the last number given to a claim of its kind
pub record CanAsk (v : Vault) (last : ℕ) (items : List Item) : Type 0 where
  pub some : 0 < length items
  pub few : length items ≤ most_items
  pub there : AreThere v.tree items
  pub room : length v.line < most_claims
  pub unspent : (last == last_number) ≡ false

-- that a claim is held
pub record IsUsed (v : Vault) (id : ClaimId) (claim : Claim) : Type 0 where
  pub found : claim_of v.line id ≡ Some claim
  pub held : is_held v.tree v.line claim ≡ true

-- that a held claim may have these items, too
pub record CanExtend (v : Vault) (id : ClaimId) (claim : Claim) (items : List Item) : Type 0 where
  pub used : IsUsed v id claim
  pub some : 0 < length items
  pub few : length claim.items + length items ≤ most_items
  pub there : AreThere v.tree items
  pub free : in_way_of v.tree v.line id (claim.items ++ items) ≡ None

-- that a draft may be saved for a check-out
pub record CanSave (v : Vault) (claim : Claim) (number place : ℕ) (content : List ℕ) : Type 0 where
  pub used : IsUsed v (Long number) claim
  pub there : place ≤ length v.tree
  pub part : is_part v.tree place ≡ true
  pub changed : change_set v.tree claim.items place ≡ true
  pub limits : may_save v (new_draft number place content) ≡ true

-- What a command that isn't refused does to a vault, before it is counted: its effect, and the vault after it. A command that changes
-- nothing is `answered`. Each law of the step is one match on this.
pub data Transition (v : Vault) : Option Effect → Vault → Type 0 where
  answered : Transition v None v
  joined : (name : List ℕ) → length v.sessions < most_sessions → (v.last_session == last_number) ≡ false
      → Transition v None (with_session v name)
  left : (session : ℕ)
      → Transition v None (gone v session)
  made : (parent : ℕ) (name : List ℕ) → CanMake v.tree parent name
      → Transition v (Some (effects.Made parent name)) (with_place v parent name (kind_under v.tree parent))
  nested : (parent : ℕ) (name : List ℕ) → CanMake v.tree parent name → may_nest_under v.tree parent ≡ true
      → Transition v (Some (effects.Nested parent name)) (with_place v parent name Assembly)
  asked : (designer : List ℕ) (items : List Item) → CanAsk v v.last_long items
      → Transition v (Some (effects.Asked (v.last_long + 1) designer items)) (with_check_out v (v.last_long + 1) designer items)
  taken : (session : ℕ) (items : List Item) → is_some (session_of v.sessions session) ≡ true → CanAsk v v.last_short items
      → Transition v None (with_hold v (v.last_short + 1) session items)
  extended : (id : ClaimId) (claim : Claim) (items : List Item) → CanExtend v id claim items
      → Transition v (extension id items) (with_items v id (claim.items ++ items))
  saved : (claim : Claim) (number place : ℕ) (content : List ℕ) → CanSave v claim number place content
      → Transition v (Some (effects.Saved number place content)) (with_content v number place content)
  checked_in : (number : ℕ) (claim : Claim) → IsUsed v (Long number) claim → is_shelvable v.shelf (drafts_of v.drafts number) ≡ true
      → Transition v (Some (effects.CheckedIn number)) (with_versions v number)
  abandoned : (number : ℕ) (claim : Claim) → claim_of v.line (Long number) ≡ Some claim
      → Transition v (Some (effects.Abandoned number)) (without_check_out v number)
  given : (number : ℕ) (designer : List ℕ) (claim : Claim) → claim_of v.line (Long number) ≡ Some claim
      → Transition v (Some (effects.Given number designer)) (with_owner v number designer)
  noted : (number : ℕ) (text : List ℕ) (claim : Claim) → claim_of v.line (Long number) ≡ Some claim → is_note text ≡ true
      → Transition v (Some (effects.Noted number text)) (with_note v number text)
  released : (number : ℕ)
      → Transition v None (without_hold v number)

-- a decision is a refusal, or one of the transitions
unfoldable pub Decided : Vault → Result Outcome Refusal → Type 0
Decided v (Ok outcome) = Transition v outcome.effect outcome.vault
Decided v (Err refusal) = Unit {0}

-- items that are placed are there
pub placed_there : (tree : List Place) (wanted : List PathItem) (items : List Item) → placed tree wanted ≡ Some items → AreThere tree items
placed_there tree [] items e = let same : [] ≡ items = cc in rw (← same) (All-nil (λ (item : Item). item.place ≤ length tree))
placed_there tree (w ∷ wanted) items e = by_place (find_place tree w.path) (find_place_there tree w.path) e (placed tree wanted) refl (placed_there tree wanted)
  where
    by_place : (o : Option ℕ) → IfSome o (λ p. p ≤ length tree) → option_and_then (λ place. option_map (λ others. record { intent = w.intent; place = place } ∷ others) (placed tree wanted)) o ≡ Some items
        → (p : Option (List Item)) → placed tree wanted ≡ p → ((others : List Item) → placed tree wanted ≡ Some others → AreThere tree others) → AreThere tree items
    by_place None there h p k ih = cc
    by_place (Some place) there h None k ih = let h2 = rw k at h in cc
    by_place (Some place) there h (Some others) k ih =
        let h2 = rw k at h in
        let same : record { intent = w.intent; place = place } ∷ others ≡ items = cc in
        rw (← same) (All-cons (λ (item : Item). item.place ≤ length tree) (record { intent = w.intent; place = place }) others there (ih others k))

-- One line of a command's definition: what it leaves to the lines behind it, where it doesn't refuse.
module _ (v : Vault) where
  -- something was found
  finds : {X : Type 0} (o : Option X) (e : Refusal) (f : X → Result Outcome Refusal) → ((x : X) → o ≡ Some x → Decided v (f x)) → Decided v (ok_or o e >>= f)
  unfolding chained Decided
  finds None e f next = tt
  finds (Some x) e f next = next x refl

  -- a place was found, which is there
  finds_place : (path : List (List ℕ)) (e : Refusal) (f : ℕ → Result Outcome Refusal) → ((place : ℕ) → place ≤ length v.tree → Decided v (f place)) → Decided v (ok_or (find_place v.tree path) e >>= f)
  unfolding chained Decided
  finds_place path e f next = by_place (find_place v.tree path) (find_place_there v.tree path)
    where
      by_place : (o : Option ℕ) → IfSome o (λ p. p ≤ length v.tree) → Decided v (ok_or o e >>= f)
      by_place None there = tt
      by_place (Some place) there = next place there

  -- a test did not hold
  passes : (b : Bool) (e : Refusal) (f : Unit {0} → Result Outcome Refusal) → (b ≡ false → Decided v (f tt)) → Decided v (refuse_if b e >>= f)
  unfolding chained Decided
  passes true e f next = tt
  passes false e f next = next refl

  -- a test that is needed held
  holds : (b : Bool) (e : Refusal) (f : Unit {0} → Result Outcome Refusal) → (b ≡ true → Decided v (f tt)) → Decided v (refuse_if (not b) e >>= f)
  unfolding chained Decided
  holds true e f next = next refl
  holds false e f next = tt

  -- no claim was in the way
  is_clear : (o : Option ClaimId) (r : ClaimId → Refusal) (f : Unit {0} → Result Outcome Refusal) → (o ≡ None → Decided v (f tt)) → Decided v (refuse_by o r >>= f)
  unfolding chained Decided
  is_clear None r f next = next refl
  is_clear (Some id) r f next = tt

  -- any line, where what it leaves isn't needed
  follows : {X : Type 0} (r : Result X Refusal) (f : X → Result Outcome Refusal) → ((x : X) → r ≡ Ok x → Decided v (f x)) → Decided v (r >>= f)
  unfolding chained Decided
  follows (Err e) f next = tt
  follows (Ok x) f next = next x refl

  -- a claim stands, whoever owns it
  owns : (session : Session) (id : ClaimId) (f : Claim → Result Outcome Refusal) → ((claim : Claim) → claim_of v.line id ≡ Some claim → Decided v (f claim)) → Decided v (owned v session id >>= f)
  unfolding owned chained Decided
  owns session id f next = by_claim (claim_of v.line id) refl
    where
      by_claim : (o : Option Claim) → claim_of v.line id ≡ o → Decided v ((ok_or o NoClaim >>= λ c. refuse_if (not (is_owned_by session c.owner)) NotYours >>= λ _. Ok c) >>= f)
      by_claim None found = tt
      by_claim (Some c) found = by_test (is_owned_by session c.owner)
        where
          by_test : (b : Bool) → Decided v ((refuse_if (not b) NotYours >>= λ _. Ok c) >>= f)
          by_test false = tt
          by_test true = next c found

  -- a place of this name may be made under a parent
  admits : (session : Session) (parent : ℕ) (name : List ℕ) (claim : Option ℕ) (f : Unit {0} → Result Outcome Refusal) → (is_some (child v.tree parent name) ≡ false → is_full v.tree parent ≡ false → Decided v (f tt)) → Decided v (admitted v session parent name claim >>= f)
  unfolding admitted chained Decided
  admits session parent name claim f next = by_tests (is_some (child v.tree parent name)) refl (permitted v session parent claim) (is_full v.tree parent) refl
    where
      by_tests : (a : Bool) → is_some (child v.tree parent name) ≡ a → (p : Result (Unit {0}) Refusal) (b : Bool) → is_full v.tree parent ≡ b
          → Decided v ((refuse_if a Exists >>= λ _. p >>= λ _. refuse_if b Limit) >>= f)
      by_tests true fresh p b room = tt
      by_tests false fresh (Err e) b room = tt
      by_tests false fresh (Ok x) true room = tt
      by_tests false fresh (Ok x) false room = next fresh room

  -- a claim may be used
  uses : (session : Session) (id : ClaimId) (f : Claim → Result Outcome Refusal) → ((claim : Claim) → IsUsed v id claim → Decided v (f claim)) → Decided v (usable v session id >>= f)
  unfolding usable chained Decided
  uses session id f next = by_claim (claim_of v.line id) refl
    where
      by_claim : (o : Option Claim) → claim_of v.line id ≡ o
          → Decided v ((ok_or o NoClaim >>= λ c. refuse_if (not (is_owned_by session c.owner)) NotYours >>= λ _. refuse_if (not (is_held v.tree v.line c)) NotHeld >>= λ _. Ok c) >>= f)
      by_claim None found = tt
      by_claim (Some c) found = by_tests (is_owned_by session c.owner) (is_held v.tree v.line c) refl
        where
          by_tests : (a b : Bool) → is_held v.tree v.line c ≡ b → Decided v ((refuse_if (not a) NotYours >>= λ _. refuse_if (not b) NotHeld >>= λ _. Ok c) >>= f)
          by_tests false b held = tt
          by_tests true false held = tt
          by_tests true true held = next c (record { found = found; held = held })

  -- as many items were asked for as may be, at places that are there, and there is room
  can_ask : (wanted : List PathItem) (items : List Item) (last : ℕ) → ((length wanted == 0) || nat_lt most_items (length wanted)) ≡ false → placed v.tree wanted ≡ Some items → (nat_le most_claims (length v.line) || (last == last_number)) ≡ false → CanAsk v last items
  can_ask wanted items last number found room =
      let counts = neither (length wanted == 0) (nat_lt most_items (length wanted)) number in
      let free = neither (nat_le most_claims (length v.line)) (last == last_number) room in
      let same = length-placed v.tree wanted items found in
      record { some = grind (arith, nat_tests, counts.0, same); few = grind (arith, nat_tests, counts.1, same); there = placed_there v.tree wanted items found; room = grind (arith, nat_tests, free.0); unspent = free.1 }

  -- a claim may have these items, too
  can_extend : (id : ClaimId) (wanted : List PathItem) (claim : Claim) (items : List Item) → IsUsed v id claim → ((length wanted == 0) || nat_lt most_items (length claim.items + length wanted)) ≡ false → placed v.tree wanted ≡ Some items
      → in_way_of v.tree v.line id (claim.items ++ items) ≡ None → CanExtend v id claim items
  can_extend id wanted claim items used number found free =
      let counts = neither (length wanted == 0) (nat_lt most_items (length claim.items + length wanted)) number in
      let same = length-placed v.tree wanted items found in
      record { used = used; some = grind (arith, nat_tests, counts.0, same); few = grind (arith, nat_tests, counts.1, same); there = placed_there v.tree wanted items found; free = free }

  -- The walk: a clause a command, with a lemma for each line of its definition
  join_is : (name : List ℕ) → Decided v (join v name)
  unfolding join Decided
  join_is name = passes _ _ _ (λ room.
      let free = neither (nat_le most_sessions (length v.sessions)) (v.last_session == last_number) room in
      joined name (grind (arith, nat_tests, free.0)) free.1)

  session_is : (session : Session) → is_some (session_of v.sessions session.number) ≡ true → (command : Command) → Decided v (in_session v session command)
  unfolding Decided make nest check_out extend save check_in abandon hold release state list fetch count give note read_note show claims drafts draft
  session_is session stands (commands.Join name) = tt
  session_is session stands (commands.Make path claim) =
      finds _ _ _ (λ name _. finds_place _ _ _ (λ parent there. passes _ _ _ (λ above. admits _ _ _ _ _ (λ fresh room.
      made parent name (record { there = there; above = above; fresh = fresh; room = room })))))
  session_is session stands (commands.Nest path claim) =
      finds _ _ _ (λ name _. finds_place _ _ _ (λ parent there. passes _ _ _ (λ kinds. admits _ _ _ _ _ (λ fresh room.
      let both = neither (is_part v.tree parent) (not (may_nest_under v.tree parent)) kinds in
      nested parent name (record { there = there; above = both.0; fresh = fresh; room = room }) (affirmed (may_nest_under v.tree parent) both.1)))))
  session_is session stands (commands.CheckOut wanted) = passes _ _ _ (λ number. finds _ _ _ (λ items found. passes _ _ _ (λ room.
      asked session.name items (can_ask wanted items v.last_long number found room))))
  session_is session stands (commands.Hold wanted) = passes _ _ _ (λ number. finds _ _ _ (λ items found. passes _ _ _ (λ room.
      taken session.number items stands (can_ask wanted items v.last_short number found room))))
  session_is session stands (commands.Extend id wanted) = uses _ _ _ (λ claim used. passes _ _ _ (λ number. finds _ _ _ (λ items found. is_clear _ _ _ (λ free.
      extended id claim items (can_extend id wanted claim items used number found free)))))
  session_is session stands (commands.Save number path content) = uses _ _ _ (λ claim used. finds_place _ _ _ (λ place there. holds _ _ _ (λ part. holds _ _ _ (λ changed. holds _ _ _ (λ limits.
      saved claim number place content (record { used = used; there = there; part = part; changed = changed; limits = limits }))))))
  session_is session stands (commands.CheckIn number) = uses _ _ _ (λ claim used. holds _ _ _ (λ fits. checked_in number claim used fits))
  session_is session stands (commands.Abandon number) = finds _ _ _ (λ claim found. follows _ _ (λ _ _. abandoned number claim found))
  session_is session stands (commands.Release number) = follows _ _ (λ _ _. follows _ _ (λ _ _. released number))
  session_is session stands (commands.State id) = follows _ _ (λ _ _. answered)
  session_is session stands (commands.List path) = follows _ _ (λ _ _. answered)
  session_is session stands (commands.Fetch path version) = follows _ _ (λ _ _. follows _ _ (λ _ _. follows _ _ (λ _ _. answered)))
  session_is session stands (commands.Count path) = follows _ _ (λ _ _. follows _ _ (λ _ _. answered))
  session_is session stands (commands.Give number designer) = owns _ _ _ (λ claim found. given number designer claim found)
  session_is session stands (commands.Note number text) = owns _ _ _ (λ claim found. holds _ _ _ (λ short. noted number text claim found short))
  session_is session stands (commands.ReadNote number) = follows _ _ (λ _ _. answered)
  session_is session stands (commands.Show id) = follows _ _ (λ _ _. follows _ _ (λ _ _. follows _ _ (λ _ _. answered)))
  session_is session stands (commands.Claims path) = follows _ _ (λ _ _. answered)
  session_is session stands (commands.Drafts number) = follows _ _ (λ _ _. answered)
  session_is session stands (commands.Draft number path) = follows _ _ (λ _ _. follows _ _ (λ _ _. follows _ _ (λ _ _. follows _ _ (λ _ _. answered))))
  session_is session stands (commands.Await id) = follows _ _ (λ _ _. answered)
  session_is session stands commands.Leave = left session.number

  pub decide_is : (n : ℕ) (command : Command) → Decided v (decide v n command)
  unfolding decide
  decide_is n command = by_door (n == 0)
    where
      by_door : (b : Bool) → Decided v (cond b (at_door v command) (ok_or (session_of v.sessions n) NoSession >>= λ session. in_session v session command))
      by_door true = finds _ _ _ (λ name _. join_is name)
      by_door false = finds _ _ _ (λ session found. session_is session (session_stands v.sessions n session found) command)

-- what is true with one more command of the door counted, and with one more of a session, is true with either
pub by_count : (P : Vault → Type 0) (n : ℕ) (w : Vault) → P (record w { door_count = w.door_count + 1 }) → P (record w { sessions = counted_in n w.sessions }) → P (counted n w)
by_count P n w door session = by_door (n == 0)
  where
    by_door : (b : Bool) → P (cond b (record w { door_count = w.door_count + 1 }) (record w { sessions = counted_in n w.sessions }))
    by_door true = door
    by_door false = session

-- what is true after each transition, with the command counted, is true after each step
pub by_transition : (P : Option Effect → Vault → Type 0) (v : Vault) (n : ℕ) (command : Command) → ((effect : Option Effect) (w : Vault) → Transition v effect w → P effect (counted n w)) → P (step v n command).effect (step v n command).vault
unfolding step Decided
by_transition P v n command each = by_decision (decide v n command) (decide_is v n command)
  where
    by_decision : (decision : Result Outcome Refusal) → Decided v decision → P (outcome_of n v decision).effect (outcome_of n v decision).vault
    by_decision (Ok outcome) change = each outcome.effect outcome.vault change
    by_decision (Err refusal) change = each None v answered
