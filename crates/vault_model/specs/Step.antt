-- What each command does: the first of its refusals that applies, in this order, or else its reply, change and effect.
-- This project's own.
use Rattle.std.specs.Prelude.{ℕ, ◌+◌, Bool, true, false, not, ◌||◌, ◌&&◌, ◌==◌, nat_le, nat_lt, if◌then◌else◌, List, [], ◌∷◌, ◌++◌, length, map, Option, None, Some, is_some, Result, Ok, Err}
use Rattle.std.specs.Option.{option_map, option_and_then, ok_or}
use Rattle.vault_model.specs.Said.{Command, Reply, Effect}
use Rattle.vault_model.specs.declared.commands.Command.TheVariants as commands
use Rattle.vault_model.specs.declared.effects.Effect.TheVariants as effects
use Rattle.vault_model.specs.declared.replies.Reply.TheVariants as replies
use Rattle.vault_model.specs.declared.replies.Refusal.{Refusal}
use Rattle.vault_model.specs.declared.replies.Refusal.TheVariants.{NoSession, Joined, NoPlace, Exists, WrongKind, Covered, NoClaim, NotYours, NotHeld, Overlaps, NotCovered, ItemCount, NoVersion, Limit}
use Rattle.vault_state.specs.declared.claims.Item.{Item}
use Rattle.vault_state.specs.declared.claims.Claim.{Claim}
use Rattle.vault_state.specs.declared.claims.PathItem.{PathItem}
use Rattle.vault_state.specs.declared.claims.Owner.{Owner}
use Rattle.vault_state.specs.declared.claims.Owner.TheVariants as owners
use Rattle.vault_state.specs.declared.claims.Standing.{Standing}
use Rattle.vault_state.specs.declared.claims.Standing.TheVariants as standings
use Rattle.vault_state.specs.declared.ids.ClaimId.{ClaimId}
use Rattle.vault_state.specs.declared.ids.ClaimId.TheVariants.{Long, Short}
use Rattle.vault_state.specs.declared.place.Place.{Place}
use Rattle.vault_state.specs.declared.session.Session.{Session}
use Rattle.std.specs.Str.{bytes_eq}
use Rattle.vault_state.specs.Path.{front, last}
use Rattle.vault_state.specs.Limits.{most_items, most_claims, most_sessions, last_number, longest_content, most_drafts, most_weight}
use Rattle.vault_state.specs.Note.{is_note}
use Rattle.vault_state.specs.Shelf.{Draft, versions_of, numbered, is_shelvable}
use Rattle.vault_state.specs.Drafts.{SavedDraft, new_draft, with_draft, drafts_of, content_at}
use Rattle.vault_state.specs.declared.place.Kind.TheVariants.{Assembly}
use Rattle.vault_state.specs.Tree.{find_place, child, names_under, path_of, is_part, is_full, kind_under, may_nest_under}
use Rattle.vault_state.specs.Claims.{claim_of, is_held, is_session, in_way_of, change_set, covering, standing_behind, standing_of, claims_at}
use Rattle.vault_state.specs.Vault.{Vault, weight_of, session_of, counted}
use Rattle.vault_model.specs.Changes.{with_session, gone, with_place, with_check_out, with_hold, with_items, with_content, with_versions, without_check_out, with_owner, with_note, without_hold}

-- a reply, the vault after it, and the durable change
pub record Outcome : Type 0 where
  pub reply : Reply
  pub vault : Vault
  pub effect : Option Effect

-- the first refusal that applies, or what comes after
unfoldable pub chained : {A B : Type 0} → Result A Refusal → (A → Result B Refusal) → Result B Refusal
chained (Ok x) f = f x
chained (Err r) f = Err r

infixl 10 ◌>>=◌
-- the same, as `do` writes it
abbrev pub ◌>>=◌ : {A B : Type 0} → Result A Refusal → (A → Result B Refusal) → Result B Refusal
r >>= f = chained r f

-- a refusal where the test holds
abbrev pub refuse_if : Bool → Refusal → Result (Unit {0}) Refusal
refuse_if true r = Err r
refuse_if false r = Ok tt

-- a refusal that names a claim, where there is one
abbrev pub refuse_by : Option ClaimId → (ClaimId → Refusal) → Result (Unit {0}) Refusal
refuse_by None r = Ok tt
refuse_by (Some id) r = Err (r id)

-- `hello`: a new session in a designer's name, only at the door
unfoldable pub join : Vault → List ℕ → Result Outcome Refusal
join v name = do
  _ ← refuse_if (nat_le most_sessions (length v.sessions) || (v.last_session == last_number)) Limit
  let next = v.last_session + 1
  Ok (record {
    reply = replies.Session next;
    vault = with_session v name;
    effect = None;
  })

-- whether a claim is this designer's
abbrev pub is_designer : List ℕ → Owner → Bool
is_designer name (owners.Designer other) = bytes_eq other name
is_designer name (owners.Session number) = false

-- whether a claim is the session's own, or its designer's
abbrev pub is_owned_by : Session → Owner → Bool
is_owned_by session owner = is_designer session.name owner || is_session session.number owner

-- the claim of this id, granted or waiting, for its owner
unfoldable pub owned : Vault → Session → ClaimId → Result Claim Refusal
owned v session id = do
  claim ← ok_or (claim_of v.line id) NoClaim
  _ ← refuse_if (not (is_owned_by session claim.owner)) NotYours
  Ok claim

-- the granted claim of this id, for its owner
unfoldable pub usable : Vault → Session → ClaimId → Result Claim Refusal
usable v session id = do
  claim ← ok_or (claim_of v.line id) NoClaim
  _ ← refuse_if (not (is_owned_by session claim.owner)) NotYours
  _ ← refuse_if (not (is_held v.tree v.line claim)) NotHeld
  Ok claim

-- a place may be made under a parent that no granted claim looks at, or in the name of a granted check-out that changes it
unfoldable pub permitted : Vault → Session → ℕ → Option ℕ → Result (Unit {0}) Refusal
permitted v session parent None = refuse_by (covering v.tree v.line parent) Covered
permitted v session parent (Some number) = do
  claim ← usable v session (Long number)
  refuse_if (not (change_set v.tree claim.items parent)) NotCovered

-- a parent may have a child of this name: none is there yet, it may be made under this parent, and there is room
unfoldable pub admitted : Vault → Session → ℕ → List ℕ → Option ℕ → Result (Unit {0}) Refusal
admitted v session parent name claim = do
  _ ← refuse_if (is_some (child v.tree parent name)) Exists
  _ ← permitted v session parent claim
  refuse_if (is_full v.tree parent) Limit

-- `make`: a new place at the end of a path, below a place that is there and isn't a part, alone or in a check-out's name
unfoldable pub make : Vault → Session → List (List ℕ) → Option ℕ → Result Outcome Refusal
make v session path claim = do
  name ← ok_or (last path) Exists
  parent ← ok_or (find_place v.tree (front path)) NoPlace
  _ ← refuse_if (is_part v.tree parent) WrongKind
  _ ← admitted v session parent name claim
  Ok (record {
    reply = replies.Place (length v.tree + 1);
    vault = with_place v parent name (kind_under v.tree parent);
    effect = Some (effects.Made parent name);
  })

-- `nest`: as `make`, but an assembly, where `make` would make a part; not at the greatest depth
unfoldable pub nest : Vault → Session → List (List ℕ) → Option ℕ → Result Outcome Refusal
nest v session path claim = do
  name ← ok_or (last path) Exists
  parent ← ok_or (find_place v.tree (front path)) NoPlace
  _ ← refuse_if (is_part v.tree parent || not (may_nest_under v.tree parent)) WrongKind
  _ ← admitted v session parent name claim
  Ok (record {
    reply = replies.Place (length v.tree + 1);
    vault = with_place v parent name Assembly;
    effect = Some (effects.Nested parent name);
  })

-- the items' places
abbrev pub placed : List Place → List PathItem → Option (List Item)
placed tree [] = Some []
placed tree (item ∷ items) =
    option_and_then (λ place. option_map (λ others. record { intent = item.intent; place = place } ∷ others) (placed tree items))
    (find_place tree item.path)

-- the reply to a request for a claim, or to a question how it stands
abbrev pub asked : ClaimId → Standing → Reply
asked id standings.Held = replies.Held id
asked id (standings.Queued other) = replies.Queued id other

-- `checkout`: a new long claim on all the items at once, at the end of the queue: granted there, or waiting
unfoldable pub check_out : Vault → List ℕ → List PathItem → Result Outcome Refusal
check_out v designer wanted = do
  _ ← refuse_if ((length wanted == 0) || nat_lt most_items (length wanted)) ItemCount
  items ← ok_or (placed v.tree wanted) NoPlace
  _ ← refuse_if (nat_le most_claims (length v.line) || (v.last_long == last_number)) Limit
  let number = v.last_long + 1
  Ok (record {
    reply = asked (Long number) (standing_behind v.tree v.line items);
    vault = with_check_out v number designer items;
    effect = Some (effects.Asked number designer items);
  })

-- an extension of a long claim is durable, one of a short claim isn't
abbrev pub extension : ClaimId → List Item → Option Effect
extension (Long number) items = Some (effects.Extended number items)
extension (Short number) items = None

-- `extend`: a granted claim gets more items and goes to the front; if another granted claim is in the way, nothing changes
unfoldable pub extend : Vault → Session → ClaimId → List PathItem → Result Outcome Refusal
extend v session id wanted = do
  claim ← usable v session id
  _ ← refuse_if ((length wanted == 0) || nat_lt most_items (length claim.items + length wanted)) ItemCount
  items ← ok_or (placed v.tree wanted) NoPlace
  _ ← refuse_by (in_way_of v.tree v.line id (claim.items ++ items)) Overlaps
  Ok (record {
    reply = replies.Held id;
    vault = with_items v id (claim.items ++ items);
    effect = extension id items;
  })

-- a draft may be saved: its content is short enough, and with it the check-out hasn't too many drafts and the vault isn't too heavy
abbrev pub may_save : Vault → SavedDraft → Bool
may_save v new =
    nat_le (length new.draft.content) longest_content
    && nat_le (length (drafts_of (with_draft v.drafts new) new.claim)) most_drafts
    && nat_le (weight_of (record v { drafts = with_draft v.drafts new })) most_weight

-- `save`: a draft of a part that a granted check-out changes, in place of an earlier one of the same part
unfoldable pub save : Vault → Session → ℕ → List (List ℕ) → List ℕ → Result Outcome Refusal
save v session number path content = do
  claim ← usable v session (Long number)
  place ← ok_or (find_place v.tree path) NoPlace
  _ ← refuse_if (not (is_part v.tree place)) WrongKind
  _ ← refuse_if (not (change_set v.tree claim.items place)) NotCovered
  _ ← refuse_if (not (may_save v (new_draft number place content))) Limit
  Ok (record {
    reply = replies.Saved;
    vault = with_content v number place content;
    effect = Some (effects.Saved number place content);
  })

-- `checkin`: all drafts of a granted check-out become versions, and it is given up; or none does, and it stays
unfoldable pub check_in : Vault → Session → ℕ → Result Outcome Refusal
check_in v session number = do
  claim ← usable v session (Long number)
  let drafts = drafts_of v.drafts number
  _ ← refuse_if (not (is_shelvable v.shelf drafts)) Limit
  Ok (record {
    reply = replies.CheckedIn (length drafts);
    vault = with_versions v number;
    effect = Some (effects.CheckedIn number);
  })

-- `fetch`: the content of a part's version
unfoldable pub fetch : Vault → List (List ℕ) → ℕ → Result Outcome Refusal
fetch v path version = do
  place ← ok_or (find_place v.tree path) NoPlace
  _ ← refuse_if (not (is_part v.tree place)) WrongKind
  content ← ok_or (numbered (versions_of v.shelf place) version) NoVersion
  Ok (record {
    reply = replies.Content content;
    vault = v;
    effect = None;
  })

-- `count`: how many versions a part has
unfoldable pub count : Vault → List (List ℕ) → Result Outcome Refusal
count v path = do
  place ← ok_or (find_place v.tree path) NoPlace
  _ ← refuse_if (not (is_part v.tree place)) WrongKind
  Ok (record {
    reply = replies.Versions (length (versions_of v.shelf place));
    vault = v;
    effect = None;
  })

-- `abandon`: a check-out of the designer is given up, granted or waiting, with its drafts
unfoldable pub abandon : Vault → List ℕ → ℕ → Result Outcome Refusal
abandon v designer number = do
  claim ← ok_or (claim_of v.line (Long number)) NoClaim
  _ ← refuse_if (not (is_designer designer claim.owner)) NotYours
  Ok (record {
    reply = replies.Abandoned;
    vault = without_check_out v number;
    effect = Some (effects.Abandoned number);
  })

-- `give`: a check-out of the session's designer, granted or waiting, now belongs to another designer. It keeps its place in the queue,
-- its drafts and its note
unfoldable pub give : Vault → Session → ℕ → List ℕ → Result Outcome Refusal
give v session number designer = do
  _ ← owned v session (Long number)
  Ok (record {
    reply = replies.Given;
    vault = with_owner v number designer;
    effect = Some (effects.Given number designer);
  })

-- `note` with a text: the note of a check-out of the session's designer, granted or waiting, in place of the one that it had
unfoldable pub note : Vault → Session → ℕ → List ℕ → Result Outcome Refusal
note v session number text = do
  _ ← owned v session (Long number)
  _ ← refuse_if (not (is_note text)) Limit
  Ok (record {
    reply = replies.Noted;
    vault = with_note v number text;
    effect = Some (effects.Noted number text);
  })

-- `note` without one: the note of a check-out; anybody may ask
unfoldable pub read_note : Vault → ℕ → Result Outcome Refusal
read_note v number = do
  claim ← ok_or (claim_of v.line (Long number)) NoClaim
  Ok (record {
    reply = replies.NoteIs claim.note;
    vault = v;
    effect = None;
  })

-- `hold`: a new short claim of the session on all the items at once, at the end of the queue: granted there, or waiting
unfoldable pub hold : Vault → Session → List PathItem → Result Outcome Refusal
hold v session wanted = do
  _ ← refuse_if ((length wanted == 0) || nat_lt most_items (length wanted)) ItemCount
  items ← ok_or (placed v.tree wanted) NoPlace
  _ ← refuse_if (nat_le most_claims (length v.line) || (v.last_short == last_number)) Limit
  let number = v.last_short + 1
  Ok (record {
    reply = asked (Short number) (standing_behind v.tree v.line items);
    vault = with_hold v number session.number items;
    effect = None;
  })

-- `release`: a short claim of the session is given up, granted or waiting
unfoldable pub release : Vault → Session → ℕ → Result Outcome Refusal
release v session number = do
  claim ← ok_or (claim_of v.line (Short number)) NoClaim
  _ ← refuse_if (not (is_owned_by session claim.owner)) NotYours
  Ok (record {
    reply = replies.Released;
    vault = without_hold v number;
    effect = None;
  })

-- `state`, and `wait`: whether a claim is granted, or behind which one it waits; anybody may ask
unfoldable pub state : Vault → ClaimId → Result Outcome Refusal
state v id = do
  standing ← ok_or (standing_of v.tree v.line id) NoClaim
  Ok (record {
    reply = asked id standing;
    vault = v;
    effect = None;
  })

-- `list`: the names of the places right beneath one, by number
unfoldable pub list : Vault → List (List ℕ) → Result Outcome Refusal
list v path = do
  place ← ok_or (find_place v.tree path) NoPlace
  Ok (record {
    reply = replies.Children (names_under v.tree place);
    vault = v;
    effect = None;
  })

-- whose a claim is: its designer's, or for a short claim its session's designer's
abbrev pub designer_of : List Session → Owner → Option (List ℕ)
designer_of sessions (owners.Designer name) = Some name
designer_of sessions (owners.Session number) = option_map (λ (s : Session). s.name) (session_of sessions number)

-- an item with the path of its place
abbrev pub at_path : List Place → Item → PathItem
at_path tree item = record { intent = item.intent; path = path_of tree item.place }

-- `show`: whose a claim is, how it stands and what its items are; anybody may ask
unfoldable pub show : Vault → ClaimId → Result Outcome Refusal
show v id = do
  claim ← ok_or (claim_of v.line id) NoClaim
  standing ← ok_or (standing_of v.tree v.line id) NoClaim
  designer ← ok_or (designer_of v.sessions claim.owner) NoClaim
  Ok (record {
    reply = replies.Shown (record { id = id; designer = designer; standing = standing; items = map (at_path v.tree) claim.items });
    vault = v;
    effect = None;
  })

-- `claims`: which claims, granted or waiting, look at a place or at one under it; anybody may ask
unfoldable pub claims : Vault → List (List ℕ) → Result Outcome Refusal
claims v path = do
  place ← ok_or (find_place v.tree path) NoPlace
  Ok (record {
    reply = replies.ClaimsAt (claims_at v.tree v.line place);
    vault = v;
    effect = None;
  })

-- `drafts`: the paths of the parts of which a check-out of the session's designer has drafts, by rising place
unfoldable pub drafts : Vault → Session → ℕ → Result Outcome Refusal
drafts v session number = do
  _ ← owned v session (Long number)
  Ok (record {
    reply = replies.DraftsOf (map (λ (x : Draft). path_of v.tree x.place) (drafts_of v.drafts number));
    vault = v;
    effect = None;
  })

-- `draft`: the content of the draft of a part that a check-out of the session's designer has
unfoldable pub draft : Vault → Session → ℕ → List (List ℕ) → Result Outcome Refusal
draft v session number path = do
  _ ← owned v session (Long number)
  place ← ok_or (find_place v.tree path) NoPlace
  _ ← refuse_if (not (is_part v.tree place)) WrongKind
  content ← ok_or (content_at (drafts_of v.drafts number) place) NoVersion
  Ok (record {
    reply = replies.Content content;
    vault = v;
    effect = None;
  })

-- `quit`: the session ends, and its short claims with it
abbrev pub leave : Vault → Session → Outcome
leave v session = record {
  reply = replies.Left;
  vault = gone v session.number;
  effect = None;
}

-- the name in a command that joins
abbrev pub joining : Command → Option (List ℕ)
joining (commands.Join name) = Some name
joining command = None

-- at the door, which is session 0, the only command is to join
abbrev pub at_door : Vault → Command → Result Outcome Refusal
at_door v command = do
  name ← ok_or (joining command) NoSession
  join v name

-- a command of an open session
abbrev pub in_session : Vault → Session → Command → Result Outcome Refusal
in_session v session (commands.Join name) = Err Joined
in_session v session (commands.Make path claim) = make v session path claim
in_session v session (commands.Nest path claim) = nest v session path claim
in_session v session (commands.CheckOut items) = check_out v session.name items
in_session v session (commands.Extend id items) = extend v session id items
in_session v session (commands.Save number path content) = save v session number path content
in_session v session (commands.CheckIn number) = check_in v session number
in_session v session (commands.Abandon number) = abandon v session.name number
in_session v session (commands.Hold items) = hold v session items
in_session v session (commands.Release number) = release v session number
in_session v session (commands.State id) = state v id
in_session v session (commands.List path) = list v path
in_session v session (commands.Fetch path version) = fetch v path version
in_session v session (commands.Count path) = count v path
in_session v session (commands.Give number designer) = give v session number designer
in_session v session (commands.Note number text) = note v session number text
in_session v session (commands.ReadNote number) = read_note v number
in_session v session (commands.Show id) = show v id
in_session v session (commands.Claims path) = claims v path
in_session v session (commands.Drafts number) = drafts v session number
in_session v session (commands.Draft number path) = draft v session number path
in_session v session (commands.Await id) = state v id
in_session v session commands.Leave = Ok (leave v session)

-- what a command does, before it is counted; a number of no open session is refused
unfoldable pub decide : Vault → ℕ → Command → Result Outcome Refusal
decide v number command =
    if number == 0 then at_door v command else (ok_or (session_of v.sessions number) NoSession >>= λ session. in_session v session command)

-- the outcome with the command counted; a refusal changes nothing else
abbrev pub outcome_of : ℕ → Vault → Result Outcome Refusal → Outcome
outcome_of number v (Ok outcome) = record outcome { vault = counted number outcome.vault }
outcome_of number v (Err refusal) = record { reply = replies.Refused refusal; vault = counted number v; effect = None }

-- The step of the vault for one command of a session.
unfoldable pub step : Vault → ℕ → Command → Outcome
step v number command = outcome_of number v (decide v number command)
