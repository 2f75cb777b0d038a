-- Conversations worked out by hand, which the definitions have to give.
use Rattle.std.specs.Prelude.{◌≡◌, ℕ, List, [], ◌∷◌, ◌++◌, None, Some, codes, replicate}
use Rattle.vault_model.specs.Said.{Command, Reply}
use Rattle.vault_model.specs.declared.commands.Command.TheVariants.{Join, Make, Nest, CheckOut, Extend, Save, CheckIn, Abandon, Hold, Release, State, List as Names, Fetch, Count, Give, Note, ReadNote, Show, Claims, Drafts, Draft, Await, Leave}
use Rattle.vault_model.specs.declared.replies.Reply.TheVariants.{Session, Place, Held, Queued, Saved, CheckedIn, Abandoned, Released, Children, Content, Versions, Given, Noted, NoteIs, Shown, ClaimsAt, DraftsOf, Left, Refused}
use Rattle.vault_model.specs.declared.replies.Refusal.TheVariants.{NoSession, Joined, NoPlace, Exists, WrongKind, Covered, NoClaim, NotYours, NotHeld, Overlaps, NotCovered, ItemCount, NoVersion, Limit}
use Rattle.vault_state.specs.declared.claims.PathItem.{PathItem}
use Rattle.vault_state.specs.declared.claims.Standing.{Standing}
use Rattle.vault_state.specs.declared.claims.Standing.TheVariants as standings
use Rattle.vault_state.specs.declared.ids.ClaimId.{ClaimId}
use Rattle.vault_state.specs.declared.ids.ClaimId.TheVariants.{Long, Short}
use Rattle.vault_state.specs.declared.ids.Intent.TheVariants.{Look, Change}
use Rattle.vault_state.specs.Vault.{Vault, new_vault}
use Rattle.vault_model.specs.Step.{Outcome, step}

-- the replies to these commands of sessions, one after the other
unfoldable pub replies_of : Vault → List (ℕ × Command) → List Reply
replies_of v [] = []
replies_of v (command ∷ commands) = let o : Outcome = step v command.0 command.1 in o.reply ∷ replies_of o.vault commands

-- a designer
abbrev pub anna : List ℕ
anna = codes "anna"

-- another designer
abbrev pub ben : List ℕ
ben = codes "ben"

-- a project
abbrev pub path_e : List (List ℕ)
path_e = codes "e" ∷ []

-- an assembly in it
abbrev pub path_b : List (List ℕ)
path_b = codes "e" ∷ codes "b" ∷ []

-- a part
abbrev pub path_p1 : List (List ℕ)
path_p1 = codes "e" ∷ codes "b" ∷ codes "p1" ∷ []

-- its sibling
abbrev pub path_p2 : List (List ℕ)
path_p2 = codes "e" ∷ codes "b" ∷ codes "p2" ∷ []

-- an item to look at
abbrev pub look : List (List ℕ) → PathItem
look path = record { intent = Look; path = path }

-- an item to change
abbrev pub change : List (List ℕ) → PathItem
change path = record { intent = Change; path = path }

-- anna and ben join, and anna makes the places
abbrev pub start : List (ℕ × Command)
start =
    (0, Join anna) ∷ (0, Join ben) ∷ (1, Make path_e None) ∷ (1, Make path_b None) ∷ (1, Make path_p1 None) ∷ (1, Make path_p2 None) ∷ []

-- the replies to the start
abbrev pub start_replies : List Reply
start_replies = Session 1 ∷ Session 2 ∷ Place 1 ∷ Place 2 ∷ Place 3 ∷ Place 4 ∷ []

-- after the start, these commands get these replies
abbrev pub Told : List (ℕ × Command) → List Reply → Type 0
Told commands replies = replies_of new_vault (start ++ commands) ≡ start_replies ++ replies

-- a claim to look waits behind a claim to change
abbrev pub TwoDesigners : Type 0
TwoDesigners =
    replies_of new_vault ((0, Join anna) ∷ (0, Join ben) ∷ (1, Make path_e None) ∷ (1, CheckOut (change path_e ∷ []))
    ∷ (2, CheckOut (look path_e ∷ [])) ∷ [])
    ≡ Session 1 ∷ Session 2 ∷ Place 1 ∷ Held (Long 1) ∷ Queued (Long 2) (Long 1) ∷ []

-- siblings don't overlap
abbrev pub Siblings : Type 0
Siblings = Told ((1, CheckOut (change path_p1 ∷ [])) ∷ (2, CheckOut (change path_p2 ∷ [])) ∷ []) (Held (Long 1) ∷ Held (Long 2) ∷ [])

-- a claim to look at an assembly and to change one of its parts leaves the other part for others to look at
abbrev pub LookAndChange : Type 0
LookAndChange =
    Told ((1, CheckOut (look path_b ∷ change path_p1 ∷ [])) ∷ (2, CheckOut (look path_p2 ∷ [])) ∷ (2, CheckOut (look path_p1 ∷ [])) ∷ [])
    (Held (Long 1) ∷ Held (Long 2) ∷ Queued (Long 3) (Long 1) ∷ [])

-- a new claim doesn't overtake a waiting one; the queue moves up when a claim is given up
abbrev pub LineMovesUp : Type 0
LineMovesUp =
    Told ((1, CheckOut (look path_e ∷ [])) ∷ (2, CheckOut (change path_b ∷ [])) ∷ (1, CheckOut (look path_b ∷ [])) ∷ (1, Abandon 1)
    ∷ (1, State (Long 2)) ∷ (1, State (Long 3)) ∷ [])
    (Held (Long 1) ∷ Queued (Long 2) (Long 1) ∷ Queued (Long 3) (Long 2) ∷ Abandoned ∷ Held (Long 2) ∷ Queued (Long 3) (Long 2) ∷ [])

-- no place is made under a place that a granted claim covers
abbrev pub CoveredParent : Type 0
CoveredParent =
    Told ((1, CheckOut (look path_e ∷ [])) ∷ (2, Make (codes "e" ∷ codes "c" ∷ []) None) ∷ (2, Make (codes "f" ∷ []) None) ∷ [])
    (Held (Long 1) ∷ Refused (Covered (Long 1)) ∷ Place 5 ∷ [])

-- each refusal but the limits; where two apply, the first one
abbrev pub Refusals : Type 0
Refusals =
    Told ((0, Make [] None) ∷ (7, Join anna) ∷ (1, Join ben) ∷ (1, Make [] None) ∷ (1, Make (codes "x" ∷ codes "y" ∷ []) None)
    ∷ (1, Make (path_p1 ++ codes "q" ∷ []) None) ∷ (1, Make path_p1 None) ∷ [])
    (Refused NoSession ∷ Refused NoSession ∷ Refused Joined ∷ Refused Exists ∷ Refused NoPlace ∷ Refused WrongKind ∷ Refused Exists ∷ [])

-- each refusal of check-outs and claims but the limits
abbrev pub ClaimRefusals : Type 0
ClaimRefusals =
    Told
    ((1, CheckOut []) ∷ (1, CheckOut (replicate 9 (look (codes "x" ∷ [])))) ∷ (1, CheckOut (look (codes "x" ∷ []) ∷ []))
    ∷ (1, CheckOut (change path_b ∷ [])) ∷ (2, Make path_p1 None)
    ∷ (2, Make (codes "e" ∷ codes "b" ∷ codes "p3" ∷ []) None) ∷ (2, Abandon 1) ∷ (2, Abandon 2) ∷ (2, State (Long 2))
    ∷ (2, State (Short 1)) ∷ (2, State (Long 1)) ∷ [])
    (Refused ItemCount ∷ Refused ItemCount ∷ Refused NoPlace ∷ Held (Long 1) ∷ Refused Exists ∷ Refused (Covered (Long 1))
    ∷ Refused NotYours ∷ Refused NoClaim ∷ Refused NoClaim ∷ Refused NoClaim
    ∷ Held (Long 1) ∷ [])

-- an extension is refused by the first granted claim in its way, and nothing moves
abbrev pub RefusedExtension : Type 0
RefusedExtension =
    Told ((1, CheckOut (look path_p1 ∷ [])) ∷ (2, CheckOut (look path_p1 ∷ [])) ∷ (1, Extend (Long 1) (change path_p1 ∷ []))
    ∷ (1, State (Long 1)) ∷ (2, State (Long 2)) ∷ [])
    (Held (Long 1) ∷ Held (Long 2) ∷ Refused (Overlaps (Long 2)) ∷ Held (Long 1) ∷ Held (Long 2) ∷ [])

-- an extension that is granted moves its claim to the front, past those that wait
abbrev pub GrantedExtension : Type 0
GrantedExtension =
    Told ((2, CheckOut (look path_p1 ∷ [])) ∷ (1, CheckOut (look path_p2 ∷ [])) ∷ (2, CheckOut (change path_b ∷ []))
    ∷ (1, Extend (Long 2) (change path_p2 ∷ [])) ∷ (2, State (Long 3)) ∷ [])
    (Held (Long 1) ∷ Held (Long 2) ∷ Queued (Long 3) (Long 1) ∷ Held (Long 2) ∷ Queued (Long 3) (Long 2) ∷ [])

-- a place in an assembly
abbrev pub path_p : ℕ → List (List ℕ)
path_p digit = codes "e" ∷ codes "b" ∷ (112 ∷ digit ∷ []) ∷ []

-- a place is made under a covered parent only in the name of a check-out that changes it
abbrev pub MadeUnderAClaim : Type 0
MadeUnderAClaim =
    Told
    ((1, CheckOut (look path_e ∷ [])) ∷ (2, Make (path_p 57) None) ∷ (1, Make (path_p 57) (Some 1))
    ∷ (1, Extend (Long 1) (change path_b ∷ [])) ∷ (1, Make (path_p 57) (Some 1)) ∷ (2, Make (path_p 56) None)
    ∷ (2, Make (codes "f" ∷ []) None) ∷ (1, Names path_b) ∷ [])
    (Held (Long 1) ∷ Refused (Covered (Long 1)) ∷ Refused NotCovered ∷ Held (Long 1) ∷ Place 5 ∷ Refused (Covered (Long 1)) ∷ Place 6
    ∷ Children (codes "p1" ∷ codes "p2" ∷ codes "p9" ∷ []) ∷ [])

-- a check-out waits behind a hold, a hold behind a check-out, and a hold goes with its session
abbrev pub HoldsAndLeaving : Type 0
HoldsAndLeaving =
    Told
    ((2, Hold (look path_p1 ∷ [])) ∷ (1, CheckOut (change path_p1 ∷ [])) ∷ (1, Release 1) ∷ (2, Release 1) ∷ (1, State (Long 1))
    ∷ (2, Hold (look path_p1 ∷ [])) ∷ (2, Leave) ∷ (1, State (Short 2))
    ∷ (2, Names []) ∷ [])
    (Held (Short 1) ∷ Queued (Long 1) (Short 1) ∷ Refused NotYours ∷ Released ∷ Held (Long 1) ∷ Queued (Short 2) (Long 1) ∷ Left
    ∷ Refused NoClaim ∷ Refused NoSession ∷ [])

-- each refusal of extensions and holds but the limits
abbrev pub ExtensionRefusals : Type 0
ExtensionRefusals =
    Told
    ((1, CheckOut (change path_b ∷ [])) ∷ (2, CheckOut (change path_p1 ∷ [])) ∷ (2, Extend (Long 9) []) ∷ (2, Extend (Long 1) [])
    ∷ (2, Extend (Long 2) []) ∷ (1, Extend (Long 1) []) ∷ (1, Extend (Long 1) (replicate 8 (look path_e)))
    ∷ (1, Extend (Long 1) (look (codes "x" ∷ []) ∷ [])) ∷ (2, Make (path_p 57) (Some 9)) ∷ (2, Make (path_p 57) (Some 1))
    ∷ (2, Make (path_p 57) (Some 2)) ∷ (2, Hold []) ∷ (2, Hold (look (codes "x" ∷ []) ∷ [])) ∷ (2, Release 1)
    ∷ (2, Names (codes "x" ∷ [])) ∷ [])
    (Held (Long 1) ∷ Queued (Long 2) (Long 1) ∷ Refused NoClaim ∷ Refused NotYours ∷ Refused NotHeld ∷ Refused ItemCount ∷ Refused ItemCount
    ∷ Refused NoPlace ∷ Refused NoClaim ∷ Refused NotYours ∷ Refused NotHeld
    ∷ Refused ItemCount ∷ Refused NoPlace ∷ Refused NoClaim ∷ Refused NoPlace ∷ [])

-- drafts become versions at check-in, and a second save replaces the first
abbrev pub DraftsAndVersions : Type 0
DraftsAndVersions =
    Told
    ((1, CheckOut (change path_b ∷ [])) ∷ (1, Save 1 path_p1 []) ∷ (1, Save 1 path_p1 (codes "ab")) ∷ (1, Save 1 path_p2 [])
    ∷ (1, CheckIn 1) ∷ (1, Fetch path_p1 0) ∷ (1, Fetch path_p1 1) ∷ (1, Fetch path_p1 2)
    ∷ (1, Fetch path_p2 1) ∷ (1, State (Long 1)) ∷ (2, Count path_p1) ∷ (2, Count path_e) ∷ (2, Fetch path_b 1)
    ∷ (2, Fetch (codes "x" ∷ []) 1) ∷ [])
    (Held (Long 1) ∷ Saved ∷ Saved ∷ Saved ∷ CheckedIn 2 ∷ Refused NoVersion ∷ Content (codes "ab") ∷ Refused NoVersion ∷ Content []
    ∷ Refused NoClaim ∷ Versions 1 ∷ Refused WrongKind ∷ Refused WrongKind ∷ Refused NoPlace ∷ [])

-- each refusal of drafts but the limits
abbrev pub DraftRefusals : Type 0
DraftRefusals =
    Told
    ((1, CheckOut (look path_b ∷ change path_p1 ∷ [])) ∷ (2, CheckOut (change path_p1 ∷ [])) ∷ (2, Save 1 path_p1 [])
    ∷ (2, Save 2 path_p1 []) ∷ (2, CheckIn 2) ∷ (1, Save 1 (path_p 51) []) ∷ (1, Save 1 path_b []) ∷ (1, Save 9 [] [])
    ∷ (1, Save 1 path_p2 []) ∷ (1, Save 1 path_p1 (replicate 1025 0)) ∷ (1, Save 1 path_p1 []) ∷ (1, Abandon 1) ∷ (2, CheckIn 2)
    ∷ (1, Count path_p1) ∷ [])
    (Held (Long 1) ∷ Queued (Long 2) (Long 1) ∷ Refused NotYours ∷ Refused NotHeld ∷ Refused NotHeld ∷ Refused NoPlace ∷ Refused WrongKind
    ∷ Refused NoClaim
    ∷ Refused NotCovered ∷ Refused Limit ∷ Saved ∷ Abandoned ∷ CheckedIn 0 ∷ Versions 0 ∷ [])

-- a check-out that is given belongs to the other designer, with its note, and no longer to the one who gave it
abbrev pub GivenAway : Type 0
GivenAway =
    Told
    ((1, CheckOut (change path_b ∷ [])) ∷ (1, Note 1 (codes "ab")) ∷ (1, Give 1 ben) ∷ (1, Save 1 path_p1 (0 ∷ [])) ∷ (2, Save 1 path_p1 (0 ∷ []))
    ∷ (1, ReadNote 1) ∷ (2, Note 1 (replicate 65 0)) ∷ (1, Give 9 ben) ∷ (1, Give 1 anna) ∷ (2, ReadNote 1) ∷ (2, CheckIn 1) ∷ [])
    (Held (Long 1) ∷ Noted ∷ Given ∷ Refused NotYours ∷ Saved ∷ NoteIs (codes "ab") ∷ Refused Limit ∷ Refused NoClaim ∷ Refused NotYours
    ∷ NoteIs (codes "ab") ∷ CheckedIn 1 ∷ [])

-- a check-out that is given keeps its drafts and its place in the queue; one that waits may be given and noted, too
abbrev pub DraftsAndPlaceStay : Type 0
DraftsAndPlaceStay =
    Told
    ((1, CheckOut (change path_b ∷ [])) ∷ (1, Save 1 path_p1 (codes "ab")) ∷ (2, CheckOut (look path_p1 ∷ [])) ∷ (2, Note 2 (codes "next"))
    ∷ (2, Give 2 anna) ∷ (1, Give 1 ben) ∷ (2, State (Long 2)) ∷ (2, Note 2 []) ∷ (1, ReadNote 2) ∷ (2, CheckIn 1) ∷ (1, State (Long 2))
    ∷ (1, Fetch path_p1 1) ∷ (1, Note 2 []) ∷ (1, ReadNote 2) ∷ (1, Note 9 []) ∷ (1, ReadNote 9) ∷ (0, ReadNote 2) ∷ [])
    (Held (Long 1) ∷ Saved ∷ Queued (Long 2) (Long 1) ∷ Noted ∷ Given ∷ Given ∷ Queued (Long 2) (Long 1) ∷ Refused NotYours
    ∷ NoteIs (codes "next") ∷ CheckedIn 1 ∷ Held (Long 2) ∷ Content (codes "ab") ∷ Noted ∷ NoteIs [] ∷ Refused NoClaim ∷ Refused NoClaim
    ∷ Refused NoSession ∷ [])

-- an assembly in the assembly
abbrev pub path_s : List (List ℕ)
path_s = codes "e" ∷ codes "b" ∷ codes "s" ∷ []

-- a part in that
abbrev pub path_sp : List (List ℕ)
path_sp = codes "e" ∷ codes "b" ∷ codes "s" ∷ codes "p" ∷ []

-- an assembly stands in an assembly beside parts, and is covered and saved to like any other; nothing stands in a part, and no assembly
-- beside projects
abbrev pub NestedAssemblies : Type 0
NestedAssemblies =
    Told
    ((1, Nest path_s None) ∷ (1, Make path_sp None) ∷ (1, Make (path_p1 ++ codes "x" ∷ []) None) ∷ (1, Nest (codes "f" ∷ []) None)
    ∷ (1, CheckOut (change path_s ∷ [])) ∷ (2, CheckOut (look path_sp ∷ [])) ∷ (2, CheckOut (change path_p1 ∷ []))
    ∷ (1, Save 1 path_s (0 ∷ [])) ∷ (1, Save 1 path_sp (0 ∷ [])) ∷ [])
    (Place 5 ∷ Place 6 ∷ Refused WrongKind ∷ Refused WrongKind ∷ Held (Long 1) ∷ Queued (Long 2) (Long 1) ∷ Held (Long 3)
    ∷ Refused WrongKind ∷ Saved ∷ [])

-- assemblies stand in one another down to the sixth name; at the seventh there are parts alone
abbrev pub DeepestPaths : Type 0
DeepestPaths =
    let a = codes "a" ∷ [] in
    let b = a ++ codes "b" ∷ [] in
    let c = b ++ codes "c" ∷ [] in
    let d = c ++ codes "d" ∷ [] in
    let e = d ++ codes "e" ∷ [] in
    let f = e ++ codes "f" ∷ [] in
    let g = f ++ codes "g" ∷ [] in
    replies_of new_vault ((0, Join anna) ∷ (1, Make a None) ∷ (1, Make b None) ∷ (1, Nest c None) ∷ (1, Nest d None) ∷ (1, Nest e None)
    ∷ (1, Nest f None) ∷ (1, Nest g None) ∷ (1, Make g None) ∷ (1, Make (g ++ codes "h" ∷ []) None) ∷ [])
    ≡ Session 1 ∷ Place 1 ∷ Place 2 ∷ Place 3 ∷ Place 4 ∷ Place 5 ∷ Place 6 ∷ Refused WrongKind ∷ Place 7 ∷ Refused WrongKind ∷ []

-- each refusal of `nest` but the limits; where two apply, the first one
abbrev pub NestRefusals : Type 0
NestRefusals =
    Told
    ((1, CheckOut (look path_e ∷ [])) ∷ (0, Nest path_s None) ∷ (1, Nest [] None) ∷ (1, Nest (codes "x" ∷ codes "y" ∷ []) None)
    ∷ (1, Nest path_e None) ∷ (1, Nest path_b None) ∷ (1, Nest (path_p1 ++ codes "q" ∷ []) None) ∷ (1, Nest path_p1 None)
    ∷ (2, Nest path_s None) ∷ (2, Nest path_s (Some 9)) ∷ (2, Nest path_s (Some 1)) ∷ (1, Nest path_s (Some 1))
    ∷ (1, Extend (Long 1) (change path_b ∷ [])) ∷ (1, Nest path_s (Some 1)) ∷ (1, Nest path_s (Some 1)) ∷ [])
    (Held (Long 1) ∷ Refused NoSession ∷ Refused Exists ∷ Refused NoPlace ∷ Refused WrongKind ∷ Refused WrongKind ∷ Refused WrongKind
    ∷ Refused Exists ∷ Refused (Covered (Long 1)) ∷ Refused NoClaim ∷ Refused NotYours ∷ Refused NotCovered ∷ Held (Long 1) ∷ Place 5
    ∷ Refused Exists ∷ [])

-- what is said of a claim
abbrev pub shown : ClaimId → List ℕ → Standing → List PathItem → Reply
shown id designer standing items = Shown (record { id = id; designer = designer; standing = standing; items = items })

-- anybody may ask whose a claim is and which claims look at a place or under it; the drafts are their owner's to read
abbrev pub WhoHoldsWhat : Type 0
WhoHoldsWhat =
    Told
    ((1, CheckOut (look path_b ∷ change path_p1 ∷ [])) ∷ (2, Hold (look path_p2 ∷ [])) ∷ (2, CheckOut (change path_b ∷ []))
    ∷ (2, Show (Long 1)) ∷ (1, Show (Short 1)) ∷ (1, Show (Long 2)) ∷ (1, Claims path_p2) ∷ (1, Claims path_p1)
    ∷ (1, Claims (codes "x" ∷ [])) ∷ (1, Show (Long 9)) ∷ (1, Save 1 path_p1 (0 ∷ [])) ∷ (1, Drafts 1) ∷ (2, Drafts 1)
    ∷ (1, Draft 1 path_p1) ∷ (1, Draft 1 path_p2) ∷ (1, Draft 1 path_b) ∷ (2, Draft 1 path_p1) ∷ (2, Drafts 2) ∷ (1, Claims [])
    ∷ (1, Drafts 9) ∷ (1, CheckIn 1) ∷ (1, Show (Long 1)) ∷ (2, Show (Long 2)) ∷ (1, Await (Long 2)) ∷ (1, Await (Short 1))
    ∷ (1, Await (Long 1)) ∷ (0, Show (Long 2)) ∷ [])
    (Held (Long 1) ∷ Held (Short 1) ∷ Queued (Long 2) (Long 1) ∷ shown (Long 1) anna standings.Held (look path_b ∷ change path_p1 ∷ [])
    ∷ shown (Short 1) ben standings.Held (look path_p2 ∷ []) ∷ shown (Long 2) ben (standings.Queued (Long 1)) (change path_b ∷ [])
    ∷ ClaimsAt (Long 1 ∷ Short 1 ∷ Long 2 ∷ []) ∷ ClaimsAt (Long 1 ∷ Long 2 ∷ []) ∷ Refused NoPlace ∷ Refused NoClaim ∷ Saved
    ∷ DraftsOf (path_p1 ∷ []) ∷ Refused NotYours ∷ Content (0 ∷ []) ∷ Refused NoVersion ∷ Refused WrongKind ∷ Refused NotYours
    ∷ DraftsOf [] ∷ ClaimsAt (Long 1 ∷ Short 1 ∷ Long 2 ∷ []) ∷ Refused NoClaim ∷ CheckedIn 1 ∷ Refused NoClaim
    ∷ shown (Long 2) ben (standings.Queued (Short 1)) (change path_b ∷ []) ∷ Queued (Long 2) (Short 1) ∷ Held (Short 1) ∷ Refused NoClaim
    ∷ Refused NoSession ∷ [])

-- all of them
pub record Rows : Type 0 where
  pub two_designers : TwoDesigners
  pub siblings : Siblings
  pub look_and_change : LookAndChange
  pub line_moves_up : LineMovesUp
  pub covered_parent : CoveredParent
  pub refusals : Refusals
  pub claim_refusals : ClaimRefusals
  pub refused_extension : RefusedExtension
  pub granted_extension : GrantedExtension
  pub made_under_a_claim : MadeUnderAClaim
  pub holds_and_leaving : HoldsAndLeaving
  pub extension_refusals : ExtensionRefusals
  pub drafts_and_versions : DraftsAndVersions
  pub draft_refusals : DraftRefusals
  pub given_away : GivenAway
  pub drafts_and_place_stay : DraftsAndPlaceStay
  pub nested_assemblies : NestedAssemblies
  pub deepest_paths : DeepestPaths
  pub nest_refusals : NestRefusals
  pub who_holds_what : WhoHoldsWhat
