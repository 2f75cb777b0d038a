-- The texts of replies and of outside refusals. This project's own.
use Rattle.std.specs.Prelude.{ℕ, List, [], ◌∷◌, ◌++◌, codes, decimal, length}
use Rattle.std.specs.List.{flat_map}
use Rattle.hex.specs.Hex.{encode_lower}
use Rattle.vault_model.specs.Said.{Reply}
use Rattle.vault_state.specs.declared.ids.ClaimId.{ClaimId}
use Rattle.vault_state.specs.declared.ids.ClaimId.TheVariants.{Long, Short}
use Rattle.vault_model.specs.declared.replies.Reply.TheVariants.{Session, Place, Held, Queued, Saved, CheckedIn, Abandoned, Released, Children, Content, Versions, Given, Noted, NoteIs, Shown, ClaimsAt, DraftsOf, Left, Refused}
use Rattle.vault_model.specs.declared.replies.ShownClaim.{ShownClaim}
use Rattle.vault_state.specs.declared.claims.PathItem.{PathItem}
use Rattle.vault_state.specs.declared.claims.Standing.{Standing}
use Rattle.vault_state.specs.declared.claims.Standing.TheVariants as standings
use Rattle.vault_state.specs.declared.ids.Intent.{Intent}
use Rattle.vault_state.specs.declared.ids.Intent.TheVariants.{Look, Change}
use Rattle.vault_state.specs.Path.{path_text}
use Rattle.vault_model.specs.declared.replies.Refusal.{Refusal}
use Rattle.vault_model.specs.declared.replies.Refusal.TheVariants as refusals
use Rattle.vault_model.specs.declared.replies.Outside.{Outside}
use Rattle.vault_model.specs.declared.replies.Outside.TheVariants as outsides

-- each text ends with a line feed
abbrev pub newline : List ℕ
newline = 10 ∷ []

-- a claim as lines name it
abbrev pub claim_text : ClaimId → List ℕ
claim_text (Long number) = codes "c" ++ decimal number
claim_text (Short number) = codes "h" ++ decimal number

-- the number of a refusal, and the claim that is in the way, if one is
abbrev pub refusal_text : Refusal → List ℕ
refusal_text refusals.NoSession = codes "ERR 11"
refusal_text refusals.Joined = codes "ERR 12"
refusal_text refusals.NoPlace = codes "ERR 20"
refusal_text refusals.Exists = codes "ERR 21"
refusal_text refusals.WrongKind = codes "ERR 22"
refusal_text (refusals.Covered claim) = codes "ERR 23 " ++ claim_text claim
refusal_text refusals.NoClaim = codes "ERR 30"
refusal_text refusals.NotYours = codes "ERR 31"
refusal_text refusals.NotHeld = codes "ERR 32"
refusal_text (refusals.Overlaps claim) = codes "ERR 33 " ++ claim_text claim
refusal_text refusals.NotCovered = codes "ERR 34"
refusal_text refusals.ItemCount = codes "ERR 36"
refusal_text refusals.NoVersion = codes "ERR 40"
refusal_text refusals.Limit = codes "ERR 50"

-- a claim, and the one that it waits behind
abbrev pub queued_text : ClaimId → ClaimId → List ℕ
queued_text claim before = codes "OK queued " ++ claim_text claim ++ (codes " behind " ++ claim_text before ++ newline)

-- the number of names, then the names, each after a space
abbrev pub children_text : List (List ℕ) → List ℕ
children_text names = codes "OK list " ++ decimal (length names) ++ flat_map (λ name. 32 ∷ name) names ++ newline

-- a content, or a note: two lower case hexadecimal digits a byte, or `-` for no bytes
abbrev pub content_text : List ℕ → List ℕ
content_text [] = codes "-"
content_text (byte ∷ bytes) = encode_lower (byte ∷ bytes)

-- `r` to look, `w` to change
abbrev pub intent_letter : Intent → ℕ
intent_letter Look = 114
intent_letter Change = 119

-- an item is the letter of its intent, a colon and its path
abbrev pub item_text : PathItem → List ℕ
item_text item = intent_letter item.intent ∷ 58 ∷ path_text item.path

-- how a claim stands, as the text behind its owner
abbrev pub standing_text : Standing → List ℕ
standing_text standings.Held = codes " held"
standing_text (standings.Queued before) = codes " queued behind " ++ claim_text before

-- all about a claim: its owner, how it stands, and its items, each after a space
abbrev pub shown_text : ShownClaim (List PathItem) → List ℕ
shown_text shown =
    codes "OK claim " ++ claim_text shown.id ++ codes " " ++ shown.designer ++ standing_text shown.standing
    ++ flat_map (λ item. 32 ∷ item_text item) shown.items ++ newline

-- the number of claims, then the claims, each after a space
abbrev pub claims_text : List ClaimId → List ℕ
claims_text ids = codes "OK claims " ++ decimal (length ids) ++ flat_map (λ id. 32 ∷ claim_text id) ids ++ newline

-- the number of drafts, then their paths, each after a space
abbrev pub drafts_text : List (List (List ℕ)) → List ℕ
drafts_text paths = codes "OK drafts " ++ decimal (length paths) ++ flat_map (λ path. 32 ∷ path_text path) paths ++ newline

-- the line of a reply
abbrev pub reply_text : Reply → List ℕ
reply_text (Session number) = codes "OK session " ++ decimal number ++ newline
reply_text (Place number) = codes "OK place " ++ decimal number ++ newline
reply_text (Held claim) = codes "OK held " ++ claim_text claim ++ newline
reply_text (Queued claim before) = queued_text claim before
reply_text Saved = codes "OK saved\n"
reply_text (CheckedIn count) = codes "OK checked in " ++ decimal count ++ newline
reply_text Abandoned = codes "OK abandoned\n"
reply_text Released = codes "OK released\n"
reply_text (Children names) = children_text names
reply_text (Content content) = codes "OK content " ++ content_text content ++ newline
reply_text (Versions count) = codes "OK versions " ++ decimal count ++ newline
reply_text Given = codes "OK given\n"
reply_text Noted = codes "OK noted\n"
reply_text (NoteIs note) = codes "OK note " ++ content_text note ++ newline
reply_text (Shown shown) = shown_text shown
reply_text (ClaimsAt ids) = claims_text ids
reply_text (DraftsOf paths) = drafts_text paths
reply_text Left = codes "OK left\n"
reply_text (Refused refusal) = refusal_text refusal ++ newline

-- the line of an outside refusal
abbrev pub outside_text : Outside → List ℕ
outside_text outsides.BadLine = codes "ERR 10\n"
outside_text outsides.Busy = codes "ERR 80\n"
outside_text outsides.NoMemory = codes "ERR 81\n"
outside_text outsides.Broken = codes "ERR 82\n"
