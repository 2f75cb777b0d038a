-- How commands are spelled on a line, in the domain's terms: what reading by the grammar must give back.
-- This project's own.
use Rattle.std.specs.Prelude.{ℕ, ◌≡◌, ◌<◌, ◌≤◌, ◌^◌, ◌*◌, ◌+◌, ◌↔◌, List, [], ◌∷◌, length, map, codes, decimal, Some, None}
use Rattle.std.specs.List.{join_with_byte, AllByRecursion}
use Rattle.hex.specs.Hex.{hex_digit_value, IsBytes}
use Rattle.vault_model.specs.Said.{Command}
use Rattle.vault_state.specs.Name.{IsName}
use Rattle.vault_state.specs.Path.{IsPath, path_text}
use Rattle.vault_state.specs.declared.ids.ClaimId.{ClaimId}
use Rattle.vault_state.specs.declared.ids.ClaimId.TheVariants.{Long, Short}
use Rattle.vault_state.specs.declared.claims.PathItem.{PathItem}
use Rattle.vault_model.specs.declared.commands.Command.TheVariants as commands
use Rattle.vault_lines.specs.Limits.{longest_line}
use Rattle.vault_lines.specs.Texts.{claim_text, item_text, content_text}
use Rattle.vault_lines.specs.Grammar.{command_of}

-- a number that a claim may have
abbrev pub IsClaimNumber : ℕ → Type 0
IsClaimNumber n = (0 < n) × (n < 2 ^ 32)

-- the number of a long or of a short claim
abbrev pub IsClaimId : ClaimId → Type 0
IsClaimId (Long n) = IsClaimNumber n
IsClaimId (Short n) = IsClaimNumber n

-- one item or more, each at a path
abbrev pub AreItems : List PathItem → Type 0
AreItems items = (0 < length items) × AllByRecursion (λ (item : PathItem). IsPath item.path) items

-- two hexadecimal digits of either case spell a byte, the high one first
abbrev pub DigitsSpell : ℕ → ℕ → ℕ → Type 0
DigitsSpell high low byte = (h : ℕ) × (l : ℕ) × (hex_digit_value high ≡ Some h) × (hex_digit_value low ≡ Some l) × (byte ≡ h * 16 + l)

-- two digits for each byte
abbrev pub DigitsSpellAll : List ℕ → List ℕ → Type 0
DigitsSpellAll [] [] = Unit {0}
DigitsSpellAll (high ∷ low ∷ digits) (byte ∷ bytes) = DigitsSpell high low byte × DigitsSpellAll digits bytes
DigitsSpellAll digits bytes = ⊥

-- the word spells the content, or the note: `-` for no bytes, else its digits
abbrev pub ContentSpells : List ℕ → List ℕ → Type 0
ContentSpells word [] = word ≡ codes "-"
ContentSpells word (byte ∷ bytes) = DigitsSpellAll word (byte ∷ bytes)

-- the words are a command's keyword and a spelling of each of its parts
abbrev pub Spells : List (List ℕ) → Command → Type 0
Spells words (commands.Join name) = IsName name × (words ≡ codes "hello" ∷ name ∷ [])
Spells words (commands.Make path None) = IsPath path × (words ≡ codes "make" ∷ path_text path ∷ [])
Spells words (commands.Make path (Some number)) =
    IsPath path × IsClaimNumber number × (words ≡ codes "make" ∷ path_text path ∷ claim_text (Long number) ∷ [])
Spells words (commands.Nest path None) = IsPath path × (words ≡ codes "nest" ∷ path_text path ∷ [])
Spells words (commands.Nest path (Some number)) =
    IsPath path × IsClaimNumber number × (words ≡ codes "nest" ∷ path_text path ∷ claim_text (Long number) ∷ [])
Spells words (commands.CheckOut items) = AreItems items × (words ≡ codes "checkout" ∷ map item_text items)
Spells words (commands.Extend claim items) =
    IsClaimId claim × AreItems items × (words ≡ codes "extend" ∷ claim_text claim ∷ map item_text items)
Spells words (commands.Save number path content) =
    IsClaimNumber number × IsPath path
    × ((digits : List ℕ) × ContentSpells digits content × (words ≡ codes "save" ∷ claim_text (Long number) ∷ path_text path ∷ digits ∷ []))
Spells words (commands.CheckIn number) = IsClaimNumber number × (words ≡ codes "checkin" ∷ claim_text (Long number) ∷ [])
Spells words (commands.Abandon number) = IsClaimNumber number × (words ≡ codes "abandon" ∷ claim_text (Long number) ∷ [])
Spells words (commands.Hold items) = AreItems items × (words ≡ codes "hold" ∷ map item_text items)
Spells words (commands.Release number) = IsClaimNumber number × (words ≡ codes "release" ∷ claim_text (Short number) ∷ [])
Spells words (commands.State claim) = IsClaimId claim × (words ≡ codes "state" ∷ claim_text claim ∷ [])
Spells words (commands.List path) = IsPath path × (words ≡ codes "list" ∷ path_text path ∷ [])
Spells words (commands.Fetch path version) =
    IsPath path × (version < 2 ^ 32) × (words ≡ codes "fetch" ∷ path_text path ∷ decimal version ∷ [])
Spells words (commands.Count path) = IsPath path × (words ≡ codes "count" ∷ path_text path ∷ [])
Spells words (commands.Give number designer) =
    IsClaimNumber number × IsName designer × (words ≡ codes "give" ∷ claim_text (Long number) ∷ designer ∷ [])
Spells words (commands.Note number text) =
    IsClaimNumber number
    × ((digits : List ℕ) × ContentSpells digits text × (words ≡ codes "note" ∷ claim_text (Long number) ∷ digits ∷ []))
Spells words (commands.ReadNote number) = IsClaimNumber number × (words ≡ codes "note" ∷ claim_text (Long number) ∷ [])
Spells words (commands.Show claim) = IsClaimId claim × (words ≡ codes "show" ∷ claim_text claim ∷ [])
Spells words (commands.Claims path) = IsPath path × (words ≡ codes "claims" ∷ path_text path ∷ [])
Spells words (commands.Drafts number) = IsClaimNumber number × (words ≡ codes "drafts" ∷ claim_text (Long number) ∷ [])
Spells words (commands.Draft number path) =
    IsClaimNumber number × IsPath path × (words ≡ codes "draft" ∷ claim_text (Long number) ∷ path_text path ∷ [])
Spells words (commands.Await claim) = IsClaimId claim × (words ≡ codes "wait" ∷ claim_text claim ∷ [])
Spells words commands.Leave = words ≡ codes "quit" ∷ []

-- the line is words that spell the command, joined by single spaces, and not too long
abbrev pub LineSpells : List ℕ → Command → Type 0
LineSpells line command = (length line ≤ longest_line) × ((words : List (List ℕ)) × Spells words command × (line ≡ join_with_byte 32 words))

-- a line is read as the command that it spells
abbrev pub ReadAsSpelled : Type 0
ReadAsSpelled = (line : List ℕ) (command : Command) → (command_of line ≡ Some command) ↔ LineSpells line command

-- a line spells at most one command
abbrev pub OneCommand : Type 0
OneCommand = (line : List ℕ) (one other : Command) → LineSpells line one → LineSpells line other → one ≡ other

-- the text of a content, or a note, in a reply is one of its spellings
abbrev pub ToldAsSpelled : Type 0
ToldAsSpelled = (content : List ℕ) → IsBytes content → ContentSpells (content_text content) content
