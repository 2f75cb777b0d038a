-- The text of a report. This project's own.
use Rattle.std.specs.Prelude.{ℕ, ◌+◌, List, [], ◌∷◌, ◌++◌, codes, decimal, length, Option, None, Some}
use Rattle.std.specs.List.{flat_map}
use Rattle.hex.specs.Hex.{encode_lower}
use Rattle.vault_state.specs.declared.ids.ClaimId.{ClaimId}
use Rattle.vault_state.specs.declared.ids.ClaimId.TheVariants.{Long, Short}
use Rattle.vault_state.specs.declared.ids.Intent.{Intent}
use Rattle.vault_state.specs.declared.ids.Intent.TheVariants.{Look, Change}
use Rattle.vault_state.specs.declared.place.Place.{Place}
use Rattle.vault_state.specs.declared.claims.Item.{Item}
use Rattle.vault_state.specs.declared.claims.Claim.{Claim}
use Rattle.vault_state.specs.declared.claims.Owner.{Owner}
use Rattle.vault_state.specs.declared.claims.Owner.TheVariants as owners
use Rattle.vault_state.specs.declared.claims.Standing.{Standing}
use Rattle.vault_state.specs.declared.claims.Standing.TheVariants.{Held, Queued}
use Rattle.vault_state.specs.Tree.{path_of}
use Rattle.vault_state.specs.Path.{path_text}
use Rattle.vault_state.specs.Claims.{standing_of}
use Rattle.vault_state.specs.Vault.{Vault}
use Rattle.vault_format.specs.declared.version.FileVersion.{FileVersion}
use Rattle.vault_format.specs.declared.version.FileVersion.TheVariants.{One, Two}
use Rattle.vault_inspector.specs.declared.report.FileState.{FileState}
use Rattle.vault_inspector.specs.declared.report.FileState.TheVariants.{Closed, Open, Older, Damaged}
use Rattle.vault_inspector.specs.Counts.{version_count, draft_count}

-- each line ends with a line feed
abbrev pub newline : List ℕ
newline = 10 ∷ []

-- words, and a number behind them
unfoldable pub numbered : List ℕ → ℕ → List ℕ
numbered words n = words ++ decimal n

-- the version of a file, where it isn't the current one
abbrev pub version_text : FileVersion → List ℕ
version_text One = codes ", version 1"
version_text Two = []

-- the active file: its generation, how many frames it has, and where its tail gate stands
abbrev pub open_text : ℕ → ℕ → ℕ → List ℕ
open_text generation frames tail =
    numbered (codes "open, generation ") generation ++ numbered (codes ", frames ") frames ++ numbered (codes ", tail ") tail

-- the state of a file
abbrev pub state_text : FileState → List ℕ
state_text Closed = codes "closed"
state_text (Open generation frames tail version) = open_text generation frames tail ++ version_text version
state_text (Older generation) = numbered (codes "older, generation ") generation
state_text (Damaged offset) = numbered (codes "damaged at ") offset

-- the line of a file, behind these words
unfoldable pub file_line : List ℕ → FileState → List ℕ
file_line words state = words ++ state_text state ++ newline

-- how many places there are, with the library, and how many versions, claims and drafts
abbrev pub counts_text : ℕ → ℕ → ℕ → ℕ → List ℕ
counts_text places versions claims drafts =
    numbered (codes "places ") places
    ++ numbered (codes ", versions ") versions
    ++ numbered (codes ", claims ") claims
    ++ numbered (codes ", drafts ") drafts
    ++ newline

abbrev pub counts_line : Vault → List ℕ
counts_line v = counts_text (length v.tree + 1) (version_count v) (length v.line) (draft_count v)

-- a claim by its number, `c` for a check-out and `h` for a hold
abbrev pub claim_text : ClaimId → List ℕ
claim_text (Long number) = numbered (codes "c") number
claim_text (Short number) = numbered (codes "h") number

-- a claim's owner: the designer's name, or the session's number
abbrev pub owner_text : Owner → List ℕ
owner_text (owners.Designer name) = name
owner_text (owners.Session number) = numbered (codes "session ") number

-- how a claim stands
abbrev pub standing_text : Option Standing → List ℕ
standing_text (Some Held) = codes " held"
standing_text (Some (Queued other)) = codes " queued behind " ++ claim_text other
standing_text None = []

-- an item: what it asks for, and the path of its place
abbrev pub intent_text : Intent → List ℕ
intent_text Look = codes " r:"
intent_text Change = codes " w:"

abbrev pub item_text : List Place → Item → List ℕ
item_text tree item = intent_text item.intent ++ path_text (path_of tree item.place)

-- a note, where there is one: two lower case hexadecimal digits a byte
abbrev pub note_text : List ℕ → List ℕ
note_text [] = []
note_text (byte ∷ note) = codes " note " ++ encode_lower (byte ∷ note)

-- the line of a claim: its number, its owner, how it stands, its items in order, and its note
abbrev pub claim_line : Vault → Claim → List ℕ
claim_line v c =
    claim_text c.id
    ++ codes " "
    ++ owner_text c.owner
    ++ standing_text (standing_of v.tree v.line c.id)
    ++ flat_map (item_text v.tree) c.items
    ++ note_text c.note
    ++ newline

-- the lines of the vault: its counts, and its claims in the order of the queue
abbrev pub vault_text : Option Vault → List ℕ
vault_text None = codes "no vault\n"
vault_text (Some v) = counts_line v ++ flat_map (claim_line v) v.line

-- The text of a report: a line for each file, and then the vault.
abbrev pub report_text : FileState → FileState → Option Vault → List ℕ
report_text first second vault = file_line (codes "file a: ") first ++ file_line (codes "file b: ") second ++ vault_text vault
