-- What is said of two files, and of a vault's limits. This project's own.
use Rattle.std.specs.Prelude.{ℕ, ◌*◌, ◌/◌, Bool, ◌&&◌, nat_le, nat_lt, if◌then◌else◌, List, [], ◌∷◌, ◌++◌, codes, decimal, Option, None, Some}
use Rattle.vault_state.specs.Limits.{most_places, most_children, most_claims, most_drafts, most_versions, most_weight, last_number}
use Rattle.vault_store.specs.declared.opening.File.TheVariants.{First, Second}
use Rattle.vault_store.specs.declared.opening.OpenError.{OpenError}
use Rattle.vault_store.specs.declared.opening.OpenError.TheVariants as errors
use Rattle.vault_format.specs.Files.{head_length}
use Rattle.vault_inspector.specs.declared.report.FileState.{FileState}
use Rattle.vault_inspector.specs.declared.report.FileState.TheVariants.{Closed, Open, Older, Damaged}
use Rattle.vault_inspector.specs.declared.figures.Figures.{Figures}
use Rattle.vault_inspector.specs.declared.limits.Limit.{Limit}
use Rattle.vault_inspector.specs.declared.limits.Limited.{Limited}
use Rattle.vault_inspector.specs.declared.limits.Limited.TheVariants.{Places, Projects, Children, Claims, Drafts, Versions, Weight, CheckOuts}

-- the name of what is limited
abbrev pub name_of : Limited → List ℕ
name_of Places = codes "places"
name_of Projects = codes "projects"
name_of Children = codes "places-beneath-one"
name_of Claims = codes "claims"
name_of Drafts = codes "drafts-of-a-check-out"
name_of Versions = codes "versions"
name_of Weight = codes "weight"
name_of CheckOuts = codes "check-outs"

-- how much of a limit is used in per cent; more than the limit counts as 100
abbrev pub per_cent_of : ℕ → ℕ → ℕ
per_cent_of used limit = if nat_lt used limit then used * 100 / limit else 100

-- a limit, how much of it is used, and how much that is in per cent
abbrev pub limit_of : Limited → ℕ → ℕ → Limit
limit_of limited used limit = record { limited = limited; used = used; limit = limit; per_cent = per_cent_of used limit }

-- each limit that a vault's files show; for versions it is that of the part with the most, and so it is with places beneath one and with drafts
abbrev pub limits_of : Figures → List Limit
limits_of figures =
    limit_of Places figures.places most_places
    ∷ limit_of Projects figures.projects most_children
    ∷ limit_of Children figures.children most_children
    ∷ limit_of Claims figures.claims most_claims
    ∷ limit_of Drafts figures.claim_drafts most_drafts
    ∷ limit_of Versions figures.part_versions most_versions
    ∷ limit_of Weight figures.weight most_weight
    ∷ limit_of CheckOuts figures.last_check_out last_number
    ∷ []

-- the text of a limit
abbrev pub limit_text : Limit → List ℕ
limit_text limit =
    name_of limit.limited
    ++ codes ": "
    ++ decimal limit.used
    ++ codes " of "
    ++ decimal limit.limit
    ++ codes ", "
    ++ decimal limit.per_cent
    ++ codes " per cent"

-- what an active file is, in words
abbrev pub open_sentence : ℕ → ℕ → ℕ → List ℕ
open_sentence generation frames tail =
    codes "is the active file: generation "
    ++ decimal generation
    ++ codes ", "
    ++ decimal frames
    ++ codes " commits behind its snapshot, up to byte "
    ++ decimal tail

-- what a file is, in words
abbrev pub sentence_of : FileState → List ℕ
sentence_of Closed = codes "is closed: nothing in it counts"
sentence_of (Open generation frames tail version) = open_sentence generation frames tail
sentence_of (Older generation) =
    codes "is the file before: generation " ++ decimal generation ++ codes "; the next snapshot is written over it"
sentence_of (Damaged offset) = codes "is damaged at " ++ decimal offset

-- which fault of two files is reported, where the first file has one at this offset: a fault in a head comes before one behind a head
abbrev pub first_fault : ℕ → FileState → OpenError
first_fault at (Damaged other) =
    if nat_le head_length at && nat_lt other head_length then errors.Damaged Second other else errors.Damaged First at
first_fault at Closed = errors.Damaged First at
first_fault at (Open generation frames tail version) = errors.Damaged First at
first_fault at (Older generation) = errors.Damaged First at

-- the same, where the first file has none
abbrev pub second_fault : FileState → Option OpenError
second_fault (Damaged at) = Some (errors.Damaged Second at)
second_fault Closed = None
second_fault (Open generation frames tail version) = None
second_fault (Older generation) = None

-- why two files aren't opened, where the first is closed: the second is closed, too, or damaged
abbrev pub beside_closed : FileState → Option OpenError
beside_closed Closed = Some errors.NoVault
beside_closed (Open generation frames tail version) = None
beside_closed (Older generation) = None
beside_closed (Damaged at) = Some (errors.Damaged Second at)

-- why two files of these states aren't opened
abbrev pub why_of : FileState → FileState → Option OpenError
why_of (Damaged at) second = Some (first_fault at second)
why_of Closed second = beside_closed second
why_of (Open generation frames tail version) second = second_fault second
why_of (Older generation) second = second_fault second
