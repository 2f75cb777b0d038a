-- The vault's limits; `src/limits.rt` has the numbers. This project's own.
use Rattle.std.specs.Prelude.{ℕ}
use Rattle.vault_state.specs.declared.limits.TheConstants.{GREATEST_DEPTH, MAX_NAMES, PART_DEPTH, LONGEST_NAME, MAX_PLACES, MAX_CHILDREN, MAX_ITEMS, MAX_CLAIMS, MAX_SESSIONS, LAST_NUMBER, LONGEST_CONTENT, MAX_VERSIONS, MAX_WEIGHT, EXTRA_WEIGHT, MAX_DRAFTS, LONGEST_NOTE}

-- the most places above a place
abbrev pub greatest_depth : ℕ
greatest_depth = GREATEST_DEPTH

-- the most names of a path: one for each step down
abbrev pub most_names : ℕ
most_names = MAX_NAMES

-- the least depth of a part
abbrev pub part_depth : ℕ
part_depth = PART_DEPTH

-- the most bytes of a name
abbrev pub longest_name : ℕ
longest_name = LONGEST_NAME

-- the most places of a tree, with the library
abbrev pub most_places : ℕ
most_places = MAX_PLACES

-- the most children of a place
abbrev pub most_children : ℕ
most_children = MAX_CHILDREN

-- the most items of a claim
abbrev pub most_items : ℕ
most_items = MAX_ITEMS

-- the most claims at once, of both kinds
abbrev pub most_claims : ℕ
most_claims = MAX_CLAIMS

-- the most sessions at once, the door not counted
abbrev pub most_sessions : ℕ
most_sessions = MAX_SESSIONS

-- the last number that a session or a claim may get
abbrev pub last_number : ℕ
last_number = LAST_NUMBER

-- the most bytes of a content
abbrev pub longest_content : ℕ
longest_content = LONGEST_CONTENT

-- the most versions of a part
abbrev pub most_versions : ℕ
most_versions = MAX_VERSIONS

-- the most that all contents weigh together
abbrev pub most_weight : ℕ
most_weight = MAX_WEIGHT

-- what a content weighs in addition to its bytes
abbrev pub extra_weight : ℕ
extra_weight = EXTRA_WEIGHT

-- the most drafts of a check-out
abbrev pub most_drafts : ℕ
most_drafts = MAX_DRAFTS

-- the most bytes of a check-out's note
abbrev pub longest_note : ℕ
longest_note = LONGEST_NOTE
