-- Why drafts were not appended. This project's own.
use Rattle.std.specs.Prelude.{◌≡◌, ℕ, Bool, true, false, List}
use Rattle.vault_state.specs.Shelf.{Draft, is_shelvable}
use Rattle.part_versions.specs.declared.shelf.NotAppended.{NotAppended}
use Rattle.part_versions.specs.declared.shelf.NotAppended.TheVariants.{Limit, NoMemory}
use Rattle.part_versions.specs.declared.shelf.AppendError.{AppendError}
use Rattle.part_versions.specs.declared.shelf.AppendError.TheVariants as errors

-- what an error says: the same drafts come back; they may not be shelved if it is a limit, and may be if memory was refused
abbrev pub IsRefusalOf : List (List (List ℕ)) → List Draft → NotAppended (List Draft) → Type 0
IsRefusalOf shelf drafts (Limit back) = (is_shelvable shelf drafts ≡ false) × (back ≡ drafts)
IsRefusalOf shelf drafts (NoMemory back) = (is_shelvable shelf drafts ≡ true) × (back ≡ drafts)

-- the same for one content, by whether it may be shelved
abbrev pub IsWhyNot : Bool → AppendError → Type 0
IsWhyNot may errors.Limit = may ≡ false
IsWhyNot may errors.NoMemory = may ≡ true
