-- Why a place is not made. This project's own.
use Rattle.std.specs.Prelude.{ℕ, not, List, Option, None, Some, is_some, if◌then◌else◌}
use Rattle.vault_state.specs.declared.place.Place.{Place}
use Rattle.vault_state.specs.declared.place.Kind.{Kind}
use Rattle.vault_state.specs.Tree.{may_have, child, is_full}
use Rattle.design_tree.specs.declared.tree.AddError.{AddError}
use Rattle.design_tree.specs.declared.tree.AddError.TheVariants.{WrongKind, Exists, Limit, NoMemory}

-- what forbids a place of this name and kind under the parent: the parent may not have one of the kind, it has a child of the name, or
-- there is no room
abbrev pub refusal : List Place → ℕ → List ℕ → Kind → Option AddError
refusal tree parent name kind =
    if not (may_have tree parent kind) then Some WrongKind
    else if is_some (child tree parent name) then Some Exists
    else if is_full tree parent then Some Limit
    else None

-- what an error says of the tree: out of memory says that nothing there forbids the place
abbrev pub refusal_told : AddError → Option AddError
refusal_told WrongKind = Some WrongKind
refusal_told Exists = Some Exists
refusal_told Limit = Some Limit
refusal_told NoMemory = None
