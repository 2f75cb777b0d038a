-- Laws of the definitions: what they mean in the terms of the subject.
use Rattle.std.specs.Prelude.{◌≡◌, ℕ, ◌+◌, ◌≤◌, ◌↔◌, ◌⊎◌, true, List, Some, is_some, length, false, Ok, Err}
use Rattle.std.specs.List.{Contains}
use Rattle.vault_state.specs.declared.place.Place.{Place}
use Rattle.vault_state.specs.declared.claims.Item.{Item}
use Rattle.vault_state.specs.declared.claims.Standing.TheVariants.{Held}
use Rattle.vault_state.specs.declared.ids.ClaimId.{ClaimId}
use Rattle.vault_state.specs.declared.ids.ClaimId.TheVariants.{Long}
use Rattle.vault_state.specs.declared.claims.Claim.{Claim}
use Rattle.vault_state.specs.Path.{IsPath, path_text, path_in}
use Rattle.vault_state.specs.declared.session.Session.{Session}
use Rattle.vault_model.specs.declared.commands.Command.TheVariants as commands
use Rattle.vault_model.specs.declared.replies.Refusal.TheVariants.{Limit}
use Rattle.vault_state.specs.Limits.{most_versions}
use Rattle.vault_state.specs.Tree.{IsTree, parent_of, is_under, path_of, find_place}
use Rattle.vault_state.specs.Shelf.{Draft, versions_of}
use Rattle.vault_state.specs.Drafts.{drafts_of}
use Rattle.vault_state.specs.Claims.{same_id, look_set, change_set, overlap, claim_of, standing_of}
use Rattle.vault_state.specs.Vault.{Vault, IsVault, CountsBelow, new_vault, durable, weight_of}
use Rattle.vault_model.specs.Said.{Command, Effect}
use Rattle.vault_model.specs.After.{after, IsDurable, IsDurableChange}
use Rattle.vault_model.specs.Step.{Outcome, usable, save, check_in, step}

-- a text is read as a path exactly where it is the path's spelling
abbrev pub PathIsItsText : Type 0
PathIsItsText = (text : List ℕ) (names : List (List ℕ)) → (path_in text ≡ Some names) ↔ (IsPath names × (path_text names ≡ text))

-- p is under q exactly where p is q, or p's parent is under q
abbrev pub UnderIsByParents : Type 0
UnderIsByParents = (tree : List Place) (p q : ℕ) → IsTree tree
    → (is_under tree p q ≡ true) ↔ ((p ≡ q) ⊎ ((r : ℕ) × (parent_of tree p ≡ Some r) × (is_under tree r q ≡ true)))

-- two claims overlap exactly where some place of the tree is in the change set of one and the look set of the other
abbrev pub OverlapIsAMeeting : Type 0
OverlapIsAMeeting = (tree : List Place) (c d : List Item)
    → (overlap tree c d ≡ true)
    ↔ ((p : ℕ) × (p ≤ length tree)
    × (((change_set tree c p ≡ true) × (look_set tree d p ≡ true)) ⊎ ((change_set tree d p ≡ true) × (look_set tree c p ≡ true))))

-- overlap goes both ways
abbrev pub OverlapIsSymmetric : Type 0
OverlapIsSymmetric = (tree : List Place) (c d : List Item) → overlap tree c d ≡ overlap tree d c

-- the new vault is well formed, and a well-formed vault stays so under each step and at a restart
abbrev pub WellFormedStays : Type 0
WellFormedStays = IsVault new_vault × ((v : Vault) (n : ℕ) (command : Command) → IsVault v → IsVault (step v n command).vault)
    × ((v : Vault) → IsVault v → IsVault (durable v))

-- a step raises each command count by at most one
abbrev pub CountsRise : Type 0
CountsRise = (bound : ℕ) (v : Vault) (n : ℕ) (command : Command) → CountsBelow bound v → CountsBelow (bound + 1) (step v n command).vault

-- a granted claim that is still there after a step is still granted
abbrev pub HeldStays : Type 0
HeldStays = (v : Vault) (n : ℕ) (command : Command) (id : ClaimId) → IsVault v → standing_of v.tree v.line id ≡ Some Held
    → is_some (claim_of (step v n command).vault.line id) ≡ true
    → standing_of (step v n command).vault.tree (step v n command).vault.line id ≡ Some Held

-- a granted long claim is granted in the durable vault, too
abbrev pub HeldIsDurable : Type 0
HeldIsDurable = (v : Vault) (n : ℕ) → IsVault v → standing_of v.tree v.line (Long n) ≡ Some Held
    → standing_of (durable v).tree (durable v).line (Long n) ≡ Some Held

-- two granted claims don't overlap
abbrev pub HeldAreApart : Type 0
HeldAreApart = (tree : List Place) (line : List Claim) (a b : ClaimId) (c d : Claim) → same_id a b ≡ false → claim_of line a ≡ Some c
    → claim_of line b ≡ Some d
    → standing_of tree line a ≡ Some Held → standing_of tree line b ≡ Some Held → overlap tree c.items d.items ≡ false

-- where a step has an effect, the effect is applicable to the durable vault before the step, and gives the one after it; where it
-- has none, the durable vault stays as it is
abbrev pub EffectIsTheDurableChange : Type 0
EffectIsTheDurableChange =
    (v : Vault) (n : ℕ) (command : Command) → IsVault v → IsDurableChange v (step v n command).effect (step v n command).vault

-- a well-formed durable vault stays well formed and durable under each effect that is applicable
abbrev pub DurableStays : Type 0
DurableStays = (w next : Vault) (effect : Effect) → IsVault w → after w effect ≡ Some next → IsVault next × (IsDurable w → IsDurable next)

-- a place's path leads to it
abbrev pub PathLeadsBack : Type 0
PathLeadsBack = (tree : List Place) (place : ℕ) → IsTree tree → place ≤ length tree → find_place tree (path_of tree place) ≡ Some place

-- a check-in, refused or not, leaves the weight of the vault as it is
abbrev pub CheckInKeepsTheWeight : Type 0
CheckInKeepsTheWeight = (v : Vault) (n number : ℕ) → weight_of (step v n (commands.CheckIn number)).vault ≡ weight_of v

-- a limit refuses the check-in of a check-out that may be used exactly where a part of which it has a draft has the most versions
abbrev pub CheckInIsRefusedForFullParts : Type 0
CheckInIsRefusedForFullParts =
    (v : Vault) (session : Session) (number : ℕ) (claim : Claim) → IsVault v → usable v session (Long number) ≡ Ok claim
    → (check_in v session number ≡ Err Limit)
    ↔ ((draft : Draft) × Contains (drafts_of v.drafts number) draft × (length (versions_of v.shelf draft.place) ≡ most_versions))

-- a second save of the same place gives the same reply, vault and effect as without the first
abbrev pub SecondSaveReplaces : Type 0
SecondSaveReplaces = (v : Vault) (session : Session) (number : ℕ) (path : List (List ℕ)) (first second : List ℕ) (saved : Outcome)
    → save v session number path first ≡ Ok saved → save saved.vault session number path second ≡ save v session number path second
