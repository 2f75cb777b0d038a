-- What the answers to questions mean, in the words of who asks. This project's own.
use Rattle.std.specs.Prelude.{◌≡◌, ℕ, ◌+◌, ◌≤◌, ◌⊎◌, true, List, [], ◌∷◌, ◌++◌, length, Some, None, Ok}
use Rattle.std.specs.List.{Contains}
use Rattle.vault_state.specs.declared.place.Place.{Place}
use Rattle.vault_state.specs.declared.claims.Item.{Item}
use Rattle.vault_state.specs.declared.claims.Claim.{Claim}
use Rattle.vault_state.specs.declared.claims.PathItem.{PathItem}
use Rattle.vault_state.specs.declared.ids.ClaimId.{ClaimId}
use Rattle.vault_state.specs.declared.ids.ClaimId.TheVariants.{Long, Short}
use Rattle.vault_state.specs.declared.session.Session.{Session}
use Rattle.vault_state.specs.Tree.{is_under, find_place, path_of}
use Rattle.vault_state.specs.Shelf.{versions_of}
use Rattle.vault_state.specs.Vault.{Vault, IsVault, session_of}
use Rattle.vault_model.specs.declared.commands.Command.TheVariants as commands
use Rattle.vault_model.specs.declared.replies.Reply.TheVariants as replies
use Rattle.vault_model.specs.declared.replies.ShownClaim.{ShownClaim}
use Rattle.vault_model.specs.Said.{Command, Reply}
use Rattle.vault_model.specs.Step.{Outcome, in_session, asked}

-- a session's question is answered so, and changes nothing
abbrev pub IsAnswered : Vault → Session → Command → Reply → Type 0
IsAnswered v session question reply = in_session v session question ≡ Ok (record { reply = reply; vault = v; effect = None })

-- a claim has an item at a place, above it or beneath it
abbrev pub HasItemNear : List Place → ℕ → Claim → Type 0
HasItemNear tree place claim =
    (item : Item) × Contains claim.items item × ((is_under tree item.place place ≡ true) ⊎ (is_under tree place item.place ≡ true))

-- the ids of those claims that have an item near the place, all of them and no other, in the order of the claims
abbrev pub AreNear : List Place → ℕ → List Claim → List ClaimId → Type 0
AreNear tree place [] ids = ids ≡ []
AreNear tree place (claim ∷ line) ids =
    (HasItemNear tree place claim × ((others : List ClaimId) × (ids ≡ claim.id ∷ others) × AreNear tree place line others))
    ⊎ ((HasItemNear tree place claim → ⊥) × AreNear tree place line ids)

-- `claims` lists the claims, granted or waiting, with an item at the place, above it or beneath it
abbrev pub ClaimsAreThoseNear : Type 0
ClaimsAreThoseNear = (v : Vault) (session : Session) (path : List (List ℕ)) (place : ℕ) → IsVault v → find_place v.tree path ≡ Some place
    → (ids : List ClaimId) × IsAnswered v session (commands.Claims path) (replies.ClaimsAt ids) × AreNear v.tree place v.line ids

-- `show` tells these items of a claim, and this owner, and that it stands as its request was answered
abbrev pub IsShown : Vault → Session → ClaimId → List ℕ → List PathItem → Reply → Type 0
IsShown v session id owner items answer =
    (shown : ShownClaim (List PathItem)) × IsAnswered v session (commands.Show id) (replies.Shown shown)
    × (shown.id ≡ id) × (shown.designer ≡ owner) × (shown.items ≡ items) × (asked id shown.standing ≡ answer)

-- right after a check-out anybody is shown the items that were asked for, by the same paths
abbrev pub CheckOutIsShownAsAsked : Type 0
CheckOutIsShownAsAsked = (v : Vault) (session who : Session) (wanted : List PathItem) (done : Outcome) → IsVault v
    → in_session v session (commands.CheckOut wanted) ≡ Ok done
    → IsShown done.vault who (Long (v.last_long + 1)) session.name wanted done.reply

-- the same of a hold, whose owner is its session's designer
abbrev pub HoldIsShownAsAsked : Type 0
HoldIsShownAsAsked = (v : Vault) (session who : Session) (wanted : List PathItem) (done : Outcome) → IsVault v
    → session_of v.sessions session.number ≡ Some session
    → in_session v session (commands.Hold wanted) ≡ Ok done
    → IsShown done.vault who (Short (v.last_short + 1)) session.name wanted done.reply

-- an extended claim is shown with the items that it was shown with before, and those that were asked for behind them
abbrev pub ExtensionIsShownAsAsked : Type 0
ExtensionIsShownAsAsked =
    (v : Vault) (session who : Session) (id : ClaimId) (wanted : List PathItem) (former : ShownClaim (List PathItem)) (done : Outcome) → IsVault v
    → IsAnswered v who (commands.Show id) (replies.Shown former)
    → in_session v session (commands.Extend id wanted) ≡ Ok done
    → IsShown done.vault who id former.designer (former.items ++ wanted) done.reply

-- a part of which `drafts` lists a draft gets one version more, which is what `draft` shows of it
abbrev pub GetsItsDraft : Vault → Session → ℕ → ℕ → Vault → Type 0
GetsItsDraft v session number place new =
    (content : List ℕ) × IsAnswered v session (commands.Draft number (path_of v.tree place)) (replies.Content content)
    × (versions_of new.shelf place ≡ versions_of v.shelf place ++ content ∷ [])

-- the parts that `drafts` lists are those of which a check-in of the same check-out makes a version; no other place gets one
abbrev pub DraftsAreWhatCheckInMakes : Type 0
DraftsAreWhatCheckInMakes = (v : Vault) (session : Session) (number : ℕ) (done : Outcome) → IsVault v
    → in_session v session (commands.CheckIn number) ≡ Ok done
    → (paths : List (List (List ℕ))) × IsAnswered v session (commands.Drafts number) (replies.DraftsOf paths)
    × ((place : ℕ) → place ≤ length v.tree
    → (Contains paths (path_of v.tree place) × GetsItsDraft v session number place done.vault)
    ⊎ ((Contains paths (path_of v.tree place) → ⊥) × (versions_of done.vault.shelf place ≡ versions_of v.shelf place)))
