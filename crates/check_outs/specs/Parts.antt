-- The parts of a durable vault, as a file keeps them. This project's own.
use Rattle.std.specs.Prelude.{◌≡◌, ◌≢◌, ℕ, ◌+◌, ◌≤◌, nat_lt, true, if◌then◌else◌, List, [], ◌∷◌, ◌++◌, length, map, sum_by, None, All}
use Rattle.vault_state.specs.declared.place.Place.{Place}
use Rattle.vault_state.specs.declared.claims.Claim.{Claim}
use Rattle.vault_state.specs.declared.claims.Item.{Item}
use Rattle.vault_state.specs.declared.ids.ClaimId.{ClaimId}
use Rattle.vault_state.specs.declared.ids.ClaimId.TheVariants.{Long, Short}
use Rattle.vault_state.specs.Limits.{longest_content, most_drafts, most_weight}
use Rattle.vault_state.specs.Tree.{is_part}
use Rattle.vault_state.specs.Claims.{blocker, change_set}
use Rattle.vault_state.specs.Shelf.{Draft, weight, drafts_weight}
use Rattle.vault_state.specs.Drafts.{SavedDraft, drafts_of}
use Rattle.vault_state.specs.Vault.{Vault, IsVault, AreThere, AreVersions}
use Rattle.vault_model.specs.After.{IsDurable}
use Rattle.check_outs.specs.CheckOuts.{IsRising}
use Rattle.check_outs.specs.Typed.{number_of}
use Rattle.check_outs.specs.declared.any.AnyCheckOut.{AnyCheckOut}
use Rattle.check_outs.specs.declared.any.AnyCheckOut.TheVariants.{Waiting, Held}

-- the drafts of the claim of this id; a short claim has none
abbrev pub drafts_under : List SavedDraft → ClaimId → List Draft
drafts_under drafts (Long n) = drafts_of drafts n
drafts_under drafts (Short n) = []

-- places, versions, the last number given to a check-out, the claims in the order of the line, and the drafts of each claim
pub record Parts : Type 0 where
  pub tree : List Place
  pub shelf : List (List (List ℕ))
  pub last_long : ℕ
  pub claims : List Claim
  pub drafts : List (List Draft)

-- the parts of a vault
abbrev pub parts_of : Vault → Parts
parts_of v = record {
  tree = v.tree;
  shelf = v.shelf;
  last_long = v.last_long;
  claims = v.line;
  drafts = map (λ (c : Claim). drafts_under v.drafts c.id) v.line;
}

-- a well-formed durable vault of these parts
pub record IsVaultOf (parts : Parts) (v : Vault) : Type 0 where
  pub well_formed : IsVault v
  pub durable : IsDurable v
  pub parts_are : parts_of v ≡ parts

-- the items of all these claims name places of the tree
abbrev pub AreAllThere : List Place → List Claim → Type 0
AreAllThere tree claims = All (λ (c : Claim). AreThere tree c.items) claims

-- the items overlap none of these claims
abbrev pub OverlapsNone : List Place → List Claim → List Item → Type 0
OverlapsNone tree claims items = blocker tree claims items ≡ None

-- versions and drafts together aren't too heavy
abbrev pub AreLight : List (List (List ℕ)) → List (List Draft) → Type 0
AreLight shelf drafts = weight shelf + sum_by drafts_weight drafts ≤ most_weight

-- a draft that a claim of these items may have, if it is granted
pub record MayBe (tree : List Place) (items : List Item) (draft : Draft) : Type 0 where
  pub there : draft.place ≤ length tree
  pub part : is_part tree draft.place ≡ true
  pub changed : change_set tree items draft.place ≡ true
  pub short : length draft.content ≤ longest_content

-- drafts that a claim of these items may have behind these other claims; if it has any, it is granted
pub record MayHave (tree : List Place) (before : List Claim) (items : List Item) (drafts : List Draft) : Type 0 where
  pub few : length drafts ≤ most_drafts
  pub rising : IsRising drafts
  pub each : All (MayBe tree items) drafts
  pub held : drafts ≢ [] → OverlapsNone tree before items

-- each of these claims, which come after the others, may have its drafts
abbrev pub EachMayHave : List Place → List Claim → List Claim → List (List Draft) → Type 0
EachMayHave tree before [] [] = Unit {0}
EachMayHave tree before [] (own ∷ drafts) = ⊥
EachMayHave tree before (claim ∷ claims) [] = ⊥
EachMayHave tree before (claim ∷ claims) (own ∷ drafts) =
    MayHave tree before claim.items own × EachMayHave tree (before ++ claim ∷ []) claims drafts

-- the invariant of a vault of these claims and drafts, apart from the claims being a line
pub record AreFit (tree : List Place) (shelf : List (List (List ℕ))) (claims : List Claim) (drafts : List (List Draft)) : Type 0 where
  pub there : AreAllThere tree claims
  pub versions : AreVersions tree shelf
  pub may_have : EachMayHave tree [] claims drafts
  pub light : AreLight shelf drafts

-- the number of a claim
abbrev pub number_in : ClaimId → ℕ
number_in (Long n) = n
number_in (Short n) = n

-- a check-out with these drafts: granted if there are any, else waiting
abbrev pub opened : {A : Type 0} → ℕ → List Draft → AnyCheckOut A
opened number [] = Waiting (record { number = number; state = tt })
opened number (draft ∷ drafts) = Held (record { number = number; state = draft ∷ drafts })

-- check-outs with one more, before the first of a higher number
abbrev pub put_in : {A : Type 0} → AnyCheckOut A → List (AnyCheckOut A) → List (AnyCheckOut A)
put_in c [] = c ∷ []
put_in c (x ∷ check_outs) = if nat_lt (number_of c) (number_of x) then c ∷ x ∷ check_outs else x ∷ put_in c check_outs

-- the check-outs of these claims with their drafts, by rising number
abbrev pub opened_all : {A : Type 0} → List Claim → List (List Draft) → List (AnyCheckOut A)
opened_all [] drafts = []
opened_all (claim ∷ claims) [] = []
opened_all (claim ∷ claims) (own ∷ drafts) = put_in (opened (number_in claim.id) own) (opened_all claims drafts)
