-- What a head says: a right one its version and generation, any other nothing.
use Rattle.std.proofs.Common.{◌≡◌, ℕ, List, Some, refl, subst}
use Rattle.vault_store.specs.declared.front.Head.{Head}
use Rattle.vault_store.specs.declared.front.Head.TheVariants.{Closed, Open, Damaged}
use Rattle.vault_format.specs.Files.{HasHead, HasRightHead}
use Rattle.vault_store.specs.Parts.{IsHead}
use Rattle.vault_format.proofs.Rights.{head_right, head_open, not_both, one_generation}
use Rattle.vault_inspector.specs.declared.inspecting.Right.{Right}
use Rattle.vault_inspector.specs.Found.{right_in}

-- a right head's generation is read, and no other
pub generation_told : (file : List ℕ) (head : Head) (g : ℕ) → IsHead file head → HasRightHead g file → (told : Right) × (right_in head ≡ Some told) × (told.generation ≡ g)
generation_told file Closed g is (v, right) = absurd (not_both file is (head_open file g right))
generation_told file (Open own generation) g is (v, right) = (record { version = own; generation = generation }, refl, one_generation file generation g is right)
generation_told file (Damaged at) g is (v, right) = absurd (head_right file g at right is.1)

pub head_there : (file : List ℕ) (head : Head) (r : Right) → IsHead file head → right_in head ≡ Some r → HasHead r.version r.generation file
head_there file Closed r is told = cc
head_there file (Open own generation) r is told =
    let here : Right = record { version = own; generation = generation } in
    let same : here ≡ r = cc in
    subst (λ (k : Right). HasHead k.version k.generation file) same is
head_there file (Damaged at) r is told = cc
