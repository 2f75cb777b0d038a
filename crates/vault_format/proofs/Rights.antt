-- Right heads: of one generation, without a fault, and open.
use Rattle.std.proofs.Common.{◌≡◌, inl, inr, ℕ, ◌<◌, ◌^◌, List, [], ◌++◌, length, get_or, take, drop, ◌∷◌, ◌+◌, refl, sym, ◌∙◌, ap, subst, arith, length-append, take-append-drop}
use Rattle.std.proofs.lemmas.List.{take_at}
use Rattle.vault_state.specs.Vault.{Vault}
use Rattle.vault_journal.specs.Spelling.{in_four, in_eight}
use Rattle.vault_journal.specs.Reading.{u64_at}
use Rattle.vault_journal.proofs.OneSpelling.{fields_are_spelled}
use Rattle.vault_format.specs.declared.version.FileVersion.{FileVersion}
use Rattle.vault_format.specs.Snapshot.{spelling_of, HasSpelling}
use Rattle.vault_format.specs.Files.{version_number, head_of, frames_bytes, Reading, Holds, IsClosedFile, HasHead, IsSpare}
use Rattle.vault_format.specs.Faults.{mark_in, version_in, generation_in, IsVersion, IsOpenFile, IsHeadFault, IsDamagedHead}
use Rattle.vault_format.proofs.Short.{spelling_short}
use Rattle.vault_format.proofs.Spelled.{snapshot_tells}
use Rattle.vault_format.proofs.OneReading.{one_spelled, one_number, same_front, one_version, version_fits, one_head, holds_whole}

-- a file behind its right head
head_whole : {v : FileVersion} (x : List ℕ) (g : ℕ) → HasHead v g x → x ≡ head_of v g ++ drop 20 x
head_whole x g right = sym (take-append-drop 20 x) ∙ ap (λ (l : List ℕ). l ++ drop 20 x) right.head

-- it has no fault
pub head_right : {v : FileVersion} (x : List ℕ) (g at : ℕ) → HasHead v g x → IsHeadFault x at → ⊥
head_right {v} x g at right = elim [
  | inl one ↦ one.1 (ap mark_in (head_whole x g right))
  | inr (inl two) ↦ two.2 v (ap version_in (head_whole x g right))
  | inr (inr three) ↦ zero_given (sym (ap generation_in (head_whole x g right)) ∙ three.3)
]
  where
    zero_given : in_eight g ≡ in_eight 0 → ⊥
    zero_given same =
        let zero_is = (one_spelled in_eight (λ n. n < 2 ^ 64) u64_at fields_are_spelled.in_eight g 0 [] [] right.fits (omega arith) (ap (λ (l : List ℕ). l ++ []) same)).0 in
        let given = right.given in absurd (omega (arith, zero_is, given))

-- its file is open
pub head_open : {v : FileVersion} (x : List ℕ) (g : ℕ) → HasHead v g x → IsOpenFile x
head_open x g right = record { long = right.long; gate = ap (λ (l : List ℕ). get_or l 0 0) (head_whole x g right) }

-- it has its version's number
pub version_told : {v : FileVersion} (x : List ℕ) (g : ℕ) → HasHead v g x → IsVersion v (version_in x)
version_told x g right = ap version_in (head_whole x g right)

-- bytes are the number of one version at most
pub told_once : (v w : FileVersion) (bytes : List ℕ) → IsVersion v bytes → IsVersion w bytes → v ≡ w
told_once v w bytes one other = one_version v w (one_number (version_number v) (version_number w) [] [] (version_fits v) (version_fits w) (ap (λ (l : List ℕ). l ++ []) (sym one ∙ other))).0

pub not_both : (x : List ℕ) → IsClosedFile x → IsOpenFile x → ⊥
not_both x (inl short) is = let long = is.long in absurd (omega (arith, short, long))
not_both x (inr shut) is = shut is.gate

-- it is of one generation, of whatever version
pub one_generation : {v w : FileVersion} (x : List ℕ) (g k : ℕ) → HasHead v g x → HasHead w k x → g ≡ k
one_generation {v} {w} x g k one two = (one_head v w g k (drop 20 x) (drop 20 x) one.fits two.fits (sym (head_whole x g one) ∙ head_whole x k two)).1

-- and of one version
pub one_told : (x : List ℕ) (v w : FileVersion) (g k : ℕ) → HasHead v g x → HasHead w k x → v ≡ w
one_told x v w g k one two = (one_head v w g k (drop 20 x) (drop 20 x) one.fits two.fits (sym (head_whole x g one) ∙ head_whole x k two)).0

-- an open spare is of a smaller generation
pub spare_older : {v : FileVersion} (x : List ℕ) (g k : ℕ) → IsSpare g x → HasHead v k x → k < g
spare_older x g k (inl closed) right = absurd (not_both x closed (head_open x k right))
spare_older x g k (inr (older, less, (w, there))) right = omega (arith, less, one_generation x older k there right)

-- a spare's head has no fault
pub spare_right : (x : List ℕ) (g at : ℕ) → IsSpare g x → IsDamagedHead x at → ⊥
spare_right x g at (inl closed) damaged = not_both x closed damaged.0
spare_right x g at (inr (older, less, (w, there))) damaged = head_right x older at there damaged.1

-- a file that is read has a right head
pub holds_head : (x : List ℕ) (r : Reading) → Holds x r → HasHead r.version r.generation x
holds_head x r h = record {
  long =
      omega (
        arith,
        ap length (holds_whole x r h),
        length-append (in_four (length (spelling_of r.version h.is_front.base))) (spelling_of r.version h.is_front.base ++ rest),
      );
  head = ap (λ (l : List ℕ). take 20 l) (holds_whole x r h) ∙ take_at (head_of r.version r.generation) (in_four (length (spelling_of r.version h.is_front.base)) ++ (spelling_of r.version h.is_front.base ++ rest)) 20 refl;
  given = h.is_front.given;
  fits = h.is_front.fits;
}
  where
    rest : List ℕ
    rest = frames_bytes h.is_front.frames ++ get_or x (length h.front) 0 ∷ drop (length h.front + 1) x

-- what is spelled behind a head is of one version and of one vault, and the same stands behind it
pub one_base : (v w : FileVersion) (g k : ℕ) (base other : Vault) (a b : List ℕ) → HasSpelling v base → HasSpelling w other
    → head_of v g ++ (in_four (length (spelling_of v base)) ++ (spelling_of v base ++ a)) ≡ head_of w k ++ (in_four (length (spelling_of w other)) ++ (spelling_of w other ++ b)) → (v ≡ w) × (base ≡ other) × (a ≡ b)
one_base v w g k base other a b has has_other same =
    let versions : in_four (version_number v) ++ (in_eight g ++ (in_four (length (spelling_of v base)) ++ (spelling_of v base ++ a))) ≡ in_four (version_number w) ++ (in_eight k ++ (in_four (length (spelling_of w other)) ++ (spelling_of w other ++ b))) =
    ap (λ (l : List ℕ). drop 8 l) same in
    let numbers = one_number (version_number v) (version_number w) _ _ (version_fits v) (version_fits w) versions in
    let same_version : w ≡ v = sym (one_version v w numbers.0) in
    let behind : in_four (length (spelling_of v base)) ++ (spelling_of v base ++ a) ≡ in_four (length (spelling_of w other)) ++ (spelling_of w other ++ b) = ap (λ (l : List ℕ). drop 20 l) same in
    let sizes = one_number (length (spelling_of v base)) (length (spelling_of w other)) (spelling_of v base ++ a) (spelling_of w other ++ b) (spelling_short v base has.has) (spelling_short w other has_other.has) behind in
    let parts = same_front (spelling_of v base) (spelling_of w other) a b sizes.0 sizes.1 in (
      sym same_version,
      snapshot_tells v base other has (subst (λ (n : FileVersion). HasSpelling n other) same_version has_other) (parts.0 ∙ ap (λ (n : FileVersion). spelling_of n other) same_version),
      parts.1,
    )
