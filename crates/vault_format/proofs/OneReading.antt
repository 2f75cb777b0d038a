-- A file is read in at most one way.
use Rattle.std.proofs.Common.{◌≡◌, ◌≢◌, ℕ, ◌+◌, ◌<◌, ◌^◌, List, [], ◌∷◌, ◌++◌, length, get_or, take, drop, Option, Some, refl, sym, ◌∙◌, ap, arith, append_assoc, take-append-drop}
use Rattle.std.specs.List.{AllByRecursion}
use Rattle.std.proofs.lemmas.List.{take_at, drop_at, drop_more}
use Rattle.std.proofs.lemmas.List.Concat.{flat_map-cons}
use Rattle.vault_model.specs.Said.{Effect}
use Rattle.vault_state.specs.Vault.{Vault}
use Rattle.vault_journal.specs.Spelling.{in_four, in_eight, records_of}
use Rattle.vault_journal.specs.Laws.{IsInverse}
use Rattle.vault_journal.specs.Reading.{u32_at, u64_at}
use Rattle.vault_journal.proofs.OneSpelling.{fields_are_spelled, one_row}
use Rattle.vault_format.specs.declared.version.FileVersion.{FileVersion}
use Rattle.vault_format.specs.declared.version.FileVersion.TheVariants.{One, Two}
use Rattle.vault_format.specs.Snapshot.{spelling_of}
use Rattle.vault_format.proofs.Short.{spelling_short}
use Rattle.vault_format.specs.Files.{version_number, head_of, frame_of, frames_bytes, IsFrame, after_frames, Reading, Holds, snapshot_bytes}

pub some_pair : {X : Type 0} (x y : X) (a b : List ℕ) → ◌≡◌ {A = Option (X × List ℕ)} (Some (x, a)) (Some (y, b)) → (x ≡ y) × (a ≡ b)
some_pair {X} x y a b e = let p : ◌≡◌ {A = X × List ℕ} (x, a) (y, b) = cc in (ap (λ (q : X × List ℕ). q.0) p, ap (λ (q : X × List ℕ). q.1) p)

-- what is spelled at the front of the same bytes is one, and the same stands behind
pub one_spelled : {X : Type 0} (spell : X → List ℕ) (Has : X → Type 0) (read : List ℕ → Option (X × List ℕ)) → IsInverse spell Has read → (x y : X) (a b : List ℕ) → Has x → Has y → spell x ++ a ≡ spell y ++ b → (x ≡ y) × (a ≡ b)
one_spelled spell Has read inverse x y a b has_x has_y same = some_pair x y a b (sym (inverse.reads x a has_x) ∙ ap read same ∙ inverse.reads y b has_y)

-- two fronts of one length
pub same_front : (a b c d : List ℕ) → length a ≡ length b → a ++ c ≡ b ++ d → (a ≡ b) × (c ≡ d)
same_front a b c d size same = (
  sym (take_at a c (length a) refl) ∙ ap (λ (l : List ℕ). take (length a) l) same ∙ take_at b d (length a) (sym size),
  sym (drop_at a c (length a) refl) ∙ ap (λ (l : List ℕ). drop (length a) l) same ∙ drop_at b d (length a) (sym size),
)

pub one_number : (n m : ℕ) (a b : List ℕ) → n < 2 ^ 32 → m < 2 ^ 32 → in_four n ++ a ≡ in_four m ++ b → (n ≡ m) × (a ≡ b)
one_number n m a b fits_n fits_m same = one_spelled in_four (λ k. k < 2 ^ 32) u32_at fields_are_spelled.in_four n m a b fits_n fits_m same

-- one frame behind another
pub frames_split : (effects : List Effect) (frames : List (List Effect)) (rest : List ℕ) → frames_bytes (effects ∷ frames) ++ rest ≡ 1 ∷ (in_four (length (records_of effects)) ++ (records_of effects ++ (frames_bytes frames ++ rest)))
frames_split effects frames rest =
    ap (λ (l : List ℕ). l ++ rest) (flat_map-cons frame_of effects frames) ∙ append_assoc (frame_of effects) (frames_bytes frames) rest
    ∙ append_assoc (1 ∷ in_four (length (records_of effects))) (records_of effects) (frames_bytes frames ++ rest)

-- frames in front of a closed gate
pub one_frames : (fs hs : List (List Effect)) (x y : ℕ) (s t : List ℕ) → AllByRecursion IsFrame fs → AllByRecursion IsFrame hs → x ≢ 1 → y ≢ 1 → frames_bytes fs ++ x ∷ s ≡ frames_bytes hs ++ y ∷ t → fs ≡ hs
one_frames [] [] x y s t are_fs are_hs shut_x shut_y same = refl
one_frames [] (h ∷ hs) x y s t are_fs are_hs shut_x shut_y same = let e = same ∙ frames_split h hs (y ∷ t) in absurd (shut_x cc)
one_frames (f ∷ fs) [] x y s t are_fs are_hs shut_x shut_y same = let e = sym same ∙ frames_split f fs (x ∷ s) in absurd (shut_y cc)
one_frames (f ∷ fs) (h ∷ hs) x y s t are_fs are_hs shut_x shut_y same =
    let whole = sym (frames_split f fs (x ∷ s)) ∙ same ∙ frames_split h hs (y ∷ t) in
    let behind : in_four (length (records_of f)) ++ (records_of f ++ (frames_bytes fs ++ x ∷ s)) ≡ in_four (length (records_of h)) ++ (records_of h ++ (frames_bytes hs ++ y ∷ t)) = ap (λ (l : List ℕ). drop 1 l) whole in
    let sizes = one_number (length (records_of f)) (length (records_of h)) (records_of f ++ (frames_bytes fs ++ x ∷ s)) (records_of h ++ (frames_bytes hs ++ y ∷ t)) (omega (arith, are_fs.0.few)) (omega (arith, are_hs.0.few)) behind in
    let parts = same_front (records_of f) (records_of h) (frames_bytes fs ++ x ∷ s) (frames_bytes hs ++ y ∷ t) sizes.0 sizes.1 in
    let first : f ≡ h = one_row f h (records_of f) (record { each = are_fs.0.each; whole = refl }) (record { each = are_hs.0.each; whole = parts.0 }) in
    let others = one_frames fs hs x y s t are_fs.1 are_hs.1 shut_x shut_y parts.1 in
    ap (λ (g : List Effect). g ∷ fs) first ∙ ap (λ (gs : List (List Effect)). h ∷ gs) others

-- a file from its head to its end
pub holds_whole : (x : List ℕ) (r : Reading) (h : Holds x r)
    → x ≡ head_of r.version r.generation ++ (in_four (length (spelling_of r.version h.is_front.base)) ++ (spelling_of r.version h.is_front.base ++ (frames_bytes h.is_front.frames ++ get_or x (length h.front) 0 ∷ drop (length h.front + 1) x)))
holds_whole x r h =
    sym (take-append-drop (length h.front) x)
    ∙ ap (λ (l : List ℕ). l ++ drop (length h.front) x) (h.ends.begins ∙ h.is_front.bytes)
    ∙ ap (λ (l : List ℕ). ((head_of r.version r.generation ++ snapshot_bytes r.version h.is_front.base) ++ frames_bytes h.is_front.frames) ++ l) (drop_more x (length h.front) 0 h.ends.closed.stands)
    ∙ append_assoc (head_of r.version r.generation ++ snapshot_bytes r.version h.is_front.base) (frames_bytes h.is_front.frames) rest
    ∙ append_assoc (head_of r.version r.generation) (snapshot_bytes r.version h.is_front.base) (frames_bytes h.is_front.frames ++ rest)
    ∙ ap (λ (l : List ℕ). head_of r.version r.generation ++ l) (append_assoc (in_four (length (spelling_of r.version h.is_front.base))) (spelling_of r.version h.is_front.base) (frames_bytes h.is_front.frames ++ rest))
  where
    rest : List ℕ
    rest = get_or x (length h.front) 0 ∷ drop (length h.front + 1) x

-- versions with one number are one
pub one_version : (v w : FileVersion) → version_number v ≡ version_number w → v ≡ w
one_version One One same = refl
one_version One Two same = absurd (cc)
one_version Two One same = absurd (cc)
one_version Two Two same = refl

pub version_fits : (v : FileVersion) → version_number v < 2 ^ 32
version_fits One = omega arith
version_fits Two = omega arith

-- a head is of one version and of one generation
pub one_head : (v w : FileVersion) (g k : ℕ) (a b : List ℕ) → g < 2 ^ 64 → k < 2 ^ 64 → head_of v g ++ a ≡ head_of w k ++ b → (v ≡ w) × (g ≡ k) × (a ≡ b)
one_head v w g k a b fits_g fits_k same =
    let versions : in_four (version_number v) ++ (in_eight g ++ a) ≡ in_four (version_number w) ++ (in_eight k ++ b) = ap (λ (l : List ℕ). drop 8 l) same in
    let both = one_number (version_number v) (version_number w) (in_eight g ++ a) (in_eight k ++ b) (version_fits v) (version_fits w) versions in
    let behind = one_spelled in_eight (λ n. n < 2 ^ 64) u64_at fields_are_spelled.in_eight g k a b fits_g fits_k both.1 in
    (one_version v w both.0, behind.0, behind.1)

-- two readings of one file
module _ (x : List ℕ) (r q : Reading) (one : Holds x r) (two : Holds x q) where
  abbrev pub rest_one : List ℕ
  rest_one = get_or x (length one.front) 0 ∷ drop (length one.front + 1) x

  abbrev pub rest_two : List ℕ
  rest_two = get_or x (length two.front) 0 ∷ drop (length two.front + 1) x

  heads : (r.version ≡ q.version) × (r.generation ≡ q.generation) × (in_four (length (spelling_of r.version one.is_front.base)) ++ (spelling_of r.version one.is_front.base ++ (frames_bytes one.is_front.frames ++ rest_one)) ≡ in_four (length (spelling_of q.version two.is_front.base)) ++ (spelling_of q.version two.is_front.base ++ (frames_bytes two.is_front.frames ++ rest_two)))
  heads =
      one_head r.version q.version r.generation q.generation _ _ one.is_front.fits two.is_front.fits (sym (holds_whole x r one) ∙ holds_whole x q two)

  sizes : (length (spelling_of r.version one.is_front.base) ≡ length (spelling_of q.version two.is_front.base)) × (spelling_of r.version one.is_front.base ++ (frames_bytes one.is_front.frames ++ rest_one) ≡ spelling_of q.version two.is_front.base ++ (frames_bytes two.is_front.frames ++ rest_two))
  sizes =
      one_number (length (spelling_of r.version one.is_front.base)) (length (spelling_of q.version two.is_front.base)) (spelling_of r.version one.is_front.base ++ (frames_bytes one.is_front.frames ++ rest_one)) (spelling_of q.version two.is_front.base ++ (frames_bytes two.is_front.frames ++ rest_two))
      (spelling_short r.version one.is_front.base one.is_front.spelled.has) (spelling_short q.version two.is_front.base two.is_front.spelled.has) heads.2

  pub same_version : r.version ≡ q.version
  same_version = heads.0

  -- they have the same snapshot
  pub snapshots : (spelling_of r.version one.is_front.base ≡ spelling_of q.version two.is_front.base) × (frames_bytes one.is_front.frames ++ rest_one ≡ frames_bytes two.is_front.frames ++ rest_two)
  snapshots = same_front (spelling_of r.version one.is_front.base) (spelling_of q.version two.is_front.base) (frames_bytes one.is_front.frames ++ rest_one) (frames_bytes two.is_front.frames ++ rest_two) sizes.0 sizes.1

  same_frames : one.is_front.frames ≡ two.is_front.frames
  same_frames = one_frames one.is_front.frames two.is_front.frames _ _ _ _ one.is_front.each two.is_front.each one.ends.closed.shut two.ends.closed.shut snapshots.1

  -- where the snapshot is of one vault, the readings are one
  pub same_reading : one.is_front.base ≡ two.is_front.base → r ≡ q
  same_reading base_is = λ i. record { vault = vaults i; version = heads.0 i; generation = heads.1 i; tail = tails i; journal_length = journals i }
    where
      fronts : one.front ≡ two.front
      fronts =
          one.is_front.bytes
          ∙ ap (λ (n : FileVersion). (head_of n r.generation ++ snapshot_bytes n one.is_front.base) ++ frames_bytes one.is_front.frames) heads.0
          ∙ ap (λ (g : ℕ). (head_of q.version g ++ snapshot_bytes q.version one.is_front.base) ++ frames_bytes one.is_front.frames) heads.1
          ∙ ap (λ (v : Vault). (head_of q.version q.generation ++ snapshot_bytes q.version v) ++ frames_bytes one.is_front.frames) base_is
          ∙ ap (λ (fs : List (List Effect)). (head_of q.version q.generation ++ snapshot_bytes q.version two.is_front.base) ++ frames_bytes fs) same_frames ∙ sym two.is_front.bytes

      vaults : r.vault ≡ q.vault
      vaults =
          let e : after_frames two.is_front.base two.is_front.frames ≡ Some r.vault = ap (λ (v : Vault). after_frames v two.is_front.frames) (sym base_is) ∙ ap (λ (fs : List (List Effect)). after_frames one.is_front.base fs) (sym same_frames) ∙ one.is_front.leads in
          let f = two.is_front.leads in cc

      tails : r.tail ≡ q.tail
      tails = one.is_front.tail_is ∙ ap length fronts ∙ sym two.is_front.tail_is

      journals : r.journal_length ≡ q.journal_length
      journals = one.is_front.journal_is ∙ ap (λ (fs : List (List Effect)). length (frames_bytes fs)) same_frames ∙ sym two.is_front.journal_is
