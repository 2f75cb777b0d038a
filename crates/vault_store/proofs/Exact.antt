-- Nothing is wrong with files that stand for a vault.
use Rattle.std.proofs.Common.{◌≡◌, ◌≢◌, inl, inr, ℕ, ◌+◌, ◌-◌, ◌≤◌, List, [], ◌∷◌, ◌++◌, length, get_or, take, drop, slice_range, Some, refl, sym, ◌∙◌, ap, subst, arith, append_assoc, length-append, take-append-drop}
use Rattle.std.specs.List.{AllByRecursion}
use Rattle.std.proofs.lemmas.Nat.{from_be_bytes-to_be_bytes_4}
use Rattle.std.proofs.lemmas.List.{take_at, drop_more}
use Rattle.std.proofs.lemmas.List.Concat.{flat_map-cons}
use Rattle.vault_model.specs.Said.{Effect}
use Rattle.vault_state.specs.Vault.{Vault}
use Rattle.vault_state.proofs.Lists.{and_then_some}
use Rattle.vault_journal.specs.Spelling.{in_four, records_of}
use Rattle.vault_journal.proofs.OneSpelling.{one_row}
use Rattle.vault_format.specs.declared.version.FileVersion.{FileVersion}
use Rattle.vault_format.specs.Snapshot.{spelling_of, HasSpelling}
use Rattle.vault_format.specs.Files.{header, head_of, snapshot_bytes, frame_of, frames_bytes, IsFrame, applied, after_frames, Reading, Holds, IsSpare, HasHead}
use Rattle.vault_format.specs.Faults.{snapshot_length, snapshot_in, IsSnapshotFault, IsFrameFault, IsBodyFault}
use Rattle.vault_store.specs.declared.opening.File.TheVariants.{First, Second}
use Rattle.vault_store.specs.declared.opening.OpenError.{OpenError}
use Rattle.vault_store.specs.declared.opening.OpenError.TheVariants.{NoVault, Damaged, Device, NoMemory}
use Rattle.vault_store.specs.Opening.{IsNotOpened, IsFound}
use Rattle.vault_store.specs.Laws.{OneReading, OneVault, NothingIsWrong}
use Rattle.vault_format.proofs.Short.{spelling_short}
use Rattle.vault_format.proofs.OneReading.{same_reading, same_version, snapshots, holds_whole, one_number, same_front, frames_split}
use Rattle.vault_format.proofs.Rights.{head_right, head_open, not_both, one_told, one_generation, spare_older, spare_right, holds_head, one_base}
use Rattle.vault_format.proofs.Spelled.{snapshot_tells}

-- a frame stands here, with a byte behind it, and its effects are applicable
pub record HasFrame (v : Vault) (bytes : List ℕ) : Type 0 where
  pub frame : List Effect
  pub next : Vault
  pub behind : List ℕ
  pub is_frame : IsFrame frame
  pub leads : applied v frame ≡ Some next
  pub some : behind ≢ []
  pub parts : bytes ≡ frame_of frame ++ behind

-- where an open gate stands behind some of the frames, one more frame does
pub frame_there : (fs hs : List (List Effect)) (s t : List ℕ) (y : ℕ) (w v last : Vault) → AllByRecursion IsFrame fs → AllByRecursion IsFrame hs → y ≢ 1 → frames_bytes fs ++ 1 ∷ s ≡ frames_bytes hs ++ y ∷ t
    → after_frames w fs ≡ Some v → after_frames w hs ≡ Some last → HasFrame v (1 ∷ s)
frame_there [] [] s t y w v last are_fs are_hs shut same leads ends = absurd (shut (let e = same in cc))
frame_there [] (h ∷ hs) s t y w v last are_fs are_hs shut same leads ends =
    let one = and_then_some (applied w h) (λ (u : Vault). after_frames u hs) last ends in
    let is : w ≡ v = cc in record {
      frame = h;
      next = one.0;
      behind = frames_bytes hs ++ y ∷ t;
      is_frame = are_hs.0;
      leads = subst (λ (u : Vault). applied u h ≡ Some one.0) is one.1;
      some = λ none. absurd (omega (arith, ap length none, length-append (frames_bytes hs) (y ∷ t)));
      parts = same ∙ ap (λ (l : List ℕ). l ++ y ∷ t) (flat_map-cons frame_of h hs) ∙ append_assoc (frame_of h) (frames_bytes hs) (y ∷ t);
    }
frame_there (f ∷ fs) [] s t y w v last are_fs are_hs shut same leads ends = absurd (shut (let e = sym (frames_split f fs (1 ∷ s)) ∙ same in cc))
frame_there (f ∷ fs) (h ∷ hs) s t y w v last are_fs are_hs shut same leads ends =
    let whole = sym (frames_split f fs (1 ∷ s)) ∙ same ∙ frames_split h hs (y ∷ t) in
    let behind : in_four (length (records_of f)) ++ (records_of f ++ (frames_bytes fs ++ 1 ∷ s)) ≡ in_four (length (records_of h)) ++ (records_of h ++ (frames_bytes hs ++ y ∷ t)) = ap (λ (l : List ℕ). drop 1 l) whole in
    let sizes = one_number (length (records_of f)) (length (records_of h)) (records_of f ++ (frames_bytes fs ++ 1 ∷ s)) (records_of h ++ (frames_bytes hs ++ y ∷ t)) (omega (arith, are_fs.0.few)) (omega (arith, are_hs.0.few)) behind in
    let parts = same_front (records_of f) (records_of h) (frames_bytes fs ++ 1 ∷ s) (frames_bytes hs ++ y ∷ t) sizes.0 sizes.1 in
    let first : f ≡ h = one_row f h (records_of f) (record { each = are_fs.0.each; whole = refl }) (record { each = are_hs.0.each; whole = parts.0 }) in
    let one = and_then_some (applied w f) (λ (u : Vault). after_frames u fs) v leads in
    let ends_too : after_frames w (f ∷ hs) ≡ Some last = subst (λ (k : List Effect). after_frames w (k ∷ hs) ≡ Some last) (sym first) ends in
    let other = and_then_some (applied w f) (λ (u : Vault). after_frames u hs) last ends_too in
    let same_next : other.0 ≡ one.0 = let e = sym other.1 ∙ one.1 in cc in
    frame_there fs hs s t y one.0 v last are_fs.1 are_hs.1 shut parts.1 one.2 (subst (λ (u : Vault). after_frames u hs ≡ Some last) same_next other.2)

-- a file up to its faulty frame, and from there on
module _ (version : FileVersion) (x : List ℕ) (at : ℕ) (fault : IsFrameFault version x at) where
  pub here : drop at x ≡ 1 ∷ drop (at + 1) x
  here = drop_more x at 0 fault.within ∙ ap (λ (b : ℕ). b ∷ drop (at + 1) x) fault.gate

  pub fault_whole : x ≡ head_of version fault.generation ++ (in_four (length (spelling_of version fault.base)) ++ (spelling_of version fault.base ++ (frames_bytes fault.frames ++ 1 ∷ drop (at + 1) x)))
  fault_whole =
      sym (take-append-drop at x) ∙ ap (λ (l : List ℕ). l ++ drop at x) fault.begins
      ∙ ap (λ (l : List ℕ). ((head_of version fault.generation ++ snapshot_bytes version fault.base) ++ frames_bytes fault.frames) ++ l) here
      ∙ append_assoc (head_of version fault.generation ++ snapshot_bytes version fault.base) (frames_bytes fault.frames) behind
      ∙ append_assoc (head_of version fault.generation) (snapshot_bytes version fault.base) (frames_bytes fault.frames ++ behind)
      ∙ ap (λ (l : List ℕ). head_of version fault.generation ++ l) (append_assoc (in_four (length (spelling_of version fault.base))) (spelling_of version fault.base) (frames_bytes fault.frames ++ behind))
    where
      behind : List ℕ
      behind = 1 ∷ drop (at + 1) x

-- the snapshot of a file that has one
module _ (version : FileVersion) (x : List ℕ) (g : ℕ) (base : Vault) (rest : List ℕ) (spelled : HasSpelling version base) (some : 1 ≤ length rest) (whole : x ≡ head_of version g ++ (in_four (length (spelling_of version base)) ++ (spelling_of version base ++ rest))) where
  size_is : snapshot_length x ≡ length (spelling_of version base)
  size_is = ap snapshot_length whole ∙ from_be_bytes-to_be_bytes_4 (length (spelling_of version base)) (spelling_short version base spelled.has)

  snapshot_is : snapshot_in x ≡ spelling_of version base
  snapshot_is =
      ap (λ (m : ℕ). slice_range x header (header + m)) size_is
      ∙ ap (λ (l : List ℕ). slice_range l header (header + length (spelling_of version base))) whole
      ∙ ap (λ (k : ℕ). take k (spelling_of version base ++ rest)) size ∙ take_at (spelling_of version base) rest (length (spelling_of version base)) refl
    where
      size : header + length (spelling_of version base) - header ≡ length (spelling_of version base)
      size = omega arith

  pub snapshot_right : (at : ℕ) → IsSnapshotFault version x at → ⊥
  snapshot_right at = elim [
    | inl one ↦ absurd (omega (arith, one.1, size_is, some, ap length whole, length-append (spelling_of version base) rest, length-append (in_four (length (spelling_of version base))) (spelling_of version base ++ rest)))
    | inr two ↦ two.2 base spelled snapshot_is
  ]

-- nothing is wrong with the body of a file that is read
module _ (x : List ℕ) (r : Reading) (h : Holds x r) where
  abbrev rest : List ℕ
  rest = get_or x (length h.front) 0 ∷ drop (length h.front + 1) x

  no_frame_fault : (at : ℕ) → IsFrameFault r.version x at → ⊥
  no_frame_fault at fault = fault.none there.frame there.next there.behind there.is_frame there.leads there.some (here r.version x at fault ∙ there.parts)
    where
      bases : (r.version ≡ r.version) × (fault.base ≡ h.is_front.base) × (frames_bytes fault.frames ++ 1 ∷ drop (at + 1) x ≡ frames_bytes h.is_front.frames ++ rest)
      bases = one_base r.version r.version fault.generation r.generation fault.base h.is_front.base _ _ fault.spelled h.is_front.spelled (sym (fault_whole r.version x at fault) ∙ holds_whole x r h)

      there : HasFrame fault.vault (1 ∷ drop (at + 1) x)
      there =
          frame_there fault.frames h.is_front.frames (drop (at + 1) x) (drop (length h.front + 1) x) (get_or x (length h.front) 0) fault.base fault.vault r.vault fault.each h.is_front.each h.ends.closed.shut bases.2 fault.leads
          (subst (λ (v : Vault). after_frames v h.is_front.frames ≡ Some r.vault) (sym bases.1) h.is_front.leads)

  pub no_fault : (at : ℕ) → IsBodyFault r.version x at → ⊥
  no_fault at = elim [
    | inl snapshot ↦ snapshot_right r.version x r.generation h.is_front.base (frames_bytes h.is_front.frames ++ rest) h.is_front.spelled (omega (arith, length-append (frames_bytes h.is_front.frames) rest)) (holds_whole x r h) at snapshot
    | inr frame ↦ no_frame_fault at frame
  ]

pub one_file : (x : List ℕ) (r q : Reading) → Holds x r → Holds x q → r ≡ q
one_file x r q one two =
    let versions : q.version ≡ r.version = sym (same_version x r q one two) in
    same_reading x r q one two
    (snapshot_tells r.version one.is_front.base two.is_front.base one.is_front.spelled (subst (λ (n : FileVersion). HasSpelling n two.is_front.base) versions two.is_front.spelled)
    ((snapshots x r q one two).0 ∙ ap (λ (n : FileVersion). spelling_of n two.is_front.base) versions))

-- the older of two readings is none
not_older : (x y : List ℕ) (r q : Reading) → Holds x r → IsSpare r.generation y → Holds y q → IsSpare q.generation x → ⊥
not_older x y r q one spare other spare_too =
    absurd (omega (arith, spare_older x q.generation r.generation spare_too (holds_head x r one), spare_older y r.generation q.generation spare (holds_head y q other)))

pub one_reading : OneReading
one_reading first second r q (inl (one, spare)) (inl (other, spare_too)) = one_file first r q one other
one_reading first second r q (inr (one, spare)) (inr (other, spare_too)) = one_file second r q one other
one_reading first second r q (inl (one, spare)) (inr (other, spare_too)) = absurd (not_older first second r q one spare other spare_too)
one_reading first second r q (inr (one, spare)) (inl (other, spare_too)) = absurd (not_older second first r q one spare other spare_too)

pub one_vault : OneVault
one_vault first second v w one two = sym one.2 ∙ ap (λ (r : Reading). r.vault) (one_reading first second one.0 two.0 one.1 two.1) ∙ two.2

-- nor with that of a file with such a head
pub wrong_body : (x : List ℕ) (r : Reading) → Holds x r → (at : ℕ) (v : FileVersion) (g : ℕ) → HasHead v g x → IsBodyFault v x at → ⊥
wrong_body x r h at v g right fault = no_fault x r h at (subst (λ (n : FileVersion). IsBodyFault n x at) (one_told x v r.version g r.generation right (holds_head x r h)) fault)

-- a file that is read, beside its spare
module _ (x y : List ℕ) (r : Reading) (h : Holds x r) (spare : IsSpare r.generation y) where
  head : HasHead r.version r.generation x
  head = holds_head x r h

  -- the other isn't the newer one, nor of the same generation
  not_newer : {v : FileVersion} (g : ℕ) → HasHead v g y → IsSpare g x → ⊥
  not_newer g right older = absurd (omega (arith, spare_older y r.generation g spare right, spare_older x g r.generation older head))

  not_same : {v w : FileVersion} (g : ℕ) → HasHead v g x → HasHead w g y → ⊥
  not_same g one other = absurd (omega (arith, spare_older y r.generation g spare other, one_generation x g r.generation one head))

not_wrong_first : (first second : List ℕ) (r : Reading) (why : OpenError) → IsFound why → Holds first r → IsSpare r.generation second → IsNotOpened first second why → ⊥
not_wrong_first first second r NoVault found h spare is = not_both first is.0 (head_open first r.generation (holds_head first r h))
not_wrong_first first second r (Damaged First at) found h spare is = elim is [
  | inl damaged ↦ head_right first r.generation at (holds_head first r h) damaged.1
  | inr is ↦ wrong_body first r h at is.version is.generation is.head is.fault
]
not_wrong_first first second r (Damaged Second at) found h spare is = elim is [
  | inl damaged ↦ spare_right second r.generation at spare damaged.1
  | inr (inl (g, one, other, there)) ↦ not_same first second r h spare g one.1 other.1
  | inr (inr is) ↦ not_newer first second r h spare is.generation is.head is.spare
]
not_wrong_first first second r Device found h spare is = found
not_wrong_first first second r NoMemory found h spare is = found

not_wrong_second : (first second : List ℕ) (r : Reading) (why : OpenError) → IsFound why → Holds second r → IsSpare r.generation first → IsNotOpened first second why → ⊥
not_wrong_second first second r NoVault found h spare is = not_both second is.1 (head_open second r.generation (holds_head second r h))
not_wrong_second first second r (Damaged First at) found h spare is = elim is [
  | inl damaged ↦ spare_right first r.generation at spare damaged
  | inr is ↦ not_newer second first r h spare is.generation is.head is.spare
]
not_wrong_second first second r (Damaged Second at) found h spare is = elim is [
  | inl damaged ↦ head_right second r.generation at (holds_head second r h) damaged.1.1
  | inr (inl (g, one, other, there)) ↦ not_same second first r h spare g other.1 one.1
  | inr (inr is) ↦ wrong_body second r h at is.version is.generation is.head is.fault
]
not_wrong_second first second r Device found h spare is = found
not_wrong_second first second r NoMemory found h spare is = found

pub nothing_is_wrong : NothingIsWrong
nothing_is_wrong first second why found is v stands = elim stands.1 [
  | inl one ↦ not_wrong_first first second stands.0 why found one.0 one.1 is
  | inr other ↦ not_wrong_second first second stands.0 why found other.0 other.1 is
]
