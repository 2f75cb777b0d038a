-- The files of a store are of one vault, and stay so.
use Rattle.std.proofs.Common.{◌≡◌, ◌⊎◌, inl, inr, ℕ, ◌+◌, ◌<◌, ◌≤◌, IsTrue, Bool, List, ◌++◌, length, get_or, take, drop, refl, sym, ◌∙◌, ap, subst, arith, append_assoc, length-append, take-append-drop}
use Rattle.std.proofs.lemmas.Bool.{cases_eq, cases_lt}
use Rattle.std.proofs.lemmas.List.{length-drop, take-take, take_at}
use Rattle.vault_state.specs.Vault.{Vault}
use Rattle.vault_device.specs.Disk.{Disk, IsLawful, IsTorn}
use Rattle.vault_journal.specs.Spelling.{in_four, records_of}
use Rattle.vault_journal.specs.Gate.{IsClosed}
use Rattle.vault_format.specs.Snapshot.{spelling_of}
use Rattle.vault_format.specs.Files.{head_of, snapshot_bytes, frame_bytes, frames_bytes, Reading, IsFront, EndsBehind, IsClosedFile, IsSpare, HasRightHead}
use Rattle.vault_format.proofs.Rights.{one_generation}
use Rattle.vault_store.specs.declared.phase.Phase.{Phase}
use Rattle.vault_store.specs.declared.phase.Phase.TheVariants.{Idle, Written, Bodied, Opening, Start, Closing, Writing, Filled, Ready, SnapOpening}
use Rattle.vault_store.specs.Companions.{MayPrecede, IsOfOneVault, FilesPass}
use Rattle.vault_store.specs.Earlier.{IsEarlier}
use Rattle.vault_store.specs.OnDisk.{IsEither, LeavesInPhase, IsOnDisk}
use Rattle.vault_store.specs.Seen.{StoreSeen, Keeps}
use Rattle.vault_store.specs.Spares.{ClosedMayStand, LeavesSpareIn}
use Rattle.vault_store.specs.State.{StoreState}
use Rattle.vault_store.specs.TwoVaults.{IsBasedOn, IsOfAnother, AreOfTwoVaults}
use Rattle.vault_store.proofs.Asides.{closed_spare, torn_stands, spare_leaves}
use Rattle.vault_store.proofs.Left.{leaves_in}
use Rattle.vault_store.proofs.Passes.{closed_shut, led_head, renewed_pass, passes_placed}
use Rattle.vault_store.proofs.Placed.{both_honest}
use Rattle.vault_store.proofs.TwoVaults.{one_based, are_open}

module _ (g : ℕ) (base : Vault) where
  -- a closed file may precede any, and so may what a torn write leaves of what may
  pub closed_precedes : (x : List ℕ) → IsClosedFile x → MayPrecede g base x
  closed_precedes x closed older head = absurd (closed_shut x closed older head)

  pub shut_precedes : ClosedMayStand (MayPrecede g base)
  shut_precedes x closed = closed_precedes x (inr closed.shut)

  pub torn_precedes : (x y : List ℕ) → MayPrecede g base x → (IsClosed 0 x → ⊥) → IsTorn 0 1 x y → MayPrecede g base y
  torn_precedes x y stands isnt torn = torn_stands (MayPrecede g base) closed_precedes x y stands isnt torn

-- one that may precede a file isn't of another vault
module _ (x y : List ℕ) (g : ℕ) (base : Vault) (based : IsBasedOn g x base) (precedes : MayPrecede g base y) where
  not_another : IsOfAnother y x → ⊥
  not_another (inl far) =
      let next = (precedes far.lower far.older_head).0 in
      let same = one_generation x far.higher g far.newer_head.1 based.head in
      let more = far.far in absurd (omega (arith, next, same, more))
  not_another (inr unrelated) =
      (precedes unrelated.generation (led_head y unrelated.generation unrelated.vault unrelated.leads)).1 unrelated.vault unrelated.leads
      (λ earlier. unrelated.not_earlier (subst (λ (b : Vault). IsEarlier unrelated.vault b) (one_based x g (unrelated.generation + 1) base unrelated.base based unrelated.based) earlier))

  not_back : IsOfAnother x y → ⊥
  not_back back =
      let heads = are_open x y back in
      let same = one_generation x heads.lower g heads.older_head.1 based.head in
      let next = (precedes heads.higher heads.newer_head).0 in
      let more = heads.rises in absurd (omega (arith, same, next, more))

  pub beside_pass : AreOfTwoVaults x y → ⊥
  beside_pass two = elim two [ inl back ↦ not_back back | inr is ↦ not_another is ]

-- a spare that isn't of another vault may precede the file beside it
pub precedes_beside : (x y : List ℕ) (g : ℕ) (base : Vault) → IsBasedOn g x base → IsSpare g y → (AreOfTwoVaults x y → ⊥) → MayPrecede g base y
precedes_beside x y g base based (inl closed) pass = closed_precedes g base y closed
precedes_beside x y g base based (inr (lower, less, right)) pass = λ older head.
    let same = one_generation y older lower head.1 right.1 in
    let next : older + 1 ≡ g = by_size older head (cases_lt (older + 1) g) (omega (arith, same, less)) in (
      next,
      λ vault leads later. pass (inr (inr (record { generation = older; vault = vault; base = base; leads = leads; based = subst (λ (k : ℕ). IsBasedOn k x base) (sym next) based; not_earlier = later }))),
    )
  where
    by_size : (older : ℕ) → HasRightHead older y → (older + 1 < g) ⊎ (g ≤ older + 1) → older < g → older + 1 ≡ g
    by_size older head (inl far) less = absurd (pass (inr (inl (record { lower = older; higher = g; older_head = head; newer_head = (based.version, based.head); far = far }))))
    by_size older head (inr near) less = omega (arith, near, less)

-- a file begins with a front, and a byte stands behind it
pub record IsBegun (front file : List ℕ) : Type 0 where
  pub begins : take (length front) file ≡ front
  pub within : length front < length file

pub begun_ends : (front file : List ℕ) → EndsBehind front file → IsBegun front file
begun_ends front file ends = record { begins = ends.begins; within = ends.closed.stands }

pub begun_shorter : (front more file : List ℕ) → IsBegun (front ++ more) file → IsBegun front file
begun_shorter front more file begun = record {
  begins = sym (take-take (length front) (length (front ++ more)) file (omega (arith, length-append front more))) ∙ ap (λ (l : List ℕ). take (length front) l) begun.begins ∙ take_at front more (length front) refl;
  within = omega (arith, begun.within, length-append front more);
}

pub begun_either : (front records file : List ℕ) → IsEither front records file → IsBegun front file
begun_either front records file either = elim (cases_eq (get_or file (length front) 0) 1) [
  | inl one ↦ begun_shorter front (frame_bytes records) file (begun_ends (front ++ frame_bytes records) file (either.opened one))
  | inr other ↦ begun_ends front file (either.shut other)
]

-- what a crash leaves in any phase begins with the front
begun_in : (disk : Disk) (p : Phase) (front records : List ℕ) → LeavesInPhase disk p front records → (x : List ℕ) → disk.IsImage x → IsBegun front x
begun_in disk Opening front records leaves x image = begun_either front records x (leaves x image)
begun_in disk Idle front records leaves x image = begun_ends front x (leaves x image)
begun_in disk Written front records leaves x image = begun_ends front x (leaves x image)
begun_in disk Bodied front records leaves x image = begun_ends front x (leaves x image)
begun_in disk Start front records leaves x image = begun_ends front x (leaves x image)
begun_in disk Closing front records leaves x image = begun_ends front x (leaves x image)
begun_in disk (Writing left) front records leaves x image = begun_ends front x (leaves x image)
begun_in disk Filled front records leaves x image = begun_ends front x (leaves x image)
begun_in disk Ready front records leaves x image = begun_ends front x (leaves x image)
begun_in disk SnapOpening front records leaves x image = begun_ends front x (leaves x image)

pub begun_on : (disk : Disk) (p : Phase) (broken : Bool) (front records : List ℕ) → IsOnDisk disk p broken front records → (x : List ℕ) → disk.IsImage x → IsBegun front x
begun_on disk p broken front records on = begun_in disk p front records (leaves_in disk p broken front records on)

-- with a front that is read it has the snapshot of that
pub based_front : (front x : List ℕ) (r : Reading) (is : IsFront front r) → IsBegun front x → IsBasedOn r.generation x is.base
based_front front x r is begun = record {
  version = r.version;
  rest = rest;
  head = record {
    long = omega (arith, ap length parts, length-append (in_four (length (spelling_of r.version is.base))) (spelling_of r.version is.base ++ rest));
    head = ap (λ (l : List ℕ). take 20 l) parts ∙ take_at (head_of r.version r.generation) (in_four (length (spelling_of r.version is.base)) ++ (spelling_of r.version is.base ++ rest)) 20 refl;
    given = is.given;
    fits = is.fits;
  };
  spelled = is.spelled;
  some = λ none. absurd (omega (arith, ap length none, length-append (frames_bytes is.frames) behind, length-drop (length front) x, begun.within));
  bytes = whole;
}
  where
    behind : List ℕ
    behind = drop (length front) x

    rest : List ℕ
    rest = frames_bytes is.frames ++ behind

    whole : x ≡ (head_of r.version r.generation ++ snapshot_bytes r.version is.base) ++ rest
    whole =
        sym (take-append-drop (length front) x) ∙ ap (λ (l : List ℕ). l ++ behind) (begun.begins ∙ is.bytes)
        ∙ append_assoc (head_of r.version r.generation ++ snapshot_bytes r.version is.base) (frames_bytes is.frames) behind

    parts : x ≡ head_of r.version r.generation ++ (in_four (length (spelling_of r.version is.base)) ++ (spelling_of r.version is.base ++ rest))
    parts =
        whole ∙ append_assoc (head_of r.version r.generation) (snapshot_bytes r.version is.base) rest
        ∙ ap (λ (l : List ℕ). head_of r.version r.generation ++ l) (append_assoc (in_four (length (spelling_of r.version is.base))) (spelling_of r.version is.base) rest)

-- a device whose images have a snapshot, and begin with a front, has the snapshot of that front
pub front_based : (disk : Disk) (front : List ℕ) (r : Reading) (is : IsFront front r) (base : Vault) → IsLawful disk → ((x : List ℕ) → disk.IsImage x → IsBegun front x) → ((x : List ℕ) → disk.IsImage x → IsBasedOn r.generation x base)
    → (x : List ℕ) → IsBegun front x → IsBasedOn r.generation x base
front_based disk front r is base lawful begun based x begins =
    subst (λ (b : Vault). IsBasedOn r.generation x b)
    (one_based disk.shown r.generation r.generation is.base base (based_front front disk.shown r is (begun disk.shown lawful.read)) (based disk.shown lawful.read))
    (based_front front x r is begins)

-- a store that is in a phase, and whose devices made no fault
pub one_in : {D : Type 0} (disk : D → Disk) (store : StoreSeen D) (p : Phase) (broken : Bool) → store.phase ≡ p → store.broken ≡ broken → IsOfOneVault disk store → IsOfOneVault disk (record store { phase = p; broken = broken })
one_in disk store p broken is whole one =
    subst (λ (q : Phase). IsOfOneVault disk (record store { phase = q; broken = broken })) is (subst (λ (b : Bool). IsOfOneVault disk (record store { phase = store.phase; broken = b })) whole one)

-- what a crash leaves of a store, in each phase
pass_in : {D : Type 0} (disk : D → Disk) (store : StoreSeen D) (s : StoreState) (p : Phase) → Keeps disk store (record s { phase = p }) → IsTrue (disk store.active).honest → IsTrue (disk store.spare).honest
    → (base : Vault) (x y : List ℕ) → IsBasedOn store.generation x base → (disk store.active).IsImage x → LeavesSpareIn (MayPrecede store.generation base) (disk store.spare) p store.rest → (disk store.spare).IsImage y → AreOfTwoVaults x y → ⊥
pass_in disk store s Idle keeps honest other base x y based image leaves beside = beside_pass x y store.generation base based (leaves y beside)
pass_in disk store s Written keeps honest other base x y based image leaves beside = beside_pass x y store.generation base based (leaves y beside)
pass_in disk store s Bodied keeps honest other base x y based image leaves beside = beside_pass x y store.generation base based (leaves y beside)
pass_in disk store s Opening keeps honest other base x y based image leaves beside = beside_pass x y store.generation base based (leaves y beside)
pass_in disk store s Start keeps honest other base x y based image leaves beside = beside_pass x y store.generation base based (leaves y beside)
pass_in disk store s Closing keeps honest other base x y based image leaves beside = beside_pass x y store.generation base based (leaves y beside)
pass_in disk store s (Writing left) keeps honest other base x y based image leaves beside = beside_pass x y store.generation base based (leaves y beside)
pass_in disk store s Filled keeps honest other base x y based image leaves beside = beside_pass x y store.generation base based (leaves y beside)
pass_in disk store s Ready keeps honest other base x y based image leaves beside = beside_pass x y store.generation base based (leaves y beside)
pass_in disk store s SnapOpening keeps honest other base x y based image leaves beside =
    let files = keeps.files honest other in
    renewed_pass disk store (record s { phase = SnapOpening }) files.front x y files.is_front
    (leaves_in (disk store.active) SnapOpening s.broken files.front (records_of s.sealing) files.active x image) keeps refl
    (spare_leaves (IsSpare store.generation) (disk store.spare) store.shut store.rest (closed_spare store.generation) SnapOpening s.broken files.spare y beside)

pub pass_here : {D : Type 0} (disk : D → Disk) (store : StoreSeen D) (s : StoreState) → Keeps disk store s → IsOfOneVault disk store → IsTrue (disk store.active).honest → IsTrue (disk store.spare).honest
    → (x y : List ℕ) → (disk store.active).IsImage x → (disk store.spare).IsImage y → AreOfTwoVaults x y → ⊥
pass_here disk store s keeps one honest other x y image beside =
    let are = one_in disk store s.phase s.broken keeps.phase keeps.broken one honest other in
    pass_in disk store s s.phase keeps honest other are.base x y (are.based x image) image
    (spare_leaves (MayPrecede store.generation are.base) (disk store.spare) store.shut store.rest (shut_precedes store.generation are.base) s.phase s.broken are.beside) beside

pub files_pass : {D : Type 0} (disk : D → Disk) → FilesPass disk
files_pass disk store s x y keeps one honest image other =
    let both = both_honest disk store.which store.active store.spare honest.first honest.second in
    passes_placed disk store.which store.active store.spare (pass_here disk store s keeps one both.0 both.1) x y image other
