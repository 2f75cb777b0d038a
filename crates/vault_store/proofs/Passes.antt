-- The two files of one vault aren't reported as those of two.
use Rattle.std.proofs.Common.{◌≡◌, inl, inr, ℕ, ◌+◌, ◌<◌, ◌≤◌, ◌^◌, IsTrue, Bool, true, false, List, ◌∷◌, ◌++◌, length, get_or, set, drop, refl, sym, ◌∙◌, ap, subst, arith, take-append-drop}
use Rattle.std.proofs.lemmas.Bool.{cases_eq}
use Rattle.std.proofs.lemmas.List.{set-get_or, length-drop}
use Rattle.vault_state.specs.Vault.{Vault}
use Rattle.vault_device.specs.Disk.{Disk}
use Rattle.vault_device.proofs.Torn.{torn_byte}
use Rattle.vault_journal.specs.Gate.{IsClosed}
use Rattle.vault_journal.specs.Spelling.{records_of}
use Rattle.vault_format.specs.Snapshot.{current_version, snapshot_of, HasSnapshot}
use Rattle.vault_format.specs.Files.{header, current_head, snapshot_bytes, IsFront, EndsBehind, IsClosedFile, HasHead, HasRightHead}
use Rattle.vault_format.specs.Faults.{IsOpenFile}
use Rattle.vault_format.proofs.Spelled.{now_spelled}
use Rattle.vault_format.proofs.Rights.{head_open, not_both, one_generation, holds_head}
use Rattle.vault_store.specs.declared.opening.File.{File}
use Rattle.vault_store.specs.declared.opening.File.TheVariants.{First, Second}
use Rattle.vault_store.specs.declared.phase.Phase.{Phase}
use Rattle.vault_store.specs.declared.phase.Phase.TheVariants.{Idle, Written, Bodied, Opening, Start, Closing, Writing, Filled, Ready, SnapOpening}
use Rattle.vault_store.specs.Earlier.{IsEarlier}
use Rattle.vault_store.specs.Phases.{is_snapshot}
use Rattle.vault_store.specs.Seen.{StoreSeen, of_file, Keeps, IsRenewal, settled_reading}
use Rattle.vault_store.specs.Spares.{HasFirst}
use Rattle.vault_store.specs.State.{StoreState}
use Rattle.vault_store.specs.TwoVaults.{LeadsTo, IsBasedOn, IsOfAnother, AreOfTwoVaults, ClosedFilesPass, FramesLeaveIt, TornGatesPass, SnapshotsPass, is_renewing}
use Rattle.vault_store.proofs.Asides.{file_opened, renewed_front}
use Rattle.vault_store.proofs.Growing.{grown}
use Rattle.vault_store.proofs.Placed.{both_honest}
use Rattle.vault_store.proofs.Renewals.{idle_leaves}
use Rattle.vault_store.proofs.TwoVaults.{one_based, decided, next_to, first_older, first_shut, second_shut}

pub two_exchanged : (first second : List ℕ) → AreOfTwoVaults first second → AreOfTwoVaults second first
two_exchanged first second two = elim two [ inl is ↦ inr is | inr is ↦ inl is ]

pub never : IsTrue false → ⊥
never is = cc

pub closed_shut : (file : List ℕ) → IsClosedFile file → (g : ℕ) → HasRightHead g file → ⊥
closed_shut file closed g (v, head) = not_both file closed (head_open file g head)

-- two files of which one is closed
pub closed_pass : ClosedFilesPass
closed_pass first second (inl closed) two = never ((first_shut first second (closed_shut first closed)).1 two)
closed_pass first second (inr closed) two = never ((second_shut first second (closed_shut second closed)).1 two)

pub led_head : (file : List ℕ) (g : ℕ) (v : Vault) → LeadsTo g file v → HasRightHead g file
led_head file g v leads = (leads.0.version, subst (λ (k : ℕ). HasHead leads.0.version k file) leads.2 (holds_head file leads.0 leads.1))

-- an older file that leads to an earlier vault
pub earlier_pass : (older newer : List ℕ) (g : ℕ) (v base : Vault) → LeadsTo g older v → IsBasedOn (g + 1) newer base → IsEarlier v base → AreOfTwoVaults older newer → ⊥
earlier_pass older newer g v base leads based earlier two =
    let head = led_head older g v leads in
    let other : HasRightHead (g + 1) newer = (based.version, based.head) in
    never ((first_older older newer g (g + 1) false head other (omega arith) (next_to older newer g (g + 1) false head other refl (decided older newer g v base true leads based (λ holds. earlier, λ is. refl)))).1 two)

-- frames behind the newer file's snapshot
more_frames : (older newer longer : List ℕ) (g : ℕ) (base : Vault) → IsBasedOn g newer base → IsBasedOn g longer base → IsOfAnother older newer → IsOfAnother older longer
more_frames older newer longer g base is also (inl far) =
    inl (record { lower = far.lower; higher = g; older_head = far.older_head; newer_head = (also.version, also.head); far = let same = one_generation newer far.higher g far.newer_head.1 is.head in let more = far.far in omega (arith, same, more) })
more_frames older newer longer g base is also (inr unrelated) =
    inr (record {
      generation = unrelated.generation;
      vault = unrelated.vault;
      base = base;
      leads = unrelated.leads;
      based = subst (λ (k : ℕ). IsBasedOn k longer base) (one_generation newer g (unrelated.generation + 1) is.head unrelated.based.head) also;
      not_earlier = λ earlier. unrelated.not_earlier (subst (λ (b : Vault). IsEarlier unrelated.vault b) (one_based newer g (unrelated.generation + 1) base unrelated.base is unrelated.based) earlier);
    })

pub frames_leave : FramesLeaveIt
frames_leave older newer longer g base is also = (more_frames older newer longer g base is also, more_frames older longer newer g base also is)

-- what a torn write of an open head gate leaves
pub torn_pass : TornGatesPass
torn_pass older newer torn g head is pass two = elim (cases_eq (get_or torn 0 0) 1) [
  | inl one ↦
      pass (subst (λ (file : List ℕ). AreOfTwoVaults file newer)
      (torn_byte 0 older torn some is ∙ ap (λ (b : ℕ). set older 0 b) (one ∙ sym opened.gate) ∙ set-get_or older 0 0) two)
  | inr shut ↦ closed_pass torn newer (inl (inr shut)) two
]
  where
    opened : IsOpenFile older
    opened = head_open older g head.1

    some : 0 < length older
    some = let long = opened.long in omega (arith, long)

-- a file that ends behind a new snapshot is based on it
pub head_based : (g : ℕ) (v : Vault) (file : List ℕ) → HasSnapshot v → 1 ≤ g → g < 2 ^ 64 → EndsBehind (current_head g ++ snapshot_bytes current_version v) file → IsBasedOn g file v
head_based g v file has given fits ends =
    let stands = ends.closed.stands in record {
      version = current_version;
      rest = drop (length front) file;
      head = holds_head file (record { vault = v; version = current_version; generation = g; tail = header + length (snapshot_of v); journal_length = 0 }) (record { front = front; is_front = renewed_front g v has given fits; ends = ends });
      spelled = now_spelled v has;
      some = λ none. absurd (omega (arith, ap length none, length-drop (length front) file, stands));
      bytes = sym (take-append-drop (length front) file) ∙ ap (λ (l : List ℕ). l ++ drop (length front) file) ends.begins;
    }
  where
    front : List ℕ
    front = current_head g ++ snapshot_bytes current_version v

-- what a crash leaves where a snapshot is written, or its head gate opened
module _ {D : Type 0} (disk : D → Disk) (store : StoreSeen D) (s : StoreState) (front x y : List ℕ) (is_front : IsFront front (settled_reading store s)) (ends : EndsBehind front x) where
  pub renewed_pass : Keeps disk store s → is_snapshot s.phase ≡ true → HasFirst (length store.rest) store.rest y → AreOfTwoVaults x y → ⊥
  renewed_pass keeps snapshot has two = elim (cases_eq (get_or y 0 0) 1) [
    | inl one ↦ earlier_pass x y store.generation s.settled s.sealed leads (based_now one) (grown s.settled s.sealed s.sealing keeps.sealed) two
    | inr shut ↦ closed_pass x y (inr (inr shut)) two
  ]
    where
      renewal : IsRenewal store.generation s.sealed store.rest
      renewal = keeps.renewal snapshot

      leads : LeadsTo store.generation x s.settled
      leads = (settled_reading store s, record { front = front; is_front = is_front; ends = ends }, refl, refl)

      new_front : List ℕ
      new_front = current_head (store.generation + 1) ++ snapshot_bytes current_version s.sealed

      ends_now : get_or y 0 0 ≡ 1 → EndsBehind new_front y
      ends_now one = file_opened new_front store.rest y (ap (λ (l : List ℕ). 1 ∷ l) (sym renewal.bytes)) has one

      based_now : get_or y 0 0 ≡ 1 → IsBasedOn (store.generation + 1) y s.sealed
      based_now one = head_based (store.generation + 1) s.sealed y renewal.spelled (omega arith) renewal.fits (ends_now one)

-- in each phase
passes_in : {D : Type 0} (disk : D → Disk) (store : StoreSeen D) (s : StoreState) (p : Phase) → is_renewing p ≡ true → Keeps disk store (record s { phase = p; broken = false }) → IsTrue (disk store.active).honest → IsTrue (disk store.spare).honest
    → (x y : List ℕ) → (disk store.active).IsImage x → (disk store.spare).IsImage y → AreOfTwoVaults x y → ⊥
passes_in disk store s (Writing left) renewing keeps one two x y image other is = let files = keeps.files one two in closed_pass x y (inr (inr (files.spare.closed y other).shut)) is
passes_in disk store s Filled renewing keeps one two x y image other is = let files = keeps.files one two in closed_pass x y (inr (inr (files.spare.closed y other).shut)) is
passes_in disk store s Ready renewing keeps one two x y image other is = let files = keeps.files one two in closed_pass x y (inr (inr (subst (IsClosed 0) (sym (files.spare.settled.only y other)) files.spare.closed).shut)) is
passes_in disk store s SnapOpening renewing keeps one two x y image other is =
    let files = keeps.files one two in
    renewed_pass disk store (record s { phase = SnapOpening; broken = false }) files.front x y files.is_front (idle_leaves (disk store.active) files.front (records_of s.sealing) files.active x image) keeps refl (files.spare.images y other) is
passes_in disk store s Idle renewing keeps one two x y image other is = absurd (cc)
passes_in disk store s Written renewing keeps one two x y image other is = absurd (cc)
passes_in disk store s Bodied renewing keeps one two x y image other is = absurd (cc)
passes_in disk store s Opening renewing keeps one two x y image other is = absurd (cc)
passes_in disk store s Start renewing keeps one two x y image other is = absurd (cc)
passes_in disk store s Closing renewing keeps one two x y image other is = absurd (cc)

-- of the first file and the second
pub passes_placed : {D : Type 0} (disk : D → Disk) (which : File) (active spare : D) → ((x y : List ℕ) → (disk active).IsImage x → (disk spare).IsImage y → AreOfTwoVaults x y → ⊥)
    → (x y : List ℕ) → (disk (of_file which active spare)).IsImage x → (disk (of_file which spare active)).IsImage y → AreOfTwoVaults x y → ⊥
passes_placed disk First active spare pass x y image other two = pass x y image other two
passes_placed disk Second active spare pass x y image other two = pass y x other image (two_exchanged x y two)

pub snapshots_pass : {D : Type 0} (disk : D → Disk) → SnapshotsPass disk
snapshots_pass disk store s x y keeps honest unbroken renewing image other =
    let both = both_honest disk store.which store.active store.spare honest.first honest.second in
    passes_placed disk store.which store.active store.spare
    (passes_in disk store s s.phase renewing (subst (λ (b : Bool). Keeps disk store (record s { broken = b })) unbroken keeps) both.0 both.1) x y image other
