-- Two files: what each leads to, and whether they are of one vault.
use Rattle.std.proofs.Common.{◌≡◌, ◌≢◌, inl, inr, ℕ, ◌+◌, ◌<◌, ◌≤◌, IsTrue, Bool, true, false, not, List, [], ◌∷◌, ◌++◌, length, drop, refl, sym, ◌∙◌, ap, subst, arith, append_assoc, take-append-drop, Result, IfOk}
use Rattle.std.specs.Prelude.{◌↔◌}
use Rattle.std.proofs.lemmas.List.{length-drop}
use Rattle.vault_state.specs.Vault.{Vault}
use Rattle.vault_device.specs.Disk.{Disk}
use Rattle.vault_journal.specs.Spelling.{in_four}
use Rattle.vault_format.specs.declared.version.FileVersion.{FileVersion}
use Rattle.vault_format.specs.Snapshot.{spelling_of}
use Rattle.vault_format.specs.Files.{head_of, snapshot_bytes, Reading, IsClosedFile, HasHead, HasRightHead}
use Rattle.vault_format.specs.Faults.{version_in, IsDamagedHead}
use Rattle.vault_format.proofs.Rights.{head_right, head_open, not_both, version_told, told_once, one_generation, holds_head, one_base}
use Rattle.vault_store.specs.declared.body.BodyError.{BodyError}
use Rattle.vault_store.specs.declared.body.BodyError.TheVariants.{Device, NoMemory}
use Rattle.vault_store.specs.Calls.{HasCause, IsQuiet}
use Rattle.vault_store.specs.Earlier.{IsEarlier}
use Rattle.vault_store.specs.Read.{AreReads, IsBaseRead, IsBaseFault, AreContents, IsFaultBehindHead}
use Rattle.vault_store.specs.TwoVaults.{LeadsTo, IsBasedOn, AreUnrelated, IsOfAnother, AreOfTwoVaults, IsUnread, AreUnread}
use Rattle.std.proofs.lemmas.Result.{IfOk-weaker}
use Rattle.vault_store.proofs.Behind.{honest_behind}
use Rattle.vault_store.proofs.Bodies.{holds_read}
use Rattle.vault_store.proofs.Exact.{one_file, wrong_body, snapshot_right}

-- a file of which a snapshot and a byte behind it are known
module _ (generation : ℕ) (file : List ℕ) (base : Vault) (is : IsBasedOn generation file base) where
  based_whole : file ≡ head_of is.version generation ++ (in_four (length (spelling_of is.version base)) ++ (spelling_of is.version base ++ is.rest))
  based_whole =
      is.bytes ∙ append_assoc (head_of is.version generation) (snapshot_bytes is.version base) is.rest
      ∙ ap (λ (l : List ℕ). head_of is.version generation ++ l) (append_assoc (in_four (length (spelling_of is.version base))) (spelling_of is.version base) is.rest)

  has_rest : 1 ≤ length is.rest
  has_rest = by_rest is.rest is.some
    where
      by_rest : (l : List ℕ) → l ≢ [] → 1 ≤ length l
      by_rest [] some = absurd (some refl)
      by_rest (x ∷ l) some = omega arith

  -- no fault is in the snapshot
  pub none_based : (at : ℕ) → IsBaseFault file at → ⊥
  none_based at fault =
      snapshot_right is.version file generation base is.rest is.spelled has_rest based_whole at (fault is.version (version_told file generation is.head))

pub one_based : (file : List ℕ) (g k : ℕ) (base other : Vault) → IsBasedOn g file base → IsBasedOn k file other → base ≡ other
one_based file g k base other is also =
    (one_base is.version also.version g k base other is.rest also.rest is.spelled also.spelled (sym (based_whole g file base is) ∙ based_whole k file other also)).1

-- a file leads to one vault
pub one_led : (file : List ℕ) (g k : ℕ) (v w : Vault) → LeadsTo g file v → LeadsTo k file w → v ≡ w
one_led file g k v w one other = sym one.3 ∙ ap (λ (r : Reading). r.vault) (one_file file one.0 other.0 one.1 other.1) ∙ other.3

-- no fault is behind its head
pub none_led : (file : List ℕ) (at g : ℕ) (v : Vault) → IsFaultBehindHead file at → LeadsTo g file v → ⊥
none_led file at g v fault leads =
    let head = holds_head file leads.0 leads.1 in
    wrong_body file leads.0 leads.1 at leads.0.version leads.0.generation head (fault leads.0.version leads.0.generation head)

-- what was read of a file with a right head
pub led : (disk : Disk) (version : FileVersion) (v : Vault) (frames tail journal_length g : ℕ) → AreContents disk version v frames tail journal_length → IsTrue disk.honest → HasRightHead g disk.shown → LeadsTo g disk.shown v
led disk version v frames tail journal_length g contents honest head =
    (record { vault = v; version = version; generation = g; tail = tail; journal_length = journal_length }, holds_read disk version v frames tail journal_length g contents honest head, refl, refl)

pub based : (disk : Disk) (len : ℕ) (version : FileVersion) (base : Vault) (end g : ℕ) → IsBaseRead disk len version base end → IsTrue disk.honest → len ≡ length disk.shown → HasRightHead g disk.shown → IsBasedOn g disk.shown base
based disk len version base end g read honest size (w, head) =
    let same : w ≡ version = told_once w version (version_in disk.shown) (version_told disk.shown g head) (read.told honest) in
    let here = subst (λ (n : FileVersion). HasHead n g disk.shown) same head in record {
      version = version;
      rest = drop end disk.shown;
      head = here;
      spelled = read.spelled;
      some = λ none. absurd (omega (arith, ap length none, length-drop end disk.shown, size, read.within));
      bytes = sym (take-append-drop end disk.shown) ∙ ap (λ (l : List ℕ). l ++ drop end disk.shown) (read.bytes honest ∙ ap (λ (l : List ℕ). l ++ snapshot_bytes version base) here.head);
    }

-- what two vaults that were read decide
pub decided : (older newer : List ℕ) (g : ℕ) (v base : Vault) (earlier : Bool) → LeadsTo g older v → IsBasedOn (g + 1) newer base → IsTrue earlier ↔ IsEarlier v base → IsTrue (not earlier) ↔ AreUnrelated older newer
decided older newer g v base true leads based is = (
  λ isnt. absurd (cc),
  λ unrelated.
      absurd (unrelated.not_earlier
      (subst (λ (w : Vault). IsEarlier w unrelated.base) (one_led older g unrelated.generation v unrelated.vault leads unrelated.leads)
      (subst (λ (b : Vault). IsEarlier v b) (one_based newer (g + 1) (unrelated.generation + 1) base unrelated.base based unrelated.based) (is.0 refl)))),
)
decided older newer g v base false leads based is =
    (λ holds. record { generation = g; vault = v; base = base; leads = leads; based = based; not_earlier = λ earlier. let e = is.1 earlier in cc }, λ unrelated. refl)

-- an older file that can't be read decides nothing, nor does a newer one whose snapshot can't
pub unread_older : (older newer : List ℕ) → ((g : ℕ) (v : Vault) → LeadsTo g older v → ⊥) → IsTrue false ↔ AreUnrelated older newer
unread_older older newer none = (λ isnt. absurd (cc), λ unrelated. absurd (none unrelated.generation unrelated.vault unrelated.leads))

pub unread_newer : (older newer : List ℕ) → ((g : ℕ) (v : Vault) → IsBasedOn g newer v → ⊥) → IsTrue false ↔ AreUnrelated older newer
unread_newer older newer none = (λ isnt. absurd (cc), λ unrelated. absurd (none (unrelated.generation + 1) unrelated.base unrelated.based))

-- both are open, and the generations rise
pub record AreOpen (older newer : List ℕ) : Type 0 where
  pub lower : ℕ
  pub higher : ℕ
  pub older_head : HasRightHead lower older
  pub newer_head : HasRightHead higher newer
  pub rises : lower < higher

pub are_open : (older newer : List ℕ) → IsOfAnother older newer → AreOpen older newer
are_open older newer (inl far) = record { lower = far.lower; higher = far.higher; older_head = far.older_head; newer_head = far.newer_head; rises = let more = far.far in omega (arith, more) }
are_open older newer (inr unrelated) =
    let leads = unrelated.leads in
    let head = holds_head older leads.0 leads.1 in record {
      lower = leads.0.generation;
      higher = unrelated.generation + 1;
      older_head = (leads.0.version, head);
      newer_head = (unrelated.based.version, unrelated.based.head);
      rises = omega (arith, leads.2);
    }

-- a generation lies between
pub far_apart : (older newer : List ℕ) (lower higher : ℕ) → HasRightHead lower older → HasRightHead higher newer → lower + 1 < higher → IsTrue true ↔ IsOfAnother older newer
far_apart older newer lower higher head other far = (λ holds. inl (record { lower = lower; higher = higher; older_head = head; newer_head = other; far = far }), λ is. refl)

-- none does, so that the vaults decide
pub next_to : (older newer : List ℕ) (lower higher : ℕ) (is : Bool) → HasRightHead lower older → HasRightHead higher newer → higher ≡ lower + 1 → IsTrue is ↔ AreUnrelated older newer → IsTrue is ↔ IsOfAnother older newer
next_to older newer lower higher is head other next decides = (
  λ holds. inr (decides.0 holds),
  λ another. elim another [
    | inl far ↦
        let one = one_generation older far.lower lower far.older_head.1 head.1 in
        let two = one_generation newer far.higher higher far.newer_head.1 other.1 in
        let more = far.far in absurd (omega (arith, one, two, more, next))
    | inr unrelated ↦ decides.1 unrelated
  ],
)

-- the one of the greater generation isn't the older one
not_back : (first second : List ℕ) (lower higher : ℕ) → HasRightHead lower first → HasRightHead higher second → lower ≤ higher → IsOfAnother second first → ⊥
not_back first second lower higher head other rises is =
    let heads = are_open second first is in
    let one = one_generation first heads.higher lower heads.newer_head.1 head.1 in
    let two = one_generation second heads.lower higher heads.older_head.1 other.1 in
    let more = heads.rises in
    absurd (omega (arith, one, two, more, rises))

pub first_older : (first second : List ℕ) (lower higher : ℕ) (is : Bool) → HasRightHead lower first → HasRightHead higher second → lower < higher → IsTrue is ↔ IsOfAnother first second → IsTrue is ↔ AreOfTwoVaults first second
first_older first second lower higher is head other rises decides = (
  λ holds. inl (decides.0 holds),
  λ two. elim two [
    | inl another ↦ decides.1 another
    | inr back ↦ absurd (not_back first second lower higher head other (omega (arith, rises)) back)
  ],
)

pub second_older : (first second : List ℕ) (lower higher : ℕ) (is : Bool) → HasRightHead higher first → HasRightHead lower second → lower < higher → IsTrue is ↔ IsOfAnother second first → IsTrue is ↔ AreOfTwoVaults first second
second_older first second lower higher is head other rises decides = (
  λ holds. inr (decides.0 holds),
  λ two. elim two [
    | inl back ↦ absurd (not_back second first lower higher other head (omega (arith, rises)) back)
    | inr another ↦ decides.1 another
  ],
)

-- of files of which one is not open, or of one generation, nothing is said
pub first_shut : (first second : List ℕ) → ((g : ℕ) → HasRightHead g first → ⊥) → IsTrue false ↔ AreOfTwoVaults first second
first_shut first second none = (
  λ isnt. absurd (cc),
  λ two. elim two [
    | inl is ↦ absurd (none (are_open first second is).lower (are_open first second is).older_head)
    | inr is ↦ absurd (none (are_open second first is).higher (are_open second first is).newer_head)
  ],
)

pub second_shut : (first second : List ℕ) → ((g : ℕ) → HasRightHead g second → ⊥) → IsTrue false ↔ AreOfTwoVaults first second
second_shut first second none = (
  λ isnt. absurd (cc),
  λ two. elim two [
    | inl is ↦ absurd (none (are_open first second is).higher (are_open first second is).newer_head)
    | inr is ↦ absurd (none (are_open second first is).lower (are_open second first is).older_head)
  ],
)

pub one_same : (first second : List ℕ) (g k : ℕ) → g ≡ k → HasRightHead g first → HasRightHead k second → IsTrue false ↔ AreOfTwoVaults first second
one_same first second g k same head other = (
  λ isnt. absurd (cc),
  λ two. elim two [
    | inl is ↦ absurd (not_back second first k g other head (omega (arith, same)) is)
    | inr is ↦ absurd (not_back first second g k head other (omega (arith, same)) is)
  ],
)

-- why the first of two files was not read, or the second
pub first_unread : (first new second : Disk) (why : BodyError) → IsUnread first new why → AreUnread first second new second why
first_unread first new second Device cause = inl cause
first_unread first new second NoMemory quiet = (quiet, record { same_faults = refl })

pub second_unread : (first one second new : Disk) (why : BodyError) → IsQuiet first one → IsUnread second new why → AreUnread first second one new why
second_unread first one second new Device quiet cause = inr cause
second_unread first one second new NoMemory quiet still = (quiet, still)

pub unread_exchanged : (first second first_new second_new : Disk) (why : BodyError) → AreUnread second first second_new first_new why → AreUnread first second first_new second_new why
unread_exchanged first second first_new second_new Device (inl cause) = inr cause
unread_exchanged first second first_new second_new Device (inr cause) = inl cause
unread_exchanged first second first_new second_new NoMemory quiet = (quiet.1, quiet.0)

cause_behind : (old mid new : Disk) → IsQuiet old mid → HasCause mid new → HasCause old new
cause_behind old mid new quiet (inl more) = inl (omega (arith, more, quiet.same_faults))
cause_behind old mid new quiet (inr last) = inr last

-- behind calls of both that were quiet
pub unread_behind : (first second one two first_new second_new : Disk) (why : BodyError) → IsQuiet first one → IsQuiet second two → AreUnread one two first_new second_new why → AreUnread first second first_new second_new why
unread_behind first second one two first_new second_new Device quiet quiet_two (inl cause) = inl (cause_behind first one first_new quiet cause)
unread_behind first second one two first_new second_new Device quiet quiet_two (inr cause) = inr (cause_behind second two second_new quiet_two cause)
unread_behind first second one two first_new second_new NoMemory quiet quiet_two still = (record { same_faults = still.0.same_faults ∙ quiet.same_faults }, record { same_faults = still.1.same_faults ∙ quiet_two.same_faults })

pub unread_back : (first second one two first_new second_new : Disk) (why : BodyError) → IsQuiet first one → IsQuiet second two → AreUnread two one second_new first_new why → AreUnread first second first_new second_new why
unread_back first second one two first_new second_new why quiet quiet_two is = unread_behind first second one two first_new second_new why quiet quiet_two (unread_exchanged one two first_new second_new why is)

-- a file whose head isn't right
pub shut_head : (file : List ℕ) → IsClosedFile file → (g : ℕ) → HasRightHead g file → ⊥
shut_head file closed g (v, head) = not_both file closed (head_open file g head)

pub damaged_head : (file : List ℕ) (at : ℕ) → IsDamagedHead file at → (g : ℕ) → HasRightHead g file → ⊥
damaged_head file at damaged g (v, head) = head_right file g at head damaged.1

-- what was answered of two files behind calls that changed nothing
module _ (result : Result Bool BodyError) (one mid two mid_two : Disk) (reads : AreReads one mid) (reads_two : AreReads two mid_two) (lower higher : ℕ) (rises : lower < higher) (honest : IsTrue one.honest) (honest_two : IsTrue two.honest) where
  same : mid.shown ≡ one.shown
  same = (reads.read honest).shown

  same_two : mid_two.shown ≡ two.shown
  same_two = (reads_two.read honest_two).shown

  pub first_two : HasRightHead lower one.shown → HasRightHead higher two.shown
      → (IsTrue mid.honest → IsTrue mid_two.honest → HasRightHead lower mid.shown → HasRightHead higher mid_two.shown → IfOk result (λ (is : Bool). IsTrue is ↔ IsOfAnother mid.shown mid_two.shown))
      → IfOk result (λ (are : Bool). IsTrue are ↔ AreOfTwoVaults one.shown two.shown)
  first_two head other answer =
      IfOk-weaker result _ _
      (λ is decides. first_older one.shown two.shown lower higher is head other rises
      (subst (λ (f : List ℕ). IsTrue is ↔ IsOfAnother f two.shown) same (subst (λ (f : List ℕ). IsTrue is ↔ IsOfAnother mid.shown f) same_two decides)))
      (answer (honest_behind one mid reads honest) (honest_behind two mid_two reads_two honest_two) (subst (λ (f : List ℕ). HasRightHead lower f) (sym same) head) (subst (λ (f : List ℕ). HasRightHead higher f) (sym same_two) other))

  pub second_two : HasRightHead higher one.shown → HasRightHead lower two.shown
      → (IsTrue mid_two.honest → IsTrue mid.honest → HasRightHead lower mid_two.shown → HasRightHead higher mid.shown → IfOk result (λ (is : Bool). IsTrue is ↔ IsOfAnother mid_two.shown mid.shown))
      → IfOk result (λ (are : Bool). IsTrue are ↔ AreOfTwoVaults one.shown two.shown)
  second_two head other answer =
      IfOk-weaker result _ _
      (λ is decides. second_older one.shown two.shown lower higher is head other rises
      (subst (λ (f : List ℕ). IsTrue is ↔ IsOfAnother two.shown f) same (subst (λ (f : List ℕ). IsTrue is ↔ IsOfAnother f mid.shown) same_two decides)))
      (answer (honest_behind two mid_two reads_two honest_two) (honest_behind one mid reads honest) (subst (λ (f : List ℕ). HasRightHead lower f) (sym same_two) other) (subst (λ (f : List ℕ). HasRightHead higher f) (sym same) head))
