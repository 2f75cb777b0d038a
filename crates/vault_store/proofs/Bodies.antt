-- What stands in a file behind its head, read.
use Rattle.std.proofs.Common.{◌≡◌, ◌≢◌, inl, inr, ℕ, ◌+◌, ◌-◌, ◌<◌, ◌≤◌, ◌^◌, IsTrue, List, [], ◌∷◌, ◌++◌, length, get_or, take, drop, Result, refl, sym, ◌∙◌, ap, subst, arith, append_assoc, length-append, IfErr}
use Rattle.std.specs.Prelude.{slice_range}
use Rattle.std.specs.Int.{w32, from_be_bytes}
use Rattle.std.proofs.lemmas.Nat.{from_be_bytes-to_be_bytes_4}
use Rattle.std.specs.Result.{IsErrAnd}
use Rattle.std.proofs.Math.Seq.{take-add}
use Rattle.std.proofs.lemmas.List.{drop_more, drop_all, drop-drop, drop-take, take-take, length-drop, length-take-le}
use Rattle.vault_state.specs.Vault.{Vault}
use Rattle.vault_device.specs.Disk.{Disk, IsOneCall, IsRead}
use Rattle.vault_journal.specs.Spelling.{in_four}
use Rattle.vault_store.specs.declared.body.ReadError.{ReadError}
use Rattle.vault_format.specs.declared.version.FileVersion.{FileVersion}
use Rattle.vault_format.specs.Snapshot.{spelling_of, HasSpelling}
use Rattle.vault_store.specs.Calls.{IsQuiet}
use Rattle.vault_format.specs.Files.{header, head_length, head_of, snapshot_bytes, frames_bytes, Holds, HasHead, HasRightHead}
use Rattle.vault_format.specs.Faults.{version_in, snapshot_length, snapshot_in, IsVersion, IsNoSnapshot, IsBodyFault}
use Rattle.vault_store.specs.Parts.{IsWhole}
use Rattle.vault_store.specs.Read.{AreReads, IsWhy, IsBaseRead, IsBaseFault, IsFrameWrong, AreAllRead, AreContents, IsFaultBehindHead}
use Rattle.vault_format.specs.Laws.{most_snapshot}
use Rattle.vault_format.proofs.Short.{none_is_longer}
use Rattle.vault_format.proofs.Rights.{version_told, told_once}
use Rattle.vault_store.proofs.Wholes.{whole_holds}
use Rattle.vault_store.proofs.Behind.{honest_behind, and_reads, why_behind, passed_on}

pub one_read : {A E : Type 0} (old new : Disk) (result : Result A E) → IsOneCall old new result → (IsTrue old.honest → IsRead old new) → AreReads old new
one_read old new result call read = record { called = record { same_honesty = call.same_honesty; no_fewer_faults = call.no_fewer_faults }; read = read }

-- a snapshot's length, and its bytes
-- what is read from the version on: its four bytes, and those of the snapshot's length
module _ (file bytes : List ℕ) (there : bytes ≡ slice_range file 8 24) where
  pub version_there : slice_range bytes 0 4 ≡ version_in file
  version_there = ap (λ (l : List ℕ). take 4 l) there ∙ take-take 4 16 (drop 8 file) (omega arith)

  last_four : length bytes ≡ 16 → drop 12 bytes ≡ get_or bytes 12 0 ∷ get_or bytes 13 0 ∷ get_or bytes 14 0 ∷ get_or bytes 15 0 ∷ []
  last_four size =
      drop_more bytes 12 0 (omega (arith, size)) ∙ ap (λ (l : List ℕ). get_or bytes 12 0 ∷ l) (drop_more bytes 13 0 (omega (arith, size))
      ∙ ap (λ (l : List ℕ). get_or bytes 13 0 ∷ l) (drop_more bytes 14 0 (omega (arith, size))
      ∙ ap (λ (l : List ℕ). get_or bytes 14 0 ∷ l) (drop_more bytes 15 0 (omega (arith, size))
      ∙ ap (λ (l : List ℕ). get_or bytes 15 0 ∷ l) (drop_all 16 bytes (omega (arith, size))))))

  pub length_there : length bytes ≡ 16 → get_or bytes 12 0 ∷ get_or bytes 13 0 ∷ get_or bytes 14 0 ∷ get_or bytes 15 0 ∷ [] ≡ slice_range file 20 24
  length_there size = sym (last_four size) ∙ ap (λ (l : List ℕ). drop 12 l) there ∙ drop-take 12 4 (drop 8 file) ∙ ap (λ (l : List ℕ). take 4 l) (drop-drop 12 8 file)

module _ (file four bytes : List ℕ) (n : ℕ) (there : four ≡ slice_range file 20 24) (spelled : four ≡ in_four n) (are : bytes ≡ slice_range file header (header + n)) where
  pub base_bytes : (version : FileVersion) (base : Vault) → bytes ≡ spelling_of version base → length bytes ≡ n → take (header + n) file ≡ take head_length file ++ snapshot_bytes version base
  base_bytes version base is size =
      take-add header n file
      ∙ ap (λ (l : List ℕ). l ++ take n (drop header file)) (take-add head_length 4 file ∙ ap (λ (l : List ℕ). take head_length file ++ l) (sym there ∙ spelled ∙ ap in_four (sym size ∙ ap length is)))
      ∙ ap (λ (l : List ℕ). (take head_length file ++ in_four (length (spelling_of version base))) ++ l) (ap (λ (k : ℕ). take k (drop header file)) whole ∙ sym are ∙ is)
      ∙ append_assoc (take head_length file) (in_four (length (spelling_of version base))) (spelling_of version base)
    where
      whole : n ≡ header + n - header
      whole = omega arith

-- what is wrong with the snapshot whose length is spelled there
module _ (file four : List ℕ) (n : ℕ) (there : four ≡ slice_range file 20 24) (spelled : four ≡ in_four n) (fits : n < 2 ^ 32) where
  length_is : snapshot_length file ≡ n
  length_is = ap (from_be_bytes w32) (sym there ∙ spelled) ∙ from_be_bytes-to_be_bytes_4 n fits

  pub too_short : length file ≤ header + n → IsBaseFault file head_length
  too_short short version told = inl (refl, omega (arith, short, length_is))

  snapshot_size : header + n < length file → length (snapshot_in file) ≡ n
  snapshot_size within =
      ap (λ (k : ℕ). length (slice_range file header (header + k))) length_is
      ∙ length-take-le (header + n - header) (drop header file) (omega (arith, within, whole, length-drop header file)) ∙ whole
    where
      whole : header + n - header ≡ n
      whole = omega arith

  -- no vault's snapshot is so long
  pub too_long : header + n < length file → most_snapshot < n → IsBaseFault file header
  too_long within more version told =
      inr (
        refl,
        omega (arith, within, length_is),
        λ v has same.
            let size = snapshot_size within in
            let most = none_is_longer version v has in
            absurd (omega (arith, size, ap length same, most, more)),
      )

  pub none_spelled : (version : FileVersion) (bytes : List ℕ) → bytes ≡ slice_range file header (header + n) → header + n < length file → IsVersion version (version_in file)
      → ((v : Vault) → HasSpelling version v → bytes ≢ spelling_of version v) → IsBaseFault file header
  none_spelled version bytes are within here none other told =
      inr (
        refl,
        omega (arith, within, length_is),
        subst (λ (v : FileVersion). IsNoSnapshot v (snapshot_in file)) (told_once version other (version_in file) here told)
            (λ v has same. none v has (are ∙ ap (λ (k : ℕ). slice_range file header (header + k)) (sym length_is) ∙ same)),
      )

-- a file without a whole header
pub short_file : (file : List ℕ) → length file < header → IsBaseFault file head_length
short_file file short version told = inl (refl, omega (arith, short))

-- what was read of a snapshot behind other reads
pub base_moved : (old one : Disk) (len : ℕ) (version : FileVersion) (base : Vault) (end : ℕ) → AreReads old one → len ≡ length old.shown → IsBaseRead one len version base end → IsBaseRead old (length old.shown) version base end
base_moved old one len version base end reads size read = record {
  told = λ honest. subst (λ (file : List ℕ). IsVersion version (version_in file)) (reads.read honest).shown (read.told (honest_behind old one reads honest));
  spelled = read.spelled;
  size = read.size;
  within = omega (arith, size, read.within);
  bytes = λ honest. subst (λ (file : List ℕ). take end file ≡ take head_length file ++ snapshot_bytes version base) (reads.read honest).shown (read.bytes (honest_behind old one reads honest));
}

-- the snapshot, then the frames
module _ (old one two : Disk) (first : AreReads old one) (second : AreReads one two) (len end : ℕ) (size : IsTrue old.honest → len ≡ length old.shown) (version : FileVersion) (base : Vault) (read : IsBaseRead one len version base end) where
  same : IsTrue old.honest → two.shown ≡ old.shown
  same honest = (second.read (honest_behind old one first honest)).shown ∙ (first.read honest).shown

  base_is : IsTrue old.honest → take end old.shown ≡ take head_length old.shown ++ snapshot_bytes version base
  base_is honest = subst (λ (file : List ℕ). take end file ≡ take head_length file ++ snapshot_bytes version base) (first.read honest).shown (read.bytes (honest_behind old one first honest))

  pub frames_wrong : {T : Type 0} (three : Disk) (result : Result T ReadError) (why : ReadError) → IsQuiet old two → IsWhy two three (IsFrameWrong end base two.shown) why → IsErrAnd result (λ (e : ReadError). e ≡ why)
      → IfErr result (λ (e : ReadError). IsWhy old three (IsFaultBehindHead old.shown) e)
  frames_wrong three result why quiet refused is =
      passed_on result why (λ (e : ReadError). IsWhy old three (IsFaultBehindHead old.shown) e) is
      (why_behind old two three (IsFrameWrong end base two.shown) (IsFaultBehindHead old.shown) (and_reads old one two first second) quiet wrong why refused)
    where
      fault : (at : ℕ) → IsTrue old.honest → IsFrameWrong end base two.shown at → (generation : ℕ) → HasHead version generation old.shown → IsBodyFault version old.shown at
      fault at honest is_wrong generation head =
          let here = subst (λ (file : List ℕ). IsFrameWrong end base file at) (same honest) is_wrong in
          inr (record {
            generation = generation;
            base = base;
            frames = here.frames;
            vault = here.vault;
            spelled = read.spelled;
            each = here.each;
            begins = here.bytes ∙ ap (λ (l : List ℕ). l ++ frames_bytes here.frames) (base_is honest ∙ ap (λ (l : List ℕ). l ++ snapshot_bytes version base) head.head);
            leads = here.leads;
            within = here.within;
            gate = here.opened;
            none = here.none;
          })

      wrong : (at : ℕ) → IsTrue old.honest → IsFrameWrong end base two.shown at → IsFaultBehindHead old.shown at
      wrong at honest is_wrong v generation head =
          let told = subst (λ (file : List ℕ). IsVersion version (version_in file)) (first.read honest).shown (read.told (honest_behind old one first honest)) in
          let same_version : version ≡ v = told_once version v (version_in old.shown) told (version_told old.shown generation head) in
          subst (λ (n : FileVersion). IsBodyFault n old.shown at) same_version (fault at honest is_wrong generation (subst (λ (n : FileVersion). HasHead n generation old.shown) (sym same_version) head))

  pub contents_read : (v : Vault) (count tail journal_length : ℕ) → journal_length ≡ tail - end → AreAllRead two len end base v count tail → AreContents old version v count tail journal_length
  contents_read v count tail journal_length is all = record {
    base = base;
    list = all.frames.frames;
    told = λ honest. subst (λ (file : List ℕ). IsVersion version (version_in file)) (first.read honest).shown (read.told (honest_behind old one first honest));
    spelled = read.spelled;
    each = all.frames.each;
    leads = all.frames.leads;
    frames_are = all.frames.count_is;
    journal_is = omega (arith, is, all.frames.size);
    tail_is = omega (arith, is, all.frames.size, read.size);
    bytes = λ honest.
        subst (λ (file : List ℕ). take tail file ≡ take end file ++ frames_bytes all.frames.frames) (same honest) (all.frames.bytes (honest_two honest))
        ∙ ap (λ (l : List ℕ). l ++ frames_bytes all.frames.frames) (base_is honest);
    closed = λ honest. record {
      stands = let inside = size honest in omega (arith, inside, all.frames.within);
      shut = λ one. all.shut (honest_two honest) (ap (λ (file : List ℕ). get_or file tail 0) (same honest) ∙ one);
    };
  }
    where
      honest_two : IsTrue old.honest → IsTrue two.honest
      honest_two honest = honest_behind one two second (honest_behind old one first honest)

pub snapshot_wrong : {T : Type 0} (old one three : Disk) (first : AreReads old one) (result : Result T ReadError) (why : ReadError) → IsQuiet old one → IsWhy one three (IsBaseFault one.shown) why → IsErrAnd result (λ (e : ReadError). e ≡ why)
    → IfErr result (λ (e : ReadError). IsWhy old three (IsFaultBehindHead old.shown) e)
snapshot_wrong old one three first result why quiet refused is =
    passed_on result why (λ (e : ReadError). IsWhy old three (IsFaultBehindHead old.shown) e) is
    (why_behind old one three (IsBaseFault one.shown) (IsFaultBehindHead old.shown) first quiet
    (λ at honest fault v generation head. inl (subst (λ (file : List ℕ). IsBaseFault file at) (first.read honest).shown fault v (version_told old.shown generation head))) why refused)

-- what stands behind a right head is a whole file
module _ (disk : Disk) (version : FileVersion) (v : Vault) (frames tail journal_length generation : ℕ) (contents : AreContents disk version v frames tail journal_length) (honest : IsTrue disk.honest) where
  -- the head is of the version that was read
  head_is : {w : FileVersion} → HasHead w generation disk.shown → w ≡ version
  head_is {w} head = told_once w version (version_in disk.shown) (version_told disk.shown generation head) (contents.told honest)

module _ (disk : Disk) (version : FileVersion) (v : Vault) (frames tail journal_length generation : ℕ) (contents : AreContents disk version v frames tail journal_length) (honest : IsTrue disk.honest) (head : HasHead version generation disk.shown) where
  abbrev front : List ℕ
  front = (head_of version generation ++ snapshot_bytes version contents.base) ++ frames_bytes contents.list

  tail_there : tail ≡ length front
  tail_there =
      omega (
        arith,
        contents.tail_is,
        contents.journal_is,
        length-append (head_of version generation ++ snapshot_bytes version contents.base) (frames_bytes contents.list),
        length-append (in_four (length (spelling_of version contents.base))) (spelling_of version contents.base),
      )

  begins : take tail disk.shown ≡ front
  begins = contents.bytes honest ∙ ap (λ (l : List ℕ). (l ++ snapshot_bytes version contents.base) ++ frames_bytes contents.list) head.head

  whole_here : IsWhole version generation disk.shown v frames tail
  whole_here = record {
    base = contents.base;
    list = contents.list;
    spelled = contents.spelled;
    each = contents.each;
    begins = begins;
    leads = contents.leads;
    frames_are = contents.frames_are;
    tail_is = tail_there;
    closed = contents.closed honest;
  }

  holds_here : Holds disk.shown (record { vault = v; version = version; generation = generation; tail = tail; journal_length = journal_length })
  unfolding whole_here
  holds_here = whole_holds disk.shown version generation v frames tail journal_length head whole_here contents.journal_is

module _ (disk : Disk) (version : FileVersion) (v : Vault) (frames tail journal_length generation : ℕ) (contents : AreContents disk version v frames tail journal_length) (honest : IsTrue disk.honest) where
  pub whole_read : (w : FileVersion) → HasHead w generation disk.shown → IsWhole w generation disk.shown v frames tail
  whole_read w head =
      let same = head_is disk version v frames tail journal_length generation contents honest head in
      subst (λ (n : FileVersion). IsWhole n generation disk.shown v frames tail) (sym same) (whole_here disk version v frames tail journal_length generation contents honest (subst (λ (n : FileVersion). HasHead n generation disk.shown) same head))

  pub holds_read : HasRightHead generation disk.shown → Holds disk.shown (record { vault = v; version = version; generation = generation; tail = tail; journal_length = journal_length })
  holds_read (w, head) =
      let same = head_is disk version v frames tail journal_length generation contents honest head in
      holds_here disk version v frames tail journal_length generation contents honest (subst (λ (n : FileVersion). HasHead n generation disk.shown) same head)
