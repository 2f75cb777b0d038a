-- From what is read of two files to what they are found to be.
use Rattle.std.proofs.Common.{◌≡◌, inl, inr, ℕ, ◌<◌, ◌≤◌, IsTrue, Bool, true, false, cond, List, length, Option, Some, None, refl, sym, subst, arith}
use Rattle.std.specs.Prelude.{◌==◌}
use Rattle.std.proofs.lemmas.Bool.Decides.{nat_tests}
use Rattle.vault_state.specs.Vault.{Vault}
use Rattle.vault_device.specs.Disk.{Disk}
use Rattle.vault_store.specs.declared.front.Head.{Head}
use Rattle.vault_store.specs.declared.front.Head.TheVariants as heads
use Rattle.vault_store.specs.declared.opening.File.TheVariants.{First, Second}
use Rattle.vault_store.specs.declared.opening.OpenError.TheVariants as why
use Rattle.vault_format.specs.declared.version.FileVersion.{FileVersion}
use Rattle.vault_format.specs.Files.{frames_bytes, Holds, IsSpare, HasHead, HasRightHead}
use Rattle.vault_store.specs.Parts.{IsHead, IsWhole}
use Rattle.vault_format.specs.Faults.{IsBodyFault}
use Rattle.vault_store.specs.Read.{AreReads}
use Rattle.vault_store.proofs.Wholes.{whole_holds}
use Rattle.vault_inspector.specs.declared.report.FileState.{FileState}
use Rattle.vault_inspector.specs.declared.report.FileState.TheVariants.{Closed, Open, Older, Damaged}
use Rattle.vault_inspector.specs.declared.inspecting.Right.{Right}
use Rattle.vault_inspector.specs.declared.inspecting.Active.TheVariants as active
use Rattle.vault_inspector.specs.Found.{right_in, active_among, head_state, beside, found, IsActiveRead}
use Rattle.vault_inspector.specs.States.{IsFirstActive, IsSecondActive, IsFirstState, IsSecondState, IsVaultFound}
use Rattle.vault_inspector.proofs.Heads.{generation_told, head_there}
use Rattle.vault_inspector.proofs.Choices.{first_chosen, second_chosen, none_chosen}

-- what is read behind reads that changed nothing
pub read_behind : (old mid : Disk) (r : Right) (state : FileState) (vault : Option Vault) → AreReads old mid → IsTrue old.honest
    → (IsTrue mid.honest → HasHead r.version r.generation mid.shown → IsActiveRead r mid.shown state vault) → HasHead r.version r.generation old.shown → IsActiveRead r old.shown state vault
read_behind old mid r state vault reads honest read head =
    let shown = (reads.read honest).shown in
    subst (λ (file : List ℕ). IsActiveRead r file state vault) shown
    (read (subst IsTrue (sym reads.called.same_honesty) honest) (subst (HasHead r.version r.generation) (sym shown) head))

-- a whole file with a right head is read
holds : (file : List ℕ) (r : Right) (vault : Vault) (frames tail : ℕ) → HasHead r.version r.generation file → (whole : IsWhole r.version r.generation file vault frames tail)
    → Holds file (record { vault = vault; version = r.version; generation = r.generation; tail = tail; journal_length = length (frames_bytes whole.list) })
holds file r vault frames tail head whole = whole_holds file r.version r.generation vault frames tail _ head whole refl

-- what was read of the active file: all of it, or a fault behind its head
by_read : (file : List ℕ) (r : Right) (P : FileState → Option Vault → Type 0)
    → ((frames tail : ℕ) (v : Vault) → IsWhole r.version r.generation file v frames tail → P (Open r.generation frames tail r.version) (Some v))
    → ((offset : ℕ) → IsBodyFault r.version file offset → P (Damaged offset) None)
    → (state : FileState) (vault : Option Vault) → IsActiveRead r file state vault → P state vault
by_read file r P whole fault Closed vault read = absurd read
by_read file r P whole fault (Open own frames tail version) None read = absurd read
by_read file r P whole fault (Open own frames tail version) (Some v) read =
    subst (λ (n : FileVersion). P (Open own frames tail n) (Some v)) (sym read.0) (subst (λ (k : ℕ). P (Open k frames tail r.version) (Some v)) (sym read.1) (whole frames tail v read.2))
by_read file r P whole fault (Older own) vault read = absurd read
by_read file r P whole fault (Damaged offset) None read = fault offset read
by_read file r P whole fault (Damaged offset) (Some v) read = absurd read

-- a head beside that of the active file: closed, right and of a smaller generation, of the same one, or faulty
module _ (first second : List ℕ) (a b : Head) (is_a : IsHead first a) (is_b : IsHead second b) where
  -- the first file is the active one
  module _ (r : Right) (chosen : active_among (right_in a) (right_in b) ≡ active.First r) where
    pub first_head : HasHead r.version r.generation first
    first_head = head_there first a r is_a (first_chosen (right_in a) (right_in b) r chosen).0

    first_newest : (other : Right) → right_in b ≡ Some other → other.generation ≤ r.generation
    first_newest = (first_chosen (right_in a) (right_in b) r chosen).1

    first_active : IsFirstActive first second r.version r.generation
    first_active = record { head = first_head; newest = λ other right. let told = generation_told second b other is_b right in subst (λ (n : ℕ). n ≤ r.generation) told.2 (first_newest told.0 told.1) }

    pub first_is : (state : FileState) (vault : Option Vault) → IsActiveRead r first state vault → IsFirstState first second state
    first_is = by_read first r (λ state vault. IsFirstState first second state) (λ frames tail v whole. (first_active, (v, whole))) (λ offset fault. inr (r.version, r.generation, first_active, fault))

    pub second_beside : (h : Head) → IsHead second h → ((other : Right) → right_in h ≡ Some other → other.generation ≤ r.generation) → IsSecondState first second (beside h r.generation)
    second_beside heads.Closed is newest = is
    second_beside (heads.Damaged at) is newest = inl is
    second_beside (heads.Open v own) is newest = by_test (own == r.generation) refl
      where
        by_test : (t : Bool) → (own == r.generation) ≡ t → IsSecondState first second (cond t (Damaged 12) (Older own))
        by_test true same = let equal : own ≡ r.generation = grind (arith, nat_tests, same) in inr (inl (refl, (r.generation, (r.version, first_head), subst (λ (k : ℕ). HasRightHead k second) equal (v, is))))
        by_test false other = let less : own < r.generation = (let most = newest (record { version = v; generation = own }) refl in grind (arith, nat_tests, other, most)) in ((v, is), (r.generation, less, (r.version, first_head)))

    first_vault : (state : FileState) (vault : Option Vault) → IsActiveRead r first state vault → IsSpare r.generation second → IsVaultFound first second vault
    first_vault state vault read spare =
        by_read first r (λ state found. IsVaultFound first second found)
        (λ frames tail v whole. (_, inl (holds first r v frames tail first_head whole, spare), refl))
        (λ offset fault. (why.Damaged First offset, tt, inr (record { version = r.version; generation = r.generation; head = first_head; spare = spare; fault = fault }))) state vault read

    vault_of_first : (h : Head) → IsHead second h → ((other : Right) → right_in h ≡ Some other → other.generation ≤ r.generation)
        → (state : FileState) (vault : Option Vault) → IsActiveRead r first state vault → IsVaultFound first second (found vault (beside h r.generation))
    vault_of_first heads.Closed is newest state vault read = first_vault state vault read (inl is)
    vault_of_first (heads.Damaged at) is newest state vault read = (why.Damaged Second at, tt, inl (inr (r.generation, (r.version, first_head)), is))
    vault_of_first (heads.Open v own) is newest state vault read = by_test (own == r.generation) refl
      where
        by_test : (t : Bool) → (own == r.generation) ≡ t → IsVaultFound first second (found vault (cond t (Damaged 12) (Older own)))
        by_test true same = let equal : own ≡ r.generation = grind (arith, nat_tests, same) in (why.Damaged Second 12, tt, inr (inl (r.generation, (r.version, first_head), subst (λ (k : ℕ). HasRightHead k second) equal (v, is), refl)))
        by_test false other = let less : own < r.generation = (let most = newest (record { version = v; generation = own }) refl in grind (arith, nat_tests, other, most)) in first_vault state vault read (inr (own, less, (v, is)))

    pub second_is : IsSecondState first second (beside b r.generation)
    second_is = second_beside b is_b first_newest

    pub vault_by_first : (state : FileState) (vault : Option Vault) → IsActiveRead r first state vault → IsVaultFound first second (found vault (beside b r.generation))
    vault_by_first = vault_of_first b is_b first_newest

  -- the second file is the active one
  module _ (r : Right) (chosen : active_among (right_in a) (right_in b) ≡ active.Second r) where
    pub second_head : HasHead r.version r.generation second
    second_head = head_there second b r is_b (second_chosen (right_in a) (right_in b) r chosen).0

    second_newest : (other : Right) → right_in a ≡ Some other → other.generation < r.generation
    second_newest = (second_chosen (right_in a) (right_in b) r chosen).1

    second_active : IsSecondActive first second r.version r.generation
    second_active = record { head = second_head; newest = λ other right. let told = generation_told first a other is_a right in subst (λ (n : ℕ). n < r.generation) told.2 (second_newest told.0 told.1) }

    pub active_second : (state : FileState) (vault : Option Vault) → IsActiveRead r second state vault → IsSecondState first second state
    active_second = by_read second r (λ state vault. IsSecondState first second state) (λ frames tail v whole. (second_active, (v, whole))) (λ offset fault. inr (inr (r.version, r.generation, second_active, fault)))

    not_same : (own : ℕ) → own < r.generation → (own == r.generation) ≡ true → ⊥
    not_same own less same = let equal : own ≡ r.generation = grind (arith, nat_tests, same) in omega (arith, equal, less)

    first_beside : (h : Head) → IsHead first h → ((other : Right) → right_in h ≡ Some other → other.generation < r.generation) → IsFirstState first second (beside h r.generation)
    first_beside heads.Closed is newest = is
    first_beside (heads.Damaged at) is newest = inl is
    first_beside (heads.Open v own) is newest = by_test (own == r.generation) refl
      where
        by_test : (t : Bool) → (own == r.generation) ≡ t → IsFirstState first second (cond t (Damaged 12) (Older own))
        by_test true same = absurd (not_same own (newest (record { version = v; generation = own }) refl) same)
        by_test false other = ((v, is), (r.generation, newest (record { version = v; generation = own }) refl, (r.version, second_head)))

    second_vault : (state : FileState) (vault : Option Vault) → IsActiveRead r second state vault → IsSpare r.generation first → IsVaultFound first second vault
    second_vault state vault read spare =
        by_read second r (λ state found. IsVaultFound first second found)
        (λ frames tail v whole. (_, inr (holds second r v frames tail second_head whole, spare), refl))
        (λ offset fault. (why.Damaged Second offset, tt, inr (inr (record { version = r.version; generation = r.generation; head = second_head; spare = spare; fault = fault })))) state vault read

    vault_of_second : (h : Head) → IsHead first h → ((other : Right) → right_in h ≡ Some other → other.generation < r.generation)
        → (state : FileState) (vault : Option Vault) → IsActiveRead r second state vault → IsVaultFound first second (found vault (beside h r.generation))
    vault_of_second heads.Closed is newest state vault read = second_vault state vault read (inl is)
    vault_of_second (heads.Damaged at) is newest state vault read = (why.Damaged First at, tt, inl is)
    vault_of_second (heads.Open v own) is newest state vault read = by_test (own == r.generation) refl
      where
        by_test : (t : Bool) → (own == r.generation) ≡ t → IsVaultFound first second (found vault (cond t (Damaged 12) (Older own)))
        by_test true same = absurd (not_same own (newest (record { version = v; generation = own }) refl) same)
        by_test false other = second_vault state vault read (inr (own, newest (record { version = v; generation = own }) refl, (v, is)))

    pub beside_second : IsFirstState first second (beside a r.generation)
    beside_second = first_beside a is_a second_newest

    pub vault_by_second : (state : FileState) (vault : Option Vault) → IsActiveRead r second state vault → IsVaultFound first second (found vault (beside a r.generation))
    vault_by_second = vault_of_second a is_a second_newest

-- neither file is open with a right head
none_found : (first second : List ℕ) (a b : Head) → IsHead first a → IsHead second b → right_in a ≡ None → right_in b ≡ None → IsVaultFound first second None
none_found first second heads.Closed heads.Closed is_a is_b no_a no_b = (why.NoVault, tt, (is_a, is_b))
none_found first second heads.Closed (heads.Damaged at) is_a is_b no_a no_b = (why.Damaged Second at, tt, inl (inl is_a, is_b))
none_found first second heads.Closed (heads.Open v own) is_a is_b no_a no_b = cc
none_found first second (heads.Damaged at) b is_a is_b no_a no_b = (why.Damaged First at, tt, inl is_a)
none_found first second (heads.Open v own) b is_a is_b no_a no_b = cc

head_first : (first second : List ℕ) (a : Head) → IsHead first a → right_in a ≡ None → IsFirstState first second (head_state a)
head_first first second heads.Closed is lacks = is
head_first first second (heads.Damaged at) is lacks = inl is
head_first first second (heads.Open v own) is lacks = cc

head_second : (first second : List ℕ) (b : Head) → IsHead second b → right_in b ≡ None → IsSecondState first second (head_state b)
head_second first second heads.Closed is lacks = is
head_second first second (heads.Damaged at) is lacks = inl is
head_second first second (heads.Open v own) is lacks = cc

module _ (first second : List ℕ) (a b : Head) (is_a : IsHead first a) (is_b : IsHead second b) (chosen : active_among (right_in a) (right_in b) ≡ active.Neither) where
  pub no_active : IsFirstState first second (head_state a) × IsSecondState first second (head_state b) × IsVaultFound first second None
  no_active =
      let none = none_chosen (right_in a) (right_in b) chosen in
      (head_first first second a is_a none.0, head_second first second b is_b none.1, none_found first second a b is_a is_b none.0 none.1)
