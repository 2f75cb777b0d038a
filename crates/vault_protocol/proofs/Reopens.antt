-- What a vault in memory is read as after its devices crashed with a pick.
use Rattle.std.proofs.Common.{◌≡◌, ℕ, ◌+◌, ◌&&◌, IsTrue, Bool, true, false, cond, List, [], length, refl, sym, ap, ◌∙◌, subst, arith}
use Rattle.std.specs.Prelude.{◌↔◌, slice_index, Ok}
use Rattle.vault_state.specs.Vault.{Vault, durable}
use Rattle.vault_device.specs.declared.history.Pick.{Pick}
use Rattle.vault_device.specs.Memory.{content_of, picked}
use Rattle.vault_device.specs.MemDevice.{MemDisk, disk_of}
use Rattle.vault_journal.specs.Spelling.{records_of}
use Rattle.vault_format.specs.declared.version.FileVersion.{FileVersion}
use Rattle.vault_store.specs.declared.opening.File.{File}
use Rattle.vault_store.specs.declared.opening.File.TheVariants.{First, Second}
use Rattle.vault_store.specs.declared.phase.Advanced.TheVariants.{Settled}
use Rattle.vault_format.specs.Files.{header, frame_extra, Reading, AreRead}
use Rattle.vault_store.specs.Phases.{is_snapshot, is_opening}
use Rattle.vault_store.specs.Seen.{of_file, first_of, second_of, Keeps, settled_reading, sealed_reading, gate_at, gated, IsByGate, IsLeftWhile}
use Rattle.vault_store.specs.Laws.{AreHonest, OneReading}
use Rattle.vault_store.proofs.Busy.{opening_is_busy}
use Rattle.group_commit.specs.View.{view_at}
use Rattle.group_commit.specs.Seen.{VaultSeen, snapshot_length, state_of, effects_between}
use Rattle.group_commit.specs.Calls.{behind_snapshot, gained, generation_after, tail_after}
use Rattle.group_commit.specs.Promises.{ImagesStand}
use Rattle.vault_device.specs.Picks.{gives_one}
use Rattle.vault_device.proofs.Picks.{picks_decide}

-- what a crash leaves, if the gate that is being opened is found open, and if it isn't
pub record IsReopened (seen : VaultSeen MemDisk) (opened : Bool) (base : Vault) (generation tail : ℕ) : Type 0 where
  pub base_is : base ≡ durable (view_at seen.view (cond opened seen.view.sealed seen.view.settled))
  pub generation_is : generation ≡ cond opened (generation_after seen.view (Ok Settled) seen.store.generation) seen.store.generation
  pub tail_is : tail ≡ cond opened (tail_after seen.view (Ok Settled) seen.store.tail) seen.store.tail

-- what one pick leaves of the active file, whether it is the first or the second
picked_active : (pick : Pick) (which : File) (active spare : MemDisk) (x y : List ℕ) → x ≡ picked pick (content_of (of_file which active spare).history) → y ≡ picked pick (content_of (of_file which spare active).history)
    → of_file which x y ≡ picked pick (content_of active.history)
picked_active pick First active spare x y is also = is
picked_active pick Second active spare x y is also = also

-- what it leaves of one of two files
picked_one : (pick : Pick) (b : Bool) (active spare : MemDisk) (x y : List ℕ) → x ≡ picked pick (content_of active.history) → y ≡ picked pick (content_of spare.history) → cond b y x ≡ picked pick (content_of (cond b spare active).history)
picked_one pick true active spare x y is also = also
picked_one pick false active spare x y is also = is

module _ (seen : VaultSeen MemDisk) (pick : Pick) (x y : List ℕ) (base : Vault) (version : FileVersion) (generation tail journal_length : ℕ)
    (keeps : Keeps disk_of seen.store (state_of seen.view)) (stand : ImagesStand disk_of seen) (one : OneReading) (whole : seen.view.broken ≡ false)
    (is : x ≡ picked pick (content_of (first_of seen.store).history)) (also : y ≡ picked pick (content_of (second_of seen.store).history))
    (image : (disk_of (first_of seen.store)).IsImage x) (other : (disk_of (second_of seen.store)).IsImage y)
    (read : AreRead x y (record { vault = base; version = version; generation = generation; tail = tail; journal_length = journal_length })) where
  honest : AreHonest disk_of seen.store
  honest = record { first = refl; second = refl }

  -- what the crash left of the file whose gate is being opened
  abbrev left_active : List ℕ
  left_active = of_file seen.store.which x y

  abbrev left_spare : List ℕ
  left_spare = of_file seen.store.which y x

  abbrev left_gated : List ℕ
  left_gated = gated seen.view.phase left_active left_spare

  abbrev settled : Reading
  settled = settled_reading seen.store (state_of seen.view)

  abbrev sealed : Reading
  sealed = sealed_reading seen.store (state_of seen.view)

  settled_read : AreRead x y settled → IsReopened seen false base generation tail
  settled_read left =
      let same = one x y _ _ read left in
      record { base_is = ap (λ (r : Reading). r.vault) same; generation_is = ap (λ (r : Reading). r.generation) same; tail_is = ap (λ (r : Reading). r.tail) same }

  sealed_vault : is_opening seen.view.phase ≡ true → (state_of seen.view).sealed ≡ durable (view_at seen.view seen.view.sealed)
  sealed_vault opens = ap (λ b. durable (view_at seen.view (cond b seen.view.settled seen.view.sealed))) (opening_is_busy seen.view.phase opens)

  frame_bytes : is_opening seen.view.phase ≡ true → is_snapshot seen.view.phase ≡ false → frame_extra + seen.store.sealed ≡ gained seen.view (Ok Settled)
  frame_bytes opens commit =
      let busy = opening_is_busy seen.view.phase opens in
      ap (λ n. frame_extra + n) (keeps.sealed_bytes ∙ ap (λ b. cond b 0 (length (records_of (state_of seen.view).sealing))) commit ∙ ap (λ b. length (records_of (cond b [] (effects_between seen.view seen.view.settled seen.view.sealed)))) busy)
      ∙ ap (λ b. cond b 0 (frame_extra + length (records_of (effects_between seen.view seen.view.settled seen.view.sealed)))) (sym busy)

  sealed_tail : is_opening seen.view.phase ≡ true → sealed.tail ≡ tail_after seen.view (Ok Settled) seen.store.tail
  sealed_tail opens = by_test (is_snapshot seen.view.phase) refl
    where
      by_test : (b : Bool) → is_snapshot seen.view.phase ≡ b
          → cond b (header + snapshot_length (state_of seen.view).sealed) (seen.store.tail + frame_extra + seen.store.sealed) ≡ cond b (behind_snapshot seen.view) (seen.store.tail + gained seen.view (Ok Settled))
      by_test true e = ap (λ v. header + snapshot_length v) (sealed_vault opens)
      by_test false e = let more : frame_extra + seen.store.sealed ≡ gained seen.view (Ok Settled) = frame_bytes opens e in omega (arith, more)

  sealed_read : is_opening seen.view.phase ≡ true → AreRead x y sealed → IsReopened seen true base generation tail
  sealed_read opens left =
      let same = one x y _ _ read left in
      record {
        base_is = ap (λ (r : Reading). r.vault) same ∙ sealed_vault opens;
        generation_is = ap (λ (r : Reading). r.generation) same;
        tail_is = ap (λ (r : Reading). r.tail) same ∙ sealed_tail opens;
      }

  by_pick : is_opening seen.view.phase ≡ true → (b : Bool) → (slice_index left_gated (gate_at seen.store seen.view.phase) ≡ 1) ↔ IsTrue b
      → IsByGate (gate_at seen.store seen.view.phase) settled sealed left_gated x y → IsReopened seen b base generation tail
  by_pick opens true gate left = sealed_read opens (left.opened (gate.1 refl))
  by_pick opens false gate left = settled_read (left.shut (λ one. absurd (cc (gate.0 one))))

  left_while : (b : Bool) → is_opening seen.view.phase ≡ b → IsLeftWhile b (gate_at seen.store seen.view.phase) settled sealed left_gated x y
  left_while b e = subst (λ b. IsLeftWhile b (gate_at seen.store seen.view.phase) settled sealed left_gated x y) e (stand.left x y (honest, image, other))

  closed : is_opening seen.view.phase ≡ false → IsReopened seen (gives_one pick && is_opening seen.view.phase) base generation tail
  closed e = subst (λ b. IsReopened seen b base generation tail) (sym (ap (λ b. gives_one pick && b) e ∙ never (gives_one pick))) (settled_read (left_while false e))
    where
      never : (b : Bool) → (b && false) ≡ false
      never true = refl
      never false = refl

  gated_is : left_gated ≡ picked pick (content_of (gated seen.view.phase seen.store.active seen.store.spare).history)
  gated_is =
      picked_one pick (is_snapshot seen.view.phase) seen.store.active seen.store.spare left_active left_spare
      (picked_active pick seen.store.which seen.store.active seen.store.spare x y is also) (picked_active pick seen.store.which seen.store.spare seen.store.active y x also is)

  opening : is_opening seen.view.phase ≡ true → IsReopened seen (gives_one pick && is_opening seen.view.phase) base generation tail
  opening e =
      let here = stand.gate honest e whole in
      let decided = picks_decide (gated seen.view.phase seen.store.active seen.store.spare).history (gate_at seen.store seen.view.phase) here.opened here.was_shut pick in
      subst (λ b. IsReopened seen b base generation tail) (sym (ap (λ b. gives_one pick && b) e ∙ always (gives_one pick)))
      (by_pick e (gives_one pick) (subst (λ (bytes : List ℕ). (slice_index bytes (gate_at seen.store seen.view.phase) ≡ 1) ↔ IsTrue (gives_one pick)) (sym gated_is) decided) (left_while true e))
    where
      always : (b : Bool) → (b && true) ≡ b
      always true = refl
      always false = refl

  pub reopens : IsReopened seen (gives_one pick && is_opening seen.view.phase) base generation tail
  reopens = by_test (is_opening seen.view.phase) refl
    where
      by_test : (b : Bool) → is_opening seen.view.phase ≡ b → IsReopened seen (gives_one pick && is_opening seen.view.phase) base generation tail
      by_test true e = opening e
      by_test false e = closed e
