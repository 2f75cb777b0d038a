-- The spare file, from phase to phase.
use Rattle.std.proofs.Common.{◌≡◌, inl, inr, ℕ, ◌+◌, ◌<◌, ◌≤◌, ◌^◌, Bool, true, false, List, [], ◌∷◌, ◌++◌, length, get_or, set, drop, refl, sym, ◌∙◌, ap, subst, arith, append_assoc, length-append, take-append-drop}
use Rattle.std.proofs.lemmas.Bool.{cases_eq, cases_lt, false≢true}
use Rattle.std.proofs.lemmas.List.{set-get_or, drop_more, append-nil, take_all}
use Rattle.vault_state.specs.Vault.{Vault}
use Rattle.vault_device.specs.Disk.{Disk, IsTorn}
use Rattle.vault_device.proofs.Torn.{torn_byte}
use Rattle.vault_journal.specs.Spelling.{in_four, in_eight}
use Rattle.vault_journal.specs.Gate.{IsClosed}
use Rattle.vault_store.specs.declared.phase.Phase.{Phase}
use Rattle.vault_store.specs.declared.phase.Phase.TheVariants.{Idle, Written, Bodied, Opening, Start, Closing, Writing, Filled, Ready, SnapOpening}
use Rattle.vault_format.specs.Snapshot.{current_version, snapshot_of, HasSnapshot}
use Rattle.vault_format.specs.Files.{header, mark, version_number, current_head, snapshot_bytes, behind_gate, IsFront, EndsBehind, IsClosedFile, IsSpare}
use Rattle.vault_store.specs.Phases.{is_snapshot}
use Rattle.vault_store.specs.Spares.{ClosedMayStand, HasFirst, IsAside, IsSpareIn, LeavesSpareIn, IsSpareOn}
use Rattle.vault_store.proofs.Fronts.{ends_before}
use Rattle.vault_format.proofs.Spelled.{now_spelled}

-- a closed file is a spare
pub closed_spare : (g : ℕ) → ClosedMayStand (IsSpare g)
closed_spare g x closed = inl (inr closed.shut)

-- what a torn write leaves of what may stand there without a closed head gate may stand there, where each closed file may
pub torn_stands : (MayStand : List ℕ → Type 0) → ((x : List ℕ) → IsClosedFile x → MayStand x) → (x y : List ℕ) → MayStand x → (IsClosed 0 x → ⊥) → IsTorn 0 1 x y → MayStand y
torn_stands MayStand closed x y stands isnt torn = elim (cases_lt 0 (length x)) [
  | inl some ↦ elim (cases_eq (get_or y 0 0) 1) [
    | inl one ↦ elim (cases_eq (get_or x 0 0) 1) [
      | inl was ↦ subst MayStand (sym (torn_byte 0 x y some torn ∙ ap (λ (b : ℕ). set x 0 b) (one ∙ sym was) ∙ set-get_or x 0 0)) stands
      | inr shut ↦ absurd (isnt (record { stands = some; shut = shut }))
    ]
    | inr shut ↦ closed y (inr shut)
  ]
  | inr none ↦ closed y (inl (omega (arith, none, torn.no_longer)))
]

pub torn_spare : (g : ℕ) (x y : List ℕ) → IsSpare g x → (IsClosed 0 x → ⊥) → IsTorn 0 1 x y → IsSpare g y
torn_spare g x y spare isnt torn = torn_stands (IsSpare g) (λ file closed. inl closed) x y spare isnt torn

module _ (MayStand : List ℕ → Type 0) (disk : Disk) (shut : Bool) (rest : List ℕ) where
  pub aside_of : (p : Phase) → is_snapshot p ≡ false → IsSpareIn MayStand disk p shut rest → IsAside MayStand disk shut
  aside_of Idle commit is = is
  aside_of Written commit is = is
  aside_of Bodied commit is = is
  aside_of Opening commit is = is
  aside_of Start commit is = is
  aside_of Closing commit is = absurd (false≢true (sym commit))
  aside_of (Writing left) commit is = absurd (false≢true (sym commit))
  aside_of Filled commit is = absurd (false≢true (sym commit))
  aside_of Ready commit is = absurd (false≢true (sym commit))
  aside_of SnapOpening commit is = absurd (false≢true (sym commit))

  -- what a crash leaves of it
  pub aside_leaves : IsAside MayStand disk shut → (x : List ℕ) → disk.IsImage x → MayStand x
  aside_leaves aside x image = subst MayStand (sym (aside.settled.only x image)) aside.stands

  pub aside_in : (p : Phase) (broken : Bool) → is_snapshot p ≡ false → IsAside MayStand disk shut → IsSpareOn MayStand disk p broken shut rest
  aside_in Idle false commit aside = aside
  aside_in Written false commit aside = aside
  aside_in Bodied false commit aside = aside
  aside_in Opening false commit aside = aside
  aside_in Idle true commit aside = aside_leaves aside
  aside_in Written true commit aside = aside_leaves aside
  aside_in Bodied true commit aside = aside_leaves aside
  aside_in Opening true commit aside = aside_leaves aside
  aside_in Start broken commit aside = absurd (false≢true (sym commit))
  aside_in Closing broken commit aside = absurd (false≢true (sym commit))
  aside_in (Writing left) broken commit aside = absurd (false≢true (sym commit))
  aside_in Filled broken commit aside = absurd (false≢true (sym commit))
  aside_in Ready broken commit aside = absurd (false≢true (sym commit))
  aside_in SnapOpening broken commit aside = absurd (false≢true (sym commit))

  -- a step of a commit leaves it
  pub still_aside : (p q : Phase) (broken : Bool) → is_snapshot p ≡ false → is_snapshot q ≡ false → IsSpareOn MayStand disk p false shut rest → IsSpareOn MayStand disk q broken shut rest
  still_aside p q broken of_p of_q is = aside_in q broken of_q (aside_of p of_p is)

  -- what a crash leaves in any phase
  pub spare_leaves : ClosedMayStand MayStand → (p : Phase) (broken : Bool) → IsSpareOn MayStand disk p broken shut rest → LeavesSpareIn MayStand disk p rest
  spare_leaves beside p true is = is
  spare_leaves beside Idle false is = aside_leaves is
  spare_leaves beside Written false is = aside_leaves is
  spare_leaves beside Bodied false is = aside_leaves is
  spare_leaves beside Opening false is = aside_leaves is
  spare_leaves beside Start false is = aside_leaves is
  spare_leaves beside Closing false is = is.images
  spare_leaves beside (Writing left) false is = λ x image. beside x (is.closed x image)
  spare_leaves beside Filled false is = λ x image. beside x (is.closed x image)
  spare_leaves beside Ready false is = λ x image. beside x (subst (IsClosed 0) (sym (is.settled.only x image)) is.closed)
  spare_leaves beside SnapOpening false is = is.images

-- with its head gate open, and a closed gate at their end, these bytes are a file
pub file_opened : (front rest file : List ℕ) → front ++ 0 ∷ [] ≡ 1 ∷ rest → HasFirst (length rest) rest file → get_or file 0 0 ≡ 1 → EndsBehind front file
file_opened front rest file is has one = ends_before front tail file whole
  where
    tail : List ℕ
    tail = drop (length rest) (drop 1 file)

    behind : drop 1 file ≡ rest ++ tail
    behind = sym (take-append-drop (length rest) (drop 1 file)) ∙ ap (λ (l : List ℕ). l ++ tail) (has.same ∙ take_all (length rest) rest (omega arith))

    whole : file ≡ front ++ 0 ∷ tail
    whole =
        drop_more file 0 0 (omega (arith, has.within))
        ∙ ap (λ (b : ℕ). b ∷ drop 1 file) one
        ∙ ap (λ (l : List ℕ). 1 ∷ l) behind
        ∙ ap (λ (l : List ℕ). l ++ tail) (sym is)
        ∙ append_assoc front (0 ∷ []) tail

-- the front of a file that begins with a vault
pub renewed_front : (generation : ℕ) (v : Vault) → HasSnapshot v → 1 ≤ generation → generation < 2 ^ 64
    → IsFront (current_head generation ++ snapshot_bytes current_version v) (record { vault = v; version = current_version; generation = generation; tail = header + length (snapshot_of v); journal_length = 0 })
renewed_front generation v has given fits = record {
  base = v;
  frames = [];
  spelled = now_spelled v has;
  given = given;
  fits = fits;
  each = tt;
  bytes = sym (append-nil (current_head generation ++ snapshot_bytes current_version v));
  leads = refl;
  tail_is = omega (arith, length-append (current_head generation) (snapshot_bytes current_version v), length-append (in_four (length (snapshot_of v))) (snapshot_of v));
  journal_is = refl;
}

-- how many bytes stand behind the head gate
pub length-behind : (generation : ℕ) (v : Vault) → length (behind_gate generation v) ≡ header + length (snapshot_of v)
length-behind generation v =
    omega (
      arith,
      length-append (mark ++ in_four (version_number current_version) ++ in_eight generation ++ snapshot_bytes current_version v) (0 ∷ []),
      length-append (mark ++ in_four (version_number current_version) ++ in_eight generation) (snapshot_bytes current_version v),
      length-append (in_four (length (snapshot_of v))) (snapshot_of v),
    )
