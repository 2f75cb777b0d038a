-- Files have at most one first fault.
use Rattle.std.proofs.Common.{◌≡◌, ◌⊎◌, inl, inr, ℕ, ◌+◌, List, [], ◌∷◌, ◌++◌, length, drop, Some, refl, sym, ◌∙◌, ap, subst, arith, append_assoc, length-append}
use Rattle.std.specs.List.{AllByRecursion}
use Rattle.std.proofs.lemmas.List.{length-take-le}
use Rattle.std.proofs.lemmas.List.Concat.{flat_map-cons}
use Rattle.vault_model.specs.Said.{Effect}
use Rattle.vault_state.specs.Vault.{Vault}
use Rattle.vault_state.proofs.Lists.{and_then_some}
use Rattle.vault_journal.specs.Spelling.{in_four, records_of}
use Rattle.vault_journal.proofs.OneSpelling.{one_row}
use Rattle.vault_store.specs.declared.opening.File.TheVariants.{First, Second}
use Rattle.vault_store.specs.declared.opening.OpenError.TheVariants.{NoVault, Damaged, Device, NoMemory}
use Rattle.vault_format.specs.declared.version.FileVersion.{FileVersion}
use Rattle.vault_format.specs.Snapshot.{spelling_of}
use Rattle.vault_format.specs.Files.{header, head_of, snapshot_bytes, frame_of, frames_bytes, IsFrame, applied, after_frames, IsClosedFile, IsSpare, HasHead}
use Rattle.vault_format.specs.Faults.{IsHeadFault, IsDamagedHead, IsSnapshotFault, IsFrameFault, IsBodyFault}
use Rattle.vault_store.specs.Opening.{HasNoHeadFault, IsActiveFault, IsFirstFault, IsSecondFault}
use Rattle.vault_store.specs.Laws.{OneFault}
use Rattle.vault_format.proofs.OneReading.{one_number, same_front, frames_split}
use Rattle.vault_store.proofs.Exact.{HasFrame, here, fault_whole, snapshot_right}
use Rattle.vault_format.proofs.Rights.{head_right, head_open, not_both, one_told, one_generation, spare_older, spare_right, one_base}

one_head_fault : (x : List ℕ) (a b : ℕ) → IsHeadFault x a → IsHeadFault x b → a ≡ b
one_head_fault x a b (inl one) (inl other) = one.0 ∙ sym other.0
one_head_fault x a b (inl one) (inr (inl other)) = absurd (one.1 other.1)
one_head_fault x a b (inl one) (inr (inr other)) = absurd (one.1 other.1)
one_head_fault x a b (inr (inl one)) (inl other) = absurd (other.1 one.1)
one_head_fault x a b (inr (inl one)) (inr (inl other)) = one.0 ∙ sym other.0
one_head_fault x a b (inr (inl one)) (inr (inr other)) = absurd (one.2 other.2.0 other.2.1)
one_head_fault x a b (inr (inr one)) (inl other) = absurd (other.1 one.1)
one_head_fault x a b (inr (inr one)) (inr (inl other)) = absurd (other.2 one.2.0 one.2.1)
one_head_fault x a b (inr (inr one)) (inr (inr other)) = one.0 ∙ sym other.0

one_snapshot_fault : (version : FileVersion) (x : List ℕ) (a b : ℕ) → IsSnapshotFault version x a → IsSnapshotFault version x b → a ≡ b
one_snapshot_fault version x a b (inl one) (inl other) = one.0 ∙ sym other.0
one_snapshot_fault version x a b (inl one) (inr other) = absurd (omega (arith, one.1, other.1))
one_snapshot_fault version x a b (inr one) (inl other) = absurd (omega (arith, other.1, one.1))
one_snapshot_fault version x a b (inr one) (inr other) = one.0 ∙ sym other.0

-- a frame of a row stands at its front
frame_here : (h : List Effect) (hs : List (List Effect)) (s t : List ℕ) (w v u : Vault) → IsFrame h → 1 ∷ s ≡ frames_bytes (h ∷ hs) ++ 1 ∷ t → Some w ≡ Some v → after_frames w (h ∷ hs) ≡ Some u → HasFrame v (1 ∷ s)
frame_here h hs s t w v u is_frame same leads ends =
    let one = and_then_some (applied w h) (λ (k : Vault). after_frames k hs) u ends in
    let is : w ≡ v = cc in record {
      frame = h;
      next = one.0;
      behind = frames_bytes hs ++ 1 ∷ t;
      is_frame = is_frame;
      leads = subst (λ (k : Vault). applied k h ≡ Some one.0) is one.1;
      some = λ none. absurd (omega (arith, ap length none, length-append (frames_bytes hs) (1 ∷ t)));
      parts = same ∙ ap (λ (l : List ℕ). l ++ 1 ∷ t) (flat_map-cons frame_of h hs) ∙ append_assoc (frame_of h) (frames_bytes hs) (1 ∷ t);
    }

-- of two rows of frames in front of open gates, both are one, or where one ends a frame of the other stands
frames_meet : (fs hs : List (List Effect)) (s t : List ℕ) (w v u : Vault) → AllByRecursion IsFrame fs → AllByRecursion IsFrame hs → frames_bytes fs ++ 1 ∷ s ≡ frames_bytes hs ++ 1 ∷ t
    → after_frames w fs ≡ Some v → after_frames w hs ≡ Some u → (fs ≡ hs) ⊎ (HasFrame v (1 ∷ s) ⊎ HasFrame u (1 ∷ t))
frames_meet [] [] s t w v u are_fs are_hs same leads ends = inl refl
frames_meet [] (h ∷ hs) s t w v u are_fs are_hs same leads ends = inr (inl (frame_here h hs s t w v u are_hs.0 same leads ends))
frames_meet (f ∷ fs) [] s t w v u are_fs are_hs same leads ends = inr (inr (frame_here f fs t s w u v are_fs.0 (sym same) ends leads))
frames_meet (f ∷ fs) (h ∷ hs) s t w v u are_fs are_hs same leads ends =
    let whole = sym (frames_split f fs (1 ∷ s)) ∙ same ∙ frames_split h hs (1 ∷ t) in
    let behind : in_four (length (records_of f)) ++ (records_of f ++ (frames_bytes fs ++ 1 ∷ s)) ≡ in_four (length (records_of h)) ++ (records_of h ++ (frames_bytes hs ++ 1 ∷ t)) = ap (λ (l : List ℕ). drop 1 l) whole in
    let sizes = one_number (length (records_of f)) (length (records_of h)) (records_of f ++ (frames_bytes fs ++ 1 ∷ s)) (records_of h ++ (frames_bytes hs ++ 1 ∷ t)) (omega (arith, are_fs.0.few)) (omega (arith, are_hs.0.few)) behind in
    let parts = same_front (records_of f) (records_of h) (frames_bytes fs ++ 1 ∷ s) (frames_bytes hs ++ 1 ∷ t) sizes.0 sizes.1 in
    let first : f ≡ h = one_row f h (records_of f) (record { each = are_fs.0.each; whole = refl }) (record { each = are_hs.0.each; whole = parts.0 }) in
    let one = and_then_some (applied w f) (λ (k : Vault). after_frames k fs) v leads in
    let ends_too : after_frames w (f ∷ hs) ≡ Some u = subst (λ (k : List Effect). after_frames w (k ∷ hs) ≡ Some u) (sym first) ends in
    let other = and_then_some (applied w f) (λ (k : Vault). after_frames k hs) u ends_too in
    let same_next : other.0 ≡ one.0 = let e = sym other.1 ∙ one.1 in cc in
    elim (frames_meet fs hs s t one.0 v u are_fs.1 are_hs.1 parts.1 one.2 (subst (λ (k : Vault). after_frames k hs ≡ Some u) same_next other.2)) [
      | inl is ↦ inl (ap (λ (g : List Effect). g ∷ fs) first ∙ ap (λ (gs : List (List Effect)). h ∷ gs) is)
      | inr there ↦ inr there
    ]

-- where a fault of a frame is, and the snapshot before it
at_is : (version : FileVersion) (x : List ℕ) (at : ℕ) (fault : IsFrameFault version x at) → at ≡ header + length (spelling_of version fault.base) + length (frames_bytes fault.frames)
at_is version x at fault =
    let within = fault.within in
    omega (
      arith,
      within,
      length-take-le at x,
      ap length fault.begins,
      length-append (head_of version fault.generation ++ snapshot_bytes version fault.base) (frames_bytes fault.frames),
      length-append (in_four (length (spelling_of version fault.base))) (spelling_of version fault.base),
    )

spelled_right : (version : FileVersion) (x : List ℕ) (a b : ℕ) → IsFrameFault version x a → IsSnapshotFault version x b → ⊥
spelled_right version x a b fault =
    snapshot_right version x fault.generation fault.base (frames_bytes fault.frames ++ 1 ∷ drop (a + 1) x) fault.spelled (omega (arith, length-append (frames_bytes fault.frames) (1 ∷ drop (a + 1) x))) (fault_whole version x a fault) b

one_frame_fault : (version : FileVersion) (x : List ℕ) (a b : ℕ) → IsFrameFault version x a → IsFrameFault version x b → a ≡ b
one_frame_fault version x a b one other =
    let bases = one_base version version one.generation other.generation one.base other.base (frames_bytes one.frames ++ 1 ∷ drop (a + 1) x) (frames_bytes other.frames ++ 1 ∷ drop (b + 1) x) one.spelled other.spelled (sym (fault_whole version x a one) ∙ fault_whole version x b other) in
    elim (frames_meet one.frames other.frames (drop (a + 1) x) (drop (b + 1) x) one.base one.vault other.vault one.each other.each bases.2 one.leads (subst (λ (v : Vault). after_frames v other.frames ≡ Some other.vault) (sym bases.1) other.leads)) [
      | inl is ↦
          at_is version x a one ∙ ap (λ (v : Vault). header + length (spelling_of version v) + length (frames_bytes one.frames)) bases.1
          ∙ ap (λ (fs : List (List Effect)). header + length (spelling_of version other.base) + length (frames_bytes fs)) is ∙ sym (at_is version x b other)
      | inr (inl there) ↦ absurd (one.none there.frame there.next there.behind there.is_frame there.leads there.some (here version x a one ∙ there.parts))
      | inr (inr there) ↦ absurd (other.none there.frame there.next there.behind there.is_frame there.leads there.some (here version x b other ∙ there.parts))
    ]

-- what is wrong behind a right head
one_body_fault : (version : FileVersion) (x : List ℕ) (a b : ℕ) → IsBodyFault version x a → IsBodyFault version x b → a ≡ b
one_body_fault version x a b (inl one) (inl other) = one_snapshot_fault version x a b one other
one_body_fault version x a b (inl one) (inr other) = absurd (spelled_right version x b a other one)
one_body_fault version x a b (inr one) (inl other) = absurd (spelled_right version x a b one other)
one_body_fault version x a b (inr one) (inr other) = one_frame_fault version x a b one other

-- a damaged head is neither right nor closed
sound_head : (x : List ℕ) (at : ℕ) → HasNoHeadFault x → IsDamagedHead x at → ⊥
sound_head x at (inl closed) damaged = not_both x closed damaged.0
sound_head x at (inr (g, right)) damaged = head_right x g at right.1 damaged.1

-- of two open files one is the newer
one_newer : {v w : FileVersion} (x y : List ℕ) (g k : ℕ) → HasHead v g x → IsSpare g y → HasHead w k y → IsSpare k x → ⊥
one_newer x y g k one spare other spare_too = absurd (omega (arith, spare_older x k g spare_too one, spare_older y g k spare other))

-- no file is a spare of its own generation
not_own : {v w u : FileVersion} (x y : List ℕ) (g k : ℕ) → HasHead v g x → IsSpare g y → HasHead w k x → HasHead u k y → ⊥
not_own x y g k one spare also other = absurd (omega (arith, spare_older y g k spare other, one_generation x g k one also))

-- the first fault of the body of an active file
same_body : (first second : List ℕ) (a b : ℕ) → IsActiveFault first second a → IsActiveFault first second b → a ≡ b
same_body first second a b one other =
    one_body_fault one.version first a b one.fault (subst (λ (n : FileVersion). IsBodyFault n first b) (one_told first other.version one.version other.generation one.generation other.head one.head) other.fault)

no_first : (first second : List ℕ) (at : ℕ) → IsClosedFile first → IsFirstFault first second at → ⊥
no_first first second at closed (inl damaged) = not_both first closed damaged.0
no_first first second at closed (inr is) = not_both first closed (head_open first is.generation is.head)

no_second : (first second : List ℕ) (at : ℕ) → IsClosedFile second → IsSecondFault first second at → ⊥
no_second first second at closed (inl damaged) = not_both second closed damaged.1.0
no_second first second at closed (inr (inl (g, one, other, there))) = not_both second closed (head_open second g other.1)
no_second first second at closed (inr (inr is)) = not_both second closed (head_open second is.generation is.head)

one_first : (first second : List ℕ) (a b : ℕ) → IsFirstFault first second a → IsFirstFault first second b → a ≡ b
one_first first second a b (inl one) (inl other) = one_head_fault first a b one.1 other.1
one_first first second a b (inl one) (inr is) = absurd (head_right first is.generation a is.head one.1)
one_first first second a b (inr is) (inl other) = absurd (head_right first is.generation b is.head other.1)
one_first first second a b (inr is) (inr also) = same_body first second a b is also

not_both_files : (first second : List ℕ) (a b : ℕ) → IsFirstFault first second a → IsSecondFault first second b → ⊥
not_both_files first second a b (inl one) (inl other) = sound_head first a other.0 one
not_both_files first second a b (inl one) (inr (inl (g, right, other, there))) = head_right first g a right.1 one.1
not_both_files first second a b (inl one) (inr (inr is)) = spare_right first is.generation a is.spare one
not_both_files first second a b (inr is) (inl other) = spare_right second is.generation b is.spare other.1
not_both_files first second a b (inr is) (inr (inl (k, one, other, there))) = not_own first second is.generation k is.head is.spare one.1 other.1
not_both_files first second a b (inr is) (inr (inr also)) = one_newer first second is.generation also.generation is.head is.spare also.head also.spare

one_second : (first second : List ℕ) (a b : ℕ) → IsSecondFault first second a → IsSecondFault first second b → a ≡ b
one_second first second a b (inl one) (inl other) = one_head_fault second a b one.1.1 other.1.1
one_second first second a b (inl one) (inr (inl (g, right, other, there))) = absurd (head_right second g a other.1 one.1.1)
one_second first second a b (inl one) (inr (inr is)) = absurd (head_right second is.generation a is.head one.1.1)
one_second first second a b (inr (inl (g, one, other, there))) (inl damaged) = absurd (head_right second g b other.1 damaged.1.1)
one_second first second a b (inr (inl (g, one, other, there))) (inr (inl (k, also, right, place))) = there ∙ sym place
one_second first second a b (inr (inl (g, one, other, there))) (inr (inr is)) = absurd (not_own second first is.generation g is.head is.spare other.1 one.1)
one_second first second a b (inr (inr is)) (inl damaged) = absurd (head_right second is.generation b is.head damaged.1.1)
one_second first second a b (inr (inr is)) (inr (inl (k, one, other, there))) = absurd (not_own second first is.generation k is.head is.spare other.1 one.1)
one_second first second a b (inr (inr is)) (inr (inr also)) = same_body second first a b is also

pub one_fault : OneFault
one_fault first second NoVault NoVault found also one other = refl
one_fault first second NoVault (Damaged First offset) found also one other = absurd (no_first first second offset one.0 other)
one_fault first second NoVault (Damaged Second offset) found also one other = absurd (no_second first second offset one.1 other)
one_fault first second (Damaged First offset) NoVault found also one other = absurd (no_first first second offset other.0 one)
one_fault first second (Damaged First offset) (Damaged First place) found also one other = ap (λ (n : ℕ). Damaged First n) (one_first first second offset place one other)
one_fault first second (Damaged First offset) (Damaged Second place) found also one other = absurd (not_both_files first second offset place one other)
one_fault first second (Damaged Second offset) NoVault found also one other = absurd (no_second first second offset other.1 one)
one_fault first second (Damaged Second offset) (Damaged First place) found also one other = absurd (not_both_files first second place offset other one)
one_fault first second (Damaged Second offset) (Damaged Second place) found also one other = ap (λ (n : ℕ). Damaged Second n) (one_second first second offset place one other)
one_fault first second Device other found also one two = absurd found
one_fault first second NoMemory other found also one two = absurd found
one_fault first second why Device found also one other = absurd also
one_fault first second why NoMemory found also one other = absurd also
