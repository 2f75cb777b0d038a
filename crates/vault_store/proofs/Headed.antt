-- What the first bytes of a file say of it.
use Rattle.std.proofs.Common.{◌≡◌, Bool, true, false, inl, inr, ℕ, ◌≤◌, List, length, get_or, take, drop, sym, ◌∙◌, ap, arith}
use Rattle.std.proofs.lemmas.List.{drop-take, take-take, get_or-take, length-take-le}
use Rattle.vault_store.specs.declared.front.Head.{Head}
use Rattle.vault_store.specs.declared.front.Head.TheVariants.{Closed, Open, Damaged}
use Rattle.vault_format.specs.Files.{header, head_length}
use Rattle.vault_format.specs.Faults.{mark_in, version_in, generation_in, IsHeadFault}
use Rattle.vault_store.specs.Parts.{IsHead}

pub not_both : (b : Bool) → b ≡ true → b ≡ false → ⊥
not_both b is isnt = cc

module _ (file bytes : List ℕ) (there : bytes ≡ take header file) (long : header ≤ length file) where
  gate_is : get_or bytes 0 0 ≡ get_or file 0 0
  gate_is = ap (λ (l : List ℕ). get_or l 0 0) there ∙ get_or-take header file 0 0 (omega arith)

  mark_is : mark_in bytes ≡ mark_in file
  mark_is = ap mark_in there ∙ ap (λ (l : List ℕ). take 7 l) (drop-take 1 23 file) ∙ take-take 7 23 (drop 1 file) (omega arith)

  version_is : version_in bytes ≡ version_in file
  version_is = ap version_in there ∙ ap (λ (l : List ℕ). take 4 l) (drop-take 8 16 file) ∙ take-take 4 16 (drop 8 file) (omega arith)

  generation_is : generation_in bytes ≡ generation_in file
  generation_is = ap generation_in there ∙ ap (λ (l : List ℕ). take 8 l) (drop-take 12 12 file) ∙ take-take 8 12 (drop 12 file) (omega arith)

  head_fault : (at : ℕ) → IsHeadFault bytes at → IsHeadFault file at
  head_fault at fault = elim fault [
    | inl one ↦ inl (one.0, λ e. one.1 (mark_is ∙ e))
    | inr (inl two) ↦ inr (inl (two.0, sym mark_is ∙ two.1, λ version e. two.2 version (version_is ∙ e)))
    | inr (inr three) ↦ inr (inr (three.0, sym mark_is ∙ three.1, (three.2.0, sym version_is ∙ three.2.1), sym generation_is ∙ three.3))
  ]

  -- what they are the head of, the file is, too
  pub is_head : (head : Head) → IsHead bytes head → IsHead file head
  is_head Closed is = elim is [
    | inl short ↦ absurd (omega (arith, short, ap length there, length-take-le header file long))
    | inr shut ↦ inr (λ one. shut (gate_is ∙ one))
  ]
  is_head (Open v generation) is = record {
    long = long;
    head = sym (take-take head_length header file (omega arith)) ∙ ap (λ (l : List ℕ). take head_length l) (sym there) ∙ is.head;
    given = is.given;
    fits = is.fits;
  }
  is_head (Damaged at) is = (record { long = long; gate = sym gate_is ∙ is.0.gate }, head_fault at is.1)
