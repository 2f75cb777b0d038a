-- What is written so far of a text.
use Rattle.std.proofs.Common.{◌≡◌, ℕ, ◌+◌, ◌≤◌, List, [], ◌++◌, length, take, Option, refl, sym, ◌∙◌, append_assoc}
use Rattle.std.specs.Prelude.{Result, Ok, Err, OnErr, OnOk}
use Rattle.std.specs.Io.KnownBytes.{Appends}
use Rattle.std.proofs.KnownBytes.{Appends-nil, Appends-trans}
use Rattle.std.proofs.lemmas.List.{append-nil, take-append-le}
use Rattle.std.proofs.Math.Seq.{take-append_seam, take-append-add}

-- a writer that held a holds b now, and the rest of the whole text is still to come
abbrev pub Written : Option (List ℕ) → Option (List ℕ) → List ℕ → List ℕ → Type 0
Written a b all rest = (done : List ℕ) × Appends a b done × (all ≡ done ++ rest)

pub written_none : (a : Option (List ℕ)) (all : List ℕ) → Written a a all all
written_none a all = ([], Appends-nil a, refl)

pub written_more : (a b c : Option (List ℕ)) (all text rest : List ℕ)
    → Written a b all (text ++ rest) → Appends b c text → Written a c all rest
written_more a b c all text rest w more =
    (w.0 ++ text, Appends-trans a b c w.0 text w.1 more, w.2 ∙ sym (append_assoc w.0 text rest))

pub written_all : (a b : Option (List ℕ)) (all : List ℕ) → Written a b all [] → Appends a b all
written_all a b all w = rw (w.2 ∙ append-nil w.0) w.1

-- a prefix is written
pub written_prefix : (a b : Option (List ℕ)) (all rest : List ℕ)
    → Written a b all rest → (n : ℕ) × Appends a b (take n all)
written_prefix a b all rest w = (length w.0, rw (w.2, take-append_seam w.0 rest) w.1)

-- the same if only part of the next text was written
pub written_cut : (a b c : Option (List ℕ)) (all text rest : List ℕ) (n : ℕ) → n ≤ length text
    → Written a b all (text ++ rest) → Appends b c (take n text) → (m : ℕ) × Appends a c (take m all)
written_cut a b c all text rest n within w more = (
  length w.0 + n,
  rw (w.2, take-append-add w.0 (text ++ rest) n, take-append-le n text rest within)
      (Appends-trans a b c w.0 (take n text) w.1 more),
)

pub on_err_since : {T E P : Type 0} (r : Result T E) → P → OnErr r P
on_err_since (Ok x) p = tt
on_err_since (Err e) p = p

pub on_ok_then : {T E P Q : Type 0} (r : Result T E) → (P → Q) → OnOk r P → OnOk r Q
on_ok_then (Ok x) f p = f p
on_ok_then (Err e) f p = tt

pub on_err_then : {T E P Q : Type 0} (r : Result T E) → (P → Q) → OnErr r P → OnErr r Q
on_err_then (Ok x) f p = tt
on_err_then (Err e) f p = f p
