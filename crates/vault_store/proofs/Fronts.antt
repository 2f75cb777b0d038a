-- Fronts, gates and bodies in the bytes of a file.
use Rattle.std.proofs.Common.{◌≡◌, ℕ, ◌+◌, ◌<◌, List, [], ◌∷◌, ◌++◌, length, get_or, take, drop, refl, sym, ◌∙◌, ap, arith, append_assoc, length-append, take-append-drop}
use Rattle.std.proofs.lemmas.List.{length-take-le, get_or-take, take_at, drop_at, take-take, drop_more, get_or_at, take-set-le, drop-set-lt, length-set}
use Rattle.vault_device.specs.Disk.{overwritten}
use Rattle.vault_journal.specs.Spelling.{in_four}
use Rattle.vault_journal.specs.Gate.{body_of, SameBut}
use Rattle.vault_format.specs.Files.{frame_bytes, EndsBehind}
use Rattle.vault_store.specs.OnDisk.{HasBody, IsEither}

-- what has the same bytes up to the gate, and with it, ends behind the same front
pub ends_front : (front old new : List ℕ) → take (length front + 1) new ≡ take (length front + 1) old → length front < length new → EndsBehind front old → EndsBehind front new
ends_front front old new same within ends = record {
  begins = sym (take-take (length front) (length front + 1) new (omega arith)) ∙ ap (λ (l : List ℕ). take (length front) l) same ∙ take-take (length front) (length front + 1) old (omega arith) ∙ ends.begins;
  closed = record {
    stands = within;
    shut = λ one.
        ends.closed.shut
        (sym (get_or-take (length front + 1) old (length front) 0 (omega arith)) ∙ ap (λ (l : List ℕ). get_or l (length front) 0) (sym same)
        ∙ get_or-take (length front + 1) new (length front) 0 (omega arith) ∙ one);
  };
}

-- a body that is written behind the gate stands there
pub body_written : (gate : ℕ) (records old : List ℕ) → gate < length old → HasBody gate records (overwritten old (gate + 1) (body_of records))
body_written gate records old within =
    let rest = drop (gate + 1 + length (body_of records)) old in
    let behind : drop (gate + 1) (overwritten old (gate + 1) (body_of records)) ≡ body_of records ++ rest =
    ap (λ (l : List ℕ). drop (gate + 1) l) (append_assoc (take (gate + 1) old) (body_of records) rest)
    ∙ drop_at (take (gate + 1) old) (body_of records ++ rest) (gate + 1) (length-take-le (gate + 1) old (omega arith)) in
    ap (λ (l : List ℕ). take (length (body_of records)) l) behind ∙ take_at (body_of records) rest (length (body_of records)) refl

-- what begins with these bytes, and a closed gate behind them, ends behind them
pub ends_before : (front tail file : List ℕ) → file ≡ front ++ 0 ∷ tail → EndsBehind front file
ends_before front tail file whole = record {
  begins = ap (λ (l : List ℕ). take (length front) l) whole ∙ take_at front (0 ∷ tail) (length front) refl;
  closed = record {
    stands = omega (arith, ap length whole, length-append front (0 ∷ tail));
    shut = λ is. let e = ap (λ (l : List ℕ). get_or l (length front) 0) whole ∙ get_or_at front 0 tail 0 (length front) refl in cc;
  };
}

-- with its gate open, a frame belongs to the front
pub ends_opened : (front records file : List ℕ) → length front < length file → take (length front) file ≡ front → get_or file (length front) 0 ≡ 1 → HasBody (length front) records file → EndsBehind (front ++ frame_bytes records) file
ends_opened front records file within begins one body = ends_before longer tail file whole
  where
    longer : List ℕ
    longer = front ++ frame_bytes records

    head : List ℕ
    head = in_four (length records) ++ records

    back : List ℕ
    back = drop (length front + 1) file

    tail : List ℕ
    tail = drop (length (body_of records)) back

    behind : back ≡ head ++ 0 ∷ tail
    behind = sym (take-append-drop (length (body_of records)) back) ∙ ap (λ (l : List ℕ). l ++ tail) body ∙ append_assoc head (0 ∷ []) tail

    whole : file ≡ longer ++ 0 ∷ tail
    whole =
        sym (take-append-drop (length front) file)
        ∙ ap (λ (l : List ℕ). take (length front) file ++ l) (drop_more file (length front) 0 within)
        ∙ ap (λ (l : List ℕ). l ++ get_or file (length front) 0 ∷ back) begins
        ∙ ap (λ (k : ℕ). front ++ k ∷ back) one
        ∙ ap (λ (l : List ℕ). front ++ 1 ∷ l) behind
        ∙ sym (append_assoc front (1 ∷ head) (0 ∷ tail))

-- whatever byte the gate of a durable file has, its frame counts exactly if that is 1
pub either_but : (front records file x : List ℕ) → EndsBehind front file → HasBody (length front) records file → SameBut (length front) file x → IsEither front records x
either_but front records file x ends body same = record {
  opened = λ one. ends_opened front records x stands begins one body_there;
  shut = λ other. record { begins = begins; closed = record { stands = stands; shut = other } };
}
  where
    b : ℕ
    b = get_or x (length front) 0

    stands : length front < length x
    stands = omega (arith, ap length same, length-set file (length front) b, ends.closed.stands)

    begins : take (length front) x ≡ front
    begins = ap (λ (l : List ℕ). take (length front) l) same ∙ take-set-le (length front) file (length front) b (omega arith) ∙ ends.begins

    body_there : HasBody (length front) records x
    body_there =
        ap (λ (l : List ℕ). take (length (body_of records)) (drop (length front + 1) l)) same
        ∙ ap (λ (l : List ℕ). take (length (body_of records)) l) (drop-set-lt (length front + 1) file (length front) b (omega arith))
        ∙ body
