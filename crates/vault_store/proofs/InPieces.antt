-- A snapshot, read piece by piece.
use Rattle.std.proofs.Common.{◌≡◌, ℕ, suc, ◌+◌, ◌-◌, ◌<◌, ◌≤◌, ◌^◌, IsTrue, List, [], Option, Some, None, Result, Ok, Err, ◌++◌, length, take, drop, refl, sym, ◌∙◌, ap, subst, arith, append_assoc, length-append}
use Rattle.std.specs.Prelude.{slice_range, IfOk, IfSome}
use Rattle.std.proofs.Math.Seq.{take-add}
use Rattle.std.proofs.lemmas.List.{drop-drop, take-take, take_at, append-nil, nil_from_length}
use Rattle.vault_state.specs.declared.place.Place.{Place}
use Rattle.vault_state.specs.declared.claims.Claim.{Claim}
use Rattle.vault_state.specs.Shelf.{Draft}
use Rattle.vault_state.specs.Vault.{Vault}
use Rattle.check_outs.specs.Parts.{IsVaultOf}
use Rattle.vault_device.specs.Disk.{Disk}
use Rattle.vault_journal.specs.Laws.{AreBytes}
use Rattle.vault_journal.specs.Reading.{u32_at}
use Rattle.vault_journal.specs.Spelling.{in_four}
use Rattle.vault_journal.proofs.Fields.{u32_takes}
use Rattle.vault_journal.proofs.OneSpelling.{fields_are_spelled}
use Rattle.vault_journal.proofs.Takes.{AreBytes-drop}
use Rattle.vault_format.specs.declared.version.FileVersion.{FileVersion}
use Rattle.vault_format.specs.Snapshot.{places_bytes, spelling_of, HasSpelling}
use Rattle.vault_format.specs.Files.{header}
use Rattle.vault_format.specs.Places.{vault_with, places_of, ArePlaces, ArePlacesAt, AreReadOn}
use Rattle.vault_format.specs.Claims.{AreClaimsRead}
use Rattle.vault_format.proofs.PlacesRead.{no_places, read_to}
use Rattle.vault_store.specs.Read.{AreReads}
use Rattle.vault_store.specs.Front.{IsFrontRead, IsReadOn, IsBackRead, IsSnapshotRead, IsSnapshotOrNone}
use Rattle.vault_store.proofs.SnapshotRead.{has_spelling, is_snapshot}
use Rattle.vault_store.proofs.Behind.{honest_behind}

-- bytes between two offsets, parted at one between them
pub slice_split : (l : List ℕ) (a b c : ℕ) → a ≤ b → b ≤ c → slice_range l a c ≡ slice_range l a b ++ slice_range l b c
slice_split l a b c first second =
    ap (λ (n : ℕ). take n (drop a l)) (let e : c - a ≡ (b - a) + (c - b) = omega (arith, first, second) in e)
    ∙ take-add (b - a) (c - b) (drop a l)
    ∙ ap (λ (x : List ℕ). take (b - a) (drop a l) ++ take (c - b) x) (drop-drop (b - a) a l ∙ ap (λ (n : ℕ). drop n l) (let e : a + (b - a) ≡ b = omega (arith, first) in e))

pub slice_none : (l : List ℕ) (a : ℕ) → slice_range l a a ≡ []
slice_none l a = ap (λ (n : ℕ). take n (drop a l)) (let e : a - a ≡ 0 = omega arith in e)

-- before anything is read
pub front_new : (disk : Disk) (version : FileVersion) (from : ℕ) → IsFrontRead disk version from [] [] from
front_new disk version from = record {
  are = no_places version;
  size = omega arith;
  bytes = λ honest. slice_none disk.shown from;
}

-- what stands behind places is no longer than they are with it
pub rest_within : (version : FileVersion) (tree : List Place) (shelf : List (List (List ℕ))) (new : List Place) (shelf_new : List (List (List ℕ))) (piece rest : List ℕ) → AreReadOn version tree shelf new shelf_new piece rest → length rest ≤ length piece
rest_within version tree shelf new shelf_new piece rest on = omega (arith, ap length on.spelled, length-append (places_bytes version (vault_with new shelf_new) (suc (length tree)) on.more) rest)

-- a piece with places in it
module _ (disk : Disk) (version : FileVersion) (end at len : ℕ) (tree : List Place) (shelf : List (List (List ℕ))) (new : List Place) (shelf_new : List (List (List ℕ))) (piece rest : List ℕ) (taken : ℕ) (on : AreReadOn version tree shelf new shelf_new piece rest)
    (sized : length piece ≡ len) (there : IsTrue disk.honest → piece ≡ slice_range disk.shown at (at + len)) (within : at + len ≤ end) (left : taken + length rest ≡ len) (some : 0 < taken)
  where
    abbrev was : List ℕ
    was = places_bytes version (vault_with tree shelf) 1 tree

    abbrev now : List ℕ
    now = places_bytes version (vault_with new shelf_new) 1 new

    front_spelled : was ++ piece ≡ now ++ rest
    front_spelled = (read_to version tree shelf new shelf_new piece rest on).spelled

    lengths : length was + length piece ≡ length now + length rest
    lengths = sym (length-append was piece) ∙ ap length front_spelled ∙ length-append now rest

    front_on : (from : ℕ) → IsFrontRead disk version from tree shelf at → IsFrontRead disk version from new shelf_new (at + taken)
    front_on from front = record {
      are = on.are;
      size = omega (arith, front.size, lengths, left, sized);
      bytes = λ honest.
          let size : at + taken ≡ from + length now = omega (arith, front.size, lengths, left, sized) in
          let whole : slice_range disk.shown from (at + len) ≡ now ++ rest =
          slice_split disk.shown from at (at + len) (omega (arith, front.size)) (omega arith)
          ∙ ap (λ (l : List ℕ). l ++ slice_range disk.shown at (at + len)) (front.bytes honest)
          ∙ ap (λ (l : List ℕ). was ++ l) (sym (there honest))
          ∙ front_spelled in
          ap (λ (n : ℕ). take n (drop from disk.shown)) (let e : at + taken - from ≡ length now = omega (arith, size) in e)
          ∙ sym (take-take (length now) (at + len - from) (drop from disk.shown) (omega (arith, size, left)))
          ∙ ap (take (length now)) whole
          ∙ take_at now rest (length now) refl;
    }

    pub read_on : IsReadOn disk version end at tree shelf new shelf_new (at + taken)
    read_on = record { after = omega (arith, some); within = omega (arith, left, within); front = front_on }

-- what a device shows stays where calls only read
pub front_moved : (old mid : Disk) (version : FileVersion) (from : ℕ) (tree : List Place) (shelf : List (List (List ℕ))) (at : ℕ) → AreReads old mid → IsFrontRead old version from tree shelf at → IsFrontRead mid version from tree shelf at
front_moved old mid version from tree shelf at reads front = record {
  are = front.are;
  size = front.size;
  bytes = λ honest.
      let was = subst IsTrue reads.called.same_honesty honest in
      ap (λ (l : List ℕ). slice_range l from at) (reads.read was).shown ∙ front.bytes was;
}

pub front_back : (old mid : Disk) (version : FileVersion) (from : ℕ) (tree : List Place) (shelf : List (List (List ℕ))) (at : ℕ) → AreReads old mid → IsFrontRead mid version from tree shelf at → IsFrontRead old version from tree shelf at
front_back old mid version from tree shelf at reads front = record {
  are = front.are;
  size = front.size;
  bytes = λ honest. ap (λ (l : List ℕ). slice_range l from at) (sym (reads.read honest).shown) ∙ front.bytes (honest_behind old mid reads honest);
}

-- the check-outs behind places that were read
module _ (version : FileVersion) (last_long : ℕ) (fits : last_long < 2 ^ 32) (tree : List Place) (shelf : List (List (List ℕ))) (are : ArePlaces version tree shelf) (rest : List ℕ) where
  abbrev pub behind_last : List ℕ
  behind_last = places_of version tree shelf ++ rest

  pub got_last : u32_at (in_four last_long ++ behind_last) ≡ Some (last_long, behind_last)
  got_last = fields_are_spelled.in_four.reads last_long behind_last fits

  pub places_there : ArePlacesAt version behind_last tree shelf rest
  places_there = record { are = are; spelled = refl }

  pub back_read : (disk : Disk) (at end : ℕ) → length rest ≡ end - at → at ≤ end → (IsTrue disk.honest → rest ≡ slice_range disk.shown at (at + (end - at))) → (claims : List Claim) (drafts : List (List Draft)) (left : List ℕ) → AreClaimsRead version claims drafts rest left → left ≡ [] → (v : Vault)
      → IsVaultOf (record { tree = tree; shelf = shelf; last_long = last_long; claims = claims; drafts = drafts }) v → IsBackRead disk version last_long tree shelf at end v
  back_read disk at end size within there claims drafts left read empty v is = record {
    rest = rest;
    size = omega (arith, size, within);
    bytes = λ honest. ap (slice_range disk.shown at) (let e : end ≡ at + (end - at) = omega (arith, within) in e) ∙ sym (there honest);
    spelled = has_spelling version (in_four last_long ++ behind_last) last_long behind_last got_last tree shelf rest places_there claims drafts left read v is;
    whole = is_snapshot version (in_four last_long ++ behind_last) last_long behind_last got_last tree shelf rest places_there claims drafts left read v is refl empty;
  }

-- the two first numbers of a snapshot
pub numbers_read : (bytes : List ℕ) (first second : ℕ) (after behind : List ℕ) → AreBytes bytes → length bytes ≡ 8 → u32_at bytes ≡ Some (first, after) → u32_at after ≡ Some (second, behind) → bytes ≡ in_four first ++ in_four second
numbers_read bytes first second after behind are eight at_first at_second =
    let one = (fields_are_spelled.in_four.spelled bytes first after are at_first).0 in
    let two = (fields_are_spelled.in_four.spelled after second behind (subst AreBytes (ap (drop 4) one) (AreBytes-drop 4 bytes are)) at_second).0 in
    let none = nil_from_length behind (omega (arith, eight, ap length one, ap length two, length-append (in_four first) after, length-append (in_four second) behind)) in
    one ∙ ap (λ (l : List ℕ). in_four first ++ l) (two ∙ ap (λ (l : List ℕ). in_four second ++ l) none ∙ append-nil (in_four second))

pub numbers_fit : (bytes : List ℕ) (first second : ℕ) (after behind : List ℕ) → AreBytes bytes → u32_at bytes ≡ Some (first, after) → u32_at after ≡ Some (second, behind) → (first < 2 ^ 32) × (second < 2 ^ 32)
numbers_fit bytes first second after behind are at_first at_second =
    let one = u32_takes bytes first after are at_first in
    (one.1, (u32_takes after second behind one.0.rest_fits at_second).1)

-- a snapshot whose two first numbers and places were read
module _ (disk : Disk) (version : FileVersion) (numbers : List ℕ) (last_long count : ℕ) (spelled : numbers ≡ in_four last_long ++ in_four count) (there : IsTrue disk.honest → numbers ≡ slice_range disk.shown header (header + 8)) (tree : List Place) (shelf : List (List (List ℕ))) (at end : ℕ)
    (front : IsFrontRead disk version (header + 8) tree shelf at) (counted : length tree + 1 ≡ count) (within : at ≤ end)
  where
    abbrev there_are : List ℕ
    there_are = places_bytes version (vault_with tree shelf) 1 tree

    both : numbers ≡ in_four last_long ++ in_four (length tree + 1)
    both = spelled ∙ ap (λ (n : ℕ). in_four last_long ++ in_four n) (sym counted)

    pub parts_read : IsTrue disk.honest → slice_range disk.shown header end ≡ in_four last_long ++ (places_of version tree shelf ++ slice_range disk.shown at end)
    parts_read honest =
        slice_split disk.shown header (header + 8) end (omega arith) (omega (arith, front.size, within))
        ∙ ap (λ (l : List ℕ). l ++ slice_range disk.shown (header + 8) end) (sym (there honest) ∙ both)
        ∙ ap (λ (l : List ℕ). (in_four last_long ++ in_four (length tree + 1)) ++ l)
        (slice_split disk.shown (header + 8) at end (omega (arith, front.size)) within
        ∙ ap (λ (l : List ℕ). l ++ slice_range disk.shown at end) (front.bytes honest))
        ∙ append_assoc (in_four last_long) (in_four (length tree + 1)) (there_are ++ slice_range disk.shown at end)
        ∙ ap (λ (l : List ℕ). in_four last_long ++ l) (sym (append_assoc (in_four (length tree + 1)) there_are (slice_range disk.shown at end)))

    -- and whose check-outs were, too
    pub snapshot_read : (v : Vault) → IsBackRead disk version last_long tree shelf at end v → IsSnapshotRead disk version v end
    snapshot_read v back = record {
      spelled = back.spelled;
      size = omega (
        arith,
        front.size,
        back.size,
        ap length back.whole,
        length-append (in_four last_long) ((in_four (length tree + 1) ++ there_are) ++ back.rest),
        length-append (in_four (length tree + 1) ++ there_are) back.rest,
        length-append (in_four (length tree + 1)) there_are,
      );
      bytes = λ honest. parts_read honest ∙ ap (λ (l : List ℕ). in_four last_long ++ (places_of version tree shelf ++ l)) (back.bytes honest) ∙ back.whole;
    }

-- what calls show that follow others which only read
pub back_moved : (old mid : Disk) (version : FileVersion) (last_long : ℕ) (tree : List Place) (shelf : List (List (List ℕ))) (at end : ℕ) (v : Vault) → AreReads old mid → IsBackRead mid version last_long tree shelf at end v → IsBackRead old version last_long tree shelf at end v
back_moved old mid version last_long tree shelf at end v reads back = record {
  rest = back.rest;
  size = back.size;
  bytes = λ honest. ap (λ (l : List ℕ). slice_range l at end) (sym (reads.read honest).shown) ∙ back.bytes (honest_behind old mid reads honest);
  spelled = back.spelled;
  whole = back.whole;
}

-- of a result that may be nothing
pub each_found : {V E : Type 0} (result : Result (Option V) E) (P Q : V → Type 0) → ((v : V) → P v → Q v) → IfOk result (λ (found : Option V). IfSome found P) → IfOk result (λ (found : Option V). IfSome found Q)
each_found (Ok (Some v)) P Q to holds = to v holds
each_found (Ok None) P Q to holds = tt
each_found (Err e) P Q to holds = tt

-- a snapshot that was read whole
pub whole_read : (disk : Disk) (version : FileVersion) (count : ℕ) (bytes : List ℕ) (v : Vault) → length bytes ≡ count → (IsTrue disk.honest → bytes ≡ slice_range disk.shown header (header + count)) → HasSpelling version v → bytes ≡ spelling_of version v → IsSnapshotRead disk version v (header + count)
whole_read disk version count bytes v size there spelled is = record {
  spelled = spelled;
  size = omega (arith, size, ap length is);
  bytes = λ honest. sym (there honest) ∙ is;
}

-- a snapshot or none, behind calls that only read
pub snapshot_moved : (old mid : Disk) (version : FileVersion) (end : ℕ) (found : Option Vault) → AreReads old mid → IsSnapshotOrNone mid version end found → IsSnapshotOrNone old version end found
snapshot_moved old mid version end (Some v) reads read = record {
  spelled = read.spelled;
  size = read.size;
  bytes = λ honest. ap (λ (l : List ℕ). slice_range l header end) (sym (reads.read honest).shown) ∙ read.bytes (honest_behind old mid reads honest);
}
snapshot_moved old mid version end None reads none = λ honest v has same.
    none (honest_behind old mid reads honest) v has (ap (λ (l : List ℕ). slice_range l header end) (reads.read honest).shown ∙ same)
