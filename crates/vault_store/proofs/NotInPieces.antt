-- A snapshot that can't be read piece by piece.
use Rattle.std.proofs.Common.{◌≡◌, ◌≢◌, ℕ, suc, ◌+◌, ◌-◌, ◌<◌, ◌≤◌, ◌^◌, IsTrue, List, [], ◌∷◌, Some, ◌++◌, length, take, drop, refl, sym, ◌∙◌, ap, subst, arith, append_assoc, length-append, take-append-drop, inl, inr}
use Rattle.std.specs.Prelude.{slice_range}
use Rattle.std.proofs.lemmas.Bool.{cases_lt}
use Rattle.std.proofs.lemmas.List.{take_at, take-append-le, append-nil, nil_from_length}
use Rattle.vault_state.specs.declared.place.Place.{Place}
use Rattle.vault_state.specs.declared.claims.Claim.{Claim}
use Rattle.vault_state.specs.Shelf.{Draft}
use Rattle.vault_state.specs.Vault.{Vault}
use Rattle.check_outs.specs.Parts.{IsVaultOf}
use Rattle.vault_device.specs.Disk.{Disk}
use Rattle.vault_journal.specs.Reading.{u32_at}
use Rattle.vault_journal.specs.Spelling.{in_four}
use Rattle.vault_journal.proofs.OneSpelling.{fields_are_spelled}
use Rattle.vault_format.specs.Snapshot.{current_version, place_bytes, places_bytes}
use Rattle.vault_format.specs.Files.{header}
use Rattle.vault_format.specs.Places.{vault_with, places_of, ArePlaces, ArePlacesAt, AreReadOn, BeginsWithFewerPlaces, BeginsWithNoFields}
use Rattle.vault_format.specs.Claims.{AreClaimsRead, BeginsWithNoClaims}
use Rattle.vault_format.proofs.OneReading.{one_number}
use Rattle.vault_format.proofs.PlacesRead.{IsNextPlace, has_places, next_place}
use Rattle.vault_format.proofs.Ahead.{fieldless}
use Rattle.vault_store.specs.Read.{AreReads}
use Rattle.vault_store.specs.Front.{longest_piece, FitIntoPieces, AreFewerInPieces, IsFrontRead, IsNoBackRead, IsNoneInPieces}
use Rattle.vault_store.proofs.SnapshotRead.{IsNoSnapshot, at_places, no_claims, more_behind, no_parts}
use Rattle.vault_store.proofs.Behind.{honest_behind}
use Rattle.vault_store.proofs.InPieces.{slice_split, slice_none, behind_last, got_last, places_there, parts_read}

-- ---- one piece

-- what stands in front of bytes stands in a front of them that is as long
front_within : (a b c d : List ℕ) → a ++ b ≡ c ++ d → length c ≤ length a → a ≡ c ++ drop (length c) a
front_within a b c d same within =
    sym (take-append-drop (length c) a) ∙ ap (λ (l : List ℕ). l ++ drop (length c) a) (sym (take-append-le (length c) a b within) ∙ ap (take (length c)) same ∙ take_at c d (length c) refl)

front_shorter : (a b c d : List ℕ) → a ++ b ≡ c ++ d → b ≡ [] → length c ≤ length a
front_shorter a b c d same none = omega (arith, ap length same, length-append a b, length-append c d, ap length none)

-- places without bytes are none
no_bytes_no_places : (v : Vault) (n : ℕ) (places : List Place) → length (places_bytes current_version v n places) ≡ 0 → places ≡ []
no_bytes_no_places v n [] none = refl
no_bytes_no_places v n (place ∷ places) none = absurd (omega (arith, none))

module _ (disk : Disk) (count end at len : ℕ) (tree : List Place) (shelf : List (List (List ℕ))) (are : ArePlaces current_version tree shelf) (piece : List ℕ) (sized : length piece ≡ len) (there : IsTrue disk.honest → piece ≡ slice_range disk.shown at (at + len)) (within : at + len ≤ end)
  where
    abbrev before : List ℕ
    before = places_bytes current_version (vault_with tree shelf) 1 tree

    whole_slice : IsTrue disk.honest → piece ++ slice_range disk.shown (at + len) end ≡ slice_range disk.shown at end
    whole_slice honest = ap (λ (l : List ℕ). l ++ slice_range disk.shown (at + len) end) (there honest) ∙ sym (slice_split disk.shown at (at + len) end (omega arith) within)

    -- they were refused in it
    pub refused_in_piece : ((more : List ℕ) → BeginsWithFewerPlaces current_version count tree shelf (piece ++ more)) → AreFewerInPieces disk count end at tree shelf
    refused_in_piece refused honest all whole rest size are_all fits same =
        refused (slice_range disk.shown (at + len) end) all whole rest (omega (arith, size)) are_all (ap (λ (l : List ℕ). before ++ l) (whole_slice honest) ∙ same)

    -- not even one stands in it
    module _ (start : length tree + 1 < count) (new : List Place) (shelf_new : List (List (List ℕ))) (rest : List ℕ) (on : AreReadOn current_version tree shelf new shelf_new piece rest) (none : length new + 1 < count → BeginsWithNoFields rest) (all_left : len ≤ length rest)
        (full : at + len < end → len ≡ longest_piece)
      where
        abbrev read : List ℕ
        read = places_bytes current_version (vault_with new shelf_new) (suc (length tree)) on.more

        none_read : read ≡ []
        none_read = nil_from_length read (omega (arith, all_left, sized, ap length on.spelled, length-append read rest))

        as_many : length new ≡ length tree
        as_many = ap length on.grown ∙ ap (λ (l : List Place). length (tree ++ l)) (no_bytes_no_places (vault_with new shelf_new) (suc (length tree)) on.more (ap length none_read)) ∙ ap length (append-nil tree)

        no_fields : BeginsWithNoFields piece
        no_fields = subst BeginsWithNoFields (sym (on.spelled ∙ ap (λ (l : List ℕ). l ++ rest) none_read)) (none (omega (arith, start, as_many)))

        -- the next place would stand in it
        module _ (honest : IsTrue disk.honest) (all : List Place) (whole : List (List (List ℕ))) (behind : List ℕ) (are_all : ArePlaces current_version all whole) (fits : FitIntoPieces (vault_with all whole)) (next : IsNextPlace current_version tree shelf (slice_range disk.shown at end) all whole behind)
          where
            abbrev here : List ℕ
            here = place_bytes current_version (vault_with (tree ++ next.here ∷ next.others) whole) (suc (length tree)) next.here

            abbrev behind_it : List ℕ
            behind_it = places_bytes current_version (vault_with (tree ++ next.here ∷ next.others) whole) (suc (suc (length tree))) next.others ++ behind

            abbrev left : List ℕ
            left = slice_range disk.shown (at + len) end

            bytes : piece ++ left ≡ here ++ behind_it
            bytes = whole_slice honest ∙ next.spelled

            short : length here ≤ longest_piece
            short = subst (λ (t : List Place). length (place_bytes current_version (vault_with t whole) (suc (length tree)) next.here) ≤ longest_piece) next.parts (fits tree next.here next.others next.parts)

            in_piece : length here ≤ length piece
            in_piece = elim (cases_lt (at + len) end) [
              | inl more ↦ omega (arith, short, full more, sized)
              | inr last ↦ (let ends : at + len ≡ end = omega (arith, last, within) in
                  front_shorter piece left here behind_it bytes (ap (λ (n : ℕ). slice_range disk.shown n end) ends ∙ slice_none disk.shown end))
            ]

            none_next : ⊥
            none_next =
                fieldless tree shelf piece no_fields next.here next.others whole (drop (length here) piece) (subst (λ (t : List Place). ArePlaces current_version t whole) next.parts are_all) next.kept
                (front_within piece left here behind_it bytes in_piece)

        pub stuck : AreFewerInPieces disk count end at tree shelf
        stuck honest all whole behind size are_all fits same =
            none_next honest all whole behind are_all fits
            (next_place current_version tree shelf (before ++ slice_range disk.shown at end) (slice_range disk.shown at end) (record { are = are; spelled = refl }) all whole behind are_all (omega (arith, start, size)) same)

-- ---- all pieces

pub from_front : (disk : Disk) (count end from at : ℕ) (tree : List Place) (shelf : List (List (List ℕ))) → IsFrontRead disk current_version from tree shelf at → at ≤ end → AreFewerInPieces disk count end at tree shelf → AreFewerInPieces disk count end from [] []
from_front disk count end from at tree shelf front within fewer honest all whole rest size are fits same =
    fewer honest all whole rest size are fits
    (ap (λ (l : List ℕ). l ++ slice_range disk.shown at end) (sym (front.bytes honest)) ∙ sym (slice_split disk.shown from at end (omega (arith, front.size)) within) ∙ same)

pub fewer_moved : (old mid : Disk) (count end at : ℕ) (tree : List Place) (shelf : List (List (List ℕ))) → AreReads old mid → AreFewerInPieces mid count end at tree shelf → AreFewerInPieces old count end at tree shelf
fewer_moved old mid count end at tree shelf reads fewer honest all whole rest size are fits same =
    fewer (honest_behind old mid reads honest) all whole rest size are fits
    (ap (λ (l : List ℕ). places_bytes current_version (vault_with tree shelf) 1 tree ++ slice_range l at end) (reads.read honest).shown ∙ same)

-- without a library there are no places
pub no_library : (disk : Disk) (count end from read : ℕ) → (0 < count → read < count) → count ≤ read + 1 → count ≢ read + 1 → AreFewerInPieces disk count end from [] []
no_library disk count end from read few done other honest all whole rest size are fits same = other (omega (arith, done, few (omega (arith, size))))

-- ---- the check-outs, and the whole

module _ (disk : Disk) (last_long : ℕ) (fits : last_long < 2 ^ 32) (tree : List Place) (shelf : List (List (List ℕ))) (are : ArePlaces current_version tree shelf) (rest : List ℕ) (at end : ℕ) (within : at ≤ end) (there : IsTrue disk.honest → rest ≡ slice_range disk.shown at (at + (end - at)))
  where
    abbrev behind : List ℕ
    behind = behind_last current_version last_long fits tree shelf are rest

    got : u32_at (in_four last_long ++ behind) ≡ Some (last_long, behind)
    got = got_last current_version last_long fits tree shelf are rest

    places : ArePlacesAt current_version behind tree shelf rest
    places = places_there current_version last_long fits tree shelf are rest

    no_back : IsNoSnapshot current_version (in_four last_long ++ behind) → IsNoBackRead disk last_long tree shelf at end
    no_back none honest v has same =
        none v has
        (ap (λ (l : List ℕ). in_four last_long ++ (places_of current_version tree shelf ++ l)) (there honest ∙ ap (slice_range disk.shown at) (let e : at + (end - at) ≡ end = omega (arith, within) in e)) ∙ same)

    pub no_claims_back : BeginsWithNoClaims current_version rest → IsNoBackRead disk last_long tree shelf at end
    no_claims_back none = no_back (no_claims current_version (in_four last_long ++ behind) last_long behind got tree shelf rest places none)

    module _ (claims : List Claim) (drafts : List (List Draft)) (left : List ℕ) (read : AreClaimsRead current_version claims drafts rest left) where
      pub more_back : left ≢ [] → IsNoBackRead disk last_long tree shelf at end
      more_back more = no_back (more_behind current_version (in_four last_long ++ behind) last_long behind got tree shelf rest places claims drafts left read more)

      pub no_parts_back : ((v : Vault) → IsVaultOf (record { tree = tree; shelf = shelf; last_long = last_long; claims = claims; drafts = drafts }) v → ⊥) → IsNoBackRead disk last_long tree shelf at end
      no_parts_back none = no_back (no_parts current_version (in_four last_long ++ behind) last_long behind got tree shelf rest places claims drafts left read none)

pub back_not_moved : (old mid : Disk) (last_long at end : ℕ) (tree : List Place) (shelf : List (List (List ℕ))) → AreReads old mid → IsNoBackRead mid last_long tree shelf at end → IsNoBackRead old last_long tree shelf at end
back_not_moved old mid last_long at end tree shelf reads none honest v has same =
    none (honest_behind old mid reads honest) v has
    (ap (λ (l : List ℕ). in_four last_long ++ (places_of current_version tree shelf ++ slice_range l at end)) (reads.read honest).shown ∙ same)

-- the places can't be read so
pub none_in_front : (disk : Disk) (numbers : List ℕ) (last_long count end : ℕ) → last_long < 2 ^ 32 → count < 2 ^ 32 → numbers ≡ in_four last_long ++ in_four count → (IsTrue disk.honest → numbers ≡ slice_range disk.shown header (header + 8)) → header + 8 ≤ end
    → AreFewerInPieces disk count end (header + 8) [] [] → IsNoneInPieces disk end
none_in_front disk numbers last_long count end fits_last fits_count spelled there long fewer honest v has fits same =
    let left = slice_range disk.shown (header + 8) end in
    let whole : slice_range disk.shown header end ≡ in_four last_long ++ (in_four count ++ left) =
    slice_split disk.shown header (header + 8) end (omega arith) long ∙ ap (λ (l : List ℕ). l ++ left) (sym (there honest) ∙ spelled) ∙ append_assoc (in_four last_long) (in_four count) left in
    let first = at_places current_version (in_four last_long ++ (in_four count ++ left)) last_long (in_four count ++ left) (fields_are_spelled.in_four.reads last_long (in_four count ++ left) fits_last) v has (sym whole ∙ same) in
    let second = one_number count (length v.tree + 1) left _ fits_count (omega (arith, has.has.well_formed.tree.few)) (first.1 ∙ append_assoc (in_four (length v.tree + 1)) (places_bytes current_version v 1 v.tree) _) in
    fewer honest v.tree v.shelf _ (sym second.0) (has_places current_version v has) fits second.1

-- the check-outs can't
pub none_in_back : (disk : Disk) (numbers : List ℕ) (last_long count end : ℕ) → numbers ≡ in_four last_long ++ in_four count → (IsTrue disk.honest → numbers ≡ slice_range disk.shown header (header + 8)) → (tree : List Place) (shelf : List (List (List ℕ))) (at : ℕ)
    → IsFrontRead disk current_version (header + 8) tree shelf at → length tree + 1 ≡ count → at ≤ end → IsNoBackRead disk last_long tree shelf at end → IsNoneInPieces disk end
none_in_back disk numbers last_long count end spelled there tree shelf at front counted within none honest v has fits same =
    none honest v has (sym (parts_read disk current_version numbers last_long count spelled there tree shelf at end front counted within honest) ∙ same)
