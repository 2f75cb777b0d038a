-- The claims of a snapshot, read one after another.
use Rattle.std.proofs.Common.{◌≡◌, ℕ, ◌+◌, ◌<◌, ◌≤◌, ◌^◌, List, [], ◌∷◌, ◌++◌, length, map, Some, None, refl, sym, ◌∙◌, ap, subst, arith, append_assoc}
use Rattle.std.specs.List.{flat_map}
use Rattle.vault_state.specs.declared.claims.Claim.{Claim}
use Rattle.vault_state.specs.declared.claims.Item.{Item}
use Rattle.vault_state.specs.Limits.{most_claims}
use Rattle.vault_state.specs.Name.{IsName}
use Rattle.vault_state.specs.Shelf.{Draft}
use Rattle.vault_journal.specs.Laws.{AreBytes}
use Rattle.vault_journal.specs.Reading.{u16_at, u32_at, name_at, items_at}
use Rattle.vault_journal.specs.Spelling.{in_two, in_four, name_bytes, items_bytes, AreItems}
use Rattle.vault_journal.proofs.Fields.{u32_takes, name_takes, note_takes}
use Rattle.vault_journal.proofs.Takes.{Takes}
use Rattle.vault_journal.proofs.OneSpelling.{fields_are_spelled}
use Rattle.vault_format.specs.declared.version.FileVersion.{FileVersion}
use Rattle.vault_format.specs.declared.version.FileVersion.TheVariants.{One, Two}
use Rattle.vault_format.specs.Snapshot.{number_of, designer_of, note_field, IsNoteIn}
use Rattle.vault_format.specs.Claims.{note_before, Drafted, drafted_bytes, HasOwn, AreDraftsRead, BeginsWithNoDrafts, IsClaimRead, BeginsWithNoClaim, claims_bytes, AreClaimsRead, BeginsWithNoClaims}
use Rattle.vault_format.proofs.OneReading.{some_pair}
use Rattle.vault_format.proofs.SpelledLists.{Tells}
use Rattle.vault_format.proofs.SpelledClaims.{spelled_claim, past_number, past_name, past_note, past_items, fields_of, claim_tells, notes_are_spelled}
use Rattle.vault_format.proofs.ListsRead.{AreItemsRead, no_item_read, one_item_more, next_item}
use Rattle.vault_format.proofs.DraftsRead.{one_read, none_read}

-- ---- one claim

note_taken : (version : FileVersion) (bytes note rest : List ℕ) → AreBytes bytes → note_before version bytes ≡ Some (note, rest) → Takes bytes (note_field version note) rest × IsNoteIn version note
note_taken One bytes note rest fits e = let both = some_pair [] note bytes rest e in (record { parts = both.1; rest_fits = subst AreBytes both.1 fits }, sym both.0)
note_taken Two bytes note rest fits e = note_takes bytes note rest fits e

module _ (version : FileVersion) (bytes : List ℕ) where
  split : (told : Drafted) (rest : List ℕ) → bytes ≡ drafted_bytes version told ++ rest → bytes ≡ in_four (number_of told.0.id) ++ past_number version told rest
  split told rest same = same ∙ fields_of version told rest

  pub no_number : u32_at bytes ≡ None → BeginsWithNoClaim version bytes
  no_number none told rest has same = none_read in_four (λ n. n < 2 ^ 32) u32_at fields_are_spelled.in_four bytes (number_of told.0.id) (past_number version told rest) none has.claim.fits (split told rest same)

  module _ (number : ℕ) (after : List ℕ) (got : u32_at bytes ≡ Some (number, after)) where
    at_name : (told : Drafted) (rest : List ℕ) → HasOwn version told → bytes ≡ drafted_bytes version told ++ rest → after ≡ past_number version told rest
    at_name told rest has same =
        (one_read in_four (λ n. n < 2 ^ 32) u32_at fields_are_spelled.in_four bytes number (number_of told.0.id) after (past_number version told rest) got has.claim.fits (split told rest same)).1

    pub no_owner : name_at after ≡ None → BeginsWithNoClaim version bytes
    no_owner none told rest has same = none_read name_bytes IsName name_at fields_are_spelled.name after (designer_of told.0.owner) (past_name version told rest) none has.claim.name (at_name told rest has same)

    module _ (name behind : List ℕ) (got_name : name_at after ≡ Some (name, behind)) where
      at_note : (told : Drafted) (rest : List ℕ) → HasOwn version told → bytes ≡ drafted_bytes version told ++ rest → behind ≡ past_name version told rest
      at_note told rest has same =
          (one_read name_bytes IsName name_at fields_are_spelled.name after name (designer_of told.0.owner) behind (past_name version told rest) got_name has.claim.name (at_name told rest has same)).1

      pub no_note : note_before version behind ≡ None → BeginsWithNoClaim version bytes
      no_note none told rest has same = none_read (note_field version) (IsNoteIn version) (note_before version) (notes_are_spelled version) behind told.0.note (past_note told rest) none has.claim.note (at_note told rest has same)

      module _ (note past : List ℕ) (got_note : note_before version behind ≡ Some (note, past)) where
        at_items : (told : Drafted) (rest : List ℕ) → HasOwn version told → bytes ≡ drafted_bytes version told ++ rest → past ≡ past_note told rest
        at_items told rest has same =
            (one_read (note_field version) (IsNoteIn version) (note_before version) (notes_are_spelled version) behind note told.0.note past (past_note told rest) got_note has.claim.note (at_note told rest has same)).1

        pub no_items : items_at past ≡ None → BeginsWithNoClaim version bytes
        no_items none told rest has same = none_read items_bytes AreItems items_at fields_are_spelled.items past told.0.items (past_items told rest) none has.claim.items (at_items told rest has same)

        module _ (items : List Item) (last : List ℕ) (got_items : items_at past ≡ Some (items, last)) where
          pub no_own_drafts : BeginsWithNoDrafts last → BeginsWithNoClaim version bytes
          no_own_drafts none told rest has same =
              none told.1 rest has.few has.claim.drafts
              (one_read items_bytes AreItems items_at fields_are_spelled.items past items told.0.items last (past_items told rest) got_items has.claim.items (at_items told rest has same)).1

          pub claim_read : AreBytes bytes → (own given : List Draft) (rest : List ℕ) → AreDraftsRead own last rest → given ≡ own → (claims claims_new : List Claim) (drafts drafts_new : List (List Draft))
              → claims_new ≡ claims ++ spelled_claim number name note items ∷ [] → drafts_new ≡ drafts ++ given ∷ [] → IsClaimRead version claims claims_new drafts drafts_new bytes rest
          claim_read are own given rest read is claims claims_new drafts drafts_new claims_are drafts_are =
              let first = u32_takes bytes number after are got in
              let second = name_takes after name behind first.0.rest_fits got_name in
              let third = note_taken version behind note past second.0.rest_fits got_note in
              let fourth = fields_are_spelled.items.spelled past items last third.0.rest_fits got_items in
              record {
                told = (spelled_claim number name note items, own);
                has = record { claim = record { long = refl; fits = first.1; designer = refl; name = second.1; note = third.1; items = fourth.1; drafts = read.each }; few = read.few };
                claims_are = claims_are;
                drafts_are = drafts_are ∙ ap (λ (ds : List Draft). drafts ++ ds ∷ []) is;
                spelled = first.0.parts
                    ∙ ap (λ (l : List ℕ). in_four number ++ l)
                    (second.0.parts
                    ∙ ap (λ (l : List ℕ). name_bytes name ++ l) (third.0.parts ∙ ap (λ (l : List ℕ). note_field version note ++ l) (fourth.0 ∙ ap (λ (l : List ℕ). items_bytes items ++ l) read.spelled)))
                    ∙ sym (fields_of version (spelled_claim number name note items, own) rest);
              }

-- ---- all claims

pub own_tells : (version : FileVersion) → Tells (drafted_bytes version) (HasOwn version)
own_tells version x y a b has_x has_y same = claim_tells version x y a b has_x.claim has_y.claim same

-- `n` claims were read
pub record AreClaimsSoFar (version : FileVersion) (n : ℕ) (claims : List Claim) (drafts : List (List Draft)) (bytes rest : List ℕ) : Type 0 where
  pub told : List Drafted
  pub read : AreItemsRead (drafted_bytes version) (HasOwn version) told n bytes rest
  pub claims_are : claims ≡ map (λ (x : Drafted). x.0) told
  pub drafts_are : drafts ≡ map (λ (x : Drafted). x.1) told

pub no_claims_yet : (version : FileVersion) (claims : List Claim) (drafts : List (List Draft)) (bytes : List ℕ) → claims ≡ [] → drafts ≡ [] → AreClaimsSoFar version 0 claims drafts bytes bytes
no_claims_yet version claims drafts bytes no_claims no_drafts = record { told = []; read = no_item_read (drafted_bytes version) (HasOwn version) bytes; claims_are = no_claims; drafts_are = no_drafts }

map_push : {X Y : Type 0} (f : X → Y) (xs : List X) (x : X) → map f (xs ++ x ∷ []) ≡ map f xs ++ f x ∷ []
map_push f [] x = refl
map_push f (y ∷ xs) x = ap (λ ys. f y ∷ ys) (map_push f xs x)

pub one_claim_more : (version : FileVersion) (n : ℕ) (claims claims_new : List Claim) (drafts drafts_new : List (List Draft)) (bytes rest after : List ℕ) → AreClaimsSoFar version n claims drafts bytes rest → IsClaimRead version claims claims_new drafts drafts_new rest after → AreClaimsSoFar version (n + 1) claims_new drafts_new bytes after
one_claim_more version n claims claims_new drafts drafts_new bytes rest after so one = record {
  told = so.told ++ one.told ∷ [];
  read = one_item_more (drafted_bytes version) (HasOwn version) so.told n bytes rest after so.read one.told one.has one.spelled;
  claims_are = one.claims_are ∙ ap (λ (cs : List Claim). cs ++ one.told.0 ∷ []) so.claims_are ∙ sym (map_push (λ (x : Drafted). x.0) so.told one.told);
  drafts_are = one.drafts_are ∙ ap (λ (ds : List (List Draft)). ds ++ one.told.1 ∷ []) so.drafts_are ∙ sym (map_push (λ (x : Drafted). x.1) so.told one.told);
}

module _ (version : FileVersion) (bytes : List ℕ) where
  split_claims : (told : List Drafted) (rest : List ℕ) → bytes ≡ claims_bytes version told ++ rest → bytes ≡ in_two (length told) ++ (flat_map (drafted_bytes version) told ++ rest)
  split_claims told rest same = same ∙ append_assoc (in_two (length told)) (flat_map (drafted_bytes version) told) rest

  pub no_claim_count : u16_at bytes ≡ None → BeginsWithNoClaims version bytes
  no_claim_count none told rest few has same = none_read in_two (λ n. n < 2 ^ 16) u16_at fields_are_spelled.in_two bytes (length told) (flat_map (drafted_bytes version) told ++ rest) none (omega (arith, few)) (split_claims told rest same)

  module _ (count : ℕ) (after : List ℕ) (got : u16_at bytes ≡ Some (count, after)) where
    next_claims : (told : List Drafted) (rest : List ℕ) → length told ≤ most_claims → bytes ≡ claims_bytes version told ++ rest → (count ≡ length told) × (after ≡ flat_map (drafted_bytes version) told ++ rest)
    next_claims told rest few same = one_read in_two (λ n. n < 2 ^ 16) u16_at fields_are_spelled.in_two bytes count (length told) after (flat_map (drafted_bytes version) told ++ rest) got (omega (arith, few)) (split_claims told rest same)

    pub too_many_claims : most_claims < count → BeginsWithNoClaims version bytes
    too_many_claims many told rest few has same = let sizes = (next_claims told rest few same).0 in omega (arith, many, few, sizes)

    pub all_claims : AreBytes bytes → (claims : List Claim) (drafts : List (List Draft)) (rest : List ℕ) → count ≤ most_claims → AreClaimsSoFar version count claims drafts after rest → AreClaimsRead version claims drafts bytes rest
    all_claims are claims drafts rest few so = record {
      told = so.told;
      few = omega (arith, few, so.read.size);
      each = so.read.each;
      claims_are = so.claims_are;
      drafts_are = so.drafts_are;
      spelled = (fields_are_spelled.in_two.spelled bytes count after are got).0 ∙ ap (λ (n : ℕ). in_two n ++ after) (sym so.read.size) ∙ ap (λ (l : List ℕ). in_two (length so.told) ++ l) so.read.spelled
          ∙ sym (append_assoc (in_two (length so.told)) (flat_map (drafted_bytes version) so.told) rest);
    }

    pub not_all_claims : (n : ℕ) (claims : List Claim) (drafts : List (List Draft)) (rest : List ℕ) → n < count → AreClaimsSoFar version n claims drafts after rest → BeginsWithNoClaim version rest → BeginsWithNoClaims version bytes
    not_all_claims n claims drafts rest less so none others behind few has same =
        let both = next_claims others behind few same in
        let next = next_item (drafted_bytes version) (HasOwn version) (own_tells version) so.told n after rest so.read others behind (omega (arith, less, both.0)) has both.1 in
        none next.here (flat_map (drafted_bytes version) next.others ++ behind) next.has next.spelled
