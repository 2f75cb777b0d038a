-- The claims of a snapshot are of one line, and their drafts of one list.
use Rattle.std.proofs.Common.{◌≡◌, ℕ, Bool, true, false, cond, List, [], ◌∷◌, ◌++◌, length, drop, map, Option, None, Some, refl, sym, ◌∙◌, ap, subst, append_assoc, All}
use Rattle.std.specs.List.{flat_map}
use Rattle.std.proofs.lemmas.Bool.{eqb-true}
use Rattle.std.proofs.lemmas.List.{length-map}
use Rattle.std.proofs.lemmas.List.Folds.{flat_map-map}
use Rattle.std.proofs.lemmas.List.Elements.{All-map}
use Rattle.vault_state.specs.declared.claims.Claim.{Claim}
use Rattle.vault_state.specs.declared.claims.Item.{Item}
use Rattle.vault_state.specs.declared.claims.Owner.TheVariants as owners
use Rattle.vault_state.specs.declared.claims.Standing.TheVariants.{Held}
use Rattle.vault_state.specs.declared.ids.ClaimId.{ClaimId}
use Rattle.vault_state.specs.declared.ids.ClaimId.TheVariants.{Long, Short}
use Rattle.vault_state.specs.declared.place.Place.{Place}
use Rattle.vault_state.specs.Claims.{same_id, claim_of, standing_of, new_check_out, noted_as}
use Rattle.vault_state.specs.Drafts.{SavedDraft, drafts_of}
use Rattle.vault_state.specs.Vault.{Vault}
use Rattle.vault_journal.specs.Spelling.{in_four, name_bytes, items_bytes}
use Rattle.vault_journal.specs.Laws.{IsInverse}
use Rattle.vault_journal.proofs.OneSpelling.{fields_are_spelled}
use Rattle.vault_format.specs.declared.version.FileVersion.{FileVersion}
use Rattle.vault_format.specs.declared.version.FileVersion.TheVariants.{One, Two}
pub use Rattle.vault_format.specs.Claims.{Drafted, drafted_bytes, drafted, HasClaim}
use Rattle.vault_format.specs.Claims.{note_before}
use Rattle.vault_format.specs.Snapshot.{number_of, designer_of, note_field, IsNoteIn, drafts_bytes, claim_bytes}
use Rattle.vault_state.proofs.OneDrafts.{no_drafts_of}
use Rattle.vault_format.proofs.OneReading.{one_number, one_spelled, some_pair}
use Rattle.vault_format.proofs.SpelledLists.{Tells, name_tells, items_tell, drafts_tell, lists_tell}

pub regroup : (n m i d a : List ℕ) → (((n ++ m) ++ i) ++ d) ++ a ≡ n ++ (m ++ (i ++ (d ++ a)))
regroup n m i d a = simp append_assoc

pub regroup_claim : (n m t i d a : List ℕ) → ((((n ++ m) ++ t) ++ i) ++ d) ++ a ≡ n ++ (m ++ (t ++ (i ++ (d ++ a))))
regroup_claim n m t i d a = simp append_assoc

-- a check-out that is spelled
abbrev pub spelled_claim : ℕ → List ℕ → List ℕ → List Item → Claim
spelled_claim number designer note items = noted_as note (new_check_out number designer items)

-- its number, its designer, its note and its items determine it
check_out_is : (c : Claim) → c.id ≡ Long (number_of c.id) → c.owner ≡ owners.Designer (designer_of c.owner) → c ≡ spelled_claim (number_of c.id) (designer_of c.owner) c.note c.items
check_out_is c long designer = λ i. record c { id = long i; owner = designer i }

-- a note is read exactly where its spelling in this version stands
pub notes_are_spelled : (version : FileVersion) → IsInverse (note_field version) (IsNoteIn version) (note_before version)
notes_are_spelled One = record {
  reads = λ note rest is. ap (λ (n : List ℕ). Some (n, rest)) (sym is);
  spelled = λ bytes note rest are e. let both = some_pair [] note bytes rest e in (both.1, sym both.0);
}
notes_are_spelled Two = fields_are_spelled.note

-- what stands behind each field of a check-out
abbrev pub past_items : Drafted → List ℕ → List ℕ
past_items x rest = drafts_bytes x.1 ++ rest

abbrev pub past_note : Drafted → List ℕ → List ℕ
past_note x rest = items_bytes x.0.items ++ past_items x rest

abbrev pub past_name : FileVersion → Drafted → List ℕ → List ℕ
past_name version x rest = note_field version x.0.note ++ past_note x rest

abbrev pub past_number : FileVersion → Drafted → List ℕ → List ℕ
past_number version x rest = name_bytes (designer_of x.0.owner) ++ past_name version x rest

pub fields_of : (version : FileVersion) (x : Drafted) (rest : List ℕ) → drafted_bytes version x ++ rest ≡ in_four (number_of x.0.id) ++ past_number version x rest
fields_of version x rest = regroup_claim (in_four (number_of x.0.id)) (name_bytes (designer_of x.0.owner)) (note_field version x.0.note) (items_bytes x.0.items) (drafts_bytes x.1) rest

pub claim_tells : (version : FileVersion) → Tells (drafted_bytes version) (HasClaim version)
claim_tells version x y a b has_x has_y same =
    let whole = sym (fields_of version x a) ∙ same ∙ fields_of version y b in
    let numbers = one_number (number_of x.0.id) (number_of y.0.id) (past_number version x a) (past_number version y b) has_x.fits has_y.fits whole in
    let names = name_tells (designer_of x.0.owner) (designer_of y.0.owner) (past_name version x a) (past_name version y b) has_x.name has_y.name numbers.1 in
    let notes = one_spelled (note_field version) (IsNoteIn version) (note_before version) (notes_are_spelled version) x.0.note y.0.note (past_note x a) (past_note y b) has_x.note has_y.note names.1 in
    let items = items_tell x.0.items y.0.items (past_items x a) (past_items y b) has_x.items has_y.items notes.1 in
    let drafts = drafts_tell x.1 y.1 a b has_x.drafts has_y.drafts items.1 in
    let claims : x.0 ≡ y.0 = check_out_is x.0 has_x.long has_x.designer ∙ (λ i. spelled_claim (numbers.0 i) (names.0 i) (notes.0 i) (items.0 i)) ∙ sym (check_out_is y.0 has_y.long has_y.designer) in
    (λ i. (claims i, drafts.0 i), drafts.1)

pub claims_tell : (version : FileVersion) (v w : Vault) (a b : List ℕ) → length v.line ≡ length w.line → All (λ (c : Claim). HasClaim version (drafted v.drafts c)) v.line → All (λ (c : Claim). HasClaim version (drafted w.drafts c)) w.line
    → flat_map (claim_bytes version v) v.line ++ a ≡ flat_map (claim_bytes version w) w.line ++ b → map (drafted v.drafts) v.line ≡ map (drafted w.drafts) w.line
claims_tell version v w a b size has_v has_w same =
    (lists_tell (drafted_bytes version) (HasClaim version) (claim_tells version) (map (drafted v.drafts) v.line) (map (drafted w.drafts) w.line) a b (length-map v.line (drafted v.drafts) ∙ size ∙ sym (length-map w.line (drafted w.drafts)))
    (All-map (HasClaim version) (drafted v.drafts) v.line has_v) (All-map (HasClaim version) (drafted w.drafts) w.line has_w)
    (ap (λ (l : List ℕ). l ++ a) (flat_map-map (drafted_bytes version) (drafted v.drafts) v.line) ∙ same ∙ ap (λ (l : List ℕ). l ++ b) (sym (flat_map-map (drafted_bytes version) (drafted w.drafts) w.line)))).0

-- the claims alone
pub claims_of : (drafts : List SavedDraft) (line : List Claim) → map (λ (x : Drafted). x.0) (map (drafted drafts) line) ≡ line
claims_of drafts [] = refl
claims_of drafts (c ∷ line) = ap (λ (cs : List Claim). c ∷ cs) (claims_of drafts line)

pub one_line : (ds es : List SavedDraft) (k l : List Claim) → map (drafted ds) k ≡ map (drafted es) l → k ≡ l
one_line ds es k l same = sym (claims_of ds k) ∙ ap (λ (xs : List Drafted). map (λ (x : Drafted). x.0) xs) same ∙ claims_of es l

-- a claim that is found has the same drafts in both
drafts_at : (ds es : List SavedDraft) (line : List Claim) (n : ℕ) (c : Claim) → map (drafted ds) line ≡ map (drafted es) line → claim_of line (Long n) ≡ Some c → drafts_of ds (number_of c.id) ≡ drafts_of es (number_of c.id)
drafts_at ds es [] n c same found = absurd (cc)
drafts_at ds es (first ∷ line) n c same found = by_first (same_id first.id (Long n)) refl (λ e. drafts_at ds es line n c (ap (λ (xs : List Drafted). drop 1 xs) same) e)
  where
    heads : drafts_of ds (number_of first.id) ≡ drafts_of es (number_of first.id)
    heads = let e : ◌≡◌ {A = Drafted} (drafted ds first) (drafted es first) = cc in ap (λ (x : Drafted). x.1) e

    by_first : (b : Bool) → same_id first.id (Long n) ≡ b → (claim_of line (Long n) ≡ Some c → drafts_of ds (number_of c.id) ≡ drafts_of es (number_of c.id)) → drafts_of ds (number_of c.id) ≡ drafts_of es (number_of c.id)
    by_first true is deeper = let e = subst (λ (t : Bool). cond t (Some first) (claim_of line (Long n)) ≡ Some c) is found in let same_claim : first ≡ c = cc in subst (λ (d : Claim). drafts_of ds (number_of d.id) ≡ drafts_of es (number_of d.id)) same_claim heads
    by_first false is deeper = deeper (subst (λ (t : Bool). cond t (Some first) (claim_of line (Long n)) ≡ Some c) is found)

same_number : (id : ClaimId) (n : ℕ) → same_id id (Long n) ≡ true → number_of id ≡ n
same_number (Long m) n is = eqb-true m n is
same_number (Short m) n is = absurd (cc)

-- the claim that is found has the number
found_number : (line : List Claim) (n : ℕ) (c : Claim) → claim_of line (Long n) ≡ Some c → number_of c.id ≡ n
found_number [] n c found = absurd (cc)
found_number (first ∷ line) n c found = by_first (same_id first.id (Long n)) refl (λ e. found_number line n c e)
  where
    by_first : (b : Bool) → same_id first.id (Long n) ≡ b → (claim_of line (Long n) ≡ Some c → number_of c.id ≡ n) → number_of c.id ≡ n
    by_first true is deeper = let e = subst (λ (t : Bool). cond t (Some first) (claim_of line (Long n)) ≡ Some c) is found in let same_claim : first ≡ c = cc in subst (λ (d : Claim). number_of d.id ≡ n) same_claim (same_number first.id n is)
    by_first false is deeper = deeper (subst (λ (t : Bool). cond t (Some first) (claim_of line (Long n)) ≡ Some c) is found)

-- lines of the same claims, with the same drafts each, have the same drafts of every check-out
pub same_drafts : (tree : List Place) (ds es : List SavedDraft) (line : List Claim) → map (drafted ds) line ≡ map (drafted es) line
    → All (λ (x : SavedDraft). standing_of tree line (Long x.claim) ≡ Some Held) ds → All (λ (x : SavedDraft). standing_of tree line (Long x.claim) ≡ Some Held) es → (n : ℕ) → drafts_of ds n ≡ drafts_of es n
same_drafts tree ds es line same held_ds held_es n = by_claim (claim_of line (Long n)) refl
  where
    by_claim : (o : Option Claim) → claim_of line (Long n) ≡ o → drafts_of ds n ≡ drafts_of es n
    by_claim None gone = no_drafts_of tree line ds n gone held_ds ∙ sym (no_drafts_of tree line es n gone held_es)
    by_claim (Some c) found = subst (λ (k : ℕ). drafts_of ds k ≡ drafts_of es k) (found_number line n c found) (drafts_at ds es line n c same found)
