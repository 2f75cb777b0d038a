-- Records one behind another.
use Rattle.std.proofs.Common.{◌≡◌, ◌≢◌, ℕ, ◌+◌, ◌-◌, ◌<◌, List, [], ◌∷◌, ◌++◌, length, get_or, Option, Some, None, refl, sym, ap, subst, ◌∙◌, append_assoc, arith, length-append}
use Rattle.std.specs.List.{AllByRecursion}
use Rattle.std.specs.Option.{option_map}
use Rattle.std.proofs.lemmas.List.{get_or-append-add, flat_map_more}
use Rattle.std.proofs.lemmas.List.Concat.{flat_map-cons}
use Rattle.vault_model.specs.Said.{Effect}
use Rattle.vault_journal.specs.Spelling.{record_of, records_of, HasRecord}
use Rattle.vault_journal.specs.Reading.{effect_at}
use Rattle.vault_journal.specs.Rows.{AreRecordsOf, IsFirstFault}
use Rattle.vault_journal.specs.Laws.{AreBytes, FieldsAreSpelled, EffectsAreSpelled, OneRecordAtTheFront, OneRow, NoFaultInARow, OneFirstFault}
use Rattle.vault_journal.proofs.Sizes.{record_some}
use Rattle.vault_journal.proofs.Takes.{Takes, some_is}
use Rattle.vault_journal.proofs.Fields.{u8_takes, u8_again, u16_takes, u16_again, u32_takes, u32_again, u64_takes, u64_again, name_takes, name_again, item_takes, item_again, items_take, items_again, content_takes, content_again, note_takes, note_again}
use Rattle.vault_journal.proofs.Effects.{effect_takes, effect_again}

pub fields_are_spelled : FieldsAreSpelled
fields_are_spelled = record {
  in_one = record { reads = λ n rest has. u8_again n rest; spelled = λ bytes n rest fits e. let t = u8_takes bytes n rest fits e in (t.0.parts, t.1) };
  in_two = record { reads = λ n rest has. u16_again n rest has; spelled = λ bytes n rest fits e. let t = u16_takes bytes n rest fits e in (t.0.parts, t.1) };
  in_four = record { reads = λ n rest has. u32_again n rest has; spelled = λ bytes n rest fits e. let t = u32_takes bytes n rest fits e in (t.0.parts, t.1) };
  in_eight = record { reads = λ n rest has. u64_again n rest has; spelled = λ bytes n rest fits e. let t = u64_takes bytes n rest fits e in (t.0.parts, t.1) };
  name = record { reads = λ n rest has. name_again n rest has; spelled = λ bytes n rest fits e. let t = name_takes bytes n rest fits e in (t.0.parts, t.1) };
  item = record { reads = λ n rest has. item_again n rest has; spelled = λ bytes n rest fits e. let t = item_takes bytes n rest fits e in (t.0.parts, t.1) };
  items = record { reads = λ n rest has. items_again n rest has; spelled = λ bytes n rest fits e. let t = items_take bytes n rest fits e in (t.0.parts, t.1) };
  content = record { reads = λ n rest has. content_again n rest has; spelled = λ bytes n rest fits e. let t = content_takes bytes n rest fits e in (t.0.parts, t.1) };
  note = record { reads = λ n rest has. note_again n rest has; spelled = λ bytes n rest fits e. let t = note_takes bytes n rest fits e in (t.0.parts, t.1) };
}

pub effects_are_spelled : EffectsAreSpelled
effects_are_spelled = record { reads = λ e rest has. effect_again e rest has; spelled = λ bytes e rest fits is. let t = effect_takes bytes e rest fits is in (t.0.parts, t.1) }

abbrev pair : Effect → List ℕ → Option (Effect × List ℕ)
pair e behind = Some (e, behind)

pub one_record_at_the_front : OneRecordAtTheFront
one_record_at_the_front e f behind_e behind_f has_e has_f same =
    let first = effect_again e behind_e has_e in
    let second = effect_again f behind_f has_f in
    let both : effect_at (record_of e ++ behind_e) ≡ effect_at (record_of f ++ behind_f) = ap (λ (l : List ℕ). effect_at l) same in
    let pairs : pair e behind_e ≡ pair f behind_f = sym first ∙ both ∙ second in
    let equal = some_is (e, behind_e) (f, behind_f) pairs in
    (ap (λ (p : Effect × List ℕ). p.0) equal, ap (λ (p : Effect × List ℕ). p.1) equal)

records_behind : (e : Effect) (es : List Effect) (rest : List ℕ) → records_of (e ∷ es) ++ rest ≡ record_of e ++ (records_of es ++ rest)
records_behind e es rest = ap (λ (l : List ℕ). l ++ rest) (flat_map-cons record_of e es) ∙ append_assoc (record_of e) (records_of es) rest

not_empty : (e : Effect) (rest : List ℕ) → record_of e ++ rest ≢ []
not_empty e rest empty = absurd (omega (arith, ap length empty, length-append (record_of e) rest, record_some e))

-- two lists of records are the same, if the bytes are and no record stands at the front of what follows either
same_records : (es fs : List Effect) (x y : List ℕ) → AllByRecursion HasRecord es → AllByRecursion HasRecord fs
    → ((effect : Effect) (tail : List ℕ) → HasRecord effect → x ≢ record_of effect ++ tail) → ((effect : Effect) (tail : List ℕ) → HasRecord effect → y ≢ record_of effect ++ tail)
    → records_of es ++ x ≡ records_of fs ++ y → (es ≡ fs) × (x ≡ y)
same_records [] [] x y have_es have_fs none_x none_y same = (refl, same)
same_records [] (f ∷ fs) x y have_es have_fs none_x none_y same = absurd (none_x f (records_of fs ++ y) have_fs.0 (same ∙ records_behind f fs y))
same_records (e ∷ es) [] x y have_es have_fs none_x none_y same = absurd (none_y e (records_of es ++ x) have_es.0 (sym same ∙ records_behind e es x))
same_records (e ∷ es) (f ∷ fs) x y have_es have_fs none_x none_y same =
    let front = one_record_at_the_front e f (records_of es ++ x) (records_of fs ++ y) have_es.0 have_fs.0 (sym (records_behind e es x) ∙ same ∙ records_behind f fs y) in
    let others = same_records es fs x y have_es.1 have_fs.1 none_x none_y front.1 in
    (ap (λ (g : Effect). g ∷ es) front.0 ∙ ap (λ (gs : List Effect). f ∷ gs) others.0, others.1)

none_at_end : (effect : Effect) (tail : List ℕ) → HasRecord effect → [] ≢ record_of effect ++ tail
none_at_end effect tail has empty = not_empty effect tail (sym empty)

nothing_behind : (l : List ℕ) → l ++ [] ≡ l
nothing_behind [] = refl
nothing_behind (x ∷ l) = ap (λ (k : List ℕ). x ∷ k) (nothing_behind l)

pub one_row : OneRow
one_row es fs bytes are_es are_fs =
    (same_records es fs [] [] are_es.each are_fs.each none_at_end none_at_end (nothing_behind (records_of es) ∙ sym are_es.whole ∙ are_fs.whole ∙ sym (nothing_behind (records_of fs)))).0

pub no_fault_in_a_row : NoFaultInARow
no_fault_in_a_row effects bytes at are fault =
    fault.some (sym (same_records effects fault.before [] fault.rest are.each fault.each none_at_end fault.none (nothing_behind (records_of effects) ∙ sym are.whole ∙ fault.parts)).1)

pub one_first_fault : OneFirstFault
one_first_fault bytes a b one two =
    let same = same_records one.before two.before one.rest two.rest one.each two.each one.none two.none (sym one.parts ∙ two.parts) in
    one.offset ∙ ap (λ (es : List Effect). length (records_of es)) same.0 ∙ sym two.offset

AreBytes-behind : (xs ys bytes : List ℕ) → bytes ≡ xs ++ ys → AreBytes bytes → AreBytes ys
AreBytes-behind xs ys bytes is fits i = subst (λ k. k < 256) (ap (λ (l : List ℕ). get_or l (length xs + i) 0) is ∙ get_or-append-add xs ys i 0) (fits (length xs + i))

have_more : (es : List Effect) (e : Effect) → AllByRecursion HasRecord es → HasRecord e → AllByRecursion HasRecord (es ++ e ∷ [])
have_more [] e have has = (has, tt)
have_more (x ∷ es) e have has = (have.0, have_more es e have.1 has)

-- the records that were read, and what is still to read
pub record AreReadTo (es : List Effect) (bytes rest : List ℕ) : Type 0 where
  pub each : AllByRecursion HasRecord es
  pub parts : bytes ≡ records_of es ++ rest

module _ (es : List Effect) (bytes rest : List ℕ) (fits : AreBytes bytes) (so_far : AreReadTo es bytes rest) where
  taken : (e : Effect) (after : List ℕ) → effect_at rest ≡ Some (e, after) → Takes rest (record_of e) after × HasRecord e
  taken e after is = effect_takes rest e after (AreBytes-behind (records_of es) rest bytes so_far.parts fits) is

  pub one_more : (e : Effect) (after : List ℕ) → effect_at rest ≡ Some (e, after) → AreReadTo (es ++ e ∷ []) bytes after
  one_more e after is =
      let t = taken e after is in record {
        each = have_more es e so_far.each t.1;
        parts = so_far.parts ∙ ap (λ (l : List ℕ). records_of es ++ l) t.0.parts ∙ sym (append_assoc (records_of es) (record_of e) after) ∙ ap (λ (l : List ℕ). l ++ after) (flat_map_more record_of [] es e);
      }

  pub shorter : (e : Effect) (after : List ℕ) → effect_at rest ≡ Some (e, after) → length after < length rest
  shorter e after is = omega (arith, ap length (taken e after is).0.parts, length-append (record_of e) after, record_some e)

  pub first_fault : rest ≢ [] → effect_at rest ≡ None → IsFirstFault bytes (length bytes - length rest)
  first_fault some none = record {
    before = es;
    rest = rest;
    each = so_far.each;
    parts = so_far.parts;
    offset = omega (arith, ap length so_far.parts, length-append (records_of es) rest);
    some = some;
    none = λ e tail has is. let read = ap (λ (l : List ℕ). effect_at l) is ∙ effect_again e tail has in absurd (cc (read, none));
  }

abbrev pub behind : Option (Effect × List ℕ) → Option (List ℕ)
behind front = option_map (λ (x : Effect × List ℕ). x.1) front

-- where something stands behind a record, that record stands at the front
pub record_before : (front : Option (Effect × List ℕ)) (after : List ℕ) → behind front ≡ Some after → (e : Effect) × (front ≡ Some (e, after))
record_before (Some x) after is = let same : x.1 ≡ after = cc in (x.0, ap (λ (rest : List ℕ). pair x.0 rest) same)
record_before None after is = absurd cc

pub no_record : (front : Option (Effect × List ℕ)) → behind front ≡ None → front ≡ None
no_record (Some x) is = absurd cc
no_record None is = refl

pub all_read : (es : List Effect) (bytes rest : List ℕ) → AreReadTo es bytes rest → rest ≡ [] → AreRecordsOf es bytes
all_read es bytes rest so_far empty = record { each = so_far.each; whole = so_far.parts ∙ ap (λ (l : List ℕ). records_of es ++ l) empty ∙ nothing_behind (records_of es) }
