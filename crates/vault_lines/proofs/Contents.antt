-- How contents are spelled: what is read is spelled so, and what is spelled so is read.
use Rattle.std.proofs.Common.{◌≡◌, ℕ, ◌+◌, ◌*◌, ◌==◌, false, List, [], ◌∷◌, length, Option, Some, None, Result, Ok, Err, refl, sym, ap, ◌∙◌, arith, inl, inr}
use Rattle.std.specs.Prelude.{codes}
use Rattle.std.specs.Result.{result_ok, result_unwrap_or}
use Rattle.std.specs.Str.{bytes_eq}
use Rattle.std.proofs.lemmas.Option.{same_Some}
use Rattle.std.proofs.lemmas.Bool.{ne_eqb, eqb-false, cond-false, false_from_ne_true}
use Rattle.std.proofs.lemmas.List.Elements.{All-nil, All-cons}
use Rattle.std.proofs.lemmas.Slice.Eq.{bytes_eq-Decides}
use Rattle.hex.specs.Hex.{decode_of, decode_pairs, encode_lower, lower_digits, digit_or_error, hex_digit_value, pair_value, value_at, ◌>>=◌}
use Rattle.hex.specs.declared.error.FromHexError.{FromHexError}
use Rattle.hex.proofs.Pairs.{cons_byte, decode_pairs-ok_pair}
use Rattle.hex.proofs.HexLemmas.{decode_of-encode_lower, decode_of-even, decode_of-ok, decode_pairs-ok, length-encode_with}
use Rattle.vault_state.proofs.Joined.{IsFree}
use Rattle.vault_state.proofs.Lists.{chosen}
use Rattle.vault_lines.specs.Words.{content_in}
use Rattle.vault_lines.specs.Spelling.{DigitsSpell, DigitsSpellAll, ContentSpells, ToldAsSpelled}
use Rattle.vault_lines.proofs.Steps.{along}

-- Results.

abbrev decoded : {A : Type 0} → A → Result A FromHexError
decoded x = Ok x

same_ok : {A : Type 0} (x y : A) → decoded x ≡ Ok y → x ≡ y
same_ok x y e = ap (λ r. result_unwrap_or r x) e

ok_some : {A : Type 0} (r : Result A FromHexError) (x : A) → result_ok r ≡ Some x → r ≡ Ok x
ok_some (Ok x) y e = ap Ok (same_Some _ _ e)
ok_some (Err e) y h = cc h

bind_ok : {A B : Type 0} (r : Result A FromHexError) (f : A → Result B FromHexError) (y : B)
    → (r >>= f) ≡ Ok y → (x : A) × (r ≡ Ok x) × (f x ≡ Ok y)
bind_ok (Ok x) f y h = (x, refl, h)
bind_ok (Err e) f y h = cc h

-- What is read is spelled so.

digit_found : (c i : ℕ) (o : Option ℕ) (v : ℕ) → digit_or_error c i o ≡ Ok v → o ≡ Some v
digit_found c i (Some w) v e = ap Some (same_ok w v e)
digit_found c i None v e = cc e

byte_found : (high low i byte : ℕ) → pair_value high low i ≡ Ok byte → DigitsSpell high low byte
byte_found high low i byte e =
    let h = bind_ok (value_at high i) _ byte e in
    let l = bind_ok (value_at low (i + 1)) _ byte h.2 in
    (h.0, l.0, digit_found high i (hex_digit_value high) h.0 h.1, digit_found low (i + 1) (hex_digit_value low) l.0 l.1, sym (same_ok _ byte l.2))

digits_found : (i : ℕ) (digits bytes : List ℕ) → decode_pairs i digits ≡ Ok bytes → DigitsSpellAll digits bytes
unfolding decode_pairs
digits_found i [] bytes e = along (DigitsSpellAll []) (same_ok [] bytes e) tt
digits_found i (digit ∷ []) bytes e = cc e
digits_found i (high ∷ low ∷ digits) bytes e =
    let first = bind_ok (pair_value high low i) _ bytes e in
    let others = bind_ok (decode_pairs (i + 2) digits) _ bytes first.2 in
    along (DigitsSpellAll (high ∷ low ∷ digits)) (same_ok _ bytes others.2)
    (byte_found high low i first.0 first.1, digits_found (i + 2) digits others.0 others.1)

full_found : (word content : List ℕ) → (length word == 0) ≡ false → decode_of word ≡ Ok content → ContentSpells word content
full_found word [] full e =
    let sizes = (decode_of-ok word [] e).2 in
    let above = eqb-false _ _ full in
    absurd (above (omega (arith, sizes)))
full_found word (byte ∷ bytes) full e =
    digits_found 0 word (byte ∷ bytes) (sym (decode_of-even word (decode_of-ok word (byte ∷ bytes) e).0) ∙ e)

pub content_found : (word content : List ℕ) → content_in word ≡ Some content → ContentSpells word content
content_found word content e =
    elim (chosen (bytes_eq word (codes "-")) (Some []) _ (Some content) e) [
      | inl h ↦ along (ContentSpells word) (same_Some _ _ h.1) ((bytes_eq-Decides word (codes "-")).0 h.0)
      | inr h ↦
          elim (chosen (length word == 0) None (result_ok (decode_of word)) (Some content) h.1) [
            | inl k ↦ cc (k.1)
            | inr k ↦ full_found word content k.0 (ok_some (decode_of word) content k.1)
          ]
    ]

-- What is spelled so is read.

digit_again : (c i v : ℕ) → hex_digit_value c ≡ Some v → value_at c i ≡ Ok v
digit_again c i v e = ap (digit_or_error c i) e

byte_again : (high low i byte : ℕ) → DigitsSpell high low byte → pair_value high low i ≡ Ok byte
byte_again high low i byte spelled =
    ap (λ (r : Result ℕ FromHexError). r >>= λ h. value_at low (i + 1) >>= λ l. Ok (h * 16 + l)) (digit_again high i spelled.0 spelled.2)
    ∙ ap (λ (r : Result ℕ FromHexError). r >>= λ l. Ok (spelled.0 * 16 + l)) (digit_again low (i + 1) spelled.1 spelled.3)
    ∙ ap Ok (sym spelled.4)

digits_again : (i : ℕ) (digits bytes : List ℕ) → DigitsSpellAll digits bytes → decode_pairs i digits ≡ Ok bytes
unfolding decode_pairs
digits_again i [] [] spelled = refl
digits_again i [] (byte ∷ bytes) spelled = absurd spelled
digits_again i (digit ∷ []) [] spelled = absurd spelled
digits_again i (digit ∷ []) (byte ∷ bytes) spelled = absurd spelled
digits_again i (high ∷ low ∷ digits) [] spelled = absurd spelled
digits_again i (high ∷ low ∷ digits) (byte ∷ bytes) spelled =
    decode_pairs-ok_pair i high low byte digits (byte_again high low i byte spelled.0)
    ∙ ap (cons_byte byte) (digits_again (i + 2) digits bytes spelled.1)

pub content_again : (word content : List ℕ) → ContentSpells word content → content_in word ≡ Some content
content_again word [] spelled = ap content_in spelled
content_again word (byte ∷ bytes) spelled =
    let read = digits_again 0 word (byte ∷ bytes) spelled in
    let size = (decode_pairs-ok 0 word (byte ∷ bytes) read).1 in
    let dash : bytes_eq word (codes "-") ≡ false = false_from_ne_true _ (λ t.
    let one : length word ≡ 1 = ap length ((bytes_eq-Decides word (codes "-")).0 t) in
    absurd (omega (arith, one, size))) in
    let full : (length word == 0) ≡ false = ne_eqb (length word) 0 (λ none. omega (arith, none, size)) in
    cond-false (bytes_eq word (codes "-")) (Some []) _ dash
    ∙ cond-false (length word == 0) None (result_ok (decode_of word)) full
    ∙ ap result_ok (decode_of-even word (omega (arith, size)) ∙ read)

-- What a reply prints is spelled so.

pub told_as_spelled : ToldAsSpelled
told_as_spelled [] bytes = refl
told_as_spelled (byte ∷ content) bytes =
    full_found (encode_lower (byte ∷ content)) (byte ∷ content)
    (ne_eqb (length (encode_lower (byte ∷ content))) 0 (λ none. omega (arith, none, length-encode_with lower_digits (byte ∷ content))))
    (decode_of-encode_lower (byte ∷ content) bytes)

-- No digit is a space.

digit_apart : (c v : ℕ) → hex_digit_value c ≡ Some v → (c == 32) ≡ false
digit_apart c v e = ne_eqb c 32 (λ same. let space : hex_digit_value 32 ≡ Some v = ap hex_digit_value (sym same) ∙ e in cc space)

in_digits : (digits bytes : List ℕ) → DigitsSpellAll digits bytes → IsFree 32 digits
in_digits [] bytes spelled = All-nil (λ b. (b == 32) ≡ false)
in_digits (digit ∷ []) [] spelled = absurd spelled
in_digits (digit ∷ []) (byte ∷ bytes) spelled = absurd spelled
in_digits (high ∷ low ∷ digits) [] spelled = absurd spelled
in_digits (high ∷ low ∷ digits) (byte ∷ bytes) spelled =
    All-cons (λ b. (b == 32) ≡ false) high (low ∷ digits) (digit_apart high spelled.0.0 spelled.0.2)
    (All-cons (λ b. (b == 32) ≡ false) low digits (digit_apart low spelled.0.1 spelled.0.3) (in_digits digits bytes spelled.1))

pub in_content : (word content : List ℕ) → ContentSpells word content → IsFree 32 word
in_content word [] spelled = along (IsFree 32) (sym spelled) (All-cons (λ b. (b == 32) ≡ false) 45 [] refl (All-nil (λ b. (b == 32) ≡ false)))
in_content word (byte ∷ bytes) spelled = in_digits word (byte ∷ bytes) spelled
