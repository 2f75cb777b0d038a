-- A field that is read is the field that was written, and what was written is read again.
use Rattle.std.proofs.Common.{◌≡◌, ℕ, zero, suc, ◌^◌, ◌<◌, ◌≤◌, Bool, true, false, cond, eqb, ltb, leb, List, [], ◌∷◌, ◌++◌, length, take, drop, Option, Some, None, refl, sym, ap, subst, ◌∙◌, append_assoc, arith}
use Rattle.std.specs.Prelude.{◌&&◌}
use Rattle.std.specs.List.{flat_map, AllByRecursion}
use Rattle.std.specs.Int.{w16, w32, w64, from_be_bytes}
use Rattle.std.proofs.lemmas.Bool.{ltb-false, le-ltb}
use Rattle.std.proofs.lemmas.Bool.Decides.{nat_tests}
use Rattle.std.proofs.lemmas.List.{take_at, drop_at, take-append-drop, length-append, length-take}
use Rattle.std.proofs.lemmas.List.Concat.{flat_map-cons}
use Rattle.std.proofs.lemmas.Nat.{be_bytes_2, be_bytes_4, be_bytes_8, from_be_bytes-to_be_bytes_2, from_be_bytes-to_be_bytes_4, from_be_bytes-to_be_bytes_8}
use Rattle.vault_state.specs.Name.{IsName, is_name}
use Rattle.vault_state.specs.Note.{IsNote, is_note}
use Rattle.vault_state.specs.Limits.{most_items}
use Rattle.vault_state.specs.declared.ids.Intent.{Intent}
use Rattle.vault_state.specs.declared.ids.Intent.TheVariants.{Look, Change}
use Rattle.vault_state.specs.declared.claims.Item.{Item}
use Rattle.vault_journal.specs.Spelling.{in_two, in_four, in_eight, name_bytes, item_bytes, items_bytes, content_bytes, note_bytes, longest_content, ItemFits, AreItems, IsClaimNumber}
use Rattle.vault_journal.specs.Reading.{◌>>=◌, u8_at, u16_at, u32_at, u64_at, bytes_at, name_at, item_at, each_item_at, items_at, content_at, note_at, claim_at}
use Rattle.vault_journal.specs.Laws.{AreBytes}
use Rattle.vault_journal.proofs.Takes.{AreBytes-drop, AreBytes-take, bind_some, guard_some, guard_passed, some_is, Takes, Takes-then, Takes-behind}

-- ---- numbers

-- a reader of this number of bytes
abbrev front : ℕ → (List ℕ → ℕ) → List ℕ → Option (ℕ × List ℕ)
front size read bytes = cond (ltb (length bytes) size) None (Some (read (take size bytes), drop size bytes))

front_takes : (size : ℕ) (read : List ℕ → ℕ) (write : ℕ → List ℕ) (back : (bs : List ℕ) (n : ℕ) → length bs ≡ size → AreBytes bs → n ≡ read bs → write n ≡ bs) (bytes : List ℕ) (n : ℕ) (rest : List ℕ) → AreBytes bytes → front size read bytes ≡ Some (n, rest)
    → Takes bytes (write n) rest × (n ≡ read (take size bytes))
front_takes size read write back bytes n rest fits e =
    let g = guard_some (ltb (length bytes) size) (Some (read (take size bytes), drop size bytes)) (n, rest) e in
    let long : size ≤ length bytes = ltb-false _ _ g.0 in
    let same = some_is (read (take size bytes), drop size bytes) (n, rest) g.1 in
    let n-is : read (take size bytes) ≡ n = ap (λ (p : ℕ × List ℕ). p.0) same in
    let rest-is : drop size bytes ≡ rest = ap (λ (p : ℕ × List ℕ). p.1) same in
    let text : write n ≡ take size bytes = back (take size bytes) n (omega (arith, length-take size bytes)) (AreBytes-take size bytes fits) (sym n-is) in (
      record {
        parts = sym (take-append-drop size bytes) ∙ ap (λ (l : List ℕ). l ++ drop size bytes) (sym text) ∙ ap (λ (l : List ℕ). write n ++ l) rest-is;
        rest_fits = subst AreBytes rest-is (AreBytes-drop size bytes fits);
      },
      sym n-is,
    )

front_again : (size : ℕ) (read : List ℕ → ℕ) (text : List ℕ) (n : ℕ) (rest : List ℕ) → length text ≡ size → read text ≡ n → front size read (text ++ rest) ≡ Some (n, rest)
front_again size read text n rest is back =
    let long : ltb (length (text ++ rest)) size ≡ false = le-ltb _ _ (omega (arith, length-append text rest)) in
    rw (long, take_at text rest size is, drop_at text rest size is, back) refl

pub u8_takes : (bytes : List ℕ) (n : ℕ) (rest : List ℕ) → AreBytes bytes → u8_at bytes ≡ Some (n, rest) → Takes bytes (n ∷ []) rest × (n < 2 ^ 8)
u8_takes [] n rest fits e = absurd cc
u8_takes (b ∷ bytes) n rest fits e =
    subst (λ (p : ℕ × List ℕ). Takes (b ∷ bytes) (p.0 ∷ []) p.1 × (p.0 < 2 ^ 8)) (some_is (b, bytes) (n, rest) e) (record { parts = refl; rest_fits = λ i. fits (suc i) }, fits 0)

pub u8_again : (n : ℕ) (rest : List ℕ) → u8_at ((n ∷ []) ++ rest) ≡ Some (n, rest)
u8_again n rest = refl

pub u16_takes : (bytes : List ℕ) (n : ℕ) (rest : List ℕ) → AreBytes bytes → u16_at bytes ≡ Some (n, rest) → Takes bytes (in_two n) rest × (n < 2 ^ 16)
u16_takes bytes n rest fits e =
    let t = front_takes 2 (λ (l : List ℕ). from_be_bytes w16 l) in_two be_bytes_2 bytes n rest fits e in
    let f = AreBytes-take 2 bytes fits in
    let below : from_be_bytes w16 (take 2 bytes) < 2 ^ 16 = omega (arith, f 0, f 1) in
    (t.0, subst (λ k. k < 2 ^ 16) (sym t.1) below)

pub u16_again : (n : ℕ) (rest : List ℕ) → n < 2 ^ 16 → u16_at (in_two n ++ rest) ≡ Some (n, rest)
u16_again n rest lt = front_again 2 (λ (l : List ℕ). from_be_bytes w16 l) (in_two n) n rest refl (from_be_bytes-to_be_bytes_2 n lt)

pub u32_takes : (bytes : List ℕ) (n : ℕ) (rest : List ℕ) → AreBytes bytes → u32_at bytes ≡ Some (n, rest) → Takes bytes (in_four n) rest × (n < 2 ^ 32)
u32_takes bytes n rest fits e =
    let t = front_takes 4 (λ (l : List ℕ). from_be_bytes w32 l) in_four be_bytes_4 bytes n rest fits e in
    let f = AreBytes-take 4 bytes fits in
    let below : from_be_bytes w32 (take 4 bytes) < 2 ^ 32 = omega (arith, f 0, f 1, f 2, f 3) in
    (t.0, subst (λ k. k < 2 ^ 32) (sym t.1) below)

pub u32_again : (n : ℕ) (rest : List ℕ) → n < 2 ^ 32 → u32_at (in_four n ++ rest) ≡ Some (n, rest)
u32_again n rest lt = front_again 4 (λ (l : List ℕ). from_be_bytes w32 l) (in_four n) n rest refl (from_be_bytes-to_be_bytes_4 n lt)

pub u64_takes : (bytes : List ℕ) (n : ℕ) (rest : List ℕ) → AreBytes bytes → u64_at bytes ≡ Some (n, rest) → Takes bytes (in_eight n) rest × (n < 2 ^ 64)
u64_takes bytes n rest fits e =
    let t = front_takes 8 (λ (l : List ℕ). from_be_bytes w64 l) in_eight be_bytes_8 bytes n rest fits e in
    let f = AreBytes-take 8 bytes fits in
    let below : from_be_bytes w64 (take 8 bytes) < 2 ^ 64 = omega (arith, f 0, f 1, f 2, f 3, f 4, f 5, f 6, f 7) in
    (t.0, subst (λ k. k < 2 ^ 64) (sym t.1) below)

pub u64_again : (n : ℕ) (rest : List ℕ) → n < 2 ^ 64 → u64_at (in_eight n ++ rest) ≡ Some (n, rest)
u64_again n rest lt = front_again 8 (λ (l : List ℕ). from_be_bytes w64 l) (in_eight n) n rest refl (from_be_bytes-to_be_bytes_8 n lt)

-- ---- bytes

bytes_take : (n : ℕ) (bytes text rest : List ℕ) → AreBytes bytes → bytes_at n bytes ≡ Some (text, rest) → Takes bytes text rest × (length text ≡ n)
bytes_take n bytes text rest fits e =
    let g = guard_some (ltb (length bytes) n) (Some (take n bytes, drop n bytes)) (text, rest) e in
    let long : n ≤ length bytes = ltb-false _ _ g.0 in
    let size : length (take n bytes) ≡ n = omega (arith, length-take n bytes) in
    let whole : Takes bytes (take n bytes) (drop n bytes) = record { parts = sym (take-append-drop n bytes); rest_fits = AreBytes-drop n bytes fits } in
    subst (λ (p : List ℕ × List ℕ). Takes bytes p.0 p.1 × (length p.0 ≡ n)) (some_is (take n bytes, drop n bytes) (text, rest) g.1) (whole, size)

bytes_again : (text rest : List ℕ) → bytes_at (length text) (text ++ rest) ≡ Some (text, rest)
bytes_again text rest =
    let long : ltb (length (text ++ rest)) (length text) ≡ false = le-ltb _ _ (omega (arith, length-append text rest)) in
    rw (long, take_at text rest (length text) refl, drop_at text rest (length text) refl) refl

-- ---- names

abbrev checked_name : List ℕ × List ℕ → Option (List ℕ × List ℕ)
checked_name name = cond (is_name name.0) (Some name) None

pub name_takes : (bytes text rest : List ℕ) → AreBytes bytes → name_at bytes ≡ Some (text, rest) → Takes bytes (name_bytes text) rest × IsName text
unfolding name_at
name_takes bytes text rest fits e =
    let a = bind_some (u8_at bytes) (λ count. bytes_at count.0 count.1 >>= checked_name) (text, rest) e in
    let b = bind_some (bytes_at a.0.0 a.0.1) checked_name (text, rest) a.2 in
    let g = guard_passed (is_name b.0.0) (Some b.0) (text, rest) b.2 in
    let t = u8_takes bytes a.0.0 a.0.1 fits a.1 in
    let u = bytes_take a.0.0 a.0.1 b.0.0 b.0.1 t.0.rest_fits b.1 in
    let joined = Takes-then bytes (a.0.0 ∷ []) a.0.1 b.0.0 b.0.1 t.0 u.0 in
    let whole = subst (λ (n : ℕ). Takes bytes (n ∷ b.0.0) b.0.1) (sym u.1) joined in
    subst (λ (p : List ℕ × List ℕ). Takes bytes (name_bytes p.0) p.1 × IsName p.0) (some_is b.0 (text, rest) g.1) (whole, g.0)

pub name_again : (text rest : List ℕ) → IsName text → name_at (name_bytes text ++ rest) ≡ Some (text, rest)
unfolding name_at
name_again text rest is =
    let known : is_name text ≡ true = is in
    ap (λ (r : Option (List ℕ × List ℕ)). r >>= checked_name) (bytes_again text rest) ∙ ap (λ (b : Bool). cond b (Some (text, rest)) None) known

-- ---- notes

abbrev checked_note : List ℕ × List ℕ → Option (List ℕ × List ℕ)
checked_note note = cond (is_note note.0) (Some note) None

pub note_takes : (bytes text rest : List ℕ) → AreBytes bytes → note_at bytes ≡ Some (text, rest) → Takes bytes (note_bytes text) rest × IsNote text
unfolding note_at
note_takes bytes text rest fits e =
    let a = bind_some (u8_at bytes) (λ count. bytes_at count.0 count.1 >>= checked_note) (text, rest) e in
    let b = bind_some (bytes_at a.0.0 a.0.1) checked_note (text, rest) a.2 in
    let g = guard_passed (is_note b.0.0) (Some b.0) (text, rest) b.2 in
    let t = u8_takes bytes a.0.0 a.0.1 fits a.1 in
    let u = bytes_take a.0.0 a.0.1 b.0.0 b.0.1 t.0.rest_fits b.1 in
    let joined = Takes-then bytes (a.0.0 ∷ []) a.0.1 b.0.0 b.0.1 t.0 u.0 in
    let whole = subst (λ (n : ℕ). Takes bytes (n ∷ b.0.0) b.0.1) (sym u.1) joined in
    subst (λ (p : List ℕ × List ℕ). Takes bytes (note_bytes p.0) p.1 × IsNote p.0) (some_is b.0 (text, rest) g.1) (whole, short_from b.0.0 g.0)
  where
    short_from : (l : List ℕ) → is_note l ≡ true → IsNote l
    short_from l e = grind (arith, nat_tests)

pub note_again : (text rest : List ℕ) → IsNote text → note_at (note_bytes text ++ rest) ≡ Some (text, rest)
unfolding note_at
note_again text rest short =
    let known : is_note text ≡ true = grind (arith, nat_tests) in
    ap (λ (r : Option (List ℕ × List ℕ)). r >>= checked_note) (bytes_again text rest) ∙ ap (λ (b : Bool). cond b (Some (text, rest)) None) known

-- ---- contents

abbrev checked_content : ℕ × List ℕ → Option (List ℕ × List ℕ)
checked_content count = cond (leb count.0 longest_content) (bytes_at count.0 count.1) None

pub content_takes : (bytes text rest : List ℕ) → AreBytes bytes → content_at bytes ≡ Some (text, rest) → Takes bytes (content_bytes text) rest × (length text ≤ longest_content)
unfolding content_at
content_takes bytes text rest fits e =
    let a = bind_some (u16_at bytes) checked_content (text, rest) e in
    let g = guard_passed (leb a.0.0 longest_content) (bytes_at a.0.0 a.0.1) (text, rest) a.2 in
    let t = u16_takes bytes a.0.0 a.0.1 fits a.1 in
    let u = bytes_take a.0.0 a.0.1 text rest t.0.rest_fits g.1 in
    let short : a.0.0 ≤ longest_content = short_from a.0.0 g.0 in
    let joined = Takes-then bytes (in_two a.0.0) a.0.1 text rest t.0 u.0 in
    (subst (λ (n : ℕ). Takes bytes (in_two n ++ text) rest) (sym u.1) joined, omega (arith, u.1, short))
  where
    short_from : (n : ℕ) → leb n longest_content ≡ true → n ≤ longest_content
    short_from n e = grind (arith, nat_tests)

pub content_again : (text rest : List ℕ) → length text ≤ longest_content → content_at (content_bytes text ++ rest) ≡ Some (text, rest)
unfolding content_at
content_again text rest short =
    let passes : leb (length text) longest_content ≡ true = grind (arith, nat_tests) in
    ap (λ (r : Option (ℕ × List ℕ)). r >>= checked_content) (u16_again (length text) (text ++ rest) (omega (arith, short)))
    ∙ ap (λ (b : Bool). cond b (bytes_at (length text) (text ++ rest)) None) passes
    ∙ bytes_again text rest

-- ---- numbers of claims

abbrev checked_claim : ℕ × List ℕ → Option (ℕ × List ℕ)
checked_claim claim = cond (eqb claim.0 0) None (Some claim)

pub claim_takes : (bytes : List ℕ) (n : ℕ) (rest : List ℕ) → AreBytes bytes → claim_at bytes ≡ Some (n, rest) → Takes bytes (in_four n) rest × IsClaimNumber n
unfolding claim_at
claim_takes bytes n rest fits e =
    let b = bind_some (u32_at bytes) checked_claim (n, rest) e in
    let g = guard_some (eqb b.0.0 0) (Some b.0) (n, rest) b.2 in
    let t = u32_takes bytes b.0.0 b.0.1 fits b.1 in
    let is : IsClaimNumber b.0.0 = record { positive = positive_from b.0.0 g.0; fits = t.1 } in
    subst (λ (p : ℕ × List ℕ). Takes bytes (in_four p.0) p.1 × IsClaimNumber p.0) (some_is b.0 (n, rest) g.1) (t.0, is)
  where
    positive_from : (k : ℕ) → eqb k 0 ≡ false → 0 < k
    positive_from zero e = absurd cc
    positive_from (suc k) e = omega arith

pub claim_again : (n : ℕ) (rest : List ℕ) → IsClaimNumber n → claim_at (in_four n ++ rest) ≡ Some (n, rest)
unfolding claim_at
claim_again n rest is =
    let nonzero : eqb n 0 ≡ false = not_zero n is.positive in
    ap (λ (r : Option (ℕ × List ℕ)). r >>= checked_claim) (u32_again n rest is.fits) ∙ ap (λ (b : Bool). cond b None (Some (n, rest))) nonzero
  where
    not_zero : (k : ℕ) → 0 < k → eqb k 0 ≡ false
    not_zero k lt = grind (arith, nat_tests)

-- ---- items

abbrev with_intent : Intent → ℕ × List ℕ → Option (Item × List ℕ)
with_intent intent place = Some (record { intent = intent; place = place.0 }, place.1)

with_intent_takes : (intent : Intent) (bytes : List ℕ) (i : Item) (rest : List ℕ) → AreBytes bytes → (u32_at bytes >>= with_intent intent) ≡ Some (i, rest) → (place : ℕ) × Takes bytes (in_four place) rest × (place < 2 ^ 32) × (i ≡ record { intent = intent; place = place })
with_intent_takes intent bytes i rest fits e =
    let b = bind_some (u32_at bytes) (with_intent intent) (i, rest) e in
    let t = u32_takes bytes b.0.0 b.0.1 fits b.1 in
    let same = some_is (record { intent = intent; place = b.0.0 }, b.0.1) (i, rest) b.2 in
    (b.0.0, subst (λ (l : List ℕ). Takes bytes (in_four b.0.0) l) (ap (λ (p : Item × List ℕ). p.1) same) t.0, t.1, sym (ap (λ (p : Item × List ℕ). p.0) same))

pub item_takes : (bytes : List ℕ) (i : Item) (rest : List ℕ) → AreBytes bytes → item_at bytes ≡ Some (i, rest) → Takes bytes (item_bytes i) rest × ItemFits i
unfolding item_at
item_takes [] i rest fits e = absurd cc
item_takes (zero ∷ bytes) i rest fits e =
    let t = with_intent_takes Look bytes i rest (λ k. fits (suc k)) e in
    subst (λ (x : Item). Takes (0 ∷ bytes) (item_bytes x) rest × ItemFits x) (sym t.3) (Takes-behind 0 bytes (in_four t.0) rest t.1, t.2)
item_takes (suc zero ∷ bytes) i rest fits e =
    let t = with_intent_takes Change bytes i rest (λ k. fits (suc k)) e in
    subst (λ (x : Item). Takes (1 ∷ bytes) (item_bytes x) rest × ItemFits x) (sym t.3) (Takes-behind 1 bytes (in_four t.0) rest t.1, t.2)
item_takes (suc (suc b) ∷ bytes) i rest fits e = absurd cc

item_again_at : (t : Intent) (p : ℕ) (rest : List ℕ) → p < 2 ^ 32 → item_at (item_bytes (record { intent = t; place = p }) ++ rest) ≡ Some (record { intent = t; place = p }, rest)
unfolding item_at
item_again_at Look p rest lt = ap (λ (r : Option (ℕ × List ℕ)). r >>= with_intent Look) (u32_again p rest lt)
item_again_at Change p rest lt = ap (λ (r : Option (ℕ × List ℕ)). r >>= with_intent Change) (u32_again p rest lt)

pub item_again : (i : Item) (rest : List ℕ) → ItemFits i → item_at (item_bytes i ++ rest) ≡ Some (i, rest)
item_again i rest fits = item_again_at i.intent i.place rest fits

abbrev and_others : ℕ → Item × List ℕ → Option (List Item × List ℕ)
and_others n first = each_item_at n first.1 >>= λ others. Some (first.0 ∷ others.0, others.1)

pub each_takes : (n : ℕ) (bytes : List ℕ) (is : List Item) (rest : List ℕ) → AreBytes bytes → each_item_at n bytes ≡ Some (is, rest) → Takes bytes (flat_map item_bytes is) rest × (length is ≡ n) × AllByRecursion ItemFits is
unfolding each_item_at
each_takes zero bytes is rest fits e =
    subst (λ (x : List Item × List ℕ). Takes bytes (flat_map item_bytes x.0) x.1 × (length x.0 ≡ 0) × AllByRecursion ItemFits x.0) (some_is ([], bytes) (is, rest) e) (record { parts = refl; rest_fits = fits }, refl, tt)
each_takes (suc n) bytes is rest fits e =
    let a = bind_some (item_at bytes) (and_others n) (is, rest) e in
    let b = bind_some (each_item_at n a.0.1) (λ others. Some (a.0.0 ∷ others.0, others.1)) (is, rest) a.2 in
    let t = item_takes bytes a.0.0 a.0.1 fits a.1 in
    let u = each_takes n a.0.1 b.0.0 b.0.1 t.0.rest_fits b.1 in
    let joined = Takes-then bytes (item_bytes a.0.0) a.0.1 (flat_map item_bytes b.0.0) b.0.1 t.0 u.0 in
    let whole = subst (λ (l : List ℕ). Takes bytes l b.0.1) (sym (flat_map-cons item_bytes a.0.0 b.0.0)) joined in
    subst (λ (x : List Item × List ℕ). Takes bytes (flat_map item_bytes x.0) x.1 × (length x.0 ≡ suc n) × AllByRecursion ItemFits x.0) (some_is (a.0.0 ∷ b.0.0, b.0.1) (is, rest) b.2) (whole, omega (arith, u.1), (t.1, u.2))

pub each_again : (is : List Item) (rest : List ℕ) → AllByRecursion ItemFits is → each_item_at (length is) (flat_map item_bytes is ++ rest) ≡ Some (is, rest)
unfolding each_item_at
each_again [] rest fits = refl
each_again (i ∷ is) rest fits =
    let split : flat_map item_bytes (i ∷ is) ++ rest ≡ item_bytes i ++ (flat_map item_bytes is ++ rest) = ap (λ (l : List ℕ). l ++ rest) (flat_map-cons item_bytes i is) ∙ append_assoc (item_bytes i) (flat_map item_bytes is) rest in
    ap (λ (l : List ℕ). item_at l >>= and_others (length is)) split
    ∙ ap (λ (r : Option (Item × List ℕ)). r >>= and_others (length is)) (item_again i (flat_map item_bytes is ++ rest) fits.0)
    ∙ ap (λ (r : Option (List Item × List ℕ)). r >>= λ others. Some (i ∷ others.0, others.1)) (each_again is rest fits.1)

abbrev checked_items : ℕ × List ℕ → Option (List Item × List ℕ)
checked_items count = cond (leb 1 count.0 && leb count.0 most_items) (each_item_at count.0 count.1) None

pub items_take : (bytes : List ℕ) (is : List Item) (rest : List ℕ) → AreBytes bytes → items_at bytes ≡ Some (is, rest) → Takes bytes (items_bytes is) rest × AreItems is
unfolding items_at
items_take bytes is rest fits e =
    let a = bind_some (u8_at bytes) checked_items (is, rest) e in
    let g = guard_passed (leb 1 a.0.0 && leb a.0.0 most_items) (each_item_at a.0.0 a.0.1) (is, rest) a.2 in
    let t = u8_takes bytes a.0.0 a.0.1 fits a.1 in
    let u = each_takes a.0.0 a.0.1 is rest t.0.rest_fits g.1 in
    let within = bounds a.0.0 g.0 in
    let joined = Takes-then bytes (a.0.0 ∷ []) a.0.1 (flat_map item_bytes is) rest t.0 u.0 in
    (subst (λ (n : ℕ). Takes bytes (n ∷ flat_map item_bytes is) rest) (sym u.1) joined, record { some = omega (arith, u.1, within.0); few = omega (arith, u.1, within.1); fit = u.2 })
  where
    bounds : (n : ℕ) → (leb 1 n && leb n most_items) ≡ true → (1 ≤ n) × (n ≤ most_items)
    bounds n e = (grind (arith, nat_tests), grind (arith, nat_tests))

pub items_again : (is : List Item) (rest : List ℕ) → AreItems is → items_at (items_bytes is ++ rest) ≡ Some (is, rest)
unfolding items_at
items_again is rest are =
    let some = are.some in
    let few = are.few in
    let passes : (leb 1 (length is) && leb (length is) most_items) ≡ true = grind (arith, nat_tests) in
    ap (λ (b : Bool). cond b (each_item_at (length is) (flat_map item_bytes is ++ rest)) None) passes ∙ each_again is rest are.fit
