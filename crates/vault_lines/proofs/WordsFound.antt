-- What is read is spelled so.
use Rattle.std.proofs.Common.{◌≡◌, ℕ, ◌<◌, ◌^◌, ◌==◌, ◌&&◌, true, cond, List, [], ◌∷◌, length, map, Option, Some, None, refl, sym, ap, ◌∙◌, arith, inl, inr}
use Rattle.std.specs.Prelude.{decimal, codes, nat_lt, nat_le}
use Rattle.std.specs.List.{slice_split, AllByRecursion}
use Rattle.std.specs.Option.{option_map}
use Rattle.std.specs.Str.{bytes_eq}
use Rattle.std.specs.Str.Parse.{digits_value}
use Rattle.std.proofs.lemmas.Option.{cond_some, same_Some}
use Rattle.std.proofs.lemmas.Bool.{and_parts, leb-true, ltb-true, eqb-true, eqb-false}
use Rattle.std.proofs.lemmas.Slice.Eq.{bytes_eq-Decides}
use Rattle.std.proofs.lemmas.List.Splits.{join_with_byte-slice_split}
use Rattle.vault_model.specs.Said.{Command}
use Rattle.vault_state.specs.Name.{is_name, name_in, IsName}
use Rattle.vault_state.specs.Path.{path_in, IsPath, path_text}
use Rattle.vault_state.specs.declared.ids.Intent.{Intent}
use Rattle.vault_state.specs.declared.ids.Intent.TheVariants.{Look, Change}
use Rattle.vault_state.specs.declared.ids.ClaimId.{ClaimId}
use Rattle.vault_state.specs.declared.ids.ClaimId.TheVariants.{Long, Short}
use Rattle.vault_state.specs.declared.claims.PathItem.{PathItem}
use Rattle.vault_model.specs.declared.commands.Command.TheVariants as commands
use Rattle.vault_model.proofs.PathTexts.{path_is_its_text}
use Rattle.vault_state.proofs.Lists.{and_then_some}
use Rattle.vault_state.proofs.Lists.{chosen}
use Rattle.vault_lines.specs.Reading.{◌>>=◌, each_in}
use Rattle.vault_lines.specs.Words.{number_in, positive_in, long_in, short_in, claim_in, content_in}
use Rattle.vault_lines.specs.Items.{intent_in, item_in, items_in}
use Rattle.vault_lines.specs.Keywords.{keyword_in, keyword_text, all_keywords}
use Rattle.vault_lines.specs.Grammar.{arguments_in, words_in, command_of}
use Rattle.vault_lines.specs.Texts.{claim_text, intent_letter, item_text}
use Rattle.vault_lines.specs.Spelling.{IsClaimNumber, IsClaimId, AreItems, Spells, LineSpells}
use Rattle.vault_lines.specs.declared.keyword.Keyword.{Keyword}
use Rattle.vault_lines.specs.declared.keyword.Keyword.TheVariants as keywords
use Rattle.vault_lines.proofs.Contents.{content_found}
use Rattle.vault_lines.proofs.Steps.{along, bind_some, map_some, find_passes}

name_found : (word name : List ℕ) → name_in word ≡ Some name → IsName name × (word ≡ name)
name_found word name e =
    let parts = cond_some (is_name word) word name e in
    (along (λ n. is_name n ≡ true) parts.1 parts.0, parts.1)

path_found : (word : List ℕ) (path : List (List ℕ)) → path_in word ≡ Some path → IsPath path × (word ≡ path_text path)
path_found word path e = let spelling = (path_is_its_text word path).0 e in (spelling.0, sym spelling.1)

pub number_found : (word : List ℕ) (n : ℕ) → number_in word ≡ Some n → (n < 2 ^ 32) × (word ≡ decimal n)
number_found word n e =
    let parts = cond_some (nat_lt (digits_value 10 word) (2 ^ 32) && bytes_eq (decimal (digits_value 10 word)) word) (digits_value 10 word) n e in
    let tests = and_parts _ _ parts.0 in
    along (λ m. (m < 2 ^ 32) × (word ≡ decimal m)) parts.1
    (ltb-true _ _ tests.0, sym ((bytes_eq-Decides (decimal (digits_value 10 word)) word).0 tests.1))

positive_found : (word : List ℕ) (n : ℕ) → positive_in word ≡ Some n → IsClaimNumber n × (word ≡ decimal n)
positive_found word n e =
    let some = and_then_some (number_in word) _ n e in
    elim (chosen (some.0 == 0) None (Some some.0) (Some n) some.2) [
      | inl h ↦ cc (h.1)
      | inr h ↦
          let found = number_found word some.0 some.1 in
          let same : some.0 ≡ n = same_Some _ _ h.1 in
          let above : 0 < some.0 = grind (arith, eqb-false _ _ h.0) in
          along (λ m. IsClaimNumber m × (word ≡ decimal m)) same ((above, found.0), found.1)
    ]

-- a number behind a letter
lettered_found : (first letter : ℕ) (digits : List ℕ) (n : ℕ) → cond (letter == first) (positive_in digits) None ≡ Some n
    → IsClaimNumber n × (letter ∷ digits ≡ first ∷ decimal n)
lettered_found first letter digits n e =
    elim (chosen (letter == first) (positive_in digits) None (Some n) e) [
      | inr h ↦ cc (h.1)
      | inl h ↦
          let found = positive_found digits n h.1 in
          (found.0, ap (λ k. k ∷ digits) (eqb-true _ _ h.0) ∙ ap (λ ds. first ∷ ds) found.1)
    ]

long_found : (word : List ℕ) (n : ℕ) → long_in word ≡ Some n → IsClaimNumber n × (word ≡ 99 ∷ decimal n)
long_found [] n e = cc e
long_found (letter ∷ digits) n e = lettered_found 99 letter digits n e

short_found : (word : List ℕ) (n : ℕ) → short_in word ≡ Some n → IsClaimNumber n × (word ≡ 104 ∷ decimal n)
short_found [] n e = cc e
short_found (letter ∷ digits) n e = lettered_found 104 letter digits n e

claim_found : (word : List ℕ) (id : ClaimId) → claim_in word ≡ Some id → IsClaimId id × (word ≡ claim_text id)
claim_found [] id e = cc e
claim_found (letter ∷ digits) id e =
    elim (chosen (letter == 99) (option_map Long (positive_in digits)) _ (Some id) e) [
      | inl h ↦
          let number = map_some (positive_in digits) Long id h.1 in
          let found = positive_found digits number.0 number.1 in
          along (λ i. IsClaimId i × (letter ∷ digits ≡ claim_text i)) number.2
          (found.0, ap (λ k. k ∷ digits) (eqb-true _ _ h.0) ∙ ap (λ ds. 99 ∷ ds) found.1)
      | inr h ↦
          elim (chosen (letter == 104) (option_map Short (positive_in digits)) None (Some id) h.1) [
            | inr k ↦ cc (k.1)
            | inl k ↦
                let number = map_some (positive_in digits) Short id k.1 in
                let found = positive_found digits number.0 number.1 in
                along (λ i. IsClaimId i × (letter ∷ digits ≡ claim_text i)) number.2
                (found.0, ap (λ l. l ∷ digits) (eqb-true _ _ k.0) ∙ ap (λ ds. 104 ∷ ds) found.1)
          ]
    ]

intent_found : (letter : ℕ) (intent : Intent) → intent_in letter ≡ Some intent → letter ≡ intent_letter intent
intent_found letter intent e =
    elim (chosen (letter == 114) (Some Look) _ (Some intent) e) [
      | inl h ↦ along (λ i. letter ≡ intent_letter i) (same_Some _ _ h.1) (eqb-true _ _ h.0)
      | inr h ↦
          elim (chosen (letter == 119) (Some Change) None (Some intent) h.1) [
            | inl k ↦ along (λ i. letter ≡ intent_letter i) (same_Some _ _ k.1) (eqb-true _ _ k.0)
            | inr k ↦ cc (k.1)
          ]
    ]

item_found : (word : List ℕ) (item : PathItem) → item_in word ≡ Some item → IsPath item.path × (word ≡ item_text item)
item_found [] item e = cc e
item_found (letter ∷ []) item e = cc e
item_found (letter ∷ colon ∷ word) item e =
    let intent = bind_some (intent_in letter) _ item e in
    let path = bind_some _ _ item intent.2 in
    elim (chosen (colon == 58) (path_in word) None (Some path.0) path.1) [
      | inr h ↦ cc (h.1)
      | inl h ↦
          let found = path_found word path.0 h.1 in
          along (λ (i : PathItem). IsPath i.path × (letter ∷ colon ∷ word ≡ item_text i)) (same_Some _ _ path.2) (
            found.0,
            ap (λ l. l ∷ colon ∷ word) (intent_found letter intent.0 intent.1)
                ∙ ap (λ c. intent_letter intent.0 ∷ c ∷ word) (eqb-true _ _ h.0)
                ∙ ap (λ w. intent_letter intent.0 ∷ 58 ∷ w) found.1,
          )
    ]

each_found : (words : List (List ℕ)) (items : List PathItem) → each_in item_in words ≡ Some items
    → AllByRecursion (λ (item : PathItem). IsPath item.path) items × (words ≡ map item_text items)
each_found [] items e =
    along (λ is. AllByRecursion (λ (item : PathItem). IsPath item.path) is × ([] ≡ map item_text is)) (same_Some _ _ e) (tt, refl)
each_found (word ∷ words) items e =
    let first = bind_some (item_in word) _ items e in
    let others = bind_some (each_in item_in words) _ items first.2 in
    let here = item_found word first.0 first.1 in
    let there = each_found words others.0 others.1 in
    along (λ is. AllByRecursion (λ (item : PathItem). IsPath item.path) is × (word ∷ words ≡ map item_text is)) (same_Some _ _ others.2)
    ((here.0, there.0), ap (λ w. w ∷ words) here.1 ∙ ap (λ ws. item_text first.0 ∷ ws) there.1)

items_found : (words : List (List ℕ)) (items : List PathItem) → items_in words ≡ Some items
    → AreItems items × (words ≡ map item_text items)
items_found [] items e = cc e
items_found (word ∷ words) [] e =
    let found = each_found (word ∷ words) [] e in
    cc (found.1)
items_found (word ∷ words) (item ∷ items) e =
    let found = each_found (word ∷ words) (item ∷ items) e in
    ((omega arith, found.0), found.1)

-- a kind of word: how it is read, what that gives, and how it is spelled
record Kind (A : Type 0) : Type 1 where
  read : List ℕ → Option A
  Is : A → Type 0
  text : A → List ℕ
  found : (word : List ℕ) (x : A) → read word ≡ Some x → Is x × (word ≡ text x)

abbrev names : Kind (List ℕ)
names = record { read = name_in; Is = IsName; text = λ name. name; found = name_found }

abbrev paths : Kind (List (List ℕ))
paths = record { read = path_in; Is = IsPath; text = path_text; found = path_found }

abbrev numbers : Kind ℕ
numbers = record { read = number_in; Is = λ n. n < 2 ^ 32; text = decimal; found = number_found }

abbrev longs : Kind ℕ
longs = record { read = long_in; Is = IsClaimNumber; text = λ n. claim_text (Long n); found = long_found }

abbrev shorts : Kind ℕ
shorts = record { read = short_in; Is = IsClaimNumber; text = λ n. claim_text (Short n); found = short_found }

abbrev claims : Kind ClaimId
claims = record { read = claim_in; Is = IsClaimId; text = claim_text; found = claim_found }

-- what is read of the words behind a keyword is spelled by them
abbrev AreFound : Keyword → List (List ℕ) → Type 0
AreFound keyword words = (command : Command) → arguments_in keyword words ≡ Some command → Spells (keyword_text keyword ∷ words) command

none_found : (keyword : Keyword) (words : List (List ℕ)) → arguments_in keyword words ≡ None → AreFound keyword words
none_found keyword words none command e = let clash : None ≡ Some command = sym none ∙ e in absurd (cc)

one_found : {A : Type 0} (kind : Kind A) (keyword : Keyword) (make : A → Command) (word : List ℕ)
    → arguments_in keyword (word ∷ []) ≡ (kind.read word >>= λ x. Some (make x))
    → ((x : A) → kind.Is x → Spells (keyword_text keyword ∷ kind.text x ∷ []) (make x)) → AreFound keyword (word ∷ [])
one_found kind keyword make word reads spells command e =
    let read = bind_some (kind.read word) _ command (sym reads ∙ e) in
    let found = kind.found word read.0 read.1 in
    along (Spells (keyword_text keyword ∷ word ∷ [])) (same_Some _ _ read.2)
    (along (λ w. Spells (keyword_text keyword ∷ w ∷ []) (make read.0)) (sym found.1) (spells read.0 found.0))

two_found : {A B : Type 0} (kind : Kind A) (another : Kind B) (keyword : Keyword) (make : A → B → Command) (word other : List ℕ)
    → arguments_in keyword (word ∷ other ∷ []) ≡ (kind.read word >>= λ x. another.read other >>= λ y. Some (make x y))
    → ((x : A) (y : B) → kind.Is x → another.Is y → Spells (keyword_text keyword ∷ kind.text x ∷ another.text y ∷ []) (make x y))
    → AreFound keyword (word ∷ other ∷ [])
two_found kind another keyword make word other reads spells command e =
    let read = bind_some (kind.read word) _ command (sym reads ∙ e) in
    let also = bind_some (another.read other) _ command read.2 in
    let found = kind.found word read.0 read.1 in
    let beside = another.found other also.0 also.1 in
    along (Spells (keyword_text keyword ∷ word ∷ other ∷ [])) (same_Some _ _ also.2)
    (along (λ w. Spells (keyword_text keyword ∷ w ∷ other ∷ []) (make read.0 also.0)) (sym found.1)
    (along (λ w. Spells (keyword_text keyword ∷ kind.text read.0 ∷ w ∷ []) (make read.0 also.0)) (sym beside.1) (spells read.0 also.0 found.0 beside.0)))

-- a keyword with one word behind it
one_word : {A : Type 0} (kind : Kind A) (keyword : Keyword) (make : A → Command) → arguments_in keyword [] ≡ None
    → ((word : List ℕ) → arguments_in keyword (word ∷ []) ≡ (kind.read word >>= λ x. Some (make x)))
    → ((word other : List ℕ) (words : List (List ℕ)) → arguments_in keyword (word ∷ other ∷ words) ≡ None)
    → ((x : A) → kind.Is x → Spells (keyword_text keyword ∷ kind.text x ∷ []) (make x))
    → (words : List (List ℕ)) → AreFound keyword words
one_word kind keyword make none one more spells [] = none_found keyword [] none
one_word kind keyword make none one more spells (word ∷ []) = one_found kind keyword make word (one word) spells
one_word kind keyword make none one more spells (word ∷ other ∷ words) = none_found keyword (word ∷ other ∷ words) (more word other words)

-- a keyword with two words behind it
two_words : {A B : Type 0} (kind : Kind A) (another : Kind B) (keyword : Keyword) (make : A → B → Command) → arguments_in keyword [] ≡ None
    → ((word : List ℕ) → arguments_in keyword (word ∷ []) ≡ None)
    → ((word other : List ℕ) → arguments_in keyword (word ∷ other ∷ []) ≡ (kind.read word >>= λ x. another.read other >>= λ y. Some (make x y)))
    → ((word other third : List ℕ) (words : List (List ℕ)) → arguments_in keyword (word ∷ other ∷ third ∷ words) ≡ None)
    → ((x : A) (y : B) → kind.Is x → another.Is y → Spells (keyword_text keyword ∷ kind.text x ∷ another.text y ∷ []) (make x y))
    → (words : List (List ℕ)) → AreFound keyword words
two_words kind another keyword make none one two more spells [] = none_found keyword [] none
two_words kind another keyword make none one two more spells (word ∷ []) = none_found keyword (word ∷ []) (one word)
two_words kind another keyword make none one two more spells (word ∷ other ∷ []) = two_found kind another keyword make word other (two word other) spells
two_words kind another keyword make none one two more spells (word ∷ other ∷ third ∷ words) =
    none_found keyword (word ∷ other ∷ third ∷ words) (more word other third words)

-- a keyword with a path, and maybe the check-out in whose name a place is made there
place_words : (keyword : Keyword) (make : List (List ℕ) → Option ℕ → Command) → arguments_in keyword [] ≡ None
    → ((word : List ℕ) → arguments_in keyword (word ∷ []) ≡ (path_in word >>= λ path. Some (make path None)))
    → ((word other : List ℕ) → arguments_in keyword (word ∷ other ∷ []) ≡ (path_in word >>= λ path. long_in other >>= λ n. Some (make path (Some n))))
    → ((word other third : List ℕ) (words : List (List ℕ)) → arguments_in keyword (word ∷ other ∷ third ∷ words) ≡ None)
    → ((path : List (List ℕ)) → IsPath path → Spells (keyword_text keyword ∷ path_text path ∷ []) (make path None))
    → ((path : List (List ℕ)) (n : ℕ) → IsPath path → IsClaimNumber n → Spells (keyword_text keyword ∷ path_text path ∷ claim_text (Long n) ∷ []) (make path (Some n)))
    → (words : List (List ℕ)) → AreFound keyword words
place_words keyword make none one two more alone named [] = none_found keyword [] none
place_words keyword make none one two more alone named (word ∷ []) = one_found paths keyword (λ path. make path None) word (one word) alone
place_words keyword make none one two more alone named (word ∷ other ∷ []) =
    two_found paths longs keyword (λ path n. make path (Some n)) word other (two word other) named
place_words keyword make none one two more alone named (word ∷ other ∷ third ∷ words) =
    none_found keyword (word ∷ other ∷ third ∷ words) (more word other third words)

-- a keyword with items alone
all_items : (keyword : Keyword) (make : List PathItem → Command) (words : List (List ℕ))
    → arguments_in keyword words ≡ (items_in words >>= λ items. Some (make items))
    → ((items : List PathItem) → AreItems items → Spells (keyword_text keyword ∷ map item_text items) (make items)) → AreFound keyword words
all_items keyword make words reads spells command e =
    let items = bind_some (items_in words) _ command (sym reads ∙ e) in
    let found = items_found words items.0 items.1 in
    along (Spells (keyword_text keyword ∷ words)) (same_Some _ _ items.2)
    (along (λ ws. Spells (keyword_text keyword ∷ ws) (make items.0)) (sym found.1) (spells items.0 found.0))

extend_found : (words : List (List ℕ)) → AreFound keywords.Extend words
extend_found [] command e = cc e
extend_found (word ∷ words) command e =
    let claim = bind_some (claim_in word) _ command e in
    let items = bind_some (items_in words) _ command claim.2 in
    let named = claim_found word claim.0 claim.1 in
    let found = items_found words items.0 items.1 in
    along (λ c. Spells (codes "extend" ∷ word ∷ words) c) (same_Some _ _ items.2)
    (named.0, found.0, ap (λ w. codes "extend" ∷ w ∷ words) named.1 ∙ ap (λ ws. codes "extend" ∷ claim_text claim.0 ∷ ws) found.1)

save_found : (words : List (List ℕ)) → AreFound keywords.Save words
save_found [] command e = cc e
save_found (claim ∷ []) command e = cc e
save_found (claim ∷ place ∷ []) command e = cc e
save_found (claim ∷ place ∷ digits ∷ []) command e =
    let number = bind_some (long_in claim) _ command e in
    let path = bind_some (path_in place) _ command number.2 in
    let content = bind_some (content_in digits) _ command path.2 in
    let named = long_found claim number.0 number.1 in
    let found = path_found place path.0 path.1 in
    along (λ c. Spells (codes "save" ∷ claim ∷ place ∷ digits ∷ []) c) (same_Some _ _ content.2) (
      named.0,
      found.0,
      (
        digits,
        content_found digits content.0 content.1,
        ap (λ w. codes "save" ∷ w ∷ place ∷ digits ∷ []) named.1
            ∙ ap (λ w. codes "save" ∷ claim_text (Long number.0) ∷ w ∷ digits ∷ []) found.1,
      ),
    )
save_found (claim ∷ place ∷ digits ∷ other ∷ words) command e = cc e

note_found : (words : List (List ℕ)) → AreFound keywords.Note words
note_found [] command e = cc e
note_found (word ∷ []) command e = one_found longs keywords.Note commands.ReadNote word refl (λ n is. (is, refl)) command e
note_found (word ∷ digits ∷ []) command e =
    let claim = bind_some (long_in word) _ command e in
    let text = bind_some (content_in digits) _ command claim.2 in
    let number = long_found word claim.0 claim.1 in
    along (λ c. Spells (codes "note" ∷ word ∷ digits ∷ []) c) (same_Some _ _ text.2)
    (number.0, (digits, content_found digits text.0 text.1, ap (λ w. codes "note" ∷ w ∷ digits ∷ []) number.1))
note_found (word ∷ digits ∷ other ∷ words) command e = cc e

quit_found : (words : List (List ℕ)) → AreFound keywords.Quit words
quit_found [] command e = along (λ c. Spells (codes "quit" ∷ []) c) (same_Some _ _ e) refl
quit_found (word ∷ words) command e = cc e

arguments_found : (keyword : Keyword) (words : List (List ℕ)) → AreFound keyword words
arguments_found keywords.Hello = one_word names keywords.Hello commands.Join refl (λ _. refl) (λ _ _ _. refl) (λ name is. (is, refl))
arguments_found keywords.Make =
    place_words keywords.Make commands.Make refl (λ _. refl) (λ _ _. refl) (λ _ _ _ _. refl) (λ path is. (is, refl)) (λ path n is number. (is, number, refl))
arguments_found keywords.Nest =
    place_words keywords.Nest commands.Nest refl (λ _. refl) (λ _ _. refl) (λ _ _ _ _. refl) (λ path is. (is, refl)) (λ path n is number. (is, number, refl))
arguments_found keywords.CheckOut = λ words. all_items keywords.CheckOut commands.CheckOut words refl (λ items are. (are, refl))
arguments_found keywords.Extend = extend_found
arguments_found keywords.Save = save_found
arguments_found keywords.CheckIn = one_word longs keywords.CheckIn commands.CheckIn refl (λ _. refl) (λ _ _ _. refl) (λ n is. (is, refl))
arguments_found keywords.Abandon = one_word longs keywords.Abandon commands.Abandon refl (λ _. refl) (λ _ _ _. refl) (λ n is. (is, refl))
arguments_found keywords.Hold = λ words. all_items keywords.Hold commands.Hold words refl (λ items are. (are, refl))
arguments_found keywords.Release = one_word shorts keywords.Release commands.Release refl (λ _. refl) (λ _ _ _. refl) (λ n is. (is, refl))
arguments_found keywords.State = one_word claims keywords.State commands.State refl (λ _. refl) (λ _ _ _. refl) (λ id is. (is, refl))
arguments_found keywords.List = one_word paths keywords.List commands.List refl (λ _. refl) (λ _ _ _. refl) (λ path is. (is, refl))
arguments_found keywords.Fetch =
    two_words paths numbers keywords.Fetch commands.Fetch refl (λ _. refl) (λ _ _. refl) (λ _ _ _ _. refl) (λ path n is number. (is, number, refl))
arguments_found keywords.Count = one_word paths keywords.Count commands.Count refl (λ _. refl) (λ _ _ _. refl) (λ path is. (is, refl))
arguments_found keywords.Give =
    two_words longs names keywords.Give commands.Give refl (λ _. refl) (λ _ _. refl) (λ _ _ _ _. refl) (λ n name number is. (number, is, refl))
arguments_found keywords.Note = note_found
arguments_found keywords.Show = one_word claims keywords.Show commands.Show refl (λ _. refl) (λ _ _ _. refl) (λ id is. (is, refl))
arguments_found keywords.Claims = one_word paths keywords.Claims commands.Claims refl (λ _. refl) (λ _ _ _. refl) (λ path is. (is, refl))
arguments_found keywords.Drafts = one_word longs keywords.Drafts commands.Drafts refl (λ _. refl) (λ _ _ _. refl) (λ n is. (is, refl))
arguments_found keywords.Draft =
    two_words longs paths keywords.Draft commands.Draft refl (λ _. refl) (λ _ _. refl) (λ _ _ _ _. refl) (λ n path number is. (number, is, refl))
arguments_found keywords.Wait = one_word claims keywords.Wait commands.Await refl (λ _. refl) (λ _ _ _. refl) (λ id is. (is, refl))
arguments_found keywords.Quit = quit_found

words_found : (words : List (List ℕ)) (command : Command) → words_in words ≡ Some command → Spells words command
words_found [] command e = cc e
words_found (word ∷ words) command e =
    let keyword = bind_some (keyword_in word) _ command e in
    let passes = find_passes (λ k. bytes_eq (keyword_text k) word) all_keywords keyword.0 keyword.1 in
    let same : keyword_text keyword.0 ≡ word = (bytes_eq-Decides (keyword_text keyword.0) word).0 passes in
    along (λ w. Spells (w ∷ words) command) same (arguments_found keyword.0 words command keyword.2)

pub line_found : (line : List ℕ) (command : Command) → command_of line ≡ Some command → LineSpells line command
line_found line command e =
    elim (chosen (nat_le (length line) 4096) (words_in (slice_split (λ b. b == 32) line)) None (Some command) e) [
      | inr h ↦ cc (h.1)
      | inl h ↦
          (leb-true _ _ h.0, (slice_split (λ b. b == 32) line, words_found (slice_split (λ b. b == 32) line) command h.1, sym (join_with_byte-slice_split 32 line)))
    ]
