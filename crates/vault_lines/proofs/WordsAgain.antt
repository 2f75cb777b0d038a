-- What is spelled so is read.
use Rattle.std.proofs.Common.{◌≡◌, ℕ, ◌<◌, ◌^◌, ◌==◌, true, false, not, cond, List, [], ◌∷◌, length, map, Some, None, refl, sym, ap, ◌∙◌, arith}
use Rattle.std.specs.Prelude.{decimal, codes, nat_le}
use Rattle.std.specs.List.{slice_split, join_with_byte, AllByRecursion, list_all, flat_map}
use Rattle.std.specs.Option.{option_map, option_and_then}
use Rattle.std.specs.Char.{digit_value}
use Rattle.std.specs.Str.Parse.{AllDigits}
use Rattle.std.proofs.lemmas.Option.{same_Some}
use Rattle.std.proofs.lemmas.Bool.{and_parts, le-leb, ne_eqb, cond-true, cond-false, not-true}
use Rattle.std.proofs.lemmas.Fmt.{decimal_is_IsNumeral}
use Rattle.std.proofs.lemmas.List.Elements.{All-nil, All-cons, All-append}
use Rattle.vault_model.specs.Said.{Command}
use Rattle.vault_state.specs.Name.{is_name, is_name_byte, name_in, IsName}
use Rattle.vault_state.specs.Path.{path_in, IsPath, path_text}
use Rattle.vault_state.specs.declared.ids.Intent.{Intent}
use Rattle.vault_state.specs.declared.ids.Intent.TheVariants.{Look, Change}
use Rattle.vault_state.specs.declared.ids.ClaimId.{ClaimId}
use Rattle.vault_state.specs.declared.ids.ClaimId.TheVariants.{Long, Short}
use Rattle.vault_state.specs.declared.claims.PathItem.{PathItem}
use Rattle.vault_model.specs.declared.commands.Command.TheVariants as commands
use Rattle.vault_state.proofs.Joined.{IsFree, split_joined}
use Rattle.vault_model.proofs.PathTexts.{path_is_its_text}
use Rattle.vault_lines.specs.Reading.{◌>>=◌, each_in}
use Rattle.vault_lines.specs.Words.{number_in, positive_in, claim_in, content_in}
use Rattle.vault_lines.specs.Items.{intent_in, item_in, items_in}
use Rattle.vault_lines.specs.Grammar.{words_in, command_of}
use Rattle.vault_lines.specs.Texts.{claim_text, intent_letter, item_text}
use Rattle.vault_lines.specs.Spelling.{IsClaimNumber, IsClaimId, AreItems, Spells, LineSpells, OneCommand}
use Rattle.vault_lines.proofs.Numbers.{number_is}
use Rattle.vault_lines.proofs.Contents.{content_again, in_content}
use Rattle.vault_lines.proofs.Steps.{along}

-- Reading.

name_again : (name : List ℕ) → IsName name → name_in name ≡ Some name
name_again name h = cond-true (is_name name) (Some name) None h

path_again : (path : List (List ℕ)) → IsPath path → path_in (path_text path) ≡ Some path
path_again path h = (path_is_its_text (path_text path) path).1 (h, refl)

positive_again : (n : ℕ) → IsClaimNumber n → positive_in (decimal n) ≡ Some n
positive_again n h =
    ap (option_and_then (λ m. cond (m == 0) None (Some m))) (number_is (decimal n) n h.1 refl)
    ∙ cond-false (n == 0) None (Some n) (ne_eqb n 0 (λ e. omega (arith, h.0)))

claim_again : (id : ClaimId) → IsClaimId id → claim_in (claim_text id) ≡ Some id
claim_again (Long n) h = ap (option_map Long) (positive_again n h)
claim_again (Short n) h = ap (option_map Short) (positive_again n h)

intent_again : (intent : Intent) → intent_in (intent_letter intent) ≡ Some intent
intent_again Look = refl
intent_again Change = refl

item_again : (item : PathItem) → IsPath item.path → item_in (item_text item) ≡ Some item
item_again item h =
    ap (λ intent. intent >>= λ i. path_in (path_text item.path) >>= λ path. Some (record { intent = i; path = path })) (intent_again item.intent)
    ∙ ap (λ path. path >>= λ p. Some (record { intent = item.intent; path = p })) (path_again item.path h)

each_again : (items : List PathItem) → AllByRecursion (λ (item : PathItem). IsPath item.path) items → each_in item_in (map item_text items) ≡ Some items
each_again [] h = refl
each_again (item ∷ items) h =
    ap (λ first. first >>= λ x. each_in item_in (map item_text items) >>= λ xs. Some (x ∷ xs)) (item_again item h.0)
    ∙ ap (λ others. others >>= λ xs. Some (item ∷ xs)) (each_again items h.1)

items_again : (items : List PathItem) → AreItems items → items_in (map item_text items) ≡ Some items
items_again [] h = absurd (omega (arith, h.0))
items_again (item ∷ items) h = each_again (item ∷ items) h.1

words_again : (words : List (List ℕ)) (command : Command) → Spells words command → words_in words ≡ Some command
words_again words (commands.Join name) h = ap words_in h.1 ∙ ap (λ name. name >>= λ n. Some (commands.Join n)) (name_again name h.0)
words_again words (commands.Make path None) h = ap words_in h.1 ∙ ap (λ path. path >>= λ p. Some (commands.Make p None)) (path_again path h.0)
words_again words (commands.Make path (Some number)) h =
    ap words_in h.2
    ∙ ap (λ place. place >>= λ p. positive_in (decimal number) >>= λ n. Some (commands.Make p (Some n))) (path_again path h.0)
    ∙ ap (λ claim. claim >>= λ n. Some (commands.Make path (Some n))) (positive_again number h.1)
words_again words (commands.Nest path None) h = ap words_in h.1 ∙ ap (λ path. path >>= λ p. Some (commands.Nest p None)) (path_again path h.0)
words_again words (commands.Nest path (Some number)) h =
    ap words_in h.2
    ∙ ap (λ place. place >>= λ p. positive_in (decimal number) >>= λ n. Some (commands.Nest p (Some n))) (path_again path h.0)
    ∙ ap (λ claim. claim >>= λ n. Some (commands.Nest path (Some n))) (positive_again number h.1)
words_again words (commands.CheckOut items) h = ap words_in h.1 ∙ ap (λ items. items >>= λ is. Some (commands.CheckOut is)) (items_again items h.0)
words_again words (commands.Extend claim items) h =
    ap words_in h.2
    ∙ ap (λ named. named >>= λ c. items_in (map item_text items) >>= λ is. Some (commands.Extend c is)) (claim_again claim h.0)
    ∙ ap (λ items. items >>= λ is. Some (commands.Extend claim is)) (items_again items h.1)
words_again words (commands.Save number path content) h =
    ap words_in h.2.2
    ∙ ap (λ named. named >>= λ n. path_in (path_text path) >>= λ p. content_in h.2.0 >>= λ c. Some (commands.Save n p c)) (positive_again number h.0)
    ∙ ap (λ place. place >>= λ p. content_in h.2.0 >>= λ c. Some (commands.Save number p c)) (path_again path h.1)
    ∙ ap (λ bytes. bytes >>= λ c. Some (commands.Save number path c)) (content_again h.2.0 content h.2.1)
words_again words (commands.CheckIn number) h = ap words_in h.1 ∙ ap (λ claim. claim >>= λ n. Some (commands.CheckIn n)) (positive_again number h.0)
words_again words (commands.Abandon number) h = ap words_in h.1 ∙ ap (λ claim. claim >>= λ n. Some (commands.Abandon n)) (positive_again number h.0)
words_again words (commands.Hold items) h = ap words_in h.1 ∙ ap (λ items. items >>= λ is. Some (commands.Hold is)) (items_again items h.0)
words_again words (commands.Release number) h = ap words_in h.1 ∙ ap (λ claim. claim >>= λ n. Some (commands.Release n)) (positive_again number h.0)
words_again words (commands.State claim) h = ap words_in h.1 ∙ ap (λ claim. claim >>= λ c. Some (commands.State c)) (claim_again claim h.0)
words_again words (commands.List path) h = ap words_in h.1 ∙ ap (λ path. path >>= λ p. Some (commands.List p)) (path_again path h.0)
words_again words (commands.Fetch path version) h =
    ap words_in h.2
    ∙ ap (λ place. place >>= λ p. number_in (decimal version) >>= λ n. Some (commands.Fetch p n)) (path_again path h.0)
    ∙ ap (λ number. number >>= λ n. Some (commands.Fetch path n)) (number_is (decimal version) version h.1 refl)
words_again words (commands.Count path) h = ap words_in h.1 ∙ ap (λ path. path >>= λ p. Some (commands.Count p)) (path_again path h.0)
words_again words (commands.Give number designer) h =
    ap words_in h.2
    ∙ ap (λ claim. claim >>= λ n. name_in designer >>= λ d. Some (commands.Give n d)) (positive_again number h.0)
    ∙ ap (λ name. name >>= λ d. Some (commands.Give number d)) (name_again designer h.1)
words_again words (commands.Note number text) h =
    ap words_in h.1.2
    ∙ ap (λ claim. claim >>= λ n. content_in h.1.0 >>= λ t. Some (commands.Note n t)) (positive_again number h.0)
    ∙ ap (λ bytes. bytes >>= λ t. Some (commands.Note number t)) (content_again h.1.0 text h.1.1)
words_again words (commands.ReadNote number) h = ap words_in h.1 ∙ ap (λ claim. claim >>= λ n. Some (commands.ReadNote n)) (positive_again number h.0)
words_again words (commands.Show claim) h = ap words_in h.1 ∙ ap (λ claim. claim >>= λ c. Some (commands.Show c)) (claim_again claim h.0)
words_again words (commands.Claims path) h = ap words_in h.1 ∙ ap (λ path. path >>= λ p. Some (commands.Claims p)) (path_again path h.0)
words_again words (commands.Drafts number) h = ap words_in h.1 ∙ ap (λ claim. claim >>= λ n. Some (commands.Drafts n)) (positive_again number h.0)
words_again words (commands.Draft number path) h =
    ap words_in h.2
    ∙ ap (λ claim. claim >>= λ n. path_in (path_text path) >>= λ p. Some (commands.Draft n p)) (positive_again number h.0)
    ∙ ap (λ place. place >>= λ p. Some (commands.Draft number p)) (path_again path h.1)
words_again words (commands.Await claim) h = ap words_in h.1 ∙ ap (λ claim. claim >>= λ c. Some (commands.Await c)) (claim_again claim h.0)
words_again words commands.Leave h = ap words_in h

-- No word has a space.

-- a word whose bytes can be looked at
by_looking : (word : List ℕ) → list_all (λ b. not (b == 32)) word ≡ true → IsFree 32 word
by_looking [] e = All-nil (λ b. (b == 32) ≡ false)
by_looking (b ∷ word) e =
    let parts = and_parts (not (b == 32)) (list_all (λ b. not (b == 32)) word) e in
    All-cons (λ b. (b == 32) ≡ false) b word (not-true _ parts.0) (by_looking word parts.1)

name_byte : (b : ℕ) → is_name_byte b ≡ true → (b == 32) ≡ false
name_byte b e = ne_eqb b 32 (λ same. let space : is_name_byte 32 ≡ true = ap is_name_byte (sym same) ∙ e in cc (space))

name_bytes : (name : List ℕ) → list_all is_name_byte name ≡ true → IsFree 32 name
name_bytes [] e = All-nil (λ b. (b == 32) ≡ false)
name_bytes (b ∷ name) e =
    let parts = and_parts (is_name_byte b) (list_all is_name_byte name) e in
    All-cons (λ b. (b == 32) ≡ false) b name (name_byte b parts.0) (name_bytes name parts.1)

in_name : (name : List ℕ) → IsName name → IsFree 32 name
in_name name h = name_bytes name (and_parts _ _ (and_parts _ _ h).1).1

in_names : (names : List (List ℕ)) → AllByRecursion IsName names → IsFree 32 (flat_map (λ n. 47 ∷ n) names)
in_names [] h = All-nil (λ b. (b == 32) ≡ false)
in_names (name ∷ names) h =
    All-append (λ b. (b == 32) ≡ false) (47 ∷ name) (flat_map (λ n. 47 ∷ n) names)
    (All-cons (λ b. (b == 32) ≡ false) 47 name refl (in_name name h.0)) (in_names names h.1)

in_path : (path : List (List ℕ)) → IsPath path → IsFree 32 (path_text path)
in_path [] h = by_looking (path_text []) refl
in_path (name ∷ names) h = in_names (name ∷ names) h.each

digit_byte : (b : ℕ) → digit_value b < 10 → (b == 32) ≡ false
digit_byte b small = ne_eqb b 32 (λ same. let space : digit_value 32 < 10 = along (λ x. digit_value x < 10) same small in absurd (omega (arith, space)))

in_digits : (digits : List ℕ) → AllDigits 10 digits → IsFree 32 digits
in_digits [] h = All-nil (λ b. (b == 32) ≡ false)
in_digits (b ∷ digits) h = All-cons (λ b. (b == 32) ≡ false) b digits (digit_byte b h.0) (in_digits digits h.1)

pub in_number : (n : ℕ) → n < 2 ^ 32 → IsFree 32 (decimal n)
in_number n fits = let wide : n < 2 ^ 64 = omega arith in in_digits (decimal n) (decimal_is_IsNumeral n wide).0.1

in_claim : (id : ClaimId) → IsClaimId id → IsFree 32 (claim_text id)
in_claim (Long n) h = All-cons (λ b. (b == 32) ≡ false) 99 (decimal n) refl (in_number n h.1)
in_claim (Short n) h = All-cons (λ b. (b == 32) ≡ false) 104 (decimal n) refl (in_number n h.1)

in_item : (item : PathItem) → IsPath item.path → IsFree 32 (item_text item)
in_item item h =
    All-cons (λ b. (b == 32) ≡ false) (intent_letter item.intent) (58 ∷ path_text item.path) (letter item.intent)
    (All-cons (λ b. (b == 32) ≡ false) 58 (path_text item.path) refl (in_path item.path h))
  where
    letter : (intent : Intent) → (intent_letter intent == 32) ≡ false
    letter Look = refl
    letter Change = refl

in_items : (items : List PathItem) → AllByRecursion (λ (item : PathItem). IsPath item.path) items → AllByRecursion (IsFree 32) (map item_text items)
in_items [] h = tt
in_items (item ∷ items) h = (in_item item h.0, in_items items h.1)

-- a command has at least one word, and no word has a space
pub record AreWords (words : List (List ℕ)) : Type 0 where
  pub first : List ℕ
  pub others : List (List ℕ)
  pub all : words ≡ first ∷ others
  pub apart : AllByRecursion (IsFree 32) (first ∷ others)

-- a keyword, and the words behind it
are_words : {words : List (List ℕ)} (first : List ℕ) (others : List (List ℕ)) → words ≡ first ∷ others
    → list_all (λ b. not (b == 32)) first ≡ true → AllByRecursion (IsFree 32) others → AreWords words
are_words first others all looked apart = record { first = first; others = others; all = all; apart = (by_looking first looked, apart) }

words_of : (words : List (List ℕ)) (command : Command) → Spells words command → AreWords words
words_of words (commands.Join name) h = are_words (codes "hello") (name ∷ []) h.1 refl (in_name name h.0, tt)
words_of words (commands.Make path None) h = are_words (codes "make") (path_text path ∷ []) h.1 refl (in_path path h.0, tt)
words_of words (commands.Make path (Some number)) h =
    are_words (codes "make") (path_text path ∷ claim_text (Long number) ∷ []) h.2 refl (in_path path h.0, (in_claim (Long number) h.1, tt))
words_of words (commands.Nest path None) h = are_words (codes "nest") (path_text path ∷ []) h.1 refl (in_path path h.0, tt)
words_of words (commands.Nest path (Some number)) h =
    are_words (codes "nest") (path_text path ∷ claim_text (Long number) ∷ []) h.2 refl (in_path path h.0, (in_claim (Long number) h.1, tt))
words_of words (commands.CheckOut items) h = are_words (codes "checkout") (map item_text items) h.1 refl (in_items items h.0.1)
words_of words (commands.Extend claim items) h =
    are_words (codes "extend") (claim_text claim ∷ map item_text items) h.2 refl (in_claim claim h.0, in_items items h.1.1)
words_of words (commands.Save number path content) h =
    are_words (codes "save") (claim_text (Long number) ∷ path_text path ∷ h.2.0 ∷ []) h.2.2 refl
    (in_claim (Long number) h.0, (in_path path h.1, (in_content h.2.0 content h.2.1, tt)))
words_of words (commands.CheckIn number) h = are_words (codes "checkin") (claim_text (Long number) ∷ []) h.1 refl (in_claim (Long number) h.0, tt)
words_of words (commands.Abandon number) h = are_words (codes "abandon") (claim_text (Long number) ∷ []) h.1 refl (in_claim (Long number) h.0, tt)
words_of words (commands.Hold items) h = are_words (codes "hold") (map item_text items) h.1 refl (in_items items h.0.1)
words_of words (commands.Release number) h = are_words (codes "release") (claim_text (Short number) ∷ []) h.1 refl (in_claim (Short number) h.0, tt)
words_of words (commands.State claim) h = are_words (codes "state") (claim_text claim ∷ []) h.1 refl (in_claim claim h.0, tt)
words_of words (commands.List path) h = are_words (codes "list") (path_text path ∷ []) h.1 refl (in_path path h.0, tt)
words_of words (commands.Fetch path version) h =
    are_words (codes "fetch") (path_text path ∷ decimal version ∷ []) h.2 refl (in_path path h.0, (in_number version h.1, tt))
words_of words (commands.Count path) h = are_words (codes "count") (path_text path ∷ []) h.1 refl (in_path path h.0, tt)
words_of words (commands.Give number designer) h =
    are_words (codes "give") (claim_text (Long number) ∷ designer ∷ []) h.2 refl (in_claim (Long number) h.0, (in_name designer h.1, tt))
words_of words (commands.Note number text) h =
    are_words (codes "note") (claim_text (Long number) ∷ h.1.0 ∷ []) h.1.2 refl (in_claim (Long number) h.0, (in_content h.1.0 text h.1.1, tt))
words_of words (commands.ReadNote number) h = are_words (codes "note") (claim_text (Long number) ∷ []) h.1 refl (in_claim (Long number) h.0, tt)
words_of words (commands.Show claim) h = are_words (codes "show") (claim_text claim ∷ []) h.1 refl (in_claim claim h.0, tt)
words_of words (commands.Claims path) h = are_words (codes "claims") (path_text path ∷ []) h.1 refl (in_path path h.0, tt)
words_of words (commands.Drafts number) h = are_words (codes "drafts") (claim_text (Long number) ∷ []) h.1 refl (in_claim (Long number) h.0, tt)
words_of words (commands.Draft number path) h =
    are_words (codes "draft") (claim_text (Long number) ∷ path_text path ∷ []) h.2 refl (in_claim (Long number) h.0, (in_path path h.1, tt))
words_of words (commands.Await claim) h = are_words (codes "wait") (claim_text claim ∷ []) h.1 refl (in_claim claim h.0, tt)
words_of words commands.Leave h = are_words (codes "quit") [] h refl tt

pub line_again : (line : List ℕ) (command : Command) → LineSpells line command → command_of line ≡ Some command
line_again line command h =
    let words = words_of h.1.0 command h.1.1 in
    let cut : slice_split (λ b. b == 32) line ≡ h.1.0 =
    ap (slice_split (λ b. b == 32)) (h.1.2 ∙ ap (join_with_byte 32) words.all) ∙ split_joined 32 words.first words.others words.apart ∙ sym words.all in
    cond-true (nat_le (length line) 4096) (words_in (slice_split (λ b. b == 32) line)) None (le-leb (length line) 4096 h.0)
    ∙ ap words_in cut ∙ words_again h.1.0 command h.1.1

pub one_command : OneCommand
one_command line one other h k = same_Some _ _ (sym (line_again line one h) ∙ line_again line other k)
