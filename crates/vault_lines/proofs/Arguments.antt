-- What a command's words say, and errors passed on by `?`.
use Rattle.std.proofs.Common.{◌≡◌, ℕ, ◌<◌, ◌≤◌, List, [], ◌∷◌, ◌-◌}
use Rattle.std.proofs.Common.{length, map, take, drop, get_or, Option, Some, None, refl, sym, ap, ◌∙◌, arith}
use Rattle.std.proofs.lemmas.List.{take_all}
use Rattle.std.specs.Prelude.{Result, Ok, Err, IsErr}
use Rattle.std.specs.Result.{IsErrAnd}
use Rattle.vault_state.specs.Name.{name_in}
use Rattle.vault_state.specs.Path.{path_in}
use Rattle.vault_model.specs.declared.commands.Command.TheVariants as commands
use Rattle.vault_lines.specs.declared.error.LineError.{LineError}
use Rattle.vault_lines.specs.declared.error.LineError.TheVariants.{BadLine, NoMemory}
use Rattle.vault_lines.specs.declared.keyword.Keyword.TheVariants as keywords
use Rattle.vault_lines.specs.Reading.{Gives, ◌>>=◌}
use Rattle.vault_lines.specs.Keywords.{keyword_in}
use Rattle.vault_lines.specs.Words.{long_in, short_in, claim_in, content_in}
use Rattle.vault_lines.specs.Items.{items_in}
use Rattle.vault_lines.specs.Grammar.{arguments_in, words_in}

-- the error of a step that failed is passed on
pub passed_on : {X : Type 0} (r : Result X LineError) (e : LineError) (there : Option X) → IsErr r × IsErrAnd r (λ f. f ≡ e) → (e ≡ BadLine → there ≡ None)
    → Gives r there
passed_on (Ok x) e there err none = cc
passed_on (Err BadLine) e there err none = none (cc)
passed_on (Err NoMemory) e there err none = tt

one_word : {W : Type 0} (bytes : W → List ℕ) (words : List W) (d : W) → 1 ≤ length words → length words < 2
    → map bytes words ≡ bytes (get_or words 0 d) ∷ []
one_word bytes [] d low high = absurd (omega arith)
one_word bytes (x ∷ []) d low high = refl
one_word bytes (x ∷ y ∷ words) d low high = absurd (omega (arith, high))

two_words : {W : Type 0} (bytes : W → List ℕ) (words : List W) (d : W) → 2 ≤ length words → length words < 3
    → map bytes words ≡ bytes (get_or words 0 d) ∷ bytes (get_or words 1 d) ∷ []
two_words bytes [] d low high = absurd (omega arith)
two_words bytes (x ∷ []) d low high = absurd (omega (arith, low))
two_words bytes (x ∷ y ∷ []) d low high = refl
two_words bytes (x ∷ y ∷ z ∷ words) d low high = absurd (omega (arith, high))

three_words : {W : Type 0} (bytes : W → List ℕ) (words : List W) (d : W) → 3 ≤ length words → length words < 4
    → map bytes words ≡ bytes (get_or words 0 d) ∷ bytes (get_or words 1 d) ∷ bytes (get_or words 2 d) ∷ []
three_words bytes [] d low high = absurd (omega arith)
three_words bytes (x ∷ []) d low high = absurd (omega (arith, low))
three_words bytes (x ∷ y ∷ []) d low high = absurd (omega (arith, low))
three_words bytes (x ∷ y ∷ z ∷ []) d low high = refl
three_words bytes (x ∷ y ∷ z ∷ w ∷ words) d low high = absurd (omega (arith, high))

-- the three words of `save`
module _ {W : Type 0} (bytes : W → List ℕ) (words : List W) (d : W) (low : 3 ≤ length words) (high : length words < 4) where
  pub no_claim : long_in (bytes (get_or words 0 d)) ≡ None → arguments_in keywords.Save (map bytes words) ≡ None
  no_claim e = rw (three_words bytes words d low high) (rw e refl)

  module _ (claim : ℕ) (claimed : long_in (bytes (get_or words 0 d)) ≡ Some claim) where
    pub no_path : path_in (bytes (get_or words 1 d)) ≡ None → arguments_in keywords.Save (map bytes words) ≡ None
    no_path e = rw (three_words bytes words d low high) (rw (claimed, e) refl)

    module _ (path : List (List ℕ)) (at : path_in (bytes (get_or words 1 d)) ≡ Some path) where
      pub all_saved : (content : List ℕ) → content_in (bytes (get_or words 2 d)) ≡ Some content
          → arguments_in keywords.Save (map bytes words) ≡ Some (commands.Save claim path content)
      all_saved content e = rw (three_words bytes words d low high) (rw (claimed, at, e) refl)

-- the two words of `give`
module _ {W : Type 0} (bytes : W → List ℕ) (words : List W) (d : W) (low : 2 ≤ length words) (high : length words < 3) where
  pub no_claim_given : long_in (bytes (get_or words 0 d)) ≡ None → arguments_in keywords.Give (map bytes words) ≡ None
  no_claim_given e = rw (two_words bytes words d low high) (rw e refl)

  module _ (claim : ℕ) (claimed : long_in (bytes (get_or words 0 d)) ≡ Some claim) where
    pub no_designer : name_in (bytes (get_or words 1 d)) ≡ None → arguments_in keywords.Give (map bytes words) ≡ None
    no_designer e = rw (two_words bytes words d low high) (rw (claimed, e) refl)

    pub all_given : (designer : List ℕ) → name_in (bytes (get_or words 1 d)) ≡ Some designer
        → arguments_in keywords.Give (map bytes words) ≡ Some (commands.Give claim designer)
    all_given designer e = rw (two_words bytes words d low high) (rw (claimed, e) refl)

-- the two words of `draft`
module _ {W : Type 0} (bytes : W → List ℕ) (words : List W) (d : W) (low : 2 ≤ length words) (high : length words < 3) where
  pub no_claim_read : long_in (bytes (get_or words 0 d)) ≡ None → arguments_in keywords.Draft (map bytes words) ≡ None
  no_claim_read e = rw (two_words bytes words d low high) (rw e refl)

  module _ (claim : ℕ) (claimed : long_in (bytes (get_or words 0 d)) ≡ Some claim) where
    pub no_part : path_in (bytes (get_or words 1 d)) ≡ None → arguments_in keywords.Draft (map bytes words) ≡ None
    no_part e = rw (two_words bytes words d low high) (rw (claimed, e) refl)

    pub draft_asked : (path : List (List ℕ)) → path_in (bytes (get_or words 1 d)) ≡ Some path
        → arguments_in keywords.Draft (map bytes words) ≡ Some (commands.Draft claim path)
    draft_asked path e = rw (two_words bytes words d low high) (rw (claimed, e) refl)

-- the one word of `hello`, and that of `count`
module _ {W : Type 0} (bytes : W → List ℕ) (words : List W) (d : W) (low : 1 ≤ length words) (high : length words < 2) where
  pub no_name : name_in (bytes (get_or words 0 d)) ≡ None → arguments_in keywords.Hello (map bytes words) ≡ None
  no_name e = rw (one_word bytes words d low high) (rw e refl)

  pub named : (name : List ℕ) → name_in (bytes (get_or words 0 d)) ≡ Some name
      → arguments_in keywords.Hello (map bytes words) ≡ Some (commands.Join name)
  named name e = rw (one_word bytes words d low high) (rw e refl)

  pub no_counted : path_in (bytes (get_or words 0 d)) ≡ None → arguments_in keywords.Count (map bytes words) ≡ None
  no_counted e = rw (one_word bytes words d low high) (rw e refl)

  pub counted : (part : List (List ℕ)) → path_in (bytes (get_or words 0 d)) ≡ Some part
      → arguments_in keywords.Count (map bytes words) ≡ Some (commands.Count part)
  counted part e = rw (one_word bytes words d low high) (rw e refl)

-- the one or two words of `make` and of `nest`: the path, and the claim if there is one
module _ {W : Type 0} (bytes : W → List ℕ) (words : List W) (d : W) where
  pub made_one : (at : W × Option ℕ) → at ≡ (get_or words 0 d, None) → 1 ≤ length words → length words < 2
      → arguments_in keywords.Make (map bytes words) ≡ (path_in (bytes at.0) >>= (λ path. Some (commands.Make path at.1)))
  made_one at is low high = rw (one_word bytes words d low high, is) refl

  pub made_two : (at : W × Option ℕ) (claim : ℕ) → at ≡ (get_or words 0 d, Some claim) → 2 ≤ length words → length words < 3
      → long_in (bytes (get_or words 1 d)) ≡ Some claim
      → arguments_in keywords.Make (map bytes words) ≡ (path_in (bytes at.0) >>= (λ path. Some (commands.Make path at.1)))
  made_two at claim is low high e = rw (two_words bytes words d low high, e, is) refl

  pub nested_one : (at : W × Option ℕ) → at ≡ (get_or words 0 d, None) → 1 ≤ length words → length words < 2
      → arguments_in keywords.Nest (map bytes words) ≡ (path_in (bytes at.0) >>= (λ path. Some (commands.Nest path at.1)))
  nested_one at is low high = rw (one_word bytes words d low high, is) refl

  pub nested_two : (at : W × Option ℕ) (claim : ℕ) → at ≡ (get_or words 0 d, Some claim) → 2 ≤ length words → length words < 3
      → long_in (bytes (get_or words 1 d)) ≡ Some claim
      → arguments_in keywords.Nest (map bytes words) ≡ (path_in (bytes at.0) >>= (λ path. Some (commands.Nest path at.1)))
  nested_two at claim is low high e = rw (two_words bytes words d low high, e, is) refl

pub then_none : {X Y : Type 0} (there : Option Y) (first : Option X) (next : X → Option Y) → there ≡ (first >>= next) → first ≡ None
    → there ≡ None
then_none there first next is e = is ∙ rw e refl

pub then_some : {X Y : Type 0} (there : Option Y) (first : Option X) (next : X → Option Y) (x : X) → there ≡ (first >>= next) → first ≡ Some x
    → there ≡ next x
then_some there first next x is e = is ∙ rw e refl

-- the first word
pub keyword_first : {W : Type 0} (bytes : W → List ℕ) (words : List W) (d : W) → 1 ≤ length words
    → words_in (map bytes words) ≡ (keyword_in (bytes (get_or words 0 d)) >>= (λ keyword. arguments_in keyword (map bytes (take (length words - 1) (drop 1 words)))))
keyword_first bytes [] d low = absurd (omega arith)
keyword_first bytes (x ∷ words) d low =
    ap (λ rest. keyword_in (bytes x) >>= (λ keyword. arguments_in keyword (map bytes rest))) (sym (take_all (length (x ∷ words) - 1) words (omega arith)))

-- the one or two words of `note`
module _ {W : Type 0} (bytes : W → List ℕ) (words : List W) (d : W) where
  module _ (low : 1 ≤ length words) (high : length words < 2) where
    pub none_asked : long_in (bytes (get_or words 0 d)) ≡ None → arguments_in keywords.Note (map bytes words) ≡ None
    none_asked e = rw (one_word bytes words d low high) (rw e refl)

    pub note_asked : (claim : ℕ) → long_in (bytes (get_or words 0 d)) ≡ Some claim
        → arguments_in keywords.Note (map bytes words) ≡ Some (commands.ReadNote claim)
    note_asked claim e = rw (one_word bytes words d low high) (rw e refl)

  module _ (low : 2 ≤ length words) (high : length words < 3) where
    pub none_noted : long_in (bytes (get_or words 0 d)) ≡ None → arguments_in keywords.Note (map bytes words) ≡ None
    none_noted e = rw (two_words bytes words d low high) (rw e refl)

    module _ (claim : ℕ) (claimed : long_in (bytes (get_or words 0 d)) ≡ Some claim) where
      pub noted : (text : List ℕ) → content_in (bytes (get_or words 1 d)) ≡ Some text
          → arguments_in keywords.Note (map bytes words) ≡ Some (commands.Note claim text)
      noted text e = rw (two_words bytes words d low high) (rw (claimed, e) refl)

-- the one word of `checkin`, `abandon`, `release`, `state`, `show`, `wait`, `drafts` and `claims`
module _ {W : Type 0} (bytes : W → List ℕ) (words : List W) (d : W) (low : 1 ≤ length words) (high : length words < 2) where
  pub checked_in : arguments_in keywords.CheckIn (map bytes words) ≡ (long_in (bytes (get_or words 0 d)) >>= (λ claim. Some (commands.CheckIn claim)))
  checked_in = rw (one_word bytes words d low high) refl

  pub abandoned : arguments_in keywords.Abandon (map bytes words) ≡ (long_in (bytes (get_or words 0 d)) >>= (λ claim. Some (commands.Abandon claim)))
  abandoned = rw (one_word bytes words d low high) refl

  pub released : arguments_in keywords.Release (map bytes words) ≡ (short_in (bytes (get_or words 0 d)) >>= (λ claim. Some (commands.Release claim)))
  released = rw (one_word bytes words d low high) refl

  pub asked : arguments_in keywords.State (map bytes words) ≡ (claim_in (bytes (get_or words 0 d)) >>= (λ claim. Some (commands.State claim)))
  asked = rw (one_word bytes words d low high) refl

  pub shown : arguments_in keywords.Show (map bytes words) ≡ (claim_in (bytes (get_or words 0 d)) >>= (λ claim. Some (commands.Show claim)))
  shown = rw (one_word bytes words d low high) refl

  pub awaited : arguments_in keywords.Wait (map bytes words) ≡ (claim_in (bytes (get_or words 0 d)) >>= (λ claim. Some (commands.Await claim)))
  awaited = rw (one_word bytes words d low high) refl

  pub drafts_asked : arguments_in keywords.Drafts (map bytes words) ≡ (long_in (bytes (get_or words 0 d)) >>= (λ claim. Some (commands.Drafts claim)))
  drafts_asked = rw (one_word bytes words d low high) refl

  pub claims_asked : arguments_in keywords.Claims (map bytes words) ≡ (path_in (bytes (get_or words 0 d)) >>= (λ path. Some (commands.Claims path)))
  claims_asked = rw (one_word bytes words d low high) refl

-- the first word of `extend`
pub extended : {W : Type 0} (bytes : W → List ℕ) (words : List W) (d : W) → 1 ≤ length words
    → arguments_in keywords.Extend (map bytes words)
    ≡ (claim_in (bytes (get_or words 0 d)) >>= (λ claim. items_in (map bytes (take (length words - 1) (drop 1 words))) >>= (λ items. Some (commands.Extend claim items))))
extended bytes [] d low = absurd (omega arith)
extended bytes (x ∷ words) d low =
    ap (λ rest. claim_in (bytes x) >>= (λ claim. items_in (map bytes rest) >>= (λ items. Some (commands.Extend claim items)))) (sym (take_all (length (x ∷ words) - 1) words (omega arith)))
