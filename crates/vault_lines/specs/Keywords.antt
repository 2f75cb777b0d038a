-- The words that lines begin with. This project's own.
use Rattle.std.specs.Prelude.{ℕ, List, [], ◌∷◌, codes, Option, find}
use Rattle.std.specs.Str.{bytes_eq}
use Rattle.vault_lines.specs.declared.keyword.Keyword.{Keyword}
use Rattle.vault_lines.specs.declared.keyword.Keyword.TheVariants as keywords

-- how a keyword is spelled
abbrev pub keyword_text : Keyword → List ℕ
keyword_text keywords.Hello = codes "hello"
keyword_text keywords.Make = codes "make"
keyword_text keywords.Nest = codes "nest"
keyword_text keywords.CheckOut = codes "checkout"
keyword_text keywords.Extend = codes "extend"
keyword_text keywords.Save = codes "save"
keyword_text keywords.CheckIn = codes "checkin"
keyword_text keywords.Abandon = codes "abandon"
keyword_text keywords.Hold = codes "hold"
keyword_text keywords.Release = codes "release"
keyword_text keywords.State = codes "state"
keyword_text keywords.List = codes "list"
keyword_text keywords.Fetch = codes "fetch"
keyword_text keywords.Count = codes "count"
keyword_text keywords.Give = codes "give"
keyword_text keywords.Note = codes "note"
keyword_text keywords.Show = codes "show"
keyword_text keywords.Claims = codes "claims"
keyword_text keywords.Drafts = codes "drafts"
keyword_text keywords.Draft = codes "draft"
keyword_text keywords.Wait = codes "wait"
keyword_text keywords.Quit = codes "quit"

-- every keyword
abbrev pub all_keywords : List Keyword
all_keywords =
    keywords.Hello ∷ keywords.Make ∷ keywords.Nest ∷ keywords.CheckOut ∷ keywords.Extend ∷ keywords.Save ∷ keywords.CheckIn
    ∷ keywords.Abandon ∷ keywords.Hold ∷ keywords.Release ∷ keywords.State ∷ keywords.List ∷ keywords.Fetch ∷ keywords.Count ∷ keywords.Give
    ∷ keywords.Note ∷ keywords.Show ∷ keywords.Claims ∷ keywords.Drafts ∷ keywords.Draft ∷ keywords.Wait ∷ keywords.Quit ∷ []

-- the keyword that the word is
abbrev pub keyword_in : List ℕ → Option Keyword
keyword_in word = find (λ keyword. bytes_eq (keyword_text keyword) word) all_keywords
