-- The grammar of lines. A line spells at most one command, since the command is a function of its bytes.
-- This project's own.
use Rattle.std.specs.Prelude.{ℕ, ◌==◌, nat_le, List, [], ◌∷◌, length, Option, Some, None, if◌then◌else◌}
use Rattle.std.specs.List.{slice_split}
use Rattle.vault_model.specs.Said.{Command}
use Rattle.vault_state.specs.Name.{name_in}
use Rattle.vault_state.specs.Path.{path_in}
use Rattle.vault_model.specs.declared.commands.Command.TheVariants as commands
use Rattle.vault_lines.specs.Limits.{longest_line}
use Rattle.vault_lines.specs.Reading.{◌>>=◌}
use Rattle.vault_lines.specs.Keywords.{keyword_in}
use Rattle.vault_lines.specs.Words.{number_in, long_in, short_in, claim_in, content_in}
use Rattle.vault_lines.specs.Items.{items_in}
use Rattle.vault_lines.specs.declared.keyword.Keyword.{Keyword}
use Rattle.vault_lines.specs.declared.keyword.Keyword.TheVariants as keywords

-- the command of a keyword and the words behind it, by one case per keyword
abbrev pub arguments_in : Keyword → List (List ℕ) → Option Command
arguments_in keywords.Hello (name ∷ []) = do
  name ← name_in name
  Some (commands.Join name)
arguments_in keywords.Make (path ∷ []) = do
  path ← path_in path
  Some (commands.Make path None)
arguments_in keywords.Make (path ∷ claim ∷ []) = do
  path ← path_in path
  claim ← long_in claim
  Some (commands.Make path (Some claim))
arguments_in keywords.Nest (path ∷ []) = do
  path ← path_in path
  Some (commands.Nest path None)
arguments_in keywords.Nest (path ∷ claim ∷ []) = do
  path ← path_in path
  claim ← long_in claim
  Some (commands.Nest path (Some claim))
arguments_in keywords.CheckOut items = do
  items ← items_in items
  Some (commands.CheckOut items)
arguments_in keywords.Extend (claim ∷ items) = do
  claim ← claim_in claim
  items ← items_in items
  Some (commands.Extend claim items)
arguments_in keywords.Save (claim ∷ path ∷ content ∷ []) = do
  claim ← long_in claim
  path ← path_in path
  content ← content_in content
  Some (commands.Save claim path content)
arguments_in keywords.CheckIn (claim ∷ []) = do
  claim ← long_in claim
  Some (commands.CheckIn claim)
arguments_in keywords.Abandon (claim ∷ []) = do
  claim ← long_in claim
  Some (commands.Abandon claim)
arguments_in keywords.Hold items = do
  items ← items_in items
  Some (commands.Hold items)
arguments_in keywords.Release (claim ∷ []) = do
  claim ← short_in claim
  Some (commands.Release claim)
arguments_in keywords.State (claim ∷ []) = do
  claim ← claim_in claim
  Some (commands.State claim)
arguments_in keywords.List (path ∷ []) = do
  path ← path_in path
  Some (commands.List path)
arguments_in keywords.Fetch (path ∷ version ∷ []) = do
  path ← path_in path
  version ← number_in version
  Some (commands.Fetch path version)
arguments_in keywords.Count (path ∷ []) = do
  path ← path_in path
  Some (commands.Count path)
arguments_in keywords.Give (claim ∷ designer ∷ []) = do
  claim ← long_in claim
  designer ← name_in designer
  Some (commands.Give claim designer)
arguments_in keywords.Note (claim ∷ []) = do
  claim ← long_in claim
  Some (commands.ReadNote claim)
arguments_in keywords.Note (claim ∷ text ∷ []) = do
  claim ← long_in claim
  text ← content_in text
  Some (commands.Note claim text)
arguments_in keywords.Show (claim ∷ []) = do
  claim ← claim_in claim
  Some (commands.Show claim)
arguments_in keywords.Claims (path ∷ []) = do
  path ← path_in path
  Some (commands.Claims path)
arguments_in keywords.Drafts (claim ∷ []) = do
  claim ← long_in claim
  Some (commands.Drafts claim)
arguments_in keywords.Draft (claim ∷ path ∷ []) = do
  claim ← long_in claim
  path ← path_in path
  Some (commands.Draft claim path)
arguments_in keywords.Wait (claim ∷ []) = do
  claim ← claim_in claim
  Some (commands.Await claim)
arguments_in keywords.Quit [] = Some commands.Leave
arguments_in keyword words = None

-- the first word is the keyword
abbrev pub words_in : List (List ℕ) → Option Command
words_in [] = None
words_in (word ∷ words) = do
  keyword ← keyword_in word
  arguments_in keyword words

-- The command that a line spells, if it spells one: its words stand between single spaces.
-- An empty word is no keyword, name, path, number, content or item, so nothing stands before the first or after the last.
abbrev pub command_of : List ℕ → Option Command
command_of line = if nat_le (length line) longest_line then words_in (slice_split (λ b. b == 32) line) else None
