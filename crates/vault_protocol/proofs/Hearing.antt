-- What is printed for a line other than `!crash`.
use Rattle.std.proofs.Common.{◌≡◌, ℕ, List, ◌++◌, Option, None, ap, ◌∙◌, subst}
use Rattle.std.specs.Prelude.{codes, Result, OnOk}
use Rattle.vault_model.specs.Said.{Command}
use Rattle.vault_lines.specs.Grammar.{command_of}
use Rattle.vault_protocol.specs.Talk.{Talk, Said, said, with_text}
use Rattle.vault_protocol.specs.Script.{answered, ready, heard, heard_of}
use Rattle.vault_protocol.proofs.Written.{on_ok_then}

-- what holds of a conversation holds of an equal one
said_as : {T E V : Type 0} (result : Result T E) (f : Talk → V) (now : V) (a b : Talk) → a ≡ b → OnOk result (now ≡ f a) → OnOk result (now ≡ f b)
said_as result f now a b same = on_ok_then result (λ e. e ∙ ap f same)

answered_talk : {T E : Type 0} (result : Result T E) (first : Said) (before answer now : Talk) (connection : ℕ) (command : Option Command)
    → before ≡ first.talk → answer ≡ answered before connection command
    → OnOk result (now ≡ (said answer).talk) → OnOk result (now ≡ (said (answered first.talk connection command)).talk)
answered_talk result first before answer now connection command is_ready is_answered =
    said_as result (λ t. (said t).talk) now answer (answered first.talk connection command) (is_answered ∙ ap (λ (t : Talk). answered t connection command) is_ready)

-- for a line of a connection
pub heard_talk : {T E : Type 0} (result : Result T E) (talk before answer now : Talk) (connection : ℕ) (line : List ℕ)
    → before ≡ (ready talk connection).talk → answer ≡ answered before connection (command_of line)
    → OnOk result (now ≡ (said answer).talk) → OnOk result (now ≡ (heard talk connection line).talk)
heard_talk result talk before answer now connection line = answered_talk result (ready talk connection) before answer now connection (command_of line)

-- for a line that isn't valid in a script
module _ {T E : Type 0} (result : Result T E) (talk answer : Talk) (text : List ℕ) (line : Option (ℕ × List ℕ))
    (is_answered : answer ≡ with_text talk text) (is_text : text ≡ codes "! ERR 10\n") (none : None ≡ line) where
  pub no_line_talk : (now : Talk) → OnOk result (now ≡ (said answer).talk) → OnOk result (now ≡ (heard_of talk line).talk)
  no_line_talk now h =
      subst (λ o. OnOk result (now ≡ (heard_of talk o).talk)) none
      (said_as result (λ t. (said t).talk) now answer (with_text talk (codes "! ERR 10\n")) (is_answered ∙ ap (with_text talk) is_text) h)

  pub no_line_text : (old new : List ℕ) → OnOk result (new ≡ old ++ (said answer).text) → OnOk result (new ≡ old ++ (heard_of talk line).text)
  no_line_text old new h =
      subst (λ o. OnOk result (new ≡ old ++ (heard_of talk o).text)) none
      (said_as result (λ t. old ++ (said t).text) new answer (with_text talk (codes "! ERR 10\n")) (is_answered ∙ ap (with_text talk) is_text) h)
