-- How long replies are. This project's own.
use Rattle.std.specs.Prelude.{ℕ, ◌≤◌, length, All}
use Rattle.vault_state.specs.declared.place.Place.{Place}
use Rattle.vault_state.specs.declared.session.Session.{Session}
use Rattle.vault_state.specs.declared.claims.Claim.{Claim}
use Rattle.vault_state.specs.declared.claims.Owner.{Owner}
use Rattle.vault_state.specs.declared.claims.Owner.TheVariants as owners
use Rattle.vault_state.specs.Name.{IsName}
use Rattle.vault_state.specs.Vault.{Vault, IsVault}
use Rattle.vault_model.specs.Said.{Command}
use Rattle.vault_model.specs.declared.commands.Command.TheVariants as commands
use Rattle.vault_model.specs.Step.{step}
use Rattle.vault_lines.specs.Texts.{reply_text}

-- a designer who owns a claim has a name
abbrev pub IsNamedOwner : Owner → Type 0
IsNamedOwner (owners.Designer name) = IsName name
IsNamedOwner (owners.Session number) = Unit {0}

-- all names in a vault are names, as the type `Name` makes them
pub record IsNamed (v : Vault) : Type 0 where
  pub places : All (λ (place : Place). IsName place.name) v.tree
  pub sessions : All (λ (session : Session). IsName session.name) v.sessions
  pub owners : All (λ (claim : Claim). IsNamedOwner claim.owner) v.line

-- the most bytes of the reply to a command, with its line feed
abbrev pub longest_reply : Command → ℕ
longest_reply (commands.Join name) = 22
longest_reply (commands.Make path claim) = 19
longest_reply (commands.Nest path claim) = 19
longest_reply (commands.CheckOut items) = 41
longest_reply (commands.Extend id items) = 20
longest_reply (commands.Save number path content) = 9
longest_reply (commands.CheckIn number) = 17
longest_reply (commands.Abandon number) = 13
longest_reply (commands.Hold items) = 41
longest_reply (commands.Release number) = 12
longest_reply (commands.State id) = 41
longest_reply (commands.List path) = 2123
longest_reply (commands.Fetch path version) = 2060
longest_reply (commands.Count path) = 18
longest_reply (commands.Give number designer) = 9
longest_reply (commands.Note number text) = 9
longest_reply (commands.ReadNote number) = 137
longest_reply (commands.Show id) = 1952
longest_reply (commands.Claims path) = 3086
longest_reply (commands.Drafts number) = 14861
longest_reply (commands.Draft number path) = 2060
longest_reply (commands.Await id) = 41
longest_reply commands.Leave = 8

-- no reply to a command is longer, whoever gives it
abbrev pub RepliesAreShort : Type 0
RepliesAreShort = (v : Vault) (n : ℕ) (command : Command) → IsVault v → IsNamed v
    → length (reply_text (step v n command).reply) ≤ longest_reply command
