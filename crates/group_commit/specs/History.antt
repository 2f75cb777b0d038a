-- The history: one list of the commands of all sessions, with their replies, and of restarts. This project's own.
use Rattle.std.specs.Prelude.{◌≡◌, ℕ, ◌+◌, ◌==◌, if◌then◌else◌, List, [], ◌∷◌, ◌++◌, map, option_to_list}
use Rattle.std.specs.Option.{option_map_or}
use Rattle.vault_model.specs.Said.{Command, Effect}
use Rattle.vault_state.specs.declared.session.Session.{Session}
use Rattle.vault_state.specs.Vault.{Vault, session_of, durable}
use Rattle.vault_model.specs.Step.{Outcome, step}
use Rattle.group_commit.specs.Entries.{Entry, Kept}

-- an entry, or a restart
pub data Member : Type 0 where
  Given : (entry : Entry) → Member
  Restart : Member

-- the number of a command that a session gives now: how many it gave, with this one; for session 0 the door counts them; 0 where there is
-- no such session
abbrev pub number_of : Vault → ℕ → ℕ
number_of v session =
    if session == 0 then v.door_count + 1 else option_map_or (λ (s : Session). s.count + 1) (session_of v.sessions session) 0

-- what the step makes of an entry's command
abbrev pub outcome_of : Vault → Entry → Outcome
outcome_of v entry = step v entry.session entry.command

-- the vault after a member of the history: an entry is a step, and a restart makes the vault durable
abbrev pub moved : Vault → Member → Vault
moved v (Given entry) = (outcome_of v entry).vault
moved v Restart = durable v

-- the vault after a history
abbrev pub replay : Vault → List Member → Vault
replay v [] = v
replay v (member ∷ members) = replay (moved v member) members

-- what may come next in a history: an entry's number and reply are those of its step
abbrev pub MayFollow : Vault → Member → Type 0
MayFollow v (Given entry) = (entry.number ≡ number_of v entry.session) × (entry.reply ≡ (outcome_of v entry).reply)
MayFollow v Restart = Unit {0}

-- a history is legal from a vault on if each member may follow those before it
abbrev pub IsLegal : Vault → List Member → Type 0
IsLegal v [] = Unit {0}
IsLegal v (member ∷ members) = MayFollow v member × IsLegal (moved v member) members

-- the entry of a command that is given now
abbrev pub entry_of : Vault → ℕ → Command → Entry
entry_of v session command =
    record { session = session; number = number_of v session; command = command; reply = (step v session command).reply }

-- entries as members of a history
abbrev pub members : List Kept → List Member
members entries = map (λ (kept : Kept). Given kept.entry) entries

-- the effects of entries that follow here, in order
abbrev pub effects : Vault → List Kept → List Effect
effects v [] = []
effects v (kept ∷ rest) = option_to_list (outcome_of v kept.entry).effect ++ effects (outcome_of v kept.entry).vault rest
