-- What a store keeps, in vaults and effects. This project's own.
use Rattle.std.specs.Prelude.{Bool, true, false, if◌then◌else◌, List, [], ◌∷◌, ◌++◌, length}
use Rattle.vault_model.specs.Said.{Effect}
use Rattle.vault_state.specs.Vault.{Vault}
use Rattle.vault_store.specs.declared.phase.Phase.{Phase}
use Rattle.vault_store.specs.declared.phase.Phase.TheVariants.{Idle, Start}
use Rattle.vault_store.specs.declared.phase.Advanced.{Advanced}
use Rattle.vault_store.specs.declared.phase.Advanced.TheVariants.{Broken}
use Rattle.vault_format.specs.Snapshot.{snapshot_of}
use Rattle.vault_store.specs.Phases.{Waiting, Nothing, Effects, Row, row, settled_by, after_fault}

-- the durable (settled) vault, the sealed one and the one after all effects; the effects from the first to the second and
-- from the second to the third; the phase; whether a device call failed
pub record StoreState : Type 0 where
  pub settled : Vault
  pub sealed : Vault
  pub noted : Vault
  pub sealing : List Effect
  pub buffer : List Effect
  pub phase : Phase
  pub broken : Bool

-- a store of a vault, with nothing under way
abbrev pub at_rest : Vault → StoreState
at_rest w = record { settled = w; sealed = w; noted = w; sealing = []; buffer = []; phase = Idle; broken = false }

-- one more effect, after which the vault is this
abbrev pub with_effect : StoreState → Effect → Vault → StoreState
with_effect s effect next = record s { noted = next; buffer = s.buffer ++ effect ∷ [] }

-- a snapshot is begun: all so far is sealed
abbrev pub started : StoreState → StoreState
started s = record s { sealed = s.noted; sealing = s.buffer; buffer = []; phase = Start }

-- whether effects wait in the buffer
abbrev pub waiting_in : List Effect → Waiting
waiting_in [] = Nothing
waiting_in (effect ∷ effects) = Effects

-- the row of the phase table that the next step makes
abbrev pub row_of : StoreState → Row
row_of s = row s.phase (waiting_in s.buffer) (length (snapshot_of s.sealed))

-- what a step returns
abbrev pub answer_of : StoreState → Advanced
answer_of s = if s.broken then Broken else (row_of s).answer

-- what stands after a step that made this row
abbrev pub stepped : Row → StoreState → StoreState
stepped r s = record {
  settled = settled_by r.settles s.settled s.sealed s.settled;
  sealed = if r.seals then s.noted else s.sealed;
  noted = s.noted;
  sealing = settled_by r.settles (if r.seals then s.buffer else s.sealing) [] [];
  buffer = if r.seals then [] else s.buffer;
  phase = r.next;
  broken = false;
}

-- what stands after a step that failed at this row
abbrev pub failed : Row → StoreState → StoreState
failed r s = record {
  settled = s.settled;
  sealed = after_fault r.call s.sealed (if r.seals then s.noted else s.sealed);
  noted = s.noted;
  sealing = after_fault r.call s.sealing (if r.seals then s.buffer else s.sealing);
  buffer = after_fault r.call s.buffer (if r.seals then [] else s.buffer);
  phase = after_fault r.call s.phase r.next;
  broken = true;
}

-- what stands after a step
abbrev pub advanced : StoreState → StoreState
advanced s = if s.broken then s else stepped (row_of s) s
