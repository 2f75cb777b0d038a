-- The vault after each change that a command makes. Whether the command may make it is said in Step and After. This project's own.
use Rattle.std.specs.Prelude.{ℕ, ◌+◌, ◌==◌, not, List, [], ◌∷◌, ◌++◌, filter}
use Rattle.vault_state.specs.declared.claims.Item.{Item}
use Rattle.vault_state.specs.declared.ids.ClaimId.{ClaimId}
use Rattle.vault_state.specs.declared.ids.ClaimId.TheVariants.{Long, Short}
use Rattle.vault_state.specs.declared.place.Kind.{Kind}
use Rattle.vault_state.specs.declared.session.Session.{Session}
use Rattle.vault_state.specs.Tree.{new_place}
use Rattle.vault_state.specs.Claims.{new_check_out, new_hold, without, without_session, put_first, changed, given_to, noted_as}
use Rattle.vault_state.specs.Shelf.{shelved_all}
use Rattle.vault_state.specs.Drafts.{new_draft, with_draft, drafts_of, without_drafts}
use Rattle.vault_state.specs.Vault.{Vault}

-- a session joined
abbrev pub with_session : Vault → List ℕ → Vault
with_session v name = record v {
  sessions = v.sessions ++ record { number = v.last_session + 1; name = name; count = 0 } ∷ [];
  last_session = v.last_session + 1;
}

-- a session left, and its holds went with it
abbrev pub gone : Vault → ℕ → Vault
gone v session =
    record v { line = without_session session v.line; sessions = filter (λ (s : Session). not (s.number == session)) v.sessions }

-- a place of a kind was made
abbrev pub with_place : Vault → ℕ → List ℕ → Kind → Vault
with_place v parent name kind = record v { tree = v.tree ++ new_place parent name kind ∷ [] }

-- a check-out of this number was asked for
abbrev pub with_check_out : Vault → ℕ → List ℕ → List Item → Vault
with_check_out v number designer items = record v { line = v.line ++ new_check_out number designer items ∷ []; last_long = number }

-- a hold of this number was asked for
abbrev pub with_hold : Vault → ℕ → ℕ → List Item → Vault
with_hold v number session items = record v { line = v.line ++ new_hold number session items ∷ []; last_short = number }

-- a claim has these items, and is at the front of the queue
abbrev pub with_items : Vault → ClaimId → List Item → Vault
with_items v id items = record v { line = put_first v.line id items }

-- a draft of a check-out was saved
abbrev pub with_content : Vault → ℕ → ℕ → List ℕ → Vault
with_content v number place content = record v { drafts = with_draft v.drafts (new_draft number place content) }

-- a check-out's drafts became versions, and it was given up
abbrev pub with_versions : Vault → ℕ → Vault
with_versions v number = record v {
  shelf = shelved_all v.shelf (drafts_of v.drafts number);
  line = without v.line (Long number);
  drafts = without_drafts v.drafts number;
}

-- a check-out was given up, and its drafts with it
abbrev pub without_check_out : Vault → ℕ → Vault
without_check_out v number = record v { line = without v.line (Long number); drafts = without_drafts v.drafts number }

-- a check-out was given to a designer, and keeps its place in the queue
abbrev pub with_owner : Vault → ℕ → List ℕ → Vault
with_owner v number designer = record v { line = changed v.line (Long number) (given_to designer) }

-- a check-out got a note, and keeps its place in the queue
abbrev pub with_note : Vault → ℕ → List ℕ → Vault
with_note v number note = record v { line = changed v.line (Long number) (noted_as note) }

-- a hold was released
abbrev pub without_hold : Vault → ℕ → Vault
without_hold v number = record v { line = without v.line (Short number) }
