-- A whole file with a right head holds its vault.
use Rattle.std.proofs.Common.{◌≡◌, ℕ, List, ◌++◌, length, take, refl, subst}
use Rattle.vault_state.specs.Vault.{Vault}
use Rattle.vault_journal.specs.Gate.{IsClosed}
use Rattle.vault_format.specs.declared.version.FileVersion.{FileVersion}
use Rattle.vault_format.specs.Files.{head_of, snapshot_bytes, frames_bytes, Holds, HasHead}
use Rattle.vault_store.specs.Parts.{IsWhole}

pub whole_holds : (file : List ℕ) (version : FileVersion) (generation : ℕ) (vault : Vault) (frames tail journal_length : ℕ) → HasHead version generation file
    → (whole : IsWhole version generation file vault frames tail) → journal_length ≡ length (frames_bytes whole.list)
    → Holds file (record { vault = vault; version = version; generation = generation; tail = tail; journal_length = journal_length })
whole_holds file version generation vault frames tail journal_length head whole journal_is = record {
  front = front;
  is_front = record {
    base = whole.base;
    frames = whole.list;
    spelled = whole.spelled;
    given = head.given;
    fits = head.fits;
    each = whole.each;
    bytes = refl;
    leads = whole.leads;
    tail_is = whole.tail_is;
    journal_is = journal_is;
  };
  ends = record {
    begins = subst (λ (n : ℕ). take n file ≡ front) whole.tail_is whole.begins;
    closed = subst (λ (n : ℕ). IsClosed n file) whole.tail_is whole.closed;
  };
}
  where
    front : List ℕ
    front = (head_of version generation ++ snapshot_bytes version whole.base) ++ frames_bytes whole.list
