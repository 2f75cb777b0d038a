-- A vault that begins over a store that was opened.
use Rattle.std.proofs.Common.{ℕ, List, Result, Ok, Err, IfOk, IfErr, sym, subst}
use Rattle.vault_state.specs.Vault.{Vault}
use Rattle.vault_store.specs.declared.refused.Refused.{Refused}
use Rattle.vault_store.specs.declared.opening.OpenError.{OpenError}
use Rattle.vault_format.specs.Files.{AreRead}
use Rattle.vault_store.specs.State.{at_rest}
use Rattle.vault_store.specs.Seen.{StoreSeen, first_of, second_of, settled_reading}
use Rattle.group_commit.specs.Seen.{VaultSeen}
use Rattle.group_commit.specs.Opened.{IsBegun, IsNotBegun, IsHandedOver}

module _ {D : Type 0} (opened : Result (StoreSeen D × Vault) (Refused D OpenError)) (life : ℕ) (result : Result (VaultSeen D) (Refused D OpenError)) (over : IsHandedOver opened life result) where
  -- what follows of a vault from what is said of the store that was opened
  pub begun : (P : StoreSeen D → Vault → Type 0) (Q : VaultSeen D → Type 0) → IfOk opened (λ o. P o.0 o.1) → ((store : StoreSeen D) (book : Vault) (new : VaultSeen D) → P store book → IsBegun store book life new → Q new) → IfOk result Q
  begun P Q is turn = by_cases opened result over is
    where
      by_cases : (o : Result (StoreSeen D × Vault) (Refused D OpenError)) (r : Result (VaultSeen D) (Refused D OpenError)) → IsHandedOver o life r → IfOk o (λ x. P x.0 x.1) → IfOk r Q
      by_cases (Ok o) (Ok new) h p = turn o.0 o.1 new p h
      by_cases (Ok o) (Err refused) h p = tt
      by_cases (Err refused) (Ok new) h p = absurd (cc)
      by_cases (Err refused) (Err other) h p = tt

  -- what follows of a refusal from what is said of the opening's
  pub not_begun : (P : StoreSeen D → Vault → Type 0) (R : Refused D OpenError → Type 0) → IfOk opened (λ o. P o.0 o.1) → IfErr opened R → ((store : StoreSeen D) (book : Vault) (refused : Refused D OpenError) → P store book → IsNotBegun store refused → R refused) → IfErr result R
  not_begun P R is refused turn = by_cases opened result over is refused
    where
      by_cases : (o : Result (StoreSeen D × Vault) (Refused D OpenError)) (r : Result (VaultSeen D) (Refused D OpenError)) → IsHandedOver o life r → IfOk o (λ x. P x.0 x.1) → IfErr o R → IfErr r R
      by_cases (Ok o) (Ok new) h p q = tt
      by_cases (Ok o) (Err s) h p q = turn o.0 o.1 s p h
      by_cases (Err s) r h p q = subst (λ (x : Result (VaultSeen D) (Refused D OpenError)). IfErr x R) (sym h) q

-- what holds of the store's devices holds of those that are handed back
pub wanted : {D : Type 0} (store : StoreSeen D) (refused : Refused D OpenError) (P : D → D → Type 0) → IsNotBegun store refused → P (first_of store) (second_of store) → P refused.first refused.second
wanted store refused P is holds = subst (λ (d : _). P d refused.second) (sym is.first_is) (subst (λ (d : _). P (first_of store) d) (sym is.second_is) holds)

-- what follows of each refusal
pub turned : {T D : Type 0} (o : Result T (Refused D OpenError)) (P Q : Refused D OpenError → Type 0) → IfErr o P → ((r : Refused D OpenError) → P r → Q r) → IfErr o Q
turned (Ok x) P Q is turn = tt
turned (Err r) P Q is turn = turn r is

-- the files are read as the vault that begins over them
pub read_over : {D : Type 0} (x y : List ℕ) (store : StoreSeen D) (book : Vault) (new : VaultSeen D) (life : ℕ) → AreRead x y (settled_reading store (at_rest book)) → IsBegun store book life new
    → AreRead x y (record { vault = new.view.base; version = new.store.version; generation = new.store.generation; tail = new.store.tail; journal_length = new.store.journal_length })
read_over x y store book new life read is = subst (AreRead x y) (λ i. record { vault = (sym is.view_is i).base; version = (sym is.store_is i).version; generation = (sym is.store_is i).generation; tail = (sym is.store_is i).tail; journal_length = (sym is.store_is i).journal_length }) read
