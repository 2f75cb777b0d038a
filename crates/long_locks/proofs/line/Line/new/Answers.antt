use Rattle.std.specs.Prelude.{◌≡◌, []}
use Rattle.std.proofs.Common.{◌∙◌}
use Rattle.std.proofs.lemmas.List.Elements.{All-nil}
use Rattle.vault_state.specs.declared.claims.Claim.{Claim}
use Rattle.vault_state.specs.Vault.{AreThere}
use Rattle.vault_state.proofs.NewTree.{tree_new}
use Rattle.long_locks.specs.Lines.{IsNumbered}
use Rattle.long_locks.proofs.line.Line.new.Goals as goal

pub invariant_of-result : goal.invariant_of-result
invariant_of-result g c =
    let seen : c.of.result.value ≡ [] = c.of.ensures ∙ c.in_ok-tree.ensures in
    let table : c.in_ok-new.field-0 ≡ [] = c.in_ok-new.ensures in
    rw (c.new-2.ensures, seen, table) (record {
      tree = tree_new;
      there = All-nil (λ (c : Claim). AreThere [] c.items);
      numbered = All-nil (λ (c : Claim). IsNumbered 0 0 c.id);
      weighed = tt;
    })
