use Rattle.std.specs.Prelude.{◌≡◌, ◌++◌, drop, length}
use Rattle.std.specs.Option.{option_map}
use Rattle.vault_state.specs.Vault.{AreThere}
use Rattle.vault_model.specs.Step.{placed}
use Rattle.check_outs.proofs.places.places_of.Given as goal

abbrev pub invariant-loop-item : goal.invariant-loop-item
invariant-loop-item g l = record {
  joined : option_map (λ rest. l.items ++ rest) (placed l.tree (drop l.item-index l.wanted)) ≡ placed l.tree l.wanted;
  length : length l.items ≡ l.item-index;
  there : AreThere l.tree l.items;
}
