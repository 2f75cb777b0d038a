use Rattle.vault_state.proofs.Shelves.{none_shelved, shelf_stays}
use Rattle.part_versions.proofs.laws.shelves_stay_well_formed.Goals as goal

pub returns : goal.returns
returns c = record {
  none = none_shelved;
  more = shelf_stays;
}
