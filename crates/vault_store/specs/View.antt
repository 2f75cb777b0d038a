-- What contracts see of a store's fields.
use Rattle.std.specs.Prelude.{[]}
use Rattle.std.specs.Option.{option_map_or}
use Rattle.vault_store.specs.declared.store.Store.TheInside.{Inside}
use Rattle.vault_store.specs.Seen.{StoreSeen}

abbrev pub seen_of : {D A : Type 0} → Inside D A → StoreSeen D
seen_of store = record {
  active = store.active;
  spare = store.spare;
  which = store.which;
  buffer = store.frame;
  sealed = store.sealed;
  version = store.version;
  generation = store.generation;
  tail = store.tail;
  journal_length = store.journal_length;
  phase = store.phase;
  broken = store.broken;
  shut = store.spare_shut;
  rest = option_map_or (λ v. v.items) store.rest [];
}
