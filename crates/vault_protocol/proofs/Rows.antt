-- The scripts that were worked out by hand, computed.
use Rattle.std.specs.Prelude.{refl}
use Rattle.std.specs.Fmt.{digits}
use Rattle.vault_state.specs.Claims.{overlap}
use Rattle.vault_state.specs.Shelf.{is_shelvable}
use Rattle.hex.specs.Hex.{decode_pairs, encode_with}
use Rattle.vault_model.specs.Step.{step, decide, chained, join, make, admitted, permitted, usable, check_out, extend, save, check_in, abandon, hold, release, state, list, fetch, count}
use Rattle.vault_protocol.specs.Talk.{pumped, committed, all_gone}
use Rattle.vault_protocol.specs.Rows.{Rows}

pub rows : Rows
unfolding pumped committed all_gone digits decode_pairs encode_with step decide chained join make admitted permitted usable check_out extend save check_in abandon hold release state list fetch count overlap is_shelvable
rows = record {
  empty = refl;
  one_line = (refl, refl);
  two_designers = refl;
  siblings = refl;
  look_above_change = refl;
  line_moves_up = refl;
  covered_parent = refl;
  extension_refused = refl;
  extension_to_front = refl;
  make_under_claims = refl;
  hold_first = refl;
  holds = refl;
  lists = refl;
  versions = refl;
  draft_refusals = refl;
  covered_for_change = refl;
  bad_contents = refl;
  refusals = refl;
  bad_lines = refl;
  gate_stopped = (refl, refl, refl, refl);
  hold_gone = refl;
  front_kept = refl;
}
