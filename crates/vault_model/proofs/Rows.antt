-- The conversations that were worked out by hand, computed.
use Rattle.std.specs.Prelude.{refl}
use Rattle.vault_state.specs.Claims.{overlap}
use Rattle.vault_model.specs.Step.{step, decide, chained, join, make, nest, admitted, permitted, usable, check_out, extend, abandon, hold, release, state, list, save, check_in, fetch, count, owned, give, note, read_note, show, claims, drafts, draft}
use Rattle.vault_state.specs.Shelf.{is_shelvable}
use Rattle.vault_model.specs.Rows.{replies_of, Rows, TwoDesigners, Siblings, LookAndChange, LineMovesUp, CoveredParent, Refusals, ClaimRefusals, RefusedExtension, GrantedExtension, MadeUnderAClaim, HoldsAndLeaving, ExtensionRefusals, DraftsAndVersions, DraftRefusals, GivenAway, DraftsAndPlaceStay, NestedAssemblies, DeepestPaths, NestRefusals, WhoHoldsWhat}

two_designers : TwoDesigners
unfolding replies_of step decide chained join make admitted permitted check_out overlap
two_designers = refl

siblings : Siblings
unfolding replies_of step decide chained join make admitted permitted check_out overlap
siblings = refl

look_and_change : LookAndChange
unfolding replies_of step decide chained join make admitted permitted check_out overlap
look_and_change = refl

line_moves_up : LineMovesUp
unfolding replies_of step decide chained join make admitted permitted check_out abandon state overlap
line_moves_up = refl

covered_parent : CoveredParent
unfolding replies_of step decide chained join make admitted permitted check_out overlap
covered_parent = refl

refusals : Refusals
unfolding replies_of step decide chained join make admitted permitted overlap
refusals = refl

claim_refusals : ClaimRefusals
unfolding replies_of step decide chained join make admitted permitted check_out abandon state overlap
claim_refusals = refl

refused_extension : RefusedExtension
unfolding replies_of step decide chained join make admitted permitted usable check_out extend state overlap
refused_extension = refl

granted_extension : GrantedExtension
unfolding replies_of step decide chained join make admitted permitted usable check_out extend state overlap
granted_extension = refl

made_under_a_claim : MadeUnderAClaim
unfolding replies_of step decide chained join make admitted permitted usable check_out extend list overlap
made_under_a_claim = refl

holds_and_leaving : HoldsAndLeaving
unfolding replies_of step decide chained join make admitted permitted check_out hold release state overlap
holds_and_leaving = refl

extension_refusals : ExtensionRefusals
unfolding replies_of step decide chained join make admitted permitted usable check_out extend hold release list overlap
extension_refusals = refl

drafts_and_versions : DraftsAndVersions
unfolding replies_of step decide chained join make admitted permitted usable check_out save check_in state fetch count overlap is_shelvable
drafts_and_versions = refl

draft_refusals : DraftRefusals
unfolding replies_of step decide chained join make admitted permitted usable check_out save check_in abandon fetch count overlap is_shelvable
draft_refusals = refl

given_away : GivenAway
unfolding replies_of step decide chained join make admitted permitted usable check_out save check_in owned give note read_note overlap is_shelvable
given_away = refl

drafts_and_place_stay : DraftsAndPlaceStay
unfolding replies_of step decide chained join make admitted permitted usable check_out save check_in state fetch owned give note read_note overlap is_shelvable
drafts_and_place_stay = refl

nested_assemblies : NestedAssemblies
unfolding replies_of step decide chained join make nest admitted permitted usable check_out save overlap
nested_assemblies = refl

deepest_paths : DeepestPaths
unfolding replies_of step decide chained join make nest admitted permitted overlap
deepest_paths = refl

nest_refusals : NestRefusals
unfolding replies_of step decide chained join make nest admitted permitted usable check_out extend overlap
nest_refusals = refl

who_holds_what : WhoHoldsWhat
unfolding replies_of step decide chained join make admitted permitted usable check_out hold save check_in state owned show claims drafts draft overlap is_shelvable
who_holds_what = refl

pub rows : Rows
rows = record {
  two_designers = two_designers;
  siblings = siblings;
  look_and_change = look_and_change;
  line_moves_up = line_moves_up;
  covered_parent = covered_parent;
  refusals = refusals;
  claim_refusals = claim_refusals;
  refused_extension = refused_extension;
  granted_extension = granted_extension;
  made_under_a_claim = made_under_a_claim;
  holds_and_leaving = holds_and_leaving;
  extension_refusals = extension_refusals;
  drafts_and_versions = drafts_and_versions;
  draft_refusals = draft_refusals;
  given_away = given_away;
  drafts_and_place_stay = drafts_and_place_stay;
  nested_assemblies = nested_assemblies;
  deepest_paths = deepest_paths;
  nest_refusals = nest_refusals;
  who_holds_what = who_holds_what;
}
