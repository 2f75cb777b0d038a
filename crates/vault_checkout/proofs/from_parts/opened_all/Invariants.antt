use Rattle.std.specs.Prelude.{◌≡◌, ◌+◌, ◌≤◌, take, drop, length, vec_len, vec_capacity}
use Rattle.check_outs.specs.Parts.{opened_all}
use Rattle.vault_checkout.proofs.from_parts.opened_all.Given as goal

-- the last ones are opened, and there is room for those that are left
abbrev pub invariant-loop-own : goal.invariant-loop-own
invariant-loop-own g l = record {
  rest : l.rest.items ≡ take (vec_len l.rest) l.fn.drafts.items;
  within : vec_len l.rest ≤ length l.fn.drafts.items;
  opened : l.check_outs.items ≡ opened_all (drop (vec_len l.rest) l.line.claims) (drop (vec_len l.rest) l.fn.drafts.items);
  room : vec_len l.check_outs + vec_len l.rest ≤ vec_capacity l.check_outs;
}

abbrev pub decreases-loop-own : goal.decreases-loop-own
decreases-loop-own g l = vec_len l.rest
