use Rattle.std.proofs.Common.{List, ◌++◌, ◌∙◌, ap, length, arith}
use Rattle.std.specs.List.{flat_map}
use Rattle.std.proofs.lemmas.List.{take_all}
use Rattle.vault_state.specs.Claims.{without_short}
use Rattle.vault_state.specs.declared.claims.Claim.{Claim}
use Rattle.vault_format.specs.Snapshot.{current_version, claim_bytes}
use Rattle.vault_format.proofs.Adding.{long_more}
use Rattle.vault_store.proofs.snapshot.spelling.put_claims.Goals as goal

pub loop-position-preserved : goal.loop-position-preserved
loop-position-preserved g c = long_more c.args.book.now c.loop-position.position c.claim_at.result.now _ _ _ c.claim_at.ensures c.loop-position.invariant c.in_ok-put_long.ensures

pub claim_at-requires : goal.claim_at-requires
claim_at-requires g c = omega (arith, c.loop-position-test.true, c.len-position-end.ensures, ap length c.line.ensures.claims)

pub returns : goal.returns
returns g c =
    c.loop-position.invariant
    ∙ ap (λ (claims : List Claim). c.args.out.now.items ++ flat_map (claim_bytes current_version c.args.book.now) (without_short claims))
    (take_all c.loop-position.position c.args.book.now.line (omega (arith, c.loop-position-test.false, c.len-position-end.ensures, ap length c.line.ensures.claims)))
