use Rattle.std.specs.Prelude.{List, All}
use Rattle.std.proofs.Common.{sym, subst, ◌∙◌}
use Rattle.std.proofs.lemmas.List.{take_all}
use Rattle.std.proofs.lemmas.List.Elements.{All-take}
use Rattle.vault_state.specs.declared.claims.Claim.{Claim}
use Rattle.vault_state.specs.Vault.{AreThere}
use Rattle.vault_state.specs.Limits.{most_claims}
use Rattle.lock_table.specs.Tables.{IsTableOf}
use Rattle.long_locks.proofs.Apart.{none_before}
use Rattle.long_locks.proofs.LinesMade.{few_taken, taken_next}
use Rattle.long_locks.proofs.from_claims.line_up.Goals as goal

pub put_last-requires : goal.put_last-requires
put_last-requires g c =
    let tree = c.args.tree.now in
    let claims = c.args.claims.now in
    let i = c.loop-claim.claim-index in
    let so = c.loop-claim.invariant in
    record {
      tree = c.requires.tree;
      claims = subst (λ (cs : List Claim). All (λ (x : Claim). AreThere tree x.items) cs) (sym so.claims) (All-take (λ (x : Claim). AreThere tree x.items) i claims c.requires.there);
      table = subst (λ (cs : List Claim). IsTableOf tree cs c.loop-claim.table) (sym so.claims) so.table;
      items = subst (λ (x : Claim). AreThere tree x.items) (sym c.claim-item.is) (c.requires.there i c.claim-item.result c.loop-claim-test.true);
      new = rw so.claims (none_before claims i c.claim-item.result c.loop-claim-test.true c.claim-item.is c.requires.apart);
      room = few_taken claims c.loop-claim.line.claims i most_claims so.claims c.loop-claim-test.true c.requires.few;
    }

pub loop-claim-preserved : goal.loop-claim-preserved
loop-claim-preserved g c =
    let put = c.in_ok-put_last.ensures in
    let more = taken_next c.args.claims.now c.loop-claim.line.claims c.put_last.new.claims.claims c.loop-claim.claim-index c.claim-item.result
    c.loop-claim.invariant.claims c.loop-claim-test.true c.claim-item.is put.asked in
    record { claims = more; table = subst (λ (cs : List Claim). IsTableOf c.args.tree.now cs c.put_last.new.table) more put.table }

pub returns-clause-claims : goal.returns-clause-claims
returns-clause-claims g c = c.loop-claim.invariant.claims ∙ take_all c.loop-claim.claim-index c.args.claims.now c.loop-claim-test.false

pub returns-clause-table : goal.returns-clause-table
returns-clause-table g c = subst (λ (cs : List Claim). IsTableOf c.args.tree.now cs c.loop-claim.table)
    (take_all c.loop-claim.claim-index c.args.claims.now c.loop-claim-test.false) c.loop-claim.invariant.table
