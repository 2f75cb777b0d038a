use Rattle.std.proofs.Common.{◌≡◌, refl}
use Rattle.std.specs.Prelude.{map}
use Rattle.vault_state.specs.declared.ids.ClaimId.TheVariants.{Long}
use Rattle.vault_state.specs.Claims.{put_first}
use Rattle.long_locks.proofs.Grown.{grown_itself}
use Rattle.vault_checkout.specs.Seen.{vault_of}
use Rattle.check_outs.specs.Typed.{granted, recalled}
use Rattle.vault_checkout.proofs.Agreeing.{saved_granted, saved_recalled}
use Rattle.vault_checkout.proofs.Extended.{kept_put, agrees_put}
use Rattle.vault_checkout.proofs.book.Book.put_first.Goals as goal

pub invariant_of-self-2 : goal.invariant_of-self-2
invariant_of-self-2 g c =
    let recalls = rw c.in_ok-put_first.ensures.put at c.recall_queued.ensures c.self.inside.tree c.self.invariant.0.tree (grown_itself c.self.inside.tree) in
    let items : c.grant_held.new.check_outs.items ≡ map (granted c.self.inside.tree (put_first c.self.inside.line.claims (Long c.args.number) c.args.items.now)) (map (recalled c.self.inside.tree (put_first c.self.inside.line.claims (Long c.args.number) c.args.items.now)) c.self.inside.check_outs.items) =
    rw (c.in_ok-put_first.ensures.put, recalls) at c.grant_held.ensures c.self.inside.tree c.self.invariant.0.tree (grown_itself c.self.inside.tree) in
    rw (
      c.in_ok-put_first.ensures.put,
      items,
      saved_granted c.self.inside.tree (put_first c.self.inside.line.claims (Long c.args.number) c.args.items.now) (map (recalled c.self.inside.tree (put_first c.self.inside.line.claims (Long c.args.number) c.args.items.now)) c.self.inside.check_outs.items),
      saved_recalled c.self.inside.tree (put_first c.self.inside.line.claims (Long c.args.number) c.args.items.now) c.self.inside.check_outs.items,
    ) (
      kept_put (vault_of c.self.inside) c.self.invariant.0 (Long c.args.number) c.args.items.now (rw (← c.self.view_is) at c.requires.found) (rw (← c.self.view_is) at c.requires.more) c.requires.few (rw (← c.self.view_is) at c.requires.there) (rw (← c.self.view_is) at c.requires.held),
      grown_itself c.self.inside.tree,
      agrees_put (vault_of c.self.inside) c.self.invariant.0 (Long c.args.number) c.args.items.now (rw (← c.self.view_is) at c.requires.found) (rw (← c.self.view_is) at c.requires.more) (rw (← c.self.view_is) at c.requires.held) c.self.inside.check_outs.items c.self.invariant.2 refl,
    )

pub returns-clause-put : goal.returns-clause-put
returns-clause-put g c =
    let recalls = rw c.in_ok-put_first.ensures.put at c.recall_queued.ensures c.self.inside.tree c.self.invariant.0.tree (grown_itself c.self.inside.tree) in
    let items : c.grant_held.new.check_outs.items ≡ map (granted c.self.inside.tree (put_first c.self.inside.line.claims (Long c.args.number) c.args.items.now)) (map (recalled c.self.inside.tree (put_first c.self.inside.line.claims (Long c.args.number) c.args.items.now)) c.self.inside.check_outs.items) =
    rw (c.in_ok-put_first.ensures.put, recalls) at c.grant_held.ensures c.self.inside.tree c.self.invariant.0.tree (grown_itself c.self.inside.tree) in
    rw (
      ← c.self.view_is,
      c.in_ok-put_first.ensures.put,
      items,
      saved_granted c.self.inside.tree (put_first c.self.inside.line.claims (Long c.args.number) c.args.items.now) (map (recalled c.self.inside.tree (put_first c.self.inside.line.claims (Long c.args.number) c.args.items.now)) c.self.inside.check_outs.items),
      saved_recalled c.self.inside.tree (put_first c.self.inside.line.claims (Long c.args.number) c.args.items.now) c.self.inside.check_outs.items,
    ) refl
