use Rattle.std.proofs.Common.{◌≡◌, ◌∙◌, ◌+◌, ◌-◌, ◌<◌, arith, sym, ap, vec_len, get_or, Some}
use Rattle.std.specs.Prelude.{slice_get}
use Rattle.check_outs.specs.Parts.{number_in, opened, put_in}
use Rattle.check_outs.proofs.PutIn.{opened_step, rest_taken}
use Rattle.vault_checkout.proofs.Fitting.{last_rising}
use Rattle.vault_checkout.proofs.from_parts.opened_all.Goals as goal

pub loop-own-preserved : goal.loop-own-preserved
loop-own-preserved g c =
    let next : vec_len c.pop.new.self + 1 ≡ vec_len c.loop-own.rest = c.in-Some.ensures.cases in
    let got : slice_get c.args.line.now.claims (vec_len c.pop.new.self) ≡ Some c.in-Some-at.claim.now = ap (slice_get c.args.line.now.claims) (sym c.len-in-Some.ensures) ∙ sym c.in-Some-at.ensures in
    let positive : 0 < vec_len c.loop-own.rest = omega (arith, next) in
    let last = c.in-Some.ensures.value c.in-Some.own positive in
    let own_is : c.in-Some.own ≡ get_or c.loop-own.rest.items (vec_len c.loop-own.rest - 1) c.in-Some.own = cc in
    record {
      rest = rest_taken c.args.drafts.items c.loop-own.rest.items c.pop.new.self.items (vec_len c.pop.new.self) (vec_len c.loop-own.rest) next c.loop-own.invariant.rest c.in-Some.ensures.rest;
      within = omega arith;
      opened = c.put_in.ensures.items
          ∙ ap (λ x. put_in x c.loop-own.check_outs.items) (c.opened.ensures ∙ ap (λ n. opened n c.in-Some.own) c.number_in.ensures)
          ∙ ap (put_in (opened (number_in c.in-Some-at.claim.now.id) c.in-Some.own)) c.loop-own.invariant.opened
          ∙ opened_step g.row.A.Denot c.args.line.now.claims c.args.drafts.items c.loop-own.rest.items (vec_len c.pop.new.self) (vec_len c.loop-own.rest) c.in-Some.own c.in-Some-at.claim.now next c.loop-own.invariant.within c.requires.same c.loop-own.invariant.rest own_is got;
      room = omega arith;
    }

pub opened-requires : goal.opened-requires
opened-requires g c =
    let positive : 0 < vec_len c.loop-own.rest = omega (arith, c.in-Some.ensures.cases) in
    let last = c.in-Some.ensures.value c.in-Some.own positive in
    let own_is : c.in-Some.own ≡ get_or c.loop-own.rest.items (vec_len c.loop-own.rest - 1) c.in-Some.own = cc in
    last_rising c.args.drafts.items c.loop-own.rest.items (vec_len c.loop-own.rest) c.in-Some.own c.requires.rising c.loop-own.invariant.rest c.loop-own.rest.ok.0 positive own_is
