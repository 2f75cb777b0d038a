use Rattle.std.proofs.Common.{◌≡◌, ◌∙◌, ◌==◌, ◌<◌, ap, sym, subst, Some, None, true, false}
use Rattle.std.specs.Prelude.{position}
use Rattle.check_outs.specs.declared.any.AnyCheckOut.TheVariants.{Waiting}
use Rattle.check_outs.specs.Typed.{number_of}
use Rattle.check_outs.proofs.Saved.{closed_at, open_at, removed, saved_ok, saved_err}
use Rattle.check_outs.proofs.any.save_at.Goals as goal

pub unreachable-requires : goal.unreachable-requires
unreachable-requires g c =
    let none : None ≡ position (λ d. number_of d == c.args.number) c.args.check_outs.now.items = sym c.in_default.is ∙ c.index_of.ensures.index ∙ ap (position (λ d. number_of d == c.args.number)) c.deref.ensures.value in
    let closed = closed_at c.args.number c.args.check_outs.now.items none in
    let clash : true ≡ false = sym c.requires ∙ closed in
    cc

pub index_mut-requires : goal.index_mut-requires
index_mut-requires g c = subst (λ n. c.in-Some.index < n) c.deref.ensures.len c.in-Some.ensures.bound

pub unreachable-requires-in-Waiting : goal.unreachable-requires-in-Waiting
unreachable-requires-in-Waiting g c =
    let it = removed c.args.number c.args.check_outs.now.items c.deref.result.now c.in-Some.index c.index_mut.result.now c.deref.ensures.value c.in-Some.ensures.index c.in-Some.ensures.bound c.index_mut.ensures.value in
    let clash : true ≡ false = sym c.requires ∙ open_at c.args.number c.args.check_outs.now.items c.in-Some.index (Waiting c.in-Waiting.field-0) (it.got ∙ ap Some c.in-Waiting.is) it.at in
    cc

pub returns-clause-ok : goal.returns-clause-ok
returns-clause-ok g c =
    let it = removed c.args.number c.args.check_outs.now.items c.deref.result.now c.in-Some.index c.index_mut.result.now c.deref.ensures.value c.in-Some.ensures.index c.in-Some.ensures.bound c.index_mut.ensures.value in
    saved_ok c.args.number c.args.check_outs.now.items c.in-Some.index c.in-Held.held c.save.new.self c.args.draft c.save.result (it.got ∙ ap Some c.in-Held.is) it.at c.save.ensures.ok

pub returns-clause-err : goal.returns-clause-err
returns-clause-err g c =
    let it = removed c.args.number c.args.check_outs.now.items c.deref.result.now c.in-Some.index c.index_mut.result.now c.deref.ensures.value c.in-Some.ensures.index c.in-Some.ensures.bound c.index_mut.ensures.value in
    saved_err c.args.number c.args.check_outs.now.items c.in-Some.index c.in-Held.held c.save.new.self c.save.result (it.got ∙ ap Some c.in-Held.is) c.save.ensures.err
