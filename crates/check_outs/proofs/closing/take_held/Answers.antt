use Rattle.std.proofs.Common.{◌≡◌, ◌∙◌, ◌==◌, ap, sym, Some, None, true, false}
use Rattle.std.specs.Prelude.{position}
use Rattle.check_outs.specs.declared.any.AnyCheckOut.TheVariants.{Waiting, Held}
use Rattle.check_outs.specs.Typed.{number_of}
use Rattle.check_outs.proofs.Saved.{found_at, open_at, closed_at, remove_at, own_number, own_drafts_at, removed}
use Rattle.check_outs.proofs.closing.take_held.Goals as goal

pub unreachable-requires : goal.unreachable-requires
unreachable-requires g c =
    let none : None ≡ position (λ d. number_of d == c.args.number) c.args.check_outs.now.items = sym c.in_default.is ∙ c.index_of.ensures.index ∙ ap (position (λ d. number_of d == c.args.number)) c.deref.ensures.value in
    let closed = closed_at c.args.number c.args.check_outs.now.items none in
    let clash : true ≡ false = sym c.requires.held ∙ closed in
    cc

pub unreachable-requires-in-Waiting : goal.unreachable-requires-in-Waiting
unreachable-requires-in-Waiting g c =
    let it = removed c.args.number c.args.check_outs.now.items c.deref.result.now c.in-Some.index c.remove.result c.deref.ensures.value c.in-Some.ensures.index c.in-Some.ensures.bound c.remove.ensures.value in
    let clash : true ≡ false = sym c.requires.held ∙ open_at c.args.number c.args.check_outs.now.items c.in-Some.index (Waiting c.in-Waiting.field-0) (it.got ∙ ap Some c.in-Waiting.is) it.at in
    cc

pub returns-clause-taken : goal.returns-clause-taken
returns-clause-taken g c =
    let it = removed c.args.number c.args.check_outs.now.items c.deref.result.now c.in-Some.index c.remove.result c.deref.ensures.value c.in-Some.ensures.index c.in-Some.ensures.bound c.remove.ensures.value in
    let at = found_at c.args.number c.args.check_outs.now.items c.in-Some.index it.at in
    c.remove.ensures.items ∙ remove_at c.args.number c.args.check_outs.now.items c.in-Some.index c.requires.ascending at.0 at.1

pub returns-clause-number : goal.returns-clause-number
returns-clause-number g c =
    let it = removed c.args.number c.args.check_outs.now.items c.deref.result.now c.in-Some.index c.remove.result c.deref.ensures.value c.in-Some.ensures.index c.in-Some.ensures.bound c.remove.ensures.value in
    own_number c.args.number c.args.check_outs.now.items (Held c.in-Held.held) (it.found ∙ ap Some c.in-Held.is)

pub returns-clause-drafts : goal.returns-clause-drafts
returns-clause-drafts g c =
    let it = removed c.args.number c.args.check_outs.now.items c.deref.result.now c.in-Some.index c.remove.result c.deref.ensures.value c.in-Some.ensures.index c.in-Some.ensures.bound c.remove.ensures.value in
    own_drafts_at c.args.number c.args.check_outs.now.items (Held c.in-Held.held) (it.found ∙ ap Some c.in-Held.is)
