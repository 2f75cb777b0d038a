use Rattle.std.proofs.Common.{◌≡◌, ◌∙◌, ◌==◌, sym, ap, Some, None}
use Rattle.std.specs.Prelude.{position}
use Rattle.check_outs.specs.Typed.{number_of}
use Rattle.check_outs.proofs.Saved.{found_at, remove_at, none_found, none_taken}
use Rattle.check_outs.proofs.any.withdraw_at.Goals as goal

pub returns-in-Some : goal.returns-in-Some
returns-in-Some g c =
    let at : Some c.in-Some.index ≡ position (λ d. number_of d == c.args.number) c.args.check_outs.now.items = c.in-Some.ensures.index ∙ ap (position (λ d. number_of d == c.args.number)) c.deref.ensures.value in
    let found = found_at c.args.number c.args.check_outs.now.items c.in-Some.index (sym at) in
    c.remove.ensures.items ∙ remove_at c.args.number c.args.check_outs.now.items c.in-Some.index c.requires found.0 found.1

pub returns-in_default : goal.returns-in_default
returns-in_default g c =
    let none : None ≡ position (λ d. number_of d == c.args.number) c.args.check_outs.now.items = sym c.in_default.is ∙ c.index_of.ensures.index ∙ ap (position (λ d. number_of d == c.args.number)) c.deref.ensures.value in
    sym (none_taken c.args.number c.args.check_outs.now.items (none_found c.args.number c.args.check_outs.now.items none))
