use Rattle.std.specs.Prelude.{◌≡◌, true, not, ◌&&◌, None, refl}
use Rattle.std.proofs.Common.{sym, ◌∙◌, rules}
use Rattle.lock_modes.specs.Modes.{compatible}
use Rattle.lock_table.proofs.Waiting.{waits_found, waits_absent}
use Rattle.lock_table.proofs.waits.wait_at_request.Goals as goal

pub returns-in-Some-clause-waits : goal.returns-in-Some-clause-waits
returns-in-Some-clause-waits g c = λ old were.
    let queued : (not c.args.request.is_held && not (compatible c.args.mode c.args.request.mode)) ≡ true = rw (c.if-request.false, sym c.compatible.ensures ∙ c.if-compatible.false) refl in
    waits_found c.args.mode c.args.request c.args.entries.now c.args.blockers.now.items _ c.args.id c.in-Some.index c.requires.distinct queued (sym c.index_of.ensures ∙ c.in-Some.is) refl old were

pub returns-in_default-clause-waits : goal.returns-in_default-clause-waits
returns-in_default-clause-waits g c = λ old were.
    let queued : (not c.args.request.is_held && not (compatible c.args.mode c.args.request.mode)) ≡ true = rw (c.if-request.false, sym c.compatible.ensures ∙ c.if-compatible.false) refl in
    let none : c.index_of.result ≡ None = search rules in
    waits_absent c.args.mode c.args.request c.args.entries.now c.args.blockers.now.items c.args.id queued (sym c.index_of.ensures ∙ none) old were
