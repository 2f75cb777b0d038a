use Rattle.std.proofs.Common.{[], ◌∷◌, subst, sym}
use Rattle.std.specs.Prelude.{All}
use Rattle.std.proofs.lemmas.List.Elements.{All-cons, All-nil, All-append}
use Rattle.vault_sessions.specs.Sights.{seen_by}
use Rattle.vault_sessions.specs.Reports.{IsReported, reported}
use Rattle.vault_sessions.proofs.Reporting.{all_reported}
use Rattle.vault_server.proofs.account.Account.with.Goals as goal

pub invariant_of-result : goal.invariant_of-result
invariant_of-result g c =
    let seen = seen_by c.all_seen.result in
    let report = reported c.args.wire.now.heard c.args.wire.now.stream c.args.answers.now c.args.ended in
    let before = all_reported (seen_by c.self.inside.sight) seen c.self.inside.reports c.all_seen.ensures.one c.self.invariant in
    let one = all_reported (seen_by c.args.sight) seen (report ∷ []) c.all_seen.ensures.other (All-cons (IsReported (seen_by c.args.sight)) report [] c.requires (All-nil (IsReported (seen_by c.args.sight)))) in
    subst (All (IsReported seen)) (sym c.with.ensures) (All-append (IsReported seen) c.self.inside.reports (report ∷ []) before one)
