use Rattle.std.proofs.Common.{subst, sym}
use Rattle.std.specs.Prelude.{All}
use Rattle.std.proofs.lemmas.List.Elements.{All-append}
use Rattle.vault_sessions.specs.Sights.{seen_by}
use Rattle.vault_sessions.specs.Reports.{IsReported}
use Rattle.vault_sessions.proofs.Reporting.{all_reported}
use Rattle.vault_server.proofs.account.Account.and.Goals as goal

pub invariant_of-result : goal.invariant_of-result
invariant_of-result g c =
    let seen = seen_by c.all_seen.result in
    let one = all_reported (seen_by c.self.inside.sight) seen c.self.inside.reports c.all_seen.ensures.one c.self.invariant in
    let other = all_reported (seen_by c.other.inside.sight) seen c.other.inside.reports c.all_seen.ensures.other c.other.invariant in
    subst (All (IsReported seen)) (sym c.and.ensures) (All-append (IsReported seen) c.self.inside.reports c.other.inside.reports one other)
