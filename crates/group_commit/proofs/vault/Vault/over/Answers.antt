use Rattle.std.proofs.Common.{List, ap, ◌∙◌}
use Rattle.group_commit.specs.Entries.{Kept}
use Rattle.group_commit.specs.History.{replay, members}
use Rattle.group_commit.proofs.Gone.{gone_none}
use Rattle.group_commit.proofs.Begins.{begun_kept}
use Rattle.group_commit.proofs.vault.Vault.over.Goals as goal

pub invariant_of-result : goal.invariant_of-result
invariant_of-result g c = (
  begun_kept g.D.Device.disk (replay c.of.result.value (members c.new.result.items)) c.args.book c.args.kept c.args.store c.args.life
      (ap (λ (l : List Kept). replay c.of.result.value (members l)) c.new.ensures ∙ c.of.ensures) c.requires.kept c.requires.stands,
  gone_none c.new.result.items c.args.kept c.new.ensures c.requires.kept,
)
