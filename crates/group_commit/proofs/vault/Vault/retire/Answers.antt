use Rattle.std.proofs.Common.{◌≡◌, ◌≢◌, ◌∙◌, List, Some, true, false, sym, ap, subst, rules}
use Rattle.group_commit.specs.declared.mark.Mark.TheVariants.{Open}
use Rattle.group_commit.specs.declared.answers.Retired.TheVariants as answers
use Rattle.group_commit.specs.Entries.{Kept, mark_at}
use Rattle.group_commit.specs.History.{replay, members}
use Rattle.group_commit.specs.Seen.{VaultSeen}
use Rattle.group_commit.specs.Inside.{seen_of}
use Rattle.group_commit.specs.Calls.{IsRetired}
use Rattle.group_commit.specs.Pasts.{IsAnswered}
use Rattle.group_commit.proofs.Gone.{gone_retired}
use Rattle.group_commit.proofs.Retires.{gone_one, retired, settled_more, retired_kept, retires, retiring_is_answered}
use Rattle.group_commit.proofs.vault.Vault.retire.Goals as goal

pub invariant_of-self : goal.invariant_of-self
invariant_of-self g c =
    let seen = seen_of c.self.inside in
    let disk = g.D.Device.disk in
    let k = c.self.invariant.0 in
    let next = ap (λ (l : List Kept). replay c.self.inside.base.value (members l)) c.and-self-inside.ensures ∙ gone_one c.self.inside.base.value c.self.inside.bygone.items c.pop-entry.result in (
      retired_kept disk seen c.self.inside.book k c.pop-entry.result c.pop-entry.new.self c.pop-entry.ensures (replay c.self.inside.base.value (members c.and-self-inside.result.items)) next
          (settled_more disk seen c.self.inside.book k c.if-self.false),
      gone_retired c.self.inside.bygone.items c.self.inside.kept c.and-self-inside.result.items c.pop-entry.new.self c.pop-entry.result c.self.inside.retired c.self.inside.told c.and-self-inside.ensures c.pop-entry.ensures c.self.invariant.1,
    )

pub returns : goal.returns
returns g c =
    let seen = seen_of c.self.inside in
    let disk = g.D.Device.disk in
    let k = c.self.invariant.0 in
    let base = replay c.self.inside.base.value (members c.and-self-inside.result.items) in
    let next = ap (λ (l : List Kept). replay c.self.inside.base.value (members l)) c.and-self-inside.ensures ∙ gone_one c.self.inside.base.value c.self.inside.bygone.items c.pop-entry.result in
    let settled = settled_more disk seen c.self.inside.book k c.if-self.false in
    let closed : mark_at seen.view.kept 0 ≢ Some Open = λ e. let clash : true ≡ false = sym (c.first_is_open.ensures.1 e) ∙ c.if-first_is_open.false in cc in
    let answered = subst (λ (old : VaultSeen _). IsAnswered old (retired seen base c.pop-entry.new.self)) c.self.view_is (retiring_is_answered disk seen c.self.inside.book k c.pop-entry.result c.pop-entry.new.self c.pop-entry.ensures base next settled closed) in
    record {
      retired = subst (λ (old : VaultSeen _). IsRetired old (retired seen base c.pop-entry.new.self) answers.One) c.self.view_is (retires disk seen c.self.inside.book k c.pop-entry.result c.pop-entry.new.self c.pop-entry.ensures base next settled closed);
      same = search rules;
      answered = answered;
    }
