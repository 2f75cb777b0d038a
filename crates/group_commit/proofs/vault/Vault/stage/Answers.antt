use Rattle.std.proofs.Common.{rules, inr, ◌≡◌, ◌<◌, ◌∙◌, length, refl, sym, ap, arith}
use Rattle.group_commit.specs.World.{Stage}
use Rattle.group_commit.specs.View.{length_of}
use Rattle.group_commit.specs.Seen.{VaultSeen}
use Rattle.group_commit.specs.Inside.{seen_of}
use Rattle.group_commit.proofs.Companions.{stays}
use Rattle.group_commit.proofs.Gone.{gone_staged}
use Rattle.group_commit.proofs.Staged.{another_fits, counts_are_few, has_record, stage_kept}
use Rattle.group_commit.proofs.vault.Vault.stage.Goals as goal

pub act-requires : goal.act-requires
act-requires g c =
    let is : c.len-position.result ≡ length_of (seen_of c.self.inside).view = c.len-position.ensures ∙ ap (λ (s : VaultSeen _). length_of s.view) (sym c.self.view_is) in
    counts_are_few g.D.Device.disk (seen_of c.self.inside) c.self.inside.book c.args.session c.args.command c.self.invariant.0
    (another_fits (length_of (seen_of c.self.inside).view) c.len-position.result is c.self.invariant.0.fits c.if-position.false)

pub note_any-requires-clause-has : goal.note_any-requires-clause-has
note_any-requires-clause-has g c =
    has_record g.D.Device.disk (seen_of c.self.inside) c.self.inside.book c.args.session c.args.command c.self.invariant.0 c.in-Ok.acted.1 c.in-Ok.ensures.effect

pub invariant_of-self-2 : goal.invariant_of-self-2
invariant_of-self-2 g c =
    let few : length c.self.inside.kept < 4096 = (let l : c.len.result ≡ length c.self.inside.kept = c.len.ensures.len in let k : c.len.result < 4096 = c.if-len-ge-MAX_KEPT.false in omega arith) in
    let is : c.len-position.result ≡ length_of (seen_of c.self.inside).view = c.len-position.ensures ∙ ap (λ (s : VaultSeen _). length_of s.view) (sym c.self.view_is) in (
      stage_kept g.D.Device.disk (seen_of c.self.inside) c.self.inside.book c.args.session c.args.command c.self.invariant.0
          c.in-Ok.acted.1 c.note_any.new.store c.of-before.result.value c.act.new.self c.in-Ok.acted.0 c.open-entry.result c.push.new.self
          refl few (another_fits (length_of (seen_of c.self.inside).view) c.len-position.result is c.self.invariant.0.fits c.if-position.false) c.in-Ok.ensures.effect c.note_any.ensures.noted c.note_any.ensures.kept c.of-before.ensures c.in-Ok.ensures.told c.open-entry.ensures c.push.ensures c.in-Ok.ensures.vault,
      gone_staged c.self.inside.bygone.items c.self.inside.kept c.push.new.self c.open-entry.result _ c.self.inside.retired c.self.inside.told c.push.ensures c.open-entry.ensures c.self.invariant.1,
    )

pub returns-clause-answered : goal.returns-clause-answered
returns-clause-answered g c = inr (Stage c.args.session c.args.command, record { allowed = search rules; made = search rules; life = search rules })

pub returns-clause-one_vault : goal.returns-clause-one_vault
returns-clause-one_vault g c = stays g.D.Device.disk (seen_of c.self.inside) _ c.note_any.new.store c.self.view_is c.note_any.ensures.one_vault
