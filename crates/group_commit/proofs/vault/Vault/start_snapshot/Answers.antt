use Rattle.std.proofs.Common.{◌≡◌, ◌∙◌, ap, sym, subst}
use Rattle.std.specs.Prelude.{Ok}
use Rattle.vault_state.specs.Vault.{durable}
use Rattle.group_commit.specs.View.{length_of}
use Rattle.group_commit.specs.Seen.{VaultSeen, state_of}
use Rattle.group_commit.specs.Inside.{seen_of}
use Rattle.group_commit.specs.Pasts.{IsAnswered}
use Rattle.group_commit.proofs.Companions.{stays}
use Rattle.group_commit.proofs.Starts.{book_is_vault, book_is_spelled, started_kept, started_is_answered}
use Rattle.group_commit.proofs.vault.Vault.start_snapshot.Goals as goal

pub start_snapshot-requires-clause-vault : goal.start_snapshot-requires-clause-vault
start_snapshot-requires-clause-vault g c = book_is_vault g.D.Device.disk (seen_of c.self.inside) c.self.inside.book c.self.invariant.0

pub start_snapshot-requires-clause-spelled : goal.start_snapshot-requires-clause-spelled
start_snapshot-requires-clause-spelled g c = book_is_spelled g.D.Device.disk (seen_of c.self.inside) c.self.inside.book c.self.invariant.0 c.what_is_noted_is_spelled.ensures

pub invariant_of-self : goal.invariant_of-self
invariant_of-self g c =
    let seen = seen_of c.self.inside in
    let k = c.self.invariant.0 in
    let e = c.in-Ok-Yes.ensures in
    let yes = ap Ok c.in-Ok-Yes.field-0-is in
    let all : c.len-all.result ≡ length_of seen.view = c.len-all.ensures ∙ ap (λ (s : VaultSeen _). length_of s.view) (sym c.self.view_is) in (
      started_kept g.D.Device.disk seen c.self.inside.book k c.start_snapshot.new.self c.len-all.result (e.yes yes) all (e.may yes)
          (e.kept (state_of seen.view) yes k.stands (sym (ap durable k.book_is))),
      c.self.invariant.1,
    )

pub returns-in-Ok-Yes-clause-answered : goal.returns-in-Ok-Yes-clause-answered
returns-in-Ok-Yes-clause-answered g c =
    let seen = seen_of c.self.inside in
    let e = c.in-Ok-Yes.ensures in
    let yes = ap Ok c.in-Ok-Yes.field-0-is in
    let all : c.len-all.result ≡ length_of seen.view = c.len-all.ensures ∙ ap (λ (s : VaultSeen _). length_of s.view) (sym c.self.view_is) in
    subst (λ (old : VaultSeen _). IsAnswered old (seen_of (record c.self.inside { store = c.start_snapshot.new.self; sealed = c.len-all.result }))) c.self.view_is
    (started_is_answered g.D.Device.disk seen c.self.inside.book c.self.invariant.0 c.start_snapshot.new.self c.len-all.result (e.yes yes) all (e.may yes))

pub returns-in-Ok-Yes-clause-one_vault : goal.returns-in-Ok-Yes-clause-one_vault
returns-in-Ok-Yes-clause-one_vault g c = stays g.D.Device.disk (seen_of c.self.inside) _ c.start_snapshot.new.self c.self.view_is (c.in-Ok-Yes.ensures.one_vault (ap Ok c.in-Ok-Yes.field-0-is))
