use Rattle.std.specs.Prelude.{not, ◌==◌}
use Rattle.std.proofs.Common.{rules}
use Rattle.std.proofs.lemmas.Fn.{filter_same}
use Rattle.vault_state.specs.declared.session.Session.{Session}
use Rattle.vault_checkout.proofs.book.drop_session.Goals as goal

pub returns : goal.returns
returns g c = filter_same _ (λ (s : Session). not (s.number == c.args.number)) _ (λ x b f' k. search rules) _ _ c.retain.ensures.filtered
