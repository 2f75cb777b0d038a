use Rattle.std.proofs.Common.{◌<◌, ◌∙◌, ap, sym, subst, length, slice_set}
use Rattle.group_commit.specs.Entries.{with_mark}
use Rattle.group_commit.proofs.Marks.{set_is_marked}
use Rattle.group_commit.proofs.window.Window.close.Goals as goal

pub returns : goal.returns
returns g c =
    ap (λ e. slice_set c.self.inside.entries.items c.args.position e) c.close.ensures
    ∙ set_is_marked c.args.mark c.self.inside.entries.items c.args.position c.index_mut.result.now (subst (λ l. c.args.position < length l) (sym c.self.view_is) c.requires) c.index_mut.ensures.value
    ∙ ap (λ l. with_mark c.args.mark l c.args.position) c.self.view_is
