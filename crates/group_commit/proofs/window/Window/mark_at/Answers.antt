use Rattle.std.proofs.Common.{◌∙◌, refl, sym, ap}
use Rattle.group_commit.specs.Entries.{mark_at}
use Rattle.group_commit.proofs.WindowReads.{mark_read, no_mark}
use Rattle.group_commit.proofs.window.Window.mark_at.Goals as goal

pub returns-in-Some : goal.returns-in-Some
returns-in-Some g c =
    let e = c.in-Some.ensures in
    mark_read c.mark.result c.self.inside.entries.items c.args.position _ c.in-Some.entry.now (sym c.self.inside.entries.ok.0) (e.variant.0 refl) e.lookup c.mark.ensures
    ∙ ap (λ l. mark_at l c.args.position) c.self.view_is

pub returns-in-None : goal.returns-in-None
returns-in-None g c =
    no_mark c.self.inside.entries.items c.args.position _ (sym c.self.inside.entries.ok.0) c.in-None.ensures.variant.1
    ∙ ap (λ l. mark_at l c.args.position) c.self.view_is
