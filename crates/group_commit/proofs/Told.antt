-- What was acknowledged stands for good.
use Rattle.std.proofs.Common.{◌≡◌, ◌-◌, ◌<◌, length, Some, sym, subst, arith}
use Rattle.std.specs.Prelude.{slice_get}
use Rattle.group_commit.specs.History.{Given}
use Rattle.group_commit.specs.World.{World, new_world, history}
use Rattle.group_commit.specs.Runs.{run}
use Rattle.group_commit.specs.Laws.{ToldStays}
use Rattle.group_commit.proofs.Sound.{after_run, run-append, first_part, second_part}
use Rattle.group_commit.proofs.Stays.{stays}

pub told_stays : ToldStays
told_stays snapshot events more place entry r told =
    let first = first_part snapshot new_world events more r in
    let s = after_run snapshot events first in
    let w : World = run snapshot new_world events in
    let below : place - length w.earlier < w.settled = s.marks.told (place - length w.earlier) told.told in
    subst (λ (later : World). slice_get (history later) place ≡ Some (Given entry)) (sym (run-append snapshot new_world events more))
    (stays snapshot w more place entry s (second_part snapshot new_world events more r) (record { stands = told.stands; below = omega (arith, below, told.lives) })).stands
