use Rattle.std.proofs.Common.{◌≡◌, ◌∷◌, [], drop, sym, subst, IsTrue}
use Rattle.vault_store.specs.Create.{new_file}
use Rattle.vault_store.proofs.Creating.{shut_file, made_thrice, then_shown}
use Rattle.vault_store.proofs.creation.write_new.Goals as goal

pub returns-clause-moments : goal.returns-clause-moments
returns-clause-moments g c = λ honest only.
    let disk = g.D.Device.disk in
    let one = c.in_ok-write_settled.ensures in
    let two = c.in_ok-write_settled-2.ensures in
    let still : IsTrue (disk c.write_settled.new.device).honest = subst IsTrue (sym one.calls.called.same_honesty) honest in
    let still_again : IsTrue (disk c.write_settled-2.new.device).honest = subst IsTrue (sym two.calls.called.same_honesty) still in
    let first : (disk c.write_settled.new.device).shown ≡ 0 ∷ [] = then_shown (disk c.args.device.now).shown (disk c.write_settled.new.device).shown [] 0 (0 ∷ []) (one.shown honest) (c.requires honest) in
    let second : (disk c.write_settled-2.new.device).shown ≡ shut_file = then_shown (disk c.write_settled.new.device).shown (disk c.write_settled-2.new.device).shown (0 ∷ []) 1 (drop 1 new_file) (two.shown still) first in
    made_thrice (disk c.args.device.now) (disk c.write_settled.new.device) (disk c.write_settled-2.new.device) (disk c.write_settled-3.new.device) only (one.moments honest) (one.settled honest) first (two.moments still) (two.settled still) second
    (c.write_settled-3.ensures.moments still_again)
