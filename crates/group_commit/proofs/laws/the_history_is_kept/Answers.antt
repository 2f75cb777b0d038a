use Rattle.std.specs.Prelude.{take}
use Rattle.std.proofs.Common.{subst}
use Rattle.vault_state.specs.Vault.{Vault, new_vault}
use Rattle.group_commit.specs.World.{new_world, history}
use Rattle.group_commit.specs.History.{IsLegal}
use Rattle.group_commit.specs.Runs.{run}
use Rattle.group_commit.proofs.Sound.{new_sound, after_run, first_stays}
use Rattle.group_commit.proofs.Told.{told_stays}
use Rattle.group_commit.proofs.Guarded.{history_is_guarded}
use Rattle.group_commit.proofs.Recovery.{is_prefix, left_is_recovered}
use Rattle.group_commit.proofs.laws.the_history_is_kept.Goals as goal

pub returns-clause-legal : goal.returns-clause-legal
returns-clause-legal c = λ snapshot events r. subst (λ (v : Vault). IsLegal v (history (run snapshot new_world events))) (first_stays snapshot new_world events) (after_run snapshot events r).legal

pub returns-clause-told : goal.returns-clause-told
returns-clause-told c = told_stays

pub returns-clause-settled : goal.returns-clause-settled
returns-clause-settled c = λ snapshot events r. (after_run snapshot events r).marks.told

pub returns-clause-guarded : goal.returns-clause-guarded
returns-clause-guarded c = λ snapshot events r n. history_is_guarded new_vault (take n (history (run snapshot new_world events))) new_sound.begins

pub returns-clause-recovery : goal.returns-clause-recovery
returns-clause-recovery c = λ snapshot events r gate. is_prefix (run snapshot new_world events) gate (first_stays snapshot new_world events) (after_run snapshot events r)

pub returns-clause-left : goal.returns-clause-left
returns-clause-left c = λ snapshot events r left may. left_is_recovered (run snapshot new_world events) left (after_run snapshot events r) may

pub returns-clause-orderly : goal.returns-clause-orderly
returns-clause-orderly c = λ snapshot events r. let s = after_run snapshot events r in record { numbers = s.order; busy = s.busy }
