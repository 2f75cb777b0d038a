-- The runs that were worked out by hand, computed.
use Rattle.std.specs.Prelude.{◌<◌, ◌≢◌, true, false, Some, refl}
use Rattle.std.proofs.Common.{arith}
use Rattle.vault_state.specs.Claims.{overlap}
use Rattle.vault_model.specs.Step.{step, decide, chained, join, make, admitted, permitted, check_out, hold, state, list}
use Rattle.group_commit.specs.declared.mark.Mark.TheVariants.{Open, Told}
use Rattle.vault_store.specs.Phases.{NoCall, Write}
use Rattle.group_commit.specs.Rows.{pumps_of, Rows}

infixr 5 ◌&◌
-- one event is allowed, and then those behind it
◌&◌ : {A B : Type 0} → A → B → A × B
a & b = (a, b)

of_four : (0 < 4) × (1 < 4) × (2 < 4) × (3 < 4)
of_four = (omega arith, omega arith, omega arith, omega arith)

only : 0 < 1
only = omega arith

of_two : 1 < 2
of_two = omega arith

unsettled : 2 < 2 → ⊥
unsettled h = omega arith

closed : Some Told ≢ Some Open
closed e = cc

writes : Write ≢ NoCall
writes e = cc

broken : true ≢ false
broken e = cc

pub rows : Rows
unfolding pumps_of step decide chained join make admitted permitted check_out hold state list overlap
rows = record {
  two_sessions_one_frame = record { is_run = refl & refl & refl & refl & refl & refl & refl & refl & refl & (of_four.2, refl) & (of_four.3, refl) & (of_four.0, refl) & (of_four.1, refl) & (of_four.0, closed) & (of_four.1, closed) & (of_four.2, closed) & (of_four.3, closed) & tt; calls = refl; answers = refl; replies = refl };
  nothing_for_good = record { is_run = refl & refl & (only, refl) & refl & tt; calls = refl; answers = refl; replies = refl };
  torn_gate_closed = record { is_run = refl & refl & refl & refl & refl & refl & (of_two, refl) & refl & refl & refl & refl & tt & refl & refl & tt; calls = refl; answers = refl; replies = refl };
  torn_gate_open = record { is_run = refl & refl & refl & refl & refl & refl & (of_two, refl) & refl & refl & refl & refl & tt & refl & refl & tt; calls = refl; answers = refl; replies = refl };
  told_stands = refl;
  hold_goes = record { is_run = refl & refl & refl & refl & refl & refl & refl & refl & refl & tt & refl & refl & refl & tt; calls = refl; answers = refl; replies = refl };
  snapshot_torn_closed = record { is_run = refl & refl & refl & refl & refl & refl & refl & (refl, refl) & refl & refl & refl & refl & refl & tt & refl & refl & tt; calls = refl; answers = refl; replies = refl };
  snapshot_torn_open = record { is_run = refl & refl & refl & refl & refl & refl & refl & (refl, refl) & refl & refl & refl & refl & refl & tt & refl & refl & tt; calls = refl; answers = refl; replies = refl };
  snapshot_settled = record { is_run = refl & refl & refl & refl & refl & refl & refl & (refl, refl) & refl & refl & refl & refl & refl & refl & tt & refl & refl & tt; calls = refl; answers = refl; replies = refl };
  failed_write = record {
    no_stage = broken;
    no_pump = broken;
    untold = λ allowed. unsettled allowed.0;
    goes_on = record { is_run = refl & refl & refl & refl & refl & refl & refl & (refl, writes) & (of_two, refl) & refl & tt & refl & refl & tt; calls = refl; answers = refl; replies = refl };
  };
}
