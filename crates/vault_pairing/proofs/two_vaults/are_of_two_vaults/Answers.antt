use Rattle.std.proofs.Common.{arith}
use Rattle.std.proofs.lemmas.Result.{IfErr-weaker}
use Rattle.vault_store.proofs.Behind.{and_reads}
use Rattle.vault_store.proofs.Steps.{no_reads}
use Rattle.vault_store.proofs.TwoVaults.{first_shut, second_shut, one_same, first_two, second_two, unread_behind, unread_back}
use Rattle.vault_pairing.proofs.two_vaults.are_of_two_vaults.Goals as goal

pub returns-in-Ok-None-clause-two : goal.returns-in-Ok-None-clause-two
returns-in-Ok-None-clause-two g c = λ honest other. first_shut (g.D.Device.disk c.args.first.now).shown (g.D.Device.disk c.args.second.now).shown ((rw c.in-Ok-None.field-0-is at c.in-Ok-None.ensures.generation) honest)

pub returns-in-Ok-None-right_generation-clause-two : goal.returns-in-Ok-None-right_generation-clause-two
returns-in-Ok-None-right_generation-clause-two g c = λ honest other. second_shut (g.D.Device.disk c.args.first.now).shown (g.D.Device.disk c.args.second.now).shown ((rw c.in-Ok-None-right_generation.field-0-is at c.in-Ok-None-right_generation.ensures.generation) other)

pub returns-in-Ok-None-clause-second : goal.returns-in-Ok-None-clause-second
returns-in-Ok-None-clause-second g c = no_reads (g.D.Device.disk c.args.second.now)

pub returns-in-Err-clause-second : goal.returns-in-Err-clause-second
returns-in-Err-clause-second g c = no_reads (g.D.Device.disk c.args.second.now)

pub returns-clause-two : goal.returns-clause-two
returns-clause-two g c = λ honest other.
    one_same (g.D.Device.disk c.args.first.now).shown (g.D.Device.disk c.args.second.now).shown c.in-Ok-Some.one c.in-Ok-Some-right_generation.other (omega (arith, c.if-one-other.false, c.if-other-one.false)) ((rw c.in-Ok-Some.field-0-is at c.in-Ok-Some.ensures.generation) honest) ((rw c.in-Ok-Some-right_generation.field-0-is at c.in-Ok-Some-right_generation.ensures.generation) other)

pub returns-then-one-other-clause-two : goal.returns-then-one-other-clause-two
returns-then-one-other-clause-two g c = λ honest other.
    first_two c.is_of_another.result (g.D.Device.disk c.args.first.now) (g.D.Device.disk c.right_generation.new.device) (g.D.Device.disk c.args.second.now) (g.D.Device.disk c.right_generation-2.new.device) c.right_generation.ensures.reads c.right_generation-2.ensures.reads
    c.in-Ok-Some.one c.in-Ok-Some-right_generation.other c.if-one-other.true honest other ((rw c.in-Ok-Some.field-0-is at c.in-Ok-Some.ensures.generation) honest) ((rw c.in-Ok-Some-right_generation.field-0-is at c.in-Ok-Some-right_generation.ensures.generation) other) c.is_of_another.ensures.another

pub returns-then-one-other-clause-refused : goal.returns-then-one-other-clause-refused
returns-then-one-other-clause-refused g c =
    IfErr-weaker c.is_of_another.result _ _
    (λ why is. unread_behind (g.D.Device.disk c.args.first.now) (g.D.Device.disk c.args.second.now) (g.D.Device.disk c.right_generation.new.device) (g.D.Device.disk c.right_generation-2.new.device) (g.D.Device.disk c.is_of_another.new.older) (g.D.Device.disk c.is_of_another.new.newer) why c.in-Ok-Some.ensures.quiet c.in-Ok-Some-right_generation.ensures.quiet is)
    c.is_of_another.ensures.refused

pub returns-then-one-other-clause-first : goal.returns-then-one-other-clause-first
returns-then-one-other-clause-first g c = and_reads (g.D.Device.disk c.args.first.now) (g.D.Device.disk c.right_generation.new.device) (g.D.Device.disk c.is_of_another.new.older) c.right_generation.ensures.reads c.is_of_another.ensures.older

pub returns-then-one-other-clause-second : goal.returns-then-one-other-clause-second
returns-then-one-other-clause-second g c = and_reads (g.D.Device.disk c.args.second.now) (g.D.Device.disk c.right_generation-2.new.device) (g.D.Device.disk c.is_of_another.new.newer) c.right_generation-2.ensures.reads c.is_of_another.ensures.newer

pub returns-then-other-one-clause-two : goal.returns-then-other-one-clause-two
returns-then-other-one-clause-two g c = λ honest other.
    second_two c.is_of_another-then-other-one.result (g.D.Device.disk c.args.first.now) (g.D.Device.disk c.right_generation.new.device) (g.D.Device.disk c.args.second.now) (g.D.Device.disk c.right_generation-2.new.device) c.right_generation.ensures.reads c.right_generation-2.ensures.reads
    c.in-Ok-Some-right_generation.other c.in-Ok-Some.one c.if-other-one.true honest other ((rw c.in-Ok-Some.field-0-is at c.in-Ok-Some.ensures.generation) honest) ((rw c.in-Ok-Some-right_generation.field-0-is at c.in-Ok-Some-right_generation.ensures.generation) other) c.is_of_another-then-other-one.ensures.another

pub returns-then-other-one-clause-refused : goal.returns-then-other-one-clause-refused
returns-then-other-one-clause-refused g c =
    IfErr-weaker c.is_of_another-then-other-one.result _ _
    (λ why is. unread_back (g.D.Device.disk c.args.first.now) (g.D.Device.disk c.args.second.now) (g.D.Device.disk c.right_generation.new.device) (g.D.Device.disk c.right_generation-2.new.device) (g.D.Device.disk c.is_of_another-then-other-one.new.newer) (g.D.Device.disk c.is_of_another-then-other-one.new.older) why c.in-Ok-Some.ensures.quiet c.in-Ok-Some-right_generation.ensures.quiet is)
    c.is_of_another-then-other-one.ensures.refused

pub returns-then-other-one-clause-first : goal.returns-then-other-one-clause-first
returns-then-other-one-clause-first g c = and_reads (g.D.Device.disk c.args.first.now) (g.D.Device.disk c.right_generation.new.device) (g.D.Device.disk c.is_of_another-then-other-one.new.newer) c.right_generation.ensures.reads c.is_of_another-then-other-one.ensures.newer

pub returns-then-other-one-clause-second : goal.returns-then-other-one-clause-second
returns-then-other-one-clause-second g c = and_reads (g.D.Device.disk c.args.second.now) (g.D.Device.disk c.right_generation-2.new.device) (g.D.Device.disk c.is_of_another-then-other-one.new.older) c.right_generation-2.ensures.reads c.is_of_another-then-other-one.ensures.older
