use Rattle.std.proofs.Common.{List, [], ℕ, IsTrue, sym, subst, false}
use Rattle.vault_store.specs.declared.phase.Phase.TheVariants.{Idle}
use Rattle.vault_store.specs.State.{at_rest}
use Rattle.vault_store.specs.Seen.{Keeps}
use Rattle.vault_store.specs.Sound.{IsSoundStore}
use Rattle.vault_store.specs.Opening.{IsHandedOn}
use Rattle.vault_store.proofs.Looked.{left_by, in_turn, turned_settled, turned_cause, turned_quiet}
use Rattle.vault_store.proofs.Opened.{opened_handed, opened_kept, opened_one, opened_quiet, opened_read, opened_refused, opened_settled, opened_sound}
use Rattle.vault_store.proofs.store.Store.open.Goals as goal

pub returns-in-Ok-read_active-clause-kept : goal.returns-in-Ok-read_active-clause-kept
returns-in-Ok-read_active-clause-kept g c =
    subst (λ (bytes : List ℕ). Keeps g.D.Device.disk (record { active = c.read_active.new.active; spare = c.in_turn-active.result.1; which = c.in-Ok.active.which; buffer = bytes; sealed = 0; version = c.in-Ok-read_active.contents.version; generation = c.in-Ok.active.generation; tail = c.in-Ok-read_active.contents.tail; journal_length = c.in-Ok-read_active.contents.journal_length; phase = Idle; broken = false; shut = c.in-Ok.active.spare_shut; rest = [] }) (at_rest c.in-Ok-read_active.contents.book)) (sym c.in-Ok-read_active.ensures.frame)
    (opened_kept g.D.Device.disk c.in-Ok.active.which c.args.first c.args.second c.find_active.new.first c.find_active.new.second c.in_turn-active.result.0 c.in_turn-active.result.1 c.read_active.new.active c.in-Ok.active.generation c.in-Ok.ensures.first c.in-Ok.ensures.second (g.met.D.Device.lawful c.in_turn-active.result.0)
    c.in_turn-active.ensures.0 c.in_turn-active.ensures.1 c.read_active.ensures.reads c.in-Ok.ensures.found c.in-Ok-read_active.contents.version c.in-Ok-read_active.contents.book c.in-Ok-read_active.contents.frames c.in-Ok-read_active.contents.tail c.in-Ok-read_active.contents.journal_length c.in-Ok-read_active.ensures.contents c.in-Ok.active.spare_shut c.in-Ok.ensures.settled_first c.in-Ok.ensures.settled_second c.in-Ok.ensures.shut)

pub invariant_of-store : goal.invariant_of-store
invariant_of-store g c =
    subst (λ (bytes : List ℕ). IsSoundStore g.D.Device.disk (record { active = c.read_active.new.active; spare = c.in_turn-active.result.1; which = c.in-Ok.active.which; buffer = bytes; sealed = 0; version = c.in-Ok-read_active.contents.version; generation = c.in-Ok.active.generation; tail = c.in-Ok-read_active.contents.tail; journal_length = c.in-Ok-read_active.contents.journal_length; phase = Idle; broken = false; shut = c.in-Ok.active.spare_shut; rest = [] })) (sym c.in-Ok-read_active.ensures.frame)
    (opened_sound g.D.Device.disk c.in-Ok.active.which c.args.first c.args.second c.find_active.new.first c.find_active.new.second c.in_turn-active.result.0 c.in_turn-active.result.1 c.read_active.new.active c.in-Ok.active.generation c.in-Ok.ensures.first c.in-Ok.ensures.second (g.met.D.Device.lawful c.in_turn-active.result.0)
    c.in_turn-active.ensures.0 c.in_turn-active.ensures.1 c.read_active.ensures.reads c.in-Ok.ensures.found c.in-Ok-read_active.contents.version c.in-Ok-read_active.contents.book c.in-Ok-read_active.contents.frames c.in-Ok-read_active.contents.tail c.in-Ok-read_active.contents.journal_length c.in-Ok-read_active.ensures.contents c.in-Ok.active.spare_shut c.in-Ok.ensures.settled_first c.in-Ok.ensures.settled_second c.in-Ok.ensures.shut)

pub returns-in-Ok-read_active-clause-read : goal.returns-in-Ok-read_active-clause-read
returns-in-Ok-read_active-clause-read g c =
    opened_read g.D.Device.disk c.in-Ok.active.which c.args.first c.args.second c.find_active.new.first c.find_active.new.second c.in_turn-active.result.0 c.in_turn-active.result.1 c.read_active.new.active c.in-Ok.active.generation c.in-Ok.ensures.first c.in-Ok.ensures.second (g.met.D.Device.lawful c.in_turn-active.result.0)
    c.in_turn-active.ensures.0 c.in_turn-active.ensures.1 c.read_active.ensures.reads c.in-Ok.ensures.found c.in-Ok-read_active.contents.version c.in-Ok-read_active.contents.book c.in-Ok-read_active.contents.frames c.in-Ok-read_active.contents.tail c.in-Ok-read_active.contents.journal_length c.in-Ok-read_active.ensures.contents c.in-Ok.active.spare_shut

pub returns-in-Ok-read_active-clause-handed_on : goal.returns-in-Ok-read_active-clause-handed_on
returns-in-Ok-read_active-clause-handed_on g c =
    opened_handed g.D.Device.disk c.in-Ok.active.which c.args.first c.args.second c.find_active.new.first c.find_active.new.second c.in_turn-active.result.0 c.in_turn-active.result.1 c.read_active.new.active c.in-Ok.active.generation c.in-Ok.ensures.first c.in-Ok.ensures.second (g.met.D.Device.lawful c.in_turn-active.result.0)
    c.in_turn-active.ensures.0 c.in_turn-active.ensures.1 c.read_active.ensures.reads c.in-Ok.ensures.found

pub returns-in-Err-read_active-clause-refused : goal.returns-in-Err-read_active-clause-refused
returns-in-Err-read_active-clause-refused g c =
    opened_refused g.D.Device.disk c.in-Ok.active.which c.args.first c.args.second c.find_active.new.first c.find_active.new.second c.in_turn-active.result.0 c.in_turn-active.result.1 c.read_active.new.active c.in-Ok.active.generation c.in-Ok.ensures.first c.in-Ok.ensures.second (g.met.D.Device.lawful c.in_turn-active.result.0)
    c.in_turn-active.ensures.0 c.in_turn-active.ensures.1 c.read_active.ensures.reads c.in-Ok.ensures.found c.in-Err-read_active.why c.in-Err-read_active.ensures.refused

pub returns-in-Ok-read_active-clause-settled : goal.returns-in-Ok-read_active-clause-settled
returns-in-Ok-read_active-clause-settled g c =
    opened_settled g.D.Device.disk c.in-Ok.active.which c.args.first c.args.second c.find_active.new.first c.find_active.new.second c.in_turn-active.result.0 c.in_turn-active.result.1 c.read_active.new.active c.in-Ok.active.generation c.in-Ok.ensures.first c.in-Ok.ensures.second (g.met.D.Device.lawful c.in_turn-active.result.0)
    c.in_turn-active.ensures.0 c.in_turn-active.ensures.1 c.read_active.ensures.reads c.in-Ok.ensures.found c.in-Ok-read_active.contents.version c.in-Ok-read_active.contents.book c.in-Ok-read_active.contents.frames c.in-Ok-read_active.contents.tail c.in-Ok-read_active.contents.journal_length c.in-Ok-read_active.ensures.contents c.in-Ok.active.spare_shut c.in-Ok.ensures.settled_first c.in-Ok.ensures.settled_second c.in-Ok.ensures.shut

pub returns-in-Ok-read_active-clause-quiet : goal.returns-in-Ok-read_active-clause-quiet
returns-in-Ok-read_active-clause-quiet g c =
    opened_quiet g.D.Device.disk c.in-Ok.active.which c.args.first c.args.second c.find_active.new.first c.find_active.new.second c.in_turn-active.result.0 c.in_turn-active.result.1 c.read_active.new.active
    c.in-Ok.ensures.quiet c.in_turn-active.ensures.0 c.in_turn-active.ensures.1 c.in-Ok-read_active.ensures.quiet

pub returns-in-Err-clause-memory : goal.returns-in-Err-clause-memory
returns-in-Err-clause-memory g c = λ same. absurd (c.in-Err.ensures.memory same)

pub returns-in-Err-read_active-clause-left_settled : goal.returns-in-Err-read_active-clause-left_settled
returns-in-Err-read_active-clause-left_settled g c =
    left_by c.in-Err-read_active.why (g.D.Device.disk c.in_turn-first.result.0) (g.D.Device.disk c.in_turn-first.result.1)
    (turned_settled g.D.Device.disk c.in-Ok.active.which c.args.first c.args.second c.find_active.new.first c.find_active.new.second c.in_turn-active.result.0 c.in_turn-active.result.1 c.read_active.new.active c.in_turn-first.result.0 c.in_turn-first.result.1 c.in_turn-active.ensures.0 c.in_turn-active.ensures.1 c.in_turn-first.ensures.0 c.in_turn-first.ensures.1
    c.read_active.ensures.reads (λ honest. c.in-Ok.ensures.settled_first (subst IsTrue c.in-Ok.ensures.first.called.same_honesty honest)) (λ honest. c.in-Ok.ensures.settled_second (subst IsTrue c.in-Ok.ensures.second.called.same_honesty honest)))

pub returns-in-Err-read_active-clause-cause : goal.returns-in-Err-read_active-clause-cause
returns-in-Err-read_active-clause-cause g c =
    turned_cause g.D.Device.disk c.in-Ok.active.which c.args.first c.args.second c.find_active.new.first c.find_active.new.second c.in_turn-active.result.0 c.in_turn-active.result.1 c.read_active.new.active c.in_turn-first.result.0 c.in_turn-first.result.1 c.in_turn-active.ensures.0 c.in_turn-active.ensures.1 c.in_turn-first.ensures.0 c.in_turn-first.ensures.1
    _ c.in-Err-read_active.why c.in-Ok.ensures.first c.in-Ok.ensures.second c.in-Err-read_active.ensures.refused

pub returns-in-Err-read_active-clause-memory : goal.returns-in-Err-read_active-clause-memory
returns-in-Err-read_active-clause-memory g c =
    turned_quiet g.D.Device.disk c.in-Ok.active.which c.args.first c.args.second c.find_active.new.first c.find_active.new.second c.in_turn-active.result.0 c.in_turn-active.result.1 c.read_active.new.active c.in_turn-first.result.0 c.in_turn-first.result.1 c.in_turn-active.ensures.0 c.in_turn-active.ensures.1 c.in_turn-first.ensures.0 c.in_turn-first.ensures.1
    _ c.in-Err-read_active.why c.in-Ok.ensures.quiet c.in-Err-read_active.ensures.refused

pub returns-in-Err-read_active-clause-handed_back : goal.returns-in-Err-read_active-clause-handed_back
returns-in-Err-read_active-clause-handed_back g c =
    in_turn g.D.Device.disk c.in-Ok.active.which c.args.first c.args.second c.find_active.new.first c.find_active.new.second c.in_turn-active.result.0 c.in_turn-active.result.1 c.read_active.new.active c.in_turn-first.result.0 c.in_turn-first.result.1 c.in_turn-active.ensures.0 c.in_turn-active.ensures.1 c.in_turn-first.ensures.0 c.in_turn-first.ensures.1
    (λ (a b : g.row.D.Denot). IsHandedOn (g.D.Device.disk c.args.first) (g.D.Device.disk a) × IsHandedOn (g.D.Device.disk c.args.second) (g.D.Device.disk b))
    (opened_handed g.D.Device.disk c.in-Ok.active.which c.args.first c.args.second c.find_active.new.first c.find_active.new.second c.in_turn-active.result.0 c.in_turn-active.result.1 c.read_active.new.active c.in-Ok.active.generation c.in-Ok.ensures.first c.in-Ok.ensures.second (g.met.D.Device.lawful c.in_turn-active.result.0)
    c.in_turn-active.ensures.0 c.in_turn-active.ensures.1 c.read_active.ensures.reads c.in-Ok.ensures.found)

pub returns-in-Ok-read_active-clause-one_vault : goal.returns-in-Ok-read_active-clause-one_vault
returns-in-Ok-read_active-clause-one_vault g c =
    opened_one g.D.Device.disk c.in-Ok.active.which c.args.first c.args.second c.find_active.new.first c.find_active.new.second c.in_turn-active.result.0 c.in_turn-active.result.1 c.read_active.new.active c.in-Ok.active.generation c.in-Ok.ensures.first c.in-Ok.ensures.second (g.met.D.Device.lawful c.in_turn-active.result.0)
    c.in_turn-active.ensures.0 c.in_turn-active.ensures.1 c.read_active.ensures.reads c.in-Ok.ensures.found c.in-Ok-read_active.contents.version c.in-Ok-read_active.contents.book c.in-Ok-read_active.contents.frames c.in-Ok-read_active.contents.tail c.in-Ok-read_active.contents.journal_length c.in-Ok-read_active.ensures.contents c.in-Ok.active.spare_shut c.in-Ok.ensures.settled_first c.in-Ok.ensures.settled_second c.in-Ok.ensures.shut
