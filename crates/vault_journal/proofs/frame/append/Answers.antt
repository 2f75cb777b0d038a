use Rattle.std.proofs.Common.{◌-◌, arith}
use Rattle.vault_journal.specs.Spelling.{record_of}
use Rattle.vault_journal.proofs.Behind.{then}
use Rattle.vault_journal.proofs.Sealed.{sealed_with}
use Rattle.vault_journal.proofs.frame.append.Goals as goal

pub returns-clause-records : goal.returns-clause-records
returns-clause-records g c =
    (sealed_with c.args.buffer.now c.put_u32.new.out c.args.used (record_of c.args.effect.now) c.put_u8.new.out (c.put_effect-end.result - 4) (omega (arith, c.put_effect-end.ensures.behind))
    (then _ _ _ _ _ _ _ _ c.put_effect-end.ensures c.put_u8.ensures).written c.put_u32.ensures.written c.requires.room).0

pub returns-clause-sealed : goal.returns-clause-sealed
returns-clause-sealed g c =
    (sealed_with c.args.buffer.now c.put_u32.new.out c.args.used (record_of c.args.effect.now) c.put_u8.new.out (c.put_effect-end.result - 4) (omega (arith, c.put_effect-end.ensures.behind))
    (then _ _ _ _ _ _ _ _ c.put_effect-end.ensures c.put_u8.ensures).written c.put_u32.ensures.written c.requires.room).1
