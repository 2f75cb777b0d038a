use Rattle.std.proofs.Common.{ℕ, List, ◌∙◌, ap, arith, take}
use Rattle.vault_format.specs.Files.{header}
use Rattle.vault_store.proofs.Headed.{is_head}
use Rattle.vault_store.proofs.Behind.{honest_behind}
use Rattle.vault_store.proofs.Bodies.{one_read}
use Rattle.vault_store.proofs.front.read_head.Goals as goal

pub returns-clause-head : goal.returns-clause-head
returns-clause-head g c = λ honest.
    let reads = one_read (g.D.Device.disk c.args.device.now) (g.D.Device.disk c.len.new.self) c.len.result c.len.ensures.one_call c.len.ensures.kept in
    let same = (reads.read honest).shown in
    let there = c.in_ok-read_at.ensures.bytes (honest_behind (g.D.Device.disk c.args.device.now) (g.D.Device.disk c.len.new.self) reads honest) ∙ ap (λ (file : List ℕ). take header file) same in
    let size = c.in_ok-len.ensures.length honest in
    is_head (g.D.Device.disk c.args.device.now).shown c.read_at.new.buffer there (omega (arith, size, c.if-branch-lt-HEADER.false)) c.head_in.result c.head_in.ensures
