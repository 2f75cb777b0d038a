use Rattle.std.proofs.Common.{◌≡◌, ◌<◌, ◌++◌, length, take, subst, ap, ◌∙◌}
use Rattle.std.specs.Option.{option_map}
use Rattle.std.specs.Io.KnownBytes.{Consumes, IsAtEnd}
use Rattle.first_line.specs.Own.{own_part}
use Rattle.tcp_door.specs.Wires.{OnWire}
use Rattle.tcp_door.proofs.Heard.{handed_on}
use Rattle.tcp_door.proofs.stream.WireConnection.read.Goals as goal

pub returns-after-count-buf-clause-bytes : goal.returns-after-count-buf-clause-bytes
returns-after-count-buf-clause-bytes g c =
    let next = c.take_own-own.result.1 in
    let own = c.take_own-own.result.0 in
    let new = option_map (own_part next) (g.S.Stream.remaining c.read.new.self) in
    let ahead = subst (λ (seen : OnWire _). Consumes (option_map (own_part seen.first) (g.S.Stream.remaining seen.stream)) new (take own c.read.new.buf) × (own ≡ 0 → 0 < length c.read.new.buf → IsAtEnd new)) c.self.view_is
    (handed_on c.self.inside.first next c.in-Ok.count own c.read.new.buf c.in-Ok.ensures.bound.0
    c.take_own-own.ensures.few c.take_own-own.ensures.own c.take_own-own.ensures.cut _ _ c.in-Ok.ensures.bytes) in
    (record { ahead = ahead.0; behind = c.note.ensures ∙ ap (λ (seen : OnWire _). seen.heard ++ take own c.read.new.buf) c.self.view_is }, ahead.1)
