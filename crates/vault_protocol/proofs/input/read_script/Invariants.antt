use Rattle.std.proofs.Common.{◌<◌, ◌≤◌, vec_len}
use Rattle.std.specs.Io.KnownBytes.{Consumes}
use Rattle.vault_protocol.proofs.input.read_script.Given as goal

abbrev pub invariant-loop-call : goal.invariant-loop-call
invariant-loop-call g l = record {
  taken : Consumes (g.R.Read.remaining l.fn.reader) (g.R.Read.remaining l.reader) l.script.items;
  room : 0 < vec_len l.buffer;
  bound : vec_len l.script ≤ 16777216;
}
