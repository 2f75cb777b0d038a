use Rattle.std.proofs.Common.{◌≡◌, ◌+◌, ◌≤◌, IsTrue, length, take, slice_range}
use Rattle.vault_device.specs.Disk.{IsRead}
use Rattle.vault_device.proofs.file_device.read_all.Given as goal

abbrev pub invariant-parts : goal.invariant-parts
invariant-parts g l = record {
  within : l.done ≤ length l.buffer;
  honesty : (g.F.RawFile.bytes l.file).honest ≡ (g.F.RawFile.bytes l.fn.file).honest;
  kept : IsTrue (g.F.RawFile.bytes l.fn.file).honest → IsRead (g.F.RawFile.bytes l.fn.file) (g.F.RawFile.bytes l.file);
  bytes : IsTrue (g.F.RawFile.bytes l.fn.file).honest → take l.done l.buffer ≡ slice_range (g.F.RawFile.bytes l.fn.file).shown l.at (l.at + l.done);
}
