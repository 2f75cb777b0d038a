use Rattle.std.proofs.Common.{◌≡◌, ◌≤◌, IsTrue, length}
use Rattle.vault_device.proofs.Parts.{HasPart}
use Rattle.vault_device.proofs.file_device.write_all.Given as goal

abbrev pub invariant-parts : goal.invariant-parts
invariant-parts g l = record {
  within : l.done ≤ length l.text;
  honesty : (g.F.RawFile.bytes l.file).honest ≡ (g.F.RawFile.bytes l.fn.file).honest;
  part : IsTrue (g.F.RawFile.bytes l.fn.file).honest → HasPart l.at l.done l.text (g.F.RawFile.bytes l.fn.file) (g.F.RawFile.bytes l.file);
}
