-- Two files that are served together. This project's own.
use Rattle.std.specs.Prelude.{◌≡◌, IsTrue}
use Rattle.vault_device.specs.Disk.{Disk}
use Rattle.vault_store.specs.TwoVaults.{AreOfTwoVaults}

-- honest devices of which no call failed don't show the files of two vaults
abbrev pub AreApart : Disk → Disk → Type 0
AreApart first second = IsTrue first.honest → IsTrue second.honest → first.faults ≡ 0 → second.faults ≡ 0
    → AreOfTwoVaults first.shown second.shown → ⊥
