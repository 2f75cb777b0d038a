-- Why a flusher ended. This project's own.
use Rattle.std.specs.Prelude.{◌≡◌, true}
use Rattle.group_commit.specs.View.{View}
use Rattle.vault_desk.specs.Acts.{GoesOn}
use Rattle.vault_desk.specs.Pumping.{IsAtRest}
use Rattle.vault_desk.specs.declared.flusher.Flushed.{Flushed}
use Rattle.vault_desk.specs.declared.flusher.Flushed.TheVariants.{Closed, Broken}

-- a vault of this view is so
abbrev pub IsFlushed : View → Flushed → Type 0
IsFlushed v Closed = IsAtRest v
IsFlushed v Broken = v.broken ≡ true

-- a vault came from this view to one that is so
pub record HasFlushed (first : View) (flushed : Flushed) : Type 0 where
  pub view : View
  pub came : GoesOn first view
  pub ended : IsFlushed view flushed
