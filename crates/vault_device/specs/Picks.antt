-- What a crash leaves of a disk in memory, byte by byte: the law of each pick.
use Rattle.std.specs.Prelude.{◌≡◌, ◌≢◌, ◌⊎◌, ◌↔◌, ◌==◌, ℕ, Bool, true, false, IsTrue, List, slice_index}
use Rattle.vault_device.specs.declared.history.Pick.{Pick}
use Rattle.vault_device.specs.declared.history.Pick.TheVariants.{Old, New, Bytes}
use Rattle.vault_device.specs.Memory.{Event, content_of, picked}

-- a crash with this byte leaves it there, or what is there is durable and a read gives it, too
abbrev pub FilledOrSettled : Type 0
FilledOrSettled = (events : List Event) (b i : ℕ)
    → (slice_index ((content_of events).filled b) i ≡ b)
    ⊎ ((slice_index ((content_of events).filled b) i ≡ slice_index (content_of events).settled i)
    × (slice_index (content_of events).shown i ≡ slice_index (content_of events).settled i))

-- a crash with this pick leaves a 1 where a 1 was written and isn't durable
abbrev pub gives_one : Pick → Bool
gives_one Old = false
gives_one New = true
gives_one (Bytes b) = b == 1

-- where a read gives a 1 that isn't durable, a crash leaves a 1 exactly if its pick gives one
abbrev pub PicksDecide : Type 0
PicksDecide = (events : List Event) (i : ℕ) → slice_index (content_of events).shown i ≡ 1 → slice_index (content_of events).settled i ≢ 1
    → (pick : Pick) → (slice_index (picked pick (content_of events)) i ≡ 1) ↔ IsTrue (gives_one pick)
