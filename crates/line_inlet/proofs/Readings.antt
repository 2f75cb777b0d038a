-- A connection gives bytes bit by bit.
use Rattle.std.proofs.Common.{ℕ, List, [], ◌++◌, Option, None, Some, Result, Ok, Err}
use Rattle.std.specs.Io.KnownBytes.{ReadConsumes}
use Rattle.std.proofs.KnownBytes.{Appends-nil, Appends-trans, Consumes-nil, Consumes-trans, Consumes-kept, Appends-kept, Keeps-refl, Keeps-trans}
use Rattle.line_inlet.specs.Reading.{Reading, Gave, GaveNone, ReadGave, to_come, unknown}

pub gave_none : (a : Reading) → Gave a a []
gave_none a = record { ahead = Consumes-nil a.ahead; behind = Appends-nil a.behind }

pub gave_both : (a b c : Reading) (xs ys : List ℕ) → Gave a b xs → Gave b c ys → Gave a c (xs ++ ys)
gave_both a b c xs ys p q = record {
  ahead = Consumes-trans a.ahead b.ahead c.ahead xs ys p.ahead q.ahead;
  behind = Appends-trans a.behind b.behind c.behind xs ys p.behind q.behind;
}

-- where nothing was given, that is the empty bytes
pub gave_silent : (a b : Reading) → GaveNone a b → Gave a b []
gave_silent a b p = record {
  ahead = Consumes-kept a.ahead a.ahead b.ahead [] (Consumes-nil a.ahead) p.ahead;
  behind = Appends-kept a.behind a.behind b.behind [] (Appends-nil a.behind) p.behind;
}

pub silent_still : (a : Reading) → GaveNone a a
silent_still a = record { ahead = Keeps-refl a.ahead; behind = Keeps-refl a.behind }

pub silent_both : (a b c : Reading) → GaveNone a b → GaveNone b c → GaveNone a c
silent_both a b c p q = record { ahead = Keeps-trans a.ahead b.ahead c.ahead p.ahead q.ahead; behind = Keeps-trans a.behind b.behind c.behind p.behind q.behind }

pub silent_first : (a b c : Reading) (xs : List ℕ) → GaveNone a b → Gave b c xs → Gave a c xs
silent_first a b c xs p q = gave_both a b c [] xs (gave_silent a b p) q

-- what a reader gives
pub of_reader : {E : Type 0} (old new : Option (List ℕ)) (r : Result ℕ E) (buf : List ℕ) → ReadConsumes old new r buf
    → ReadGave (to_come old) (to_come new) r buf
of_reader old new (Ok n) buf read = (record { ahead = read.0; behind = tt }, read.1)
of_reader old new (Err e) buf read = record { ahead = read; behind = tt }

-- where nothing is known, anything may have been given
pub gave_unknown : (bytes : List ℕ) → Gave unknown unknown bytes
gave_unknown bytes = record { ahead = tt; behind = tt }

pub silent_unknown : GaveNone unknown unknown
silent_unknown = record { ahead = tt; behind = tt }
