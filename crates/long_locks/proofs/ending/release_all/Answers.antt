use Rattle.long_locks.proofs.Zips.{zip_long}
use Rattle.long_locks.proofs.ending.release_all.Goals as goal

pub returns-in-AllShort : goal.returns-in-AllShort
returns-in-AllShort g c = λ tree zip. rw (c.in-AllShort.is, c.release_short.ensures) (zip_long tree c.args.claims.now.claims c.args.table.now zip)
