use Rattle.vault_desk.proofs.desk.Desk.new.Goals as goal

pub invariant_of-result : goal.invariant_of-result
invariant_of-result g c =
    (c.requires.books.0, c.requires.books.1, c.requires.opening.0, c.requires.opening.1, c.requires.acts, rw c.requires.seen tt)
