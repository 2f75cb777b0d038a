use Rattle.std.proofs.Common.{ℕ, ◌<◌, ◌≤◌, ◌++◌, ◌∙◌, List, length, sym, ap, subst}
use Rattle.std.specs.Prelude.{option_to_list}
use Rattle.group_commit.specs.Entries.{Kept}
use Rattle.group_commit.specs.Seen.{most_kept}
use Rattle.group_commit.proofs.WindowReads.{fewer_rest}
use Rattle.group_commit.proofs.window.Window.pop.Goals as goal

pub unwrap-requires : goal.unwrap-requires
unwrap-requires g c =
    c.pop_front.ensures.variant.1 (subst (λ (n : ℕ). 0 < n) (sym c.self.inside.entries.ok.0) (subst (λ (l : List Kept). 0 < length l) (sym c.self.view_is) c.requires))

pub invariant_of-self : goal.invariant_of-self
invariant_of-self g c = (
  subst (λ (l : List Kept). length l ≤ most_kept) (sym c.pop_front.ensures.rest) (fewer_rest c.self.inside.entries.items most_kept c.self.invariant.0),
  subst (λ (n : ℕ). most_kept ≤ n) (sym c.pop_front.ensures.capacity) c.self.invariant.1,
)

pub returns : goal.returns
returns g c = sym c.self.view_is ∙ c.pop_front.ensures.items ∙ ap (λ o. option_to_list o ++ c.pop_front.new.self.items) c.unwrap.ensures
