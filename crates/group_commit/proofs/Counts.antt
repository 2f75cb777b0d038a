-- How many commands were counted in a life.
use Rattle.std.proofs.Common.{ℕ, zero, suc, ◌+◌, ◌<◌, ◌≤◌, List, [], ◌∷◌, take, sym, subst, arith}
use Rattle.std.proofs.lemmas.List.Elements.{All-weaker}
use Rattle.vault_state.specs.declared.session.Session.{Session}
use Rattle.vault_state.specs.Vault.{Vault, CountsBelow}
use Rattle.group_commit.specs.Entries.{Kept}
use Rattle.group_commit.specs.History.{replay, outcome_of, members}
use Rattle.group_commit.specs.World.{World, vault_at}
use Rattle.group_commit.proofs.Facts.{counts_rise}
use Rattle.group_commit.proofs.Folds.{replay-append}
use Rattle.group_commit.proofs.Sound.{IsSound}

pub weaker : (low high : ℕ) (v : Vault) → low ≤ high → CountsBelow low v → CountsBelow high v
weaker low high v h counts = record {
  door = omega (arith, counts.door, h);
  each = All-weaker (λ (s : Session). s.count < low) (λ (s : Session). s.count < high) (λ s below. omega (arith, below, h)) v.sessions counts.each;
}

pub counts_after : (bound n : ℕ) (v : Vault) (entries : List Kept) → CountsBelow bound v → CountsBelow (n + bound) (replay v (members (take n entries)))
counts_after bound zero v entries counts = weaker bound (zero + bound) v (omega arith) counts
counts_after bound (suc n) v [] counts = weaker bound (suc n + bound) v (omega arith) counts
counts_after bound (suc n) v (kept ∷ rest) counts =
    let next : Vault = (outcome_of v kept.entry).vault in
    weaker (n + (bound + 1)) (suc n + bound) (replay next (members (take n rest))) (omega arith)
    (counts_after (bound + 1) n next rest (counts_rise bound v kept.entry.session kept.entry.command counts))

pub counts_are_of_the_life : (w : World) (n : ℕ) → IsSound w → CountsBelow (n + 1) (vault_at w n)
counts_are_of_the_life w n s = subst (CountsBelow (n + 1)) (sym (replay-append w.first w.earlier (members (take n w.life)))) (counts_after 1 n (replay w.first w.earlier) w.life s.starts)
