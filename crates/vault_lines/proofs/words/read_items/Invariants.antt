use Rattle.std.proofs.Common.{◌≡◌, map, drop}
use Rattle.vault_lines.specs.Items.{item_in}
use Rattle.vault_lines.specs.Reading.{each_in}
use Rattle.vault_lines.proofs.Each.{with_front}
use Rattle.vault_lines.proofs.words.read_items.Given as goal

abbrev pub invariant-loop-word : goal.invariant-loop-word
invariant-loop-word g l =
    with_front l.items.items (each_in item_in (map (λ word. word.now) (drop l.word-index l.words)))
    ≡ each_in item_in (map (λ word. word.now) l.words)
