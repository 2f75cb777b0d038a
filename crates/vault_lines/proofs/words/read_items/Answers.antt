use Rattle.std.proofs.Common.{Some, ◌∙◌, sym, ap}
use Rattle.vault_lines.specs.Items.{item_in}
use Rattle.vault_lines.proofs.Each.{all_read, one_read, none_read, items_are}
use Rattle.vault_lines.proofs.words.read_items.Goals as goal

pub returns-in_default : goal.returns-in_default
returns-in_default g c =
    items_are (λ word. word.now) c.args.words.now c.if-is_empty.ensures
    ∙ none_read item_in (λ word. word.now) c.args.words.now c.loop-word.word-index c.loop-word.items.items c.loop-word.invariant
    c.loop-word-test.true _
    (sym c.read_item.ensures ∙ c.in_default.is)

pub loop-word-preserved : goal.loop-word-preserved
loop-word-preserved g c =
    let next = one_read item_in (λ word. word.now) c.args.words.now c.loop-word.word-index c.loop-word.items.items c.loop-word.invariant
    c.loop-word-test.true _
    c.in-Some.item (sym c.read_item.ensures ∙ c.in-Some.is) in
    rw c.in_ok-push.ensures.items next

pub returns : goal.returns
returns g c =
    items_are (λ word. word.now) c.args.words.now c.if-is_empty.ensures
    ∙ all_read item_in (λ word. word.now) c.args.words.now c.loop-word.word-index c.loop-word.items.items c.loop-word.invariant
    c.loop-word-test.false
    ∙ ap Some (sym c.from_vec.ensures)
