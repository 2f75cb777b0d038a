use Rattle.std.proofs.Common.{rules, ◌≡◌, ◌≤◌, ◌++◌, ◌∙◌, ℕ, List, Result, Ok, Err, All, ap, arith, append_assoc, length, sym, subst}
use Rattle.vault_state.specs.Limits.{longest_content}
use Rattle.vault_state.specs.Shelf.{Draft}
use Rattle.vault_state.specs.Drafts.{drafts_of}
use Rattle.vault_journal.specs.Spelling.{in_four, name_bytes, items_bytes}
use Rattle.vault_format.specs.Adds.{Adds}
use Rattle.vault_format.specs.Snapshot.{current_version, number_of, designer_of, note_field, drafts_bytes}
use Rattle.vault_format.proofs.Adding.{drafts_short}
use Rattle.vault_store.proofs.snapshot.spelling.put_claim.Goals as goal

pub put_drafts-requires-clause-short : goal.put_drafts-requires-clause-short
put_drafts-requires-clause-short g c =
    subst (All (λ (d : Draft). length d.content ≤ longest_content)) (sym c.drafts.ensures)
    (drafts_short c.args.book.now.tree c.args.book.now.line c.args.book.now.drafts c.number_of-number.result c.requires)

pub put_items-requires : goal.put_items-requires
put_items-requires g c = omega (arith, c.as_slice.ensures.few, ap length c.as_slice.ensures.items)

-- five parts, one behind the other
five_parts : {E : Type 0} (a b c d e f one two three four five items drafts : List ℕ) (result : Result (Unit {0}) E) → b ≡ a ++ one → c ≡ b ++ two → e ≡ d ++ items → items ≡ four → Adds e f drafts result → drafts ≡ five → d ≡ c ++ three
    → Adds a f (one ++ two ++ three ++ four ++ five) result
five_parts a b c d e f one two three four five items drafts (Ok done) first second fourth is_four last is_five third =
    last ∙ ap (λ (l : List ℕ). e ++ l) is_five
    ∙ ap (λ (l : List ℕ). l ++ five) (fourth ∙ ap (λ (l : List ℕ). d ++ l) is_four ∙ ap (λ (l : List ℕ). l ++ four) (third ∙ ap (λ (l : List ℕ). l ++ three) (second ∙ ap (λ (l : List ℕ). l ++ two) first)))
    ∙ simp append_assoc
five_parts a b c d e f one two three four five items drafts (Err why) first second fourth is_four last is_five third = tt

pub returns : goal.returns
returns g c =
    five_parts c.args.out.now.items c.put_u32.new.out.items c.put_owner.new.out.items _ c.put_items.new.out.items c.put_drafts.new.out.items
    (in_four (number_of c.args.claim.now.id)) (name_bytes (designer_of c.args.claim.now.owner)) (note_field current_version c.args.claim.now.note) (items_bytes c.args.claim.now.items)
    (drafts_bytes (drafts_of c.args.book.now.drafts (number_of c.args.claim.now.id))) (items_bytes c.as_slice.result.now) (drafts_bytes c.drafts.result.now) c.put_drafts.result
    (c.in_ok-put_u32.ensures ∙ ap (λ (n : ℕ). c.args.out.now.items ++ in_four n) c.number_of-number.ensures) c.in_ok-put_owner.ensures c.in_ok-put_items.ensures (ap items_bytes c.as_slice.ensures.items)
    c.put_drafts.ensures (ap drafts_bytes (c.drafts.ensures ∙ ap (λ (n : ℕ). drafts_of c.args.book.now.drafts n) c.number_of-number.ensures)) (search rules)
