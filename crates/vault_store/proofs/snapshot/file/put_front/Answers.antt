use Rattle.std.proofs.Common.{List, ℕ, ◌≡◌, ◌++◌, ◌∙◌, ap, append_assoc}
use Rattle.vault_journal.specs.Spelling.{in_four, in_eight}
use Rattle.vault_format.specs.Files.{mark}
use Rattle.vault_format.proofs.Adding.{adds_after}
use Rattle.vault_store.proofs.snapshot.file.put_front.Goals as goal

pub returns : goal.returns
returns g c =
    let old = c.args.out.now.items in
    let two : c.put_u32.new.out.items ≡ old ++ (mark ++ in_four 2) =
    c.in_ok-put_u32.ensures ∙ ap (λ (l : List ℕ). l ++ in_four 2) c.in_ok-put.ensures ∙ append_assoc old mark (in_four 2) in
    let three : c.put-2.new.out.items ≡ old ++ (mark ++ in_four 2 ++ in_eight c.args.generation) =
    c.in_ok-put-2.ensures ∙ ap (λ (l : List ℕ). c.put_u32.new.out.items ++ l) c.to_be_bytes.ensures ∙ ap (λ (l : List ℕ). l ++ in_eight c.args.generation) two
    ∙ append_assoc old (mark ++ in_four 2) (in_eight c.args.generation) in
    adds_after old c.put-2.new.out.items c.put_u32-2.new.out.items (mark ++ in_four 2 ++ in_eight c.args.generation) (in_four 0) c.put_u32-2.result three c.put_u32-2.ensures
