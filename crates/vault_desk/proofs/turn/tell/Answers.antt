use Rattle.std.proofs.Common.{◌≡◌, ℕ, List, Option, ◌+◌, ◌<◌, ◌≤◌, length, take, take_all, drop, append-nil, ap, subst, sym, ◌∙◌, arith}
use Rattle.std.specs.Io.KnownBytes.{Appends}
use Rattle.std.proofs.Math.Seq.{take-add}
use Rattle.std.proofs.lemmas.List.{take_rest, drop-drop, length-drop}
use Rattle.std.proofs.KnownBytes.{Appends-trans, Appends-kept}
use Rattle.vault_desk.proofs.turn.tell.Goals as goal

pub loop-telling-preserved : goal.loop-telling-preserved
loop-telling-preserved g c =
    let (count, text, is_left, written, reading, names, appends) = c.loop-telling.invariant in
    let from = c.args.telling.written in
    let all = c.args.telling.text.items in
    let bytes : Appends (g.C.Connection.contents c.loop-telling.connection) (g.C.Connection.contents c.write.new.self) (take c.in-Ok.count (drop (from + count) all)) =
    rw (take_rest, c.as_slice.ensures.value, text, written) at c.in-Ok.ensures.bytes in
    let both : Appends (g.C.Connection.contents c.args.connection.now) (g.C.Connection.contents c.write.new.self) (take (count + c.in-Ok.count) (drop from all)) =
    rw (take-add, drop-drop count from all) (Appends-trans _ _ _ _ _ appends bytes) in
    (count + c.in-Ok.count, text, is_left, omega (arith, written), c.write.ensures.same.0 ∙ reading, c.write.ensures.same.1 ∙ names, both)

-- where nothing is left of the text, the bytes written are all
told_rest : (a b : Option (List ℕ)) (from count : ℕ) (all : List ℕ) → length all ≤ from + count → Appends a b (take count (drop from all)) → Appends a b (drop from all)
told_rest a b from count all long part = subst (Appends a b) (take_all count (drop from all) (omega (arith, length-drop from all))) part

-- nothing more was written
told_none : (a b c : Option (List ℕ)) (count more : ℕ) (left rest : List ℕ) → more ≡ 0 → Appends a b (take count left) → Appends b c (take more rest) → Appends a c (take count left)
told_none a b c count more left rest none part last =
    subst (Appends a c) (append-nil (take count left)) (Appends-trans a b c _ _ part (subst (λ n. Appends b c (take n rest)) none last))

pub returns-in-Ok-eq0-clause-told : goal.returns-in-Ok-eq0-clause-told
returns-in-Ok-eq0-clause-told g c =
    let (count, text, is_left, written, reading, names, appends) = c.loop-telling.invariant in
    let all = c.args.telling.text.items in
    let bytes = rw c.in-Ok-eq0.is at c.write.ensures.bytes in (
      count,
      subst (λ n. n < length all) written (subst (λ n. c.loop-telling.telling.written < n) (c.len.ensures ∙ (c.loop-telling.telling.text.ok.0 ∙ ap length text)) c.loop-telling-test.true),
      told_none _ _ _ count c.in-Ok-eq0.field-0 _ _ c.in-Ok-eq0.field-0-test appends bytes,
    )

pub returns-in-Err-clause-told : goal.returns-in-Err-clause-told
returns-in-Err-clause-told g c =
    let (count, text, is_left, written, reading, names, appends) = c.loop-telling.invariant in
    let less = subst (λ n. c.loop-telling.telling.written < n) (c.len.ensures ∙ (c.loop-telling.telling.text.ok.0 ∙ ap length text)) c.loop-telling-test.true in
    (count, text, is_left, written, less, Appends-kept _ _ _ (take count (drop c.args.telling.written c.args.telling.text.items)) appends c.in-Err.ensures.bytes)

pub returns-in-Err-2-clause-told : goal.returns-in-Err-2-clause-told
returns-in-Err-2-clause-told g c =
    let (count, text, is_left, written, reading, names, appends) = c.loop-telling.invariant in
    let all = c.args.telling.text.items in
    let less = subst (λ n. c.loop-telling.telling.written < n) (c.len.ensures ∙ (c.loop-telling.telling.text.ok.0 ∙ ap length text)) c.loop-telling-test.true in
    (count, subst (λ n. n < length all) written less, Appends-kept _ _ _ (take count (drop c.args.telling.written all)) appends c.in-Err-2.ensures.bytes)

pub returns-then-telling-clause-told : goal.returns-then-telling-clause-told
returns-then-telling-clause-told g c =
    let (count, text, is_left, written, reading, names, appends) = c.loop-telling.invariant in
    let from = c.args.telling.written in
    let all = c.args.telling.text.items in
    let long = subst (λ n. n ≤ from + count) (c.len.ensures ∙ (c.loop-telling.telling.text.ok.0 ∙ ap length text)) (subst (λ n. c.len.result ≤ n) written c.loop-telling-test.false) in
    (told_rest _ _ from count all long appends, sym is_left ∙ c.if-telling.true)

pub returns-clause-told : goal.returns-clause-told
returns-clause-told g c =
    let (count, text, is_left, written, reading, names, appends) = c.loop-telling.invariant in
    let from = c.args.telling.written in
    let all = c.args.telling.text.items in
    let long = subst (λ n. n ≤ from + count) (c.len.ensures ∙ (c.loop-telling.telling.text.ok.0 ∙ ap length text)) (subst (λ n. c.len.result ≤ n) written c.loop-telling-test.false) in
    (told_rest _ _ from count all long appends, sym is_left ∙ c.if-telling.false)
