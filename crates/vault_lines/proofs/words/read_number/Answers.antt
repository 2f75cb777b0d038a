use Rattle.std.proofs.Common.{◌≡◌, ◌<◌, ◌^◌, sym, ap, ◌∙◌, arith, rules}
use Rattle.std.specs.Prelude.{decimal}
use Rattle.std.proofs.lemmas.Fmt.{parse-decimal, IsAscii-decimal}
use Rattle.std.proofs.lemmas.Str.{IsUtf8-from_ascii}
use Rattle.std.proofs.lemmas.Bool.{both_ways}
use Rattle.std.proofs.lemmas.Slice.Eq.{bytes_eq-Decides}
use Rattle.vault_lines.proofs.Numbers.{number_is, number_none}
use Rattle.vault_lines.proofs.words.read_number.Goals as goal

pub returns-in_default : goal.returns-in_default
returns-in_default c =
    sym (number_none c.args.word.now (λ n fits spelled.
    let wide : n < 2 ^ 64 = omega arith in
    c.in_default.ensures.cases.0 (rw spelled (IsUtf8-from_ascii _ (IsAscii-decimal n wide)))))

pub returns-in_default-parse : goal.returns-in_default-parse
returns-in_default-parse c =
    sym (number_none c.args.word.now (λ n fits spelled.
    let wide : n < 2 ^ 64 = omega arith in
    c.in_default-parse.not-Ok n
    (parse-decimal 32 n c.in-Ok.text.now _ fits wide (c.in-Ok.ensures.cases.0 ∙ spelled) c.parse.ensures.value.0)))

pub returns-then-eq : goal.returns-then-eq
returns-then-eq c = sym (number_is c.args.word.now _ (omega arith) (search rules))

pub returns-else-eq : goal.returns-else-eq
returns-else-eq c =
    sym (number_none c.args.word.now (λ n fits spelled.
    let wide : n < 2 ^ 64 = omega arith in
    let read = parse-decimal 32 n c.in-Ok.text.now _ fits wide (c.in-Ok.ensures.cases.0 ∙ spelled) c.parse.ensures.value.0 in
    let number : c.in-Ok-parse.number ≡ n = cc in
    let same : c.as_bytes.result.now ≡ c.args.word.now =
    c.as_bytes.ensures.value ∙ c.format.ensures.text ∙ ap decimal number ∙ sym spelled in
    both_ways _ (sym c.if-eq.ensures) ((bytes_eq-Decides _ _).1 same)))
