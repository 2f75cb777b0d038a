use Rattle.std.proofs.Common.{◌≡◌, ◌<◌, ◌++◌, codes, length, ℕ, List, [], ◌∷◌, refl, ap, subst, arith}
use Rattle.std.proofs.lemmas.Bool.Decides.{nat_tests}
use Rattle.hex.specs.Hex.{encode_lower}
use Rattle.vault_inspector.specs.Output.{Writes}
use Rattle.vault_inspector.specs.Texts.{note_text}
use Rattle.vault_inspector.proofs.Written.{part_then, writes_part}
use Rattle.vault_inspector.proofs.claims.print_note.Goals as goal

-- the text of a note that has bytes
note_told : (note : List ℕ) → 0 < length note → codes " note " ++ encode_lower note ≡ note_text note
note_told [] some = elim some [ ]
note_told (byte ∷ note) some = refl

pub returns-in_err-put : goal.returns-in_err-put
returns-in_err-put g c =
    let some : 0 < length c.args.note.now =
    (let empty = c.is_empty.ensures in let not_empty = c.if-is_empty.false in let same = ap (λ (l : List ℕ). length l) c.as_bytes-bytes.ensures.bytes in grind (arith, nat_tests, empty, not_empty, same)) in
    subst (λ (text : List ℕ). Writes (g.W.Write.contents c.args.writer.now) (g.W.Write.contents c.put.new.writer) text c.from_residual.result) (note_told c.args.note.now some)
    (writes_part _ _ _ _ c.from_residual.ensures.0 (part_then _ _ (codes " note ") (encode_lower c.args.note.now) c.in_err-put.ensures))
