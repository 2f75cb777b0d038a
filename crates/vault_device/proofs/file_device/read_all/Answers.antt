use Rattle.std.proofs.Common.{◌≡◌, ◌∙◌, ◌+◌, ◌≤◌, ◌-◌, Bool, IsTrue, ℕ, length, sym, ap, subst, arith, rules, length-drop, unwrap_or, List, take, slice_range}
use Rattle.vault_device.proofs.Moments.{read_then}
use Rattle.vault_device.proofs.Parts.{read_more, length-put_mid, rest_is}
use Rattle.vault_device.proofs.file_device.read_all.Goals as goal

pub parts-preserved : goal.parts-preserved
parts-preserved g c =
    let old = g.F.RawFile.bytes c.args.file.now in
    let mid = g.F.RawFile.bytes c.parts.file in
    let new = g.F.RawFile.bytes c.read_some.new.self in
    let bound = c.in_ok-moved.ensures.bound in
    let place : c.in_ok-place.place ≡ c.args.at + c.parts.done = search rules in
    let size : length c.read_some.new.buffer ≡ length c.parts.buffer - c.parts.done =
    omega (arith, c.read_some.auto.buffer, ap length (rest_is c.parts.done c.parts.buffer), length-drop c.parts.done c.parts.buffer) in
    let room : unwrap_or c.in_ok-moved.moved 0 ≤ length c.parts.buffer - c.parts.done =
    omega (arith, bound, ap length (rest_is c.parts.done c.parts.buffer), length-drop c.parts.done c.parts.buffer) in
    record {
      within = omega (arith, room, c.unwrap_or-done.ensures, c.parts.invariant.within, length-put_mid c.parts.done c.parts.buffer c.read_some.new.buffer c.parts.invariant.within size);
      honesty = c.in_ok-moved.ensures.honesty ∙ c.parts.invariant.honesty;
      kept = λ honest.
          let there : IsTrue mid.honest = subst (λ (b : Bool). IsTrue b) (sym c.parts.invariant.honesty) honest in
          read_then old mid new (c.parts.invariant.kept honest) (c.in_ok-moved.ensures.kept there);
      bytes = λ honest.
          let there : IsTrue mid.honest = subst (λ (b : Bool). IsTrue b) (sym c.parts.invariant.honesty) honest in
          let n = unwrap_or c.in_ok-moved.moved 0 in
          let bytes : take n c.read_some.new.buffer ≡ slice_range old.shown (c.args.at + c.parts.done) (c.args.at + c.parts.done + n) =
          c.in_ok-moved.ensures.bytes there ∙ ap (λ (l : List ℕ). slice_range l c.in_ok-place.place (c.in_ok-place.place + n)) (c.parts.invariant.kept honest).shown ∙ ap (λ (k : ℕ). slice_range old.shown k (k + n)) place in
          let all = read_more c.args.at c.parts.done n c.parts.buffer c.read_some.new.buffer old.shown c.parts.invariant.within size room (c.parts.invariant.bytes honest) bytes in
          rw c.unwrap_or-done.ensures all;
    }
