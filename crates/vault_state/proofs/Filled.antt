-- A path's room with one more name.
use Rattle.std.specs.Prelude.{◌≡◌, ℕ, ◌+◌, ◌-◌, ◌<◌, ◌≤◌, List, ◌++◌, length, take, drop, replicate}
use Rattle.std.proofs.Common.{ap, arith, sym, ◌∙◌, length-take-le, slice_set}
use Rattle.std.proofs.Math.ListN.{length-set}
use Rattle.std.proofs.lemmas.List.{take-append-drop, drop-set-lt, drop-replicate}
use Rattle.std.proofs.Math.Seq.{drop-append-add}
use Rattle.vault_state.specs.Limits.{most_names}
use Rattle.vault_state.specs.Path.{blank, IsFilled}

-- what stands behind the names and one more
behind : (room : List (List ℕ)) (len : ℕ) → IsFilled room len → drop (len + 1) room ≡ replicate (most_names - (len + 1)) blank
behind room len h =
    let front = take len room in
    let rest = replicate (most_names - length front) blank in
    let names : length front ≡ len = length-take-le len room h.within in
    let left : most_names - len - 1 ≡ most_names - (len + 1) = omega arith in
    ap (drop (len + 1)) h.spare ∙ ap (λ n. drop (n + 1) (front ++ rest)) (sym names) ∙ drop-append-add front rest 1
    ∙ drop-replicate 1 (most_names - length front) blank ∙ ap (λ n. replicate (most_names - n - 1) blank) names ∙ ap (λ n. replicate n blank) left

pub joined_fills : (room : List (List ℕ)) (len : ℕ) (name : List ℕ) → IsFilled room len → len < most_names → IsFilled (slice_set room len name) (len + 1)
joined_fills room len name h free =
    let whole : length (slice_set room len name) ≡ most_names = length-set room len name ∙ h.whole in
    let within : len + 1 ≤ length (slice_set room len name) = omega arith in
    let names : length (take (len + 1) (slice_set room len name)) ≡ len + 1 = length-take-le (len + 1) (slice_set room len name) within in
    record {
      within = within;
      whole = whole;
      spare =
          sym (take-append-drop (len + 1) (slice_set room len name))
          ∙ ap (λ rest. take (len + 1) (slice_set room len name) ++ rest) (drop-set-lt (len + 1) room len name (omega arith) ∙ behind room len h)
          ∙ ap (λ n. take (len + 1) (slice_set room len name) ++ replicate (most_names - n) blank) (sym names);
    }
