-- What a reader gave, and what it has left.
use Rattle.std.proofs.Common.{◌≡◌, ℕ, ◌+◌, ◌-◌, ◌<◌, ◌≤◌, List, [], ◌++◌, length, take, drop, Option, None, Some, IfSome, refl, sym, ap, ◌∙◌, subst, arith, length-append, append-nil}
use Rattle.std.specs.Io.KnownBytes.{Consumes, IsAtEnd}
use Rattle.std.proofs.KnownBytes.{Consumes-all, Consumes-trans}
use Rattle.std.proofs.Math.Seq.{take-append_seam}
use Rattle.vault_protocol.specs.Limits.{longest_script}

-- a last read gave nothing, so all was given before
pub read_all : (a b c : Option (List ℕ)) (bytes more : List ℕ) (n : ℕ) → Consumes a b bytes → Consumes b c (take n more) → n ≡ 0 → IsAtEnd c
    → IfSome a (λ all. bytes ≡ all)
read_all a b c bytes more n taken last none end =
    let whole = Consumes-trans a b c bytes [] taken (subst (λ k. Consumes b c (take k more)) none last) in
    Consumes-all a c bytes [] bytes (subst (Consumes a c) (append-nil bytes) whole) end refl

has_more : (a b : Option (List ℕ)) (bytes : List ℕ) (n : ℕ) → Consumes a b bytes → n < length bytes → IfSome a (λ all. n < length all)
has_more None b bytes n taken more = tt
has_more (Some all) None bytes n taken more = absurd taken
has_more (Some all) (Some rest) bytes n taken more =
    let size : length all ≡ length bytes + length rest = ap length taken ∙ length-append bytes rest in omega (arith, size, more)

-- a read gave more than there is room for
pub read_too_much : (a b c : Option (List ℕ)) (bytes more : List ℕ) (n len : ℕ) → Consumes a b bytes → Consumes b c (take n more) → n ≡ length (take n more)
    → len ≡ length bytes → longest_script - len < n → IfSome a (λ all. longest_script < length all)
read_too_much a b c bytes more n len taken last given is_len above =
    let size = length-append bytes (take n more) in
    has_more a c _ longest_script (Consumes-trans a b c bytes (take n more) taken last) (omega (arith, size, given, is_len, above))

-- a read gave more bytes into a buffer, and they are appended to those before
module _ (bytes more items now new : List ℕ) (n len : ℕ) (is_now : now ≡ take len (more ++ drop (length more) items)) (is_len : length more ≡ len)
    (is_new : new ≡ bytes ++ take n now) where
  extended : new ≡ bytes ++ take n more
  extended =
      is_new
      ∙ ap (λ xs. bytes ++ take n xs) (is_now ∙ ap (λ k. take k (more ++ drop (length more) items)) (sym is_len) ∙ take-append_seam more (drop (length more) items))

  pub read_more : (a b c : Option (List ℕ)) → Consumes a b bytes → Consumes b c (take n more) → Consumes a c new
  read_more a b c taken last = subst (Consumes a c) (sym extended) (Consumes-trans a b c bytes (take n more) taken last)

  pub read_within : (old_length new_length : ℕ) → new_length ≡ length new → old_length ≡ length bytes → n ≡ length (take n more)
      → n ≤ longest_script - old_length → old_length ≤ longest_script → new_length ≤ longest_script
  read_within old_length new_length is_new_length is_old_length given within bound =
      let size : length new ≡ length bytes + length (take n more) = ap length extended ∙ length-append bytes (take n more) in
      omega (arith, size, is_new_length, is_old_length, given, within, bound)
