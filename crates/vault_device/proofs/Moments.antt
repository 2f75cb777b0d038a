-- Calls and moments, one behind another.
use Rattle.std.proofs.Common.{inl, inr, ⊎_elim, ◌∙◌, ℕ, List, arith}
use Rattle.vault_device.specs.Disk.{Disk, IsLawful, Elapses, IsRead, LeavesSince}

-- the moments of one call
pub one_call : (old new : Disk) (Inside P : List ℕ → Type 0) → IsLawful old → Elapses old new Inside → ((x : List ℕ) → old.IsImage x → P x) → ((x : List ℕ) → Inside x → P x) → LeavesSince old new P
one_call old new Inside P lawful time before inside = record {
  later = time.later;
  each = λ x was. ⊎_elim (λ (past : old.WasImage old.moment x). before x (lawful.only_now x past)) (inside x) (time.nothing_else old.moment x (omega arith) was);
  earlier = λ t x le was. ⊎_elim (λ (past : old.WasImage t x). inl past) (λ (now : Inside x). inr (inside x now)) (time.nothing_else t x le was);
}

-- one stretch behind another
pub and_then : (old mid new : Disk) (P : List ℕ → Type 0) → LeavesSince old mid P → LeavesSince mid new P → LeavesSince old new P
and_then old mid new P first second = record {
  later = omega (arith, first.later, second.later);
  each = λ x was. ⊎_elim (λ (past : mid.WasImage old.moment x). first.each x past) (λ p. p) (second.earlier old.moment x first.later was);
  earlier = λ t x le was. ⊎_elim (λ (past : mid.WasImage t x). first.earlier t x le past) (λ (p : P x). inr p) (second.earlier t x (omega (arith, le, first.later)) was);
}

-- the moments of a call that leaves no more than before
pub no_more : (old new : Disk) (P : List ℕ → Type 0) → IsLawful old → Elapses old new old.IsImage → ((x : List ℕ) → old.IsImage x → P x) → LeavesSince old new P
no_more old new P lawful time before = one_call old new old.IsImage P lawful time before before

-- what stands at any moment stands now
pub stands_now : (old new : Disk) (P : List ℕ → Type 0) → IsLawful new → LeavesSince old new P → (x : List ℕ) → new.IsImage x → P x
stands_now old new P lawful since x image = since.each x (lawful.now old.moment x since.later image)

-- one read behind another is one read
pub read_then : (old mid new : Disk) → IsRead old mid → IsRead mid new → IsRead old new
read_then old mid new first second = record {
  shown = second.shown ∙ first.shown;
  settled = second.settled ∙ first.settled;
  images = λ x is. first.images x (second.images x is);
  time = record {
    later = omega (arith, first.time.later, second.time.later);
    nothing_else = λ t x le was. ⊎_elim (λ (past : mid.WasImage t x). first.time.nothing_else t x le past) (λ (now : mid.IsImage x). inr (first.images x now)) (second.time.nothing_else t x (omega (arith, le, first.time.later)) was);
    keeps = λ t x le was. second.time.keeps t x (omega (arith, le, first.time.later)) (first.time.keeps t x le was);
  };
}
