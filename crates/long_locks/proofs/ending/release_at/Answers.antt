use Rattle.std.specs.Prelude.{◌≡◌, ◌+◌, suc, ℕ, List}
use Rattle.std.proofs.Common.{sym, subst, ◌∙◌, arith}
use Rattle.vault_state.specs.declared.claims.Claim.{Claim}
use Rattle.lock_table.specs.Tables.{IsTableOf, entries_without}
use Rattle.long_locks.specs.Lines.{ends, left_behind}
use Rattle.long_locks.proofs.Endings.{behind_none, behind_kept, behind_taken}
use Rattle.long_locks.proofs.Zips.{zip_without}
use Rattle.long_locks.proofs.ending.release_at.Goals as goal

pub returns-in_default : goal.returns-in_default
returns-in_default g c = λ tree zip.
    let more : c.args.position + 1 ≡ suc c.args.position = omega arith in
    let same = behind_none (ends c.args.ending) c.args.claims.now.claims c.args.position (sym c.in_default.ensures) in
    subst (λ (xs : List Claim). IsTableOf tree xs c.args.table.now) same (subst (λ (k : ℕ). IsTableOf tree (left_behind c.args.ending k c.args.claims.now.claims) c.args.table.now) more zip)

pub returns-then-ends : goal.returns-then-ends
returns-then-ends g c = λ tree zip.
    let more : c.args.position + 1 ≡ suc c.args.position = omega arith in
    let line : List Claim = c.args.claims.now.claims in
    let old = subst (λ (k : ℕ). IsTableOf tree (left_behind c.args.ending k line) c.args.table.now) more zip in
    let taken = behind_taken (ends c.args.ending) line c.args.position c.in-Some.claim.now c.requires (sym c.in-Some.ensures) (sym c.ends.ensures ∙ c.if-ends.true) in
    rw c.release.ensures
    (subst (λ (xs : List Claim). IsTableOf tree xs (entries_without c.args.table.now c.in-Some.claim.now.id)) taken
    (zip_without tree (left_behind c.args.ending (suc c.args.position) line) c.args.table.now old c.in-Some.claim.now.id))

pub returns-else-ends : goal.returns-else-ends
returns-else-ends g c = λ tree zip.
    let more : c.args.position + 1 ≡ suc c.args.position = omega arith in
    let line : List Claim = c.args.claims.now.claims in
    let old = subst (λ (k : ℕ). IsTableOf tree (left_behind c.args.ending k line) c.args.table.now) more zip in
    let kept = behind_kept (ends c.args.ending) line c.args.position c.in-Some.claim.now (sym c.in-Some.ensures) (sym c.ends.ensures ∙ c.if-ends.false) in
    subst (λ (xs : List Claim). IsTableOf tree xs c.args.table.now) kept old
