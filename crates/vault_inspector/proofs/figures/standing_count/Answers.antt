use Rattle.std.proofs.Common.{◌≡◌, ℕ, Bool, cond, arith, sym, ap, ◌∙◌}
use Rattle.vault_state.specs.declared.claims.Claim.{Claim}
use Rattle.vault_state.specs.Claims.{standing_of}
use Rattle.vault_inspector.specs.Figures.{stands}
use Rattle.vault_inspector.proofs.Counting.{count_next}
use Rattle.vault_inspector.proofs.figures.standing_count.Goals.{then-stands, else-stands}
use Rattle.vault_inspector.proofs.figures.standing_count.Goals as goal

pub loop-position-preserved : goal.loop-position-preserved
loop-position-preserved g c =
    let p = λ (d : Claim). stands c.args.held (standing_of c.args.book.now.tree c.args.book.now.line d.id) in
    let next = count_next p c.args.book.now.line c.loop-position.position c.claim_at.result.now c.claim_at.ensures in
    let is : c.stands.result ≡ p c.claim_at.result.now = c.stands.ensures ∙ ap (stands c.args.held) c.standing_in.ensures in
    elim c.if-stands.branch [
      | then-stands w ↦
          let own : ◌≡◌ {A = ℕ} (cond (p c.claim_at.result.now) 1 0) 1 = ap (λ (b : Bool). cond {A = ℕ} b 1 0) (sym is ∙ w.if-stands.true) in
          record {
            counted = omega (arith, next, own, c.loop-position.invariant.counted, w.count-is);
            few = omega (arith, c.loop-position.invariant.few, w.count-is);
          }
      | else-stands w ↦
          let own : ◌≡◌ {A = ℕ} (cond (p c.claim_at.result.now) 1 0) 0 = ap (λ (b : Bool). cond {A = ℕ} b 1 0) (sym is ∙ w.if-stands.false) in
          record {
            counted = omega (arith, next, own, c.loop-position.invariant.counted, w.count-is);
            few = omega (arith, c.loop-position.invariant.few, w.count-is);
          }
    ]
