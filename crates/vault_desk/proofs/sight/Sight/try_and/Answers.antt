use Rattle.std.proofs.Common.{sym, ◌∙◌, ap, ◌≡◌, ◌+◌, rules}
use Rattle.vault_desk.proofs.Adding.{adds_moves}
use Rattle.vault_desk.proofs.sight.Sight.try_and.Goals as goal

pub compare_exchange-found-requires : goal.compare_exchange-found-requires
compare_exchange-found-requires g c =
    let h = c.args.past.now.head_is in
    let offer = c.plain-offer.ensures in
    let pen = c.no_pen-pen.ensures in
    let seen = c.again-seen.ensures in
    let book = ap (λ s. s.book) seen ∙ c.self.invariant.1 in
    let next : c.in_ok-next.next ≡ c.self.inside.count + 1 = search rules in (
      ap (λ w. w.tracked) h,
      book ∙ sym (ap (λ w. w.book) h),
      pen.0 ∙ (book ∙ sym (ap (λ w. w.book) h)),
      offer.0,
      rw (ap (λ w. w.key) h, pen.1, offer.1, offer.3, ap (λ s. s.log) seen) (adds_moves c.self.inside.seen.log c.args.vault.now.view c.self.inside.count c.in_ok-next.next (sym c.self.invariant.0) next),
    )
