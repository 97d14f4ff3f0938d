use Rattle.std.proofs.Common.{sym, ◌∙◌, ap, length, arith}
use Rattle.published_index.proofs.Adding.{adds_moves}
use Rattle.published_index.proofs.marks.Mark.record.Goals as goal

pub compare_exchange-found-requires : goal.compare_exchange-found-requires
compare_exchange-found-requires g c =
    let h = c.requires in
    let seen = c.again-seen.ensures in
    let offer = c.plain-offer.ensures in
    let pen = c.no_pen-pen.ensures in (
      ap (λ w. w.tracked) h,
      ap (λ s. s.book) seen ∙ sym (ap (λ w. w.book) h),
      pen.0 ∙ (ap (λ s. s.book) seen ∙ sym (ap (λ w. w.book) h)),
      offer.0,
      rw (ap (λ w. w.key) h, pen.1, offer.1, offer.3) (adds_moves c.again-seen.result.log _ c.args.self.now.entries c.in_ok-next.next
          (ap (λ s. length s.log) seen ∙ sym c.args.self.now.counted) (omega (arith, c.in_ok-next.ensures.1))),
    )
