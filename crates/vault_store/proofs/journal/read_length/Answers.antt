use Rattle.std.proofs.Common.{◌≡◌, ℕ, ◌+◌, refl, sym, ◌∙◌, ap, arith}
use Rattle.std.specs.Prelude.{slice_range}
use Rattle.vault_format.specs.Files.{frame_extra}
use Rattle.vault_store.proofs.Headed.{not_both}
use Rattle.vault_store.proofs.Pieces.{no_room, wrong_length}
use Rattle.vault_store.proofs.journal.read_length.Goals as goal

pub returns-then-room-le-FRAME_EXTRA-clause-refused : goal.returns-then-room-le-FRAME_EXTRA-clause-refused
returns-then-room-le-FRAME_EXTRA-clause-refused g c =
    λ honest. (refl, no_room (g.D.Device.disk c.args.device.now).shown c.args.len c.args.at (c.requires.len honest) c.if-room-le-FRAME_EXTRA.true)

pub returns-then-not-is_length-clause-refused : goal.returns-then-not-is_length-clause-refused
returns-then-not-is_length-clause-refused g c =
    λ honest. (
      refl,
      wrong_length (g.D.Device.disk c.args.device.now).shown c.read_at.new.buffer c.args.len c.args.at c.number_in-length.result c.number_in-length.ensures (omega arith) (c.requires.len honest) (c.in_ok-read_at.ensures.bytes honest)
          (λ right. not_both c.is_length.result (c.is_length.ensures.1 right) c.if-not-is_length.true),
    )

pub returns-clause-length : goal.returns-clause-length
returns-clause-length g c =
    let right = c.is_length.ensures.0 c.if-not-is_length.false in record {
      some = right.0;
      few = right.1;
      within = omega (arith, right.2);
      bytes = λ honest.
          let place : c.args.at + 1 + 4 ≡ c.args.at + frame_extra = omega arith in
          sym (ap (λ (k : ℕ). slice_range (g.D.Device.disk c.args.device.now).shown (c.args.at + 1) k) place) ∙ sym (c.in_ok-read_at.ensures.bytes honest) ∙ c.number_in-length.ensures;
    }
