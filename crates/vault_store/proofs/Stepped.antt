-- One frame, read piece by piece.
use Rattle.std.proofs.Common.{◌≡◌, ℕ, ◌+◌, ◌<◌, IsTrue, List, ◌∷◌, ◌++◌, length, get_or, drop, Result, sym, ◌∙◌, ap, subst, arith, append_assoc, IfErr}
use Rattle.std.specs.Prelude.{slice_range}
use Rattle.std.specs.Result.{IsErrAnd}
use Rattle.vault_model.specs.Said.{Effect}
use Rattle.vault_state.specs.Vault.{Vault}
use Rattle.vault_device.specs.Disk.{Disk}
use Rattle.vault_journal.specs.Spelling.{in_four, records_of}
use Rattle.vault_checkout.specs.declared.apply.ApplyError.TheVariants.{NotApplicable}
use Rattle.vault_store.specs.declared.body.ReadError.{ReadError}
use Rattle.vault_store.specs.Calls.{IsQuiet}
use Rattle.vault_format.specs.Files.{frame_extra, frame_bytes, frame_of}
use Rattle.vault_store.specs.Read.{AreReads, IsWhy, IsLengthRead, BeginsWithNoFrame, BeginsWithNone, AreMade, AreNotMade, IsFrameRead, IsNoFrame}
use Rattle.vault_format.proofs.OneReading.{one_number, same_front}
use Rattle.vault_store.proofs.Pieces.{frame_here}
use Rattle.vault_store.proofs.Behind.{honest_behind, why_behind, passed_on}

-- behind an open gate
module _ (old gated : Disk) (first : AreReads old gated) (at : ℕ) (opened : IsTrue old.honest → get_or old.shown at 0 ≡ 1) where
  -- no frame has the length that stands there
  pub no_length : {T : Type 0} (new : Disk) (v : Vault) (result : Result T ReadError) (why : ReadError) → IsQuiet old gated → IsWhy gated new (λ (offset : ℕ). (offset ≡ at) × BeginsWithNoFrame (drop at gated.shown)) why → IsErrAnd result (λ (e : ReadError). e ≡ why)
      → IfErr result (λ (e : ReadError). IsWhy old new (IsNoFrame v old.shown at) e)
  no_length new v result why quiet refused is =
      passed_on result why (λ (e : ReadError). IsWhy old new (IsNoFrame v old.shown at) e) is
      (why_behind old gated new (λ (offset : ℕ). (offset ≡ at) × BeginsWithNoFrame (drop at gated.shown)) (IsNoFrame v old.shown at) first quiet (λ offset honest wrong. record {
        here = wrong.0;
        opened = opened honest;
        none = λ effects next behind frame leads some there. wrong.1 effects behind frame some (ap (λ (file : List ℕ). drop at file) (first.read honest).shown ∙ there);
      }) why refused)

  module _ (measured : Disk) (second : AreReads gated measured) (len n : ℕ) (within : at < len) (size : IsTrue old.honest → len ≡ length old.shown) (l : IsLengthRead gated len at n) (records : List ℕ) (records_size : length records ≡ n)
      (records_are : IsTrue measured.honest → records ≡ slice_range measured.shown (at + frame_extra) (at + frame_extra + n)) where
    here : IsTrue old.honest → drop at old.shown ≡ frame_bytes records ++ drop (at + frame_extra + n) old.shown
    here honest =
        let one = (first.read honest).shown in
        let honest_gated = honest_behind old gated first honest in
        let two = (second.read honest_gated).shown in
        let spelled : slice_range old.shown (at + 1) (at + frame_extra) ≡ in_four n = subst (λ (file : List ℕ). slice_range file (at + 1) (at + frame_extra) ≡ in_four n) one (l.bytes honest_gated) in
        let are : slice_range old.shown (at + frame_extra) (at + frame_extra + n) ≡ records =
        subst (λ (file : List ℕ). slice_range file (at + frame_extra) (at + frame_extra + n) ≡ records) (two ∙ one) (sym (records_are (honest_behind gated measured second honest_gated))) in
        let inside = size honest in frame_here old.shown records at n (omega arith) (opened honest) spelled are records_size

    pub frame_read : (next : ℕ) (v w : Vault) → AreMade records v w → next ≡ at + frame_extra + n → IsFrameRead old len at next v w
    frame_read next v w made next_is =
        let whole = made.records.whole in record {
          effects = made.effects;
          is_frame = record {
            some = λ none. absurd (omega (arith, ap length whole, ap (λ (es : List Effect). length (records_of es)) none, records_size, l.some));
            each = made.records.each;
            few = omega (arith, ap length whole, records_size, l.few);
          };
          leads = made.leads;
          size = omega (arith, next_is, ap length whole, records_size);
          within = omega (arith, next_is, l.within);
          bytes = λ honest. here honest ∙ ap (λ (r : List ℕ). frame_bytes r ++ drop (at + frame_extra + n) old.shown) whole ∙ ap (λ (k : ℕ). frame_of made.effects ++ drop k old.shown) (sym next_is);
        }

    -- no effects of a frame that stands there are applicable
    pub frame_unmade : (v : Vault) → AreNotMade records v NotApplicable → IsTrue old.honest → BeginsWithNone v (drop at old.shown)
    frame_unmade v none honest effects next behind frame leads some there =
        let rest = drop (at + frame_extra + n) old.shown in
        let same : in_four (length records) ++ (records ++ rest) ≡ in_four (length (records_of effects)) ++ (records_of effects ++ behind) =
        ap (λ (l : List ℕ). drop 1 l) (sym (append_assoc (1 ∷ in_four (length records)) records rest) ∙ sym (here honest) ∙ there ∙ append_assoc (1 ∷ in_four (length (records_of effects))) (records_of effects) behind) in
        let sizes = one_number (length records) (length (records_of effects)) (records ++ rest) (records_of effects ++ behind) (omega (arith, records_size, l.few)) (omega (arith, frame.few)) same in
        let parts = same_front records (records_of effects) rest behind sizes.0 sizes.1 in none effects next (record { each = frame.each; whole = parts.0 }) leads
