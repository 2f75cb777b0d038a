-- The frame at an open gate, piece by piece.
use Rattle.std.proofs.Common.{◌≡◌, ◌≢◌, ℕ, ◌+◌, ◌-◌, ◌<◌, ◌≤◌, ◌^◌, List, [], ◌∷◌, ◌++◌, length, get_or, take, drop, refl, sym, ◌∙◌, ap, arith, append_assoc, length-append, length-drop}
use Rattle.std.specs.Prelude.{slice_range}
use Rattle.std.specs.Int.{w32, from_be_bytes}
use Rattle.std.proofs.lemmas.List.{drop_more, drop_at, take_at, drop-drop}
use Rattle.std.proofs.lemmas.List.Folds.{drop_split}
use Rattle.std.proofs.lemmas.Nat.{from_be_bytes-to_be_bytes_4}
use Rattle.vault_model.specs.Said.{Effect}
use Rattle.vault_journal.specs.Spelling.{in_four, record_of, records_of}
use Rattle.vault_journal.proofs.Sizes.{record_some}
use Rattle.std.proofs.lemmas.List.Concat.{flat_map-cons}
use Rattle.vault_format.specs.Files.{most_records, frame_extra, frame_bytes, frame_of, IsFrame}
use Rattle.vault_store.specs.Read.{BeginsWithNoFrame}
use Rattle.vault_format.proofs.Frames.{length-frame}

records_some : (effects : List Effect) → effects ≢ [] → 1 ≤ length (records_of effects)
records_some [] some = absurd (some refl)
records_some (e ∷ es) some = omega (arith, record_some e, ap length (flat_map-cons record_of e es), length-append (record_of e) (records_of es))

bytes_some : (bytes : List ℕ) → bytes ≢ [] → 1 ≤ length bytes
bytes_some [] some = absurd (some refl)
bytes_some (b ∷ bytes) some = omega arith

-- a frame that stands at an offset, with a byte behind it
module _ (file : List ℕ) (at : ℕ) (effects : List Effect) (behind : List ℕ) (frame : IsFrame effects) (some : behind ≢ []) (here : drop at file ≡ frame_of effects ++ behind) where
  pub frame_size : at + frame_extra + length (records_of effects) < length file
  frame_size =
      omega (arith, ap length here, length-drop at file, length-append (frame_of effects) behind, length-frame (records_of effects), bytes_some behind some)

  pub frame_some : 1 ≤ length (records_of effects)
  frame_some = records_some effects frame.some

  split : drop (at + 1) file ≡ in_four (length (records_of effects)) ++ (records_of effects ++ behind)
  split = sym (drop-drop 1 at file) ∙ ap (λ (l : List ℕ). drop 1 l) (here ∙ append_assoc (1 ∷ in_four (length (records_of effects))) (records_of effects) behind)

  pub length_range : slice_range file (at + 1) (at + frame_extra) ≡ in_four (length (records_of effects))
  length_range =
      let size : at + frame_extra - (at + 1) ≡ 4 = omega arith in
      ap (λ (k : ℕ). take k (drop (at + 1) file)) size ∙ ap (λ (l : List ℕ). take 4 l) split ∙ take_at (in_four (length (records_of effects))) (records_of effects ++ behind) 4 refl

  pub records_range : slice_range file (at + frame_extra) (at + frame_extra + length (records_of effects)) ≡ records_of effects
  records_range =
      let size : at + frame_extra + length (records_of effects) - (at + frame_extra) ≡ length (records_of effects) = omega arith in
      let place : at + frame_extra ≡ at + 1 + 4 = omega arith in
      let rest : drop (at + frame_extra) file ≡ records_of effects ++ behind =
      ap (λ (k : ℕ). drop k file) place ∙ sym (drop-drop 4 (at + 1) file) ∙ ap (λ (l : List ℕ). drop 4 l) split ∙ drop_at (in_four (length (records_of effects))) (records_of effects ++ behind) 4 refl in
      ap (λ (k : ℕ). take k (drop (at + frame_extra) file)) size ∙ ap (λ (l : List ℕ). take (length (records_of effects)) l) rest ∙ take_at (records_of effects) behind (length (records_of effects)) refl

-- the pieces of a frame are the frame
pub frame_here : (file records : List ℕ) (at n : ℕ) → at < length file → get_or file at 0 ≡ 1 → slice_range file (at + 1) (at + frame_extra) ≡ in_four n → slice_range file (at + frame_extra) (at + frame_extra + n) ≡ records → length records ≡ n
    → drop at file ≡ frame_bytes records ++ drop (at + frame_extra + n) file
frame_here file records at n within opened is_length are_records size =
    drop_more file at 0 within
    ∙ ap (λ (b : ℕ). b ∷ drop (at + 1) file) opened
    ∙ ap (λ (l : List ℕ). 1 ∷ l) (drop_split file (at + 1) (at + frame_extra) (omega arith)
    ∙ ap (λ (l : List ℕ). l ++ drop (at + frame_extra) file) (is_length ∙ ap in_four (sym size))
    ∙ ap (λ (l : List ℕ). in_four (length records) ++ l) (drop_split file (at + frame_extra) (at + frame_extra + n) (omega arith) ∙ ap (λ (l : List ℕ). l ++ drop (at + frame_extra + n) file) are_records))
    ∙ sym (append_assoc (1 ∷ in_four (length records)) records (drop (at + frame_extra + n) file))

-- what the length of a frame says against the bytes in its place
module _ (file bytes : List ℕ) (len at n : ℕ) (spelled : bytes ≡ in_four n) (fits : n < 2 ^ 32) (size : len ≡ length file) (there : bytes ≡ slice_range file (at + 1) (at + 1 + 4)) where
  -- it is the length of any frame that stands there
  read_length_of : (effects : List Effect) (behind : List ℕ) → IsFrame effects → behind ≢ [] → drop at file ≡ frame_of effects ++ behind → n ≡ length (records_of effects)
  read_length_of effects behind frame some here =
      let place : at + 1 + 4 ≡ at + frame_extra = omega arith in
      sym (from_be_bytes-to_be_bytes_4 n fits)
      ∙ ap (from_be_bytes w32) (sym spelled ∙ there ∙ ap (λ (k : ℕ). slice_range file (at + 1) k) place ∙ length_range file at effects behind frame some here)
      ∙ from_be_bytes-to_be_bytes_4 (length (records_of effects)) (omega (arith, frame.few))

  pub wrong_length : ((1 ≤ n) × (n ≤ most_records) × (frame_extra + n < len - at) → ⊥) → BeginsWithNoFrame (drop at file)
  wrong_length wrong effects behind frame some here =
      let is_length = read_length_of effects behind frame some here in
      let inside = frame_size file at effects behind frame some here in
      let has = frame_some file at effects behind frame some here in
      wrong (omega (arith, is_length, has), omega (arith, is_length, frame.few), omega (arith, is_length, inside, size))

-- where there is no room for a frame, none stands
pub no_room : (file : List ℕ) (len at : ℕ) → len ≡ length file → len - at ≤ frame_extra → BeginsWithNoFrame (drop at file)
no_room file len at size small effects behind frame some here = absurd (omega (arith, frame_size file at effects behind frame some here, size, small))
