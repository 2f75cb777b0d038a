-- All frames, read one after another.
use Rattle.std.proofs.Common.{◌≡◌, ◌≢◌, inl, ℕ, ◌+◌, ◌<◌, ◌≤◌, IsTrue, List, [], ◌∷◌, ◌++◌, length, get_or, take, drop, Result, refl, sym, ◌∙◌, ap, subst, arith, length-append, append-nil, IfErr}
use Rattle.std.specs.Result.{IsErrAnd}
use Rattle.std.proofs.Math.Seq.{take-add}
use Rattle.std.proofs.lemmas.List.{take_at, flat_map_more}
use Rattle.std.proofs.lemmas.List.Concat.{flat_map-cons}
use Rattle.vault_model.specs.Said.{Effect}
use Rattle.vault_state.specs.Vault.{Vault}
use Rattle.vault_device.specs.Disk.{Disk}
use Rattle.vault_journal.specs.Spelling.{records_of}
use Rattle.vault_store.specs.declared.body.ReadError.{ReadError}
use Rattle.vault_store.specs.Calls.{IsQuiet}
use Rattle.vault_format.specs.Files.{frame_extra, frame_of, frames_bytes, IsFrame}
use Rattle.vault_store.specs.Read.{AreReads, IsWhy, IsFrameRead, IsNoFrame, AreFramesRead, AreAllRead, IsFrameWrong}
use Rattle.vault_format.proofs.Frames.{each_more, frames_more, length-frame}
use Rattle.vault_store.proofs.Behind.{honest_behind, and_reads, quiet_then, why_behind, passed_on}

pub no_reads : (disk : Disk) → AreReads disk disk
no_reads disk = record {
  called = record { same_honesty = refl; no_fewer_faults = omega arith };
  read = λ honest. record { shown = refl; settled = refl; images = λ x is. is; time = record { later = omega arith; nothing_else = λ t x le was. inl was; keeps = λ t x le was. was } };
}

-- a frame has a byte
frames_more_bytes : (frames : List (List Effect)) → length frames ≤ length (frames_bytes frames)
frames_more_bytes [] = omega arith
frames_more_bytes (frame ∷ frames) = omega (arith, frames_more_bytes frames, ap length (flat_map-cons frame_of frame frames), length-append (frame_of frame) (frames_bytes frames), length-frame (records_of frame))

-- what the loop over frames keeps
pub record AreSteps (old mid : Disk) (len from : ℕ) (v w : Vault) (count at : ℕ) : Type 0 where
  pub reads : AreReads old mid
  pub quiet : IsQuiet old mid
  pub frames : AreFramesRead old len from v w count at
  pub few : count + from ≤ at

pub steps_start : (old : Disk) (len from : ℕ) (v : Vault) → from < len → AreSteps old old len from v v 0 from
steps_start old len from v within = record {
  reads = no_reads old;
  quiet = record { same_faults = refl };
  frames = record { frames = []; each = tt; leads = refl; count_is = refl; size = omega arith; within = within; bytes = λ honest. sym (append-nil (take from old.shown)) };
  few = omega arith;
}

module _ (old mid : Disk) (len from : ℕ) (v w : Vault) (count at : ℕ) (steps : AreSteps old mid len from v w count at) where
  same : IsTrue old.honest → mid.shown ≡ old.shown
  same honest = (steps.reads.read honest).shown

  pub length_behind : (IsTrue old.honest → len ≡ length old.shown) → IsTrue mid.honest → len ≡ length mid.shown
  length_behind size honest = let was = subst IsTrue steps.reads.called.same_honesty honest in size was ∙ ap length (sym (same was))

  pub one_step : (new : Disk) (next more : ℕ) (u : Vault) → more ≡ count + 1 → AreReads mid new → IsQuiet mid new → IsFrameRead mid len at next w u → AreSteps old new len from v u more next
  one_step new next more u more_is reads quiet step = record {
    reads = and_reads old mid new steps.reads reads;
    quiet = quiet_then old mid new steps.quiet quiet;
    frames = record {
      frames = steps.frames.frames ++ step.effects ∷ [];
      each = each_more IsFrame steps.frames.frames step.effects steps.frames.each step.is_frame;
      leads = frames_more v w u steps.frames.frames step.effects steps.frames.leads step.leads;
      count_is = counted;
      size = sized;
      within = step.within;
      bytes = λ honest.
          ap (λ (k : ℕ). take k old.shown) step.size ∙ take-add at (frame_extra + length (records_of step.effects)) old.shown
          ∙ ap (λ (l : List ℕ). l ++ take (frame_extra + length (records_of step.effects)) (drop at old.shown)) (steps.frames.bytes honest)
          ∙ ap (λ (l : List ℕ). (take from old.shown ++ frames_bytes steps.frames.frames) ++ l) (frame_is honest)
          ∙ flat_map_more frame_of (take from old.shown) steps.frames.frames step.effects;
    };
    few = omega (arith, counted, sized, frames_more_bytes (steps.frames.frames ++ step.effects ∷ []));
  }
    where
      joined : frames_bytes (steps.frames.frames ++ step.effects ∷ []) ≡ frames_bytes steps.frames.frames ++ frame_of step.effects
      joined = sym (flat_map_more frame_of [] steps.frames.frames step.effects)

      counted : more ≡ length (steps.frames.frames ++ step.effects ∷ [])
      counted = omega (arith, more_is, steps.frames.count_is, length-append steps.frames.frames (step.effects ∷ []))

      sized : next ≡ from + length (frames_bytes (steps.frames.frames ++ step.effects ∷ []))
      sized = omega (arith, step.size, steps.frames.size, ap length joined, length-append (frames_bytes steps.frames.frames) (frame_of step.effects), length-frame (records_of step.effects))

      frame_is : IsTrue old.honest → take (frame_extra + length (records_of step.effects)) (drop at old.shown) ≡ frame_of step.effects
      frame_is honest =
          ap (λ (l : List ℕ). take (frame_extra + length (records_of step.effects)) l) (ap (λ (file : List ℕ). drop at file) (sym (same honest)) ∙ step.bytes (honest_behind old mid steps.reads honest))
          ∙ take_at (frame_of step.effects) (drop next mid.shown) (frame_extra + length (records_of step.effects)) (length-frame (records_of step.effects))

  pub last_step : (u : Vault) → u ≡ w → (IsTrue mid.honest → get_or mid.shown at 0 ≢ 1) → AreAllRead old len from v u count at
  last_step u is shut = record {
    frames = subst (λ (x : Vault). AreFramesRead old len from v x count at) (sym is) steps.frames;
    shut = λ honest one. shut (honest_behind old mid steps.reads honest) (ap (λ (file : List ℕ). get_or file at 0) (same honest) ∙ one);
  }

  pub wrong_step : {T : Type 0} (new : Disk) (result : Result T ReadError) (why : ReadError) → (IsTrue old.honest → len ≡ length old.shown) → IsWhy mid new (IsNoFrame w mid.shown at) why → IsErrAnd result (λ (e : ReadError). e ≡ why)
      → IfErr result (λ (e : ReadError). IsWhy old new (IsFrameWrong from v old.shown) e)
  wrong_step new result why size refused is =
      passed_on result why (λ (e : ReadError). IsWhy old new (IsFrameWrong from v old.shown) e) is
      (why_behind old mid new (IsNoFrame w mid.shown at) (IsFrameWrong from v old.shown) steps.reads steps.quiet wrong why refused)
    where
      wrong : (offset : ℕ) → IsTrue old.honest → IsNoFrame w mid.shown at offset → IsFrameWrong from v old.shown offset
      wrong offset honest absent = subst (IsFrameWrong from v old.shown) (sym absent.here) (record {
        frames = steps.frames.frames;
        vault = w;
        each = steps.frames.each;
        leads = steps.frames.leads;
        bytes = steps.frames.bytes honest;
        within = let inside = size honest in omega (arith, inside, steps.frames.within);
        opened = ap (λ (file : List ℕ). get_or file at 0) (sym (same honest)) ∙ absent.opened;
        none = λ effects next behind frame leads some there. absent.none effects next behind frame leads some (ap (λ (file : List ℕ). drop at file) (same honest) ∙ there);
      })
