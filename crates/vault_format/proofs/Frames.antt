-- Effects one behind another, and one more frame behind a front.
use Rattle.std.proofs.Common.{◌≡◌, ℕ, ◌+◌, List, [], ◌∷◌, ◌++◌, length, Option, Some, None, refl, sym, ◌∙◌, ap, subst, arith, length-append}
use Rattle.std.specs.List.{AllByRecursion}
use Rattle.std.specs.Option.{option_and_then}
use Rattle.std.proofs.lemmas.List.{flat_map_more}
use Rattle.vault_model.specs.Said.{Effect}
use Rattle.vault_state.specs.Vault.{Vault, IsVault}
use Rattle.vault_model.specs.After.{after, IsDurable}
use Rattle.vault_model.proofs.Durable.{durable_stays}
use Rattle.vault_journal.specs.Spelling.{in_four, record_of, records_of, HasRecord}
use Rattle.vault_journal.specs.Rows.{AreRecordsOf}
use Rattle.vault_format.specs.Files.{frame_extra, frame_bytes, frame_of, frames_bytes, IsFrame, applied, after_frames, Reading, IsFront, snapshot_bytes, head_of}

pub each_more : {X : Type 0} (P : X → Type 0) (xs : List X) (x : X) → AllByRecursion P xs → P x → AllByRecursion P (xs ++ x ∷ [])
each_more P [] x each here = (here, tt)
each_more P (y ∷ ys) x each here = (each.0, each_more P ys x each.1 here)

-- what one step after another gives, of steps that may fail
then_step : {A : Type 0} (step : A → Option A) (more all : A → Option A) (o : Option A) → ((a : A) → all a ≡ option_and_then step (more a)) → option_and_then all o ≡ option_and_then step (option_and_then more o)
then_step step more all None each = refl
then_step step more all (Some a) each = each a

-- some effects, and then one more
applied-push : (w : Vault) (effects : List Effect) (effect : Effect) → applied w (effects ++ effect ∷ []) ≡ option_and_then (λ (v : Vault). applied v (effect ∷ [])) (applied w effects)
applied-push w [] effect = refl
applied-push w (first ∷ effects) effect =
    then_step (λ (v : Vault). applied v (effect ∷ [])) (λ (v : Vault). applied v effects) (λ (v : Vault). applied v (effects ++ effect ∷ [])) (after w first) (λ v. applied-push v effects effect)

pub applied_more : (w v next : Vault) (effects : List Effect) (effect : Effect) → applied w effects ≡ Some v → after v effect ≡ Some next → applied w (effects ++ effect ∷ []) ≡ Some next
applied_more w v next effects effect before e =
    applied-push w effects effect ∙ ap (λ (o : Option Vault). option_and_then (λ (u : Vault). applied u (effect ∷ [])) o) before ∙ ap (λ (o : Option Vault). option_and_then (λ (u : Vault). applied u []) o) e

-- some frames, and then one more
frames-push : (w : Vault) (frames : List (List Effect)) (frame : List Effect) → after_frames w (frames ++ frame ∷ []) ≡ option_and_then (λ (v : Vault). after_frames v (frame ∷ [])) (after_frames w frames)
frames-push w [] frame = refl
frames-push w (first ∷ frames) frame =
    then_step (λ (v : Vault). after_frames v (frame ∷ [])) (λ (v : Vault). after_frames v frames) (λ (v : Vault). after_frames v (frames ++ frame ∷ [])) (applied w first) (λ v. frames-push v frames frame)

pub frames_more : (w v next : Vault) (frames : List (List Effect)) (frame : List Effect) → after_frames w frames ≡ Some v → applied v frame ≡ Some next → after_frames w (frames ++ frame ∷ []) ≡ Some next
frames_more w v next frames frame before e =
    frames-push w frames frame ∙ ap (λ (o : Option Vault). option_and_then (λ (u : Vault). after_frames u (frame ∷ [])) o) before ∙ ap (λ (o : Option Vault). option_and_then (λ (u : Vault). after_frames u []) o) e

-- effects keep a vault well formed and durable
abbrev StaySo : Vault → List Effect → Type 0
StaySo v effects = (w : Vault) → IsVault w → IsDurable w → applied w effects ≡ Some v → IsVault v × IsDurable v

stay_behind : (w v : Vault) (effect : Effect) (effects : List Effect) (o : Option Vault) → StaySo v effects → IsVault w → IsDurable w → after w effect ≡ o → option_and_then (λ (u : Vault). applied u effects) o ≡ Some v → IsVault v × IsDurable v
stay_behind w v effect effects None rest kept durable is last = absurd (cc)
stay_behind w v effect effects (Some u) rest kept durable is last = let stays = durable_stays w u effect kept is in rest u stays.0 (stays.1 durable) last

pub applied_stays : (w v : Vault) (effects : List Effect) → IsVault w → IsDurable w → applied w effects ≡ Some v → IsVault v × IsDurable v
applied_stays w v [] kept durable e = let same : w ≡ v = cc in subst (λ (u : Vault). IsVault u × IsDurable u) same (kept, durable)
applied_stays w v (effect ∷ effects) kept durable e = stay_behind w v effect effects (after w effect) (λ u. applied_stays u v effects) kept durable refl e

-- one more record
pub records_more : (effects : List Effect) (effect : Effect) (bytes : List ℕ) → AreRecordsOf effects bytes → HasRecord effect → AreRecordsOf (effects ++ effect ∷ []) (bytes ++ record_of effect)
records_more effects effect bytes records has = record {
  each = each_more HasRecord effects effect records.each has;
  whole = ap (λ (l : List ℕ). l ++ record_of effect) records.whole ∙ flat_map_more record_of [] effects effect;
}

pub length-frame : (records : List ℕ) → length (frame_bytes records) ≡ frame_extra + length records
length-frame records = omega (arith, length-append (1 ∷ in_four (length records)) records)

-- a front with one more frame
pub longer_front : (front : List ℕ) (r : Reading) (effects : List Effect) (next : Vault) (tail journal_length : ℕ) → IsFront front r → IsFrame effects → applied r.vault effects ≡ Some next
    → tail ≡ r.tail + (frame_extra + length (records_of effects)) → journal_length ≡ r.journal_length + (frame_extra + length (records_of effects))
    → IsFront (front ++ frame_of effects) (record { vault = next; version = r.version; generation = r.generation; tail = tail; journal_length = journal_length })
longer_front front r effects next tail journal_length is_front frame e tail_is journal_is = record {
  base = is_front.base;
  frames = is_front.frames ++ effects ∷ [];
  spelled = is_front.spelled;
  given = is_front.given;
  fits = is_front.fits;
  each = each_more IsFrame is_front.frames effects is_front.each frame;
  bytes = ap (λ (l : List ℕ). l ++ frame_of effects) is_front.bytes ∙ flat_map_more frame_of (head_of r.version r.generation ++ snapshot_bytes r.version is_front.base) is_front.frames effects;
  leads = frames_more is_front.base r.vault next is_front.frames effects is_front.leads e;
  tail_is = omega (arith, tail_is, is_front.tail_is, length-append front (frame_of effects), length-frame (records_of effects));
  journal_is =
      let joined : frames_bytes (is_front.frames ++ effects ∷ []) ≡ frames_bytes is_front.frames ++ frame_of effects = sym (flat_map_more frame_of [] is_front.frames effects) in
      omega (arith, journal_is, is_front.journal_is, ap length joined, length-append (frames_bytes is_front.frames) (frame_of effects), length-frame (records_of effects));
}
