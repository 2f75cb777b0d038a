-- A new vault's file is read as the new vault.
use Rattle.std.proofs.Common.{◌≡◌, inl, ℕ, IsTrue, List, [], refl, sym, subst, arith, false}
use Rattle.std.proofs.lemmas.Bool.{false≢true}
use Rattle.std.proofs.lemmas.List.Elements.{All-nil}
use Rattle.vault_state.specs.declared.place.Place.{Place}
use Rattle.vault_state.specs.declared.claims.Claim.{Claim}
use Rattle.vault_state.specs.Name.{IsName}
use Rattle.vault_state.specs.Vault.{new_vault}
use Rattle.vault_model.proofs.Kept.{kept_new}
use Rattle.vault_device.specs.Disk.{Disk, IsTorn}
use Rattle.vault_store.specs.declared.opening.File.TheVariants.{First}
use Rattle.vault_store.specs.declared.phase.Phase.TheVariants.{Idle}
use Rattle.vault_format.specs.Snapshot.{current_version, HasSnapshot, designer_of}
use Rattle.vault_format.specs.Files.{Reading, IsFront, EndsBehind, IsSpare}
use Rattle.vault_store.specs.OnDisk.{IsIdle}
use Rattle.vault_store.specs.Spares.{IsAside}
use Rattle.vault_store.specs.State.{at_rest}
use Rattle.vault_store.specs.Seen.{StoreSeen, Keeps}
use Rattle.vault_store.specs.Sound.{IsSoundStore}
use Rattle.vault_store.specs.Create.{new_front, new_file, IsFilled}
use Rattle.vault_store.specs.Companions.{MayPrecede, IsOfOneVault}
use Rattle.vault_store.proofs.Companions.{closed_precedes}
use Rattle.vault_store.proofs.Passes.{head_based}
use Rattle.vault_store.proofs.Renewals.{idle_leaves}
use Rattle.vault_store.proofs.Rests.{rest_kept}
use Rattle.vault_format.proofs.Spelled.{now_spelled}

pub new_snapshot : HasSnapshot new_vault
new_snapshot = record { well_formed = kept_new; durable = refl; places = All-nil (λ (place : Place). IsName place.name); owners = All-nil (λ (claim : Claim). IsName (designer_of claim.owner)) }

abbrev pub new_reading : Reading
new_reading = record { vault = new_vault; version = current_version; generation = 1; tail = 34; journal_length = 0 }

pub new_is_front : IsFront new_front new_reading
new_is_front = record {
  base = new_vault;
  frames = [];
  spelled = now_spelled new_vault new_snapshot;
  given = omega arith;
  fits = omega arith;
  each = tt;
  bytes = refl;
  leads = refl;
  tail_is = refl;
  journal_is = refl;
}

pub new_ends : EndsBehind new_front new_file
new_ends = record { begins = refl; closed = record { stands = omega arith; shut = λ e. cc } }

pub new_idle : (old new : Disk) → IsFilled old new new_file → IsIdle new new_front
new_idle old new filled = record { settled = filled.settled; ends = subst (EndsBehind new_front) (sym filled.shown) new_ends }

module _ {D : Type 0} (disk : D → Disk) (first second first_new second_new : D) (same : (disk first_new).honest ≡ (disk first).honest) (file : IsTrue (disk first).honest → IsFilled (disk first) (disk first_new) new_file)
    (same_second : (disk second_new).honest ≡ (disk second).honest) (empty : IsTrue (disk second).honest → IsFilled (disk second) (disk second_new) []) where
  abbrev pub new_seen : StoreSeen D
  new_seen = record { active = first_new; spare = second_new; which = First; buffer = []; sealed = 0; version = current_version; generation = 1; tail = 34; journal_length = 0; phase = Idle; broken = false; shut = false; rest = [] }

  -- of the empty file nothing stands, whatever that may stand beside
  new_aside : (MayStand : List ℕ → Type 0) → MayStand [] → ((y : List ℕ) → IsTorn 0 1 [] y → MayStand y) → IsTrue (disk second_new).honest → IsAside MayStand (disk second_new) false
  new_aside MayStand stands torn two = let filled = empty (subst IsTrue same_second two) in record {
    settled = filled.settled;
    stands = subst MayStand (sym filled.shown) stands;
    closed = λ e. absurd (false≢true e);
    torn = λ e. subst (λ (l : List ℕ). (y : List ℕ) → IsTorn 0 1 l y → MayStand y) (sym filled.shown) torn;
  }

  pub new_sound : IsSoundStore disk new_seen
  new_sound = record {
    reached = tt;
    sealed_fits = omega arith;
    bounded = λ some. absurd (omega (arith, some));
    inside = omega arith;
    short = omega arith;
    active = λ one. record { front = new_front; records = []; stands = refl; size = refl; on_disk = new_idle (disk first) (disk first_new) (file (subst IsTrue same one)) };
    spare = λ two. new_aside (λ x. Unit {0}) tt (λ y torn. tt) two;
  }

  pub new_kept : Keeps disk new_seen (at_rest new_vault)
  new_kept =
      rest_kept disk new_seen new_vault new_vault [] refl refl refl new_snapshot (record { each = tt; whole = refl }) refl
      (λ one two. record {
        front = new_front;
        is_front = new_is_front;
        active = new_idle (disk first) (disk first_new) (file (subst IsTrue same one));
        spare = new_aside (IsSpare 1) (inl (inl (omega arith))) (λ y torn. inl (inl (omega (arith, torn.no_longer)))) two;
      })

  -- the empty file may stand beside the new one
  pub new_one : IsOfOneVault disk new_seen
  new_one one two = record {
    base = new_vault;
    based = λ x image. head_based 1 new_vault x new_snapshot (omega arith) (omega arith) (idle_leaves (disk first_new) new_front [] (new_idle (disk first) (disk first_new) (file (subst IsTrue same one))) x image);
    beside = new_aside (MayPrecede 1 new_vault) (closed_precedes 1 new_vault [] (inl (omega arith))) (λ y torn. closed_precedes 1 new_vault y (inl (omega (arith, torn.no_longer)))) two;
  }
