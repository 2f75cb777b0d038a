-- What a sync and reads behind it leave of a device.
use Rattle.std.proofs.Common.{◌≡◌, IsTrue, Result, Ok, sym, ◌∙◌, subst, arith}
use Rattle.vault_device.specs.Disk.{Disk, IsLawful, IsOneCall, IsSync}
use Rattle.vault_device.specs.declared.device.Fault.{Fault}
use Rattle.vault_device.proofs.Moments.{no_more, and_then}
use Rattle.vault_store.specs.OnDisk.{IsSettled}
use Rattle.vault_store.specs.Opening.{IsHandedOn}
use Rattle.vault_store.specs.Read.{AreReads}

module _ (old mid new : Disk) (result : Result (Unit {0}) Fault) (call : IsOneCall old mid result) (sync : IsTrue old.honest → IsSync result old mid) (reads : AreReads mid new) where
  there : IsTrue old.honest → IsTrue mid.honest
  there honest = subst IsTrue (sym call.same_honesty) honest

  pub handed_on : (IsTrue old.honest → IsLawful old) → (IsTrue mid.honest → IsLawful mid) → IsHandedOn old new
  handed_on lawful lawful_mid = record {
    called = record { same_honesty = reads.called.same_honesty ∙ call.same_honesty; no_fewer_faults = omega (arith, reads.called.no_fewer_faults, call.no_fewer_faults) };
    shown = λ honest. (reads.read (there honest)).shown ∙ (sync honest).shown;
    moments = λ honest.
        and_then old mid new old.IsImage (no_more old mid old.IsImage (lawful honest) (sync honest).time (λ x is. is))
        (no_more mid new old.IsImage (lawful_mid (there honest)) (reads.read (there honest)).time (λ x is. (sync honest).images x is));
  }

  pub settled_behind : result ≡ Ok tt → IsTrue old.honest → IsSettled new
  settled_behind ok honest =
      let s : IsSync (Ok tt) old mid = subst (λ (r : Result (Unit {0}) Fault). IsSync r old mid) ok (sync honest) in
      let r = reads.read (there honest) in record {
        only = λ x is. s.durable x (r.images x is) ∙ sym s.shown ∙ sym r.shown;
        bytes = r.settled ∙ s.settled ∙ sym s.shown ∙ sym r.shown;
      }

-- reads behind it
module _ (old mid new : Disk) (handed : IsHandedOn old mid) (reads : AreReads mid new) where
  here : IsTrue old.honest → IsTrue mid.honest
  here honest = subst IsTrue (sym handed.called.same_honesty) honest

  pub handed_behind : (IsTrue mid.honest → IsLawful mid) → IsHandedOn old new
  handed_behind lawful = record {
    called = record { same_honesty = reads.called.same_honesty ∙ handed.called.same_honesty; no_fewer_faults = omega (arith, reads.called.no_fewer_faults, handed.called.no_fewer_faults) };
    shown = λ honest. (reads.read (here honest)).shown ∙ handed.shown honest;
    moments = λ honest.
        and_then old mid new old.IsImage (handed.moments honest)
        (no_more mid new old.IsImage (lawful (here honest)) (reads.read (here honest)).time (λ x is. (handed.moments honest).each x ((lawful (here honest)).now old.moment x (handed.moments honest).later is)));
  }

pub settled_reads : (mid new : Disk) → AreReads mid new → IsTrue mid.honest → IsSettled mid → IsSettled new
settled_reads mid new reads honest settled =
    let r = reads.read honest in record {
      only = λ x is. settled.only x (r.images x is) ∙ sym r.shown;
      bytes = r.settled ∙ settled.bytes ∙ sym r.shown;
    }
