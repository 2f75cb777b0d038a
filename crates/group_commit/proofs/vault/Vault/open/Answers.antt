use Rattle.std.proofs.Common.{inr, sym, ap, ◌∙◌, subst}
use Rattle.vault_store.specs.Calls.{AreQuiet}
use Rattle.vault_store.specs.Companions.{IsOfOneVault}
use Rattle.vault_format.specs.Files.{AreRead}
use Rattle.vault_store.specs.State.{at_rest}
use Rattle.vault_store.specs.Seen.{StoreSeen, first_of, second_of, settled_reading, Keeps}
use Rattle.vault_store.specs.declared.refused.Refused.{Refused}
use Rattle.vault_store.specs.declared.opening.OpenError.{OpenError}
use Rattle.vault_store.specs.Opening.{IsNotOpened, IsHandedOn, AreSettled, AreLeftSettled}
use Rattle.group_commit.specs.View.{View, opened_view}
use Rattle.group_commit.specs.Pasts.{StopsInOpening}
use Rattle.group_commit.proofs.Openings.{stops_in_opening}
use Rattle.group_commit.proofs.Begun.{begun, not_begun, read_over, turned, wanted}
use Rattle.group_commit.proofs.vault.Vault.open.Goals as goal

pub returns-clause-begins : goal.returns-clause-begins
returns-clause-begins g c =
    begun c.open.result c.args.life c.begin.result c.begin.ensures (λ store book. Keeps g.D.Device.disk store (at_rest book)) _ c.open.ensures.kept (λ store book new kept is. is.view_is ∙ ap opened_view (sym (ap (λ (v : View). v.base) is.view_is)))

pub returns-clause-life : goal.returns-clause-life
returns-clause-life g c = begun c.open.result c.args.life c.begin.result c.begin.ensures (λ store book. Keeps g.D.Device.disk store (at_rest book)) _ c.open.ensures.kept (λ store book new kept is. is.life_is)

pub returns-clause-buffer : goal.returns-clause-buffer
returns-clause-buffer g c =
    begun c.open.result c.args.life c.begin.result c.begin.ensures (λ store book. Keeps g.D.Device.disk store (at_rest book)) _ c.open.ensures.kept (λ store book new kept is. ap (λ (s : StoreSeen g.row.D.Denot). s.buffer) is.store_is ∙ kept.buffer.whole)

pub returns-clause-read : goal.returns-clause-read
returns-clause-read g c = λ one two.
    let disk = g.D.Device.disk in
    begun c.open.result c.args.life c.begin.result c.begin.ensures (λ store book. AreRead (disk c.args.first).shown (disk c.args.second).shown (settled_reading store (at_rest book))) _ (c.open.ensures.read one two)
    (λ store book new read is. read_over (disk c.args.first).shown (disk c.args.second).shown store book new c.args.life read is)

pub returns-clause-next : goal.returns-clause-next
returns-clause-next g c = λ one two.
    let disk = g.D.Device.disk in
    begun c.open.result c.args.life c.begin.result c.begin.ensures (λ store book. AreRead (disk c.args.first).shown (disk c.args.second).shown (settled_reading store (at_rest book))) _ (c.open.ensures.read one two)
    (λ store book new read is old stop. inr (record {
      first = (disk c.args.first).shown;
      second = (disk c.args.second).shown;
      left = stop;
      opened = record {
        begins = is.view_is ∙ ap opened_view (sym (ap (λ (v : View). v.base) is.view_is));
        read = read_over (disk c.args.first).shown (disk c.args.second).shown store book new c.args.life read is;
      };
    }))

pub returns-clause-stops : goal.returns-clause-stops
returns-clause-stops g c =
    let disk = g.D.Device.disk in
    begun c.open.result c.args.life c.begin.result c.begin.ensures (λ store book. IsHandedOn (disk c.args.first) (disk (first_of store)) × IsHandedOn (disk c.args.second) (disk (second_of store))) _ c.open.ensures.handed_on
    (λ store book new handed is. subst (λ (s : StoreSeen g.row.D.Denot). StopsInOpening disk c.args.first c.args.second (first_of s) (second_of s)) (sym is.store_is)
    (stops_in_opening disk c.args.first c.args.second (first_of store) (second_of store) handed.0 handed.1 (g.met.D.Device.lawful (first_of store)) (g.met.D.Device.lawful (second_of store))))

pub returns-clause-handed_on : goal.returns-clause-handed_on
returns-clause-handed_on g c =
    let disk = g.D.Device.disk in
    begun c.open.result c.args.life c.begin.result c.begin.ensures (λ store book. IsHandedOn (disk c.args.first) (disk (first_of store)) × IsHandedOn (disk c.args.second) (disk (second_of store))) _ c.open.ensures.handed_on
    (λ store book new handed is. subst (λ (s : StoreSeen g.row.D.Denot). IsHandedOn (disk c.args.first) (disk (first_of s)) × IsHandedOn (disk c.args.second) (disk (second_of s))) (sym is.store_is) handed)

pub returns-clause-refused : goal.returns-clause-refused
returns-clause-refused g c = λ one two.
    let disk = g.D.Device.disk in
    not_begun c.open.result c.args.life c.begin.result c.begin.ensures (λ store book. Keeps disk store (at_rest book)) _ c.open.ensures.kept (c.open.ensures.refused one two)
    (λ store book refused kept is. subst (IsNotOpened (disk c.args.first).shown (disk c.args.second).shown) (sym is.why_is) tt)

pub returns-clause-refused_stops : goal.returns-clause-refused_stops
returns-clause-refused_stops g c =
    let disk = g.D.Device.disk in
    not_begun c.open.result c.args.life c.begin.result c.begin.ensures (λ store book. IsHandedOn (disk c.args.first) (disk (first_of store)) × IsHandedOn (disk c.args.second) (disk (second_of store))) _ c.open.ensures.handed_on
    (turned c.open.result (λ (r : Refused g.row.D.Denot OpenError). IsHandedOn (disk c.args.first) (disk r.first) × IsHandedOn (disk c.args.second) (disk r.second)) _ c.open.ensures.handed_back
    (λ r handed. stops_in_opening disk c.args.first c.args.second r.first r.second handed.0 handed.1 (g.met.D.Device.lawful r.first) (g.met.D.Device.lawful r.second)))
    (λ store book refused handed is. wanted store refused (λ a b. StopsInOpening disk c.args.first c.args.second a b) is
    (stops_in_opening disk c.args.first c.args.second (first_of store) (second_of store) handed.0 handed.1 (g.met.D.Device.lawful (first_of store)) (g.met.D.Device.lawful (second_of store))))

pub returns-clause-left_settled : goal.returns-clause-left_settled
returns-clause-left_settled g c =
    let disk = g.D.Device.disk in
    not_begun c.open.result c.args.life c.begin.result c.begin.ensures (λ store book. AreSettled (disk (first_of store)) (disk (second_of store))) _ c.open.ensures.settled c.open.ensures.left_settled
    (λ store book refused settled is. subst (λ (why : OpenError). AreLeftSettled (disk refused.first) (disk refused.second) why) (sym is.why_is) (wanted store refused (λ a b. AreSettled (disk a) (disk b)) is settled))

pub returns-clause-cause : goal.returns-clause-cause
returns-clause-cause g c =
    let disk = g.D.Device.disk in
    not_begun c.open.result c.args.life c.begin.result c.begin.ensures (λ store book. Keeps disk store (at_rest book)) _ c.open.ensures.kept c.open.ensures.cause
    (λ store book refused kept is failed. let clash = sym is.why_is ∙ failed in absurd (cc))

pub returns-clause-memory : goal.returns-clause-memory
returns-clause-memory g c =
    let disk = g.D.Device.disk in
    not_begun c.open.result c.args.life c.begin.result c.begin.ensures (λ store book. AreQuiet (disk c.args.first) (disk c.args.second) (disk (first_of store)) (disk (second_of store))) _ c.open.ensures.quiet c.open.ensures.memory
    (λ store book refused quiet is why. wanted store refused (λ a b. AreQuiet (disk c.args.first) (disk c.args.second) (disk a) (disk b)) is quiet)

pub returns-clause-handed_back : goal.returns-clause-handed_back
returns-clause-handed_back g c =
    let disk = g.D.Device.disk in
    not_begun c.open.result c.args.life c.begin.result c.begin.ensures (λ store book. IsHandedOn (disk c.args.first) (disk (first_of store)) × IsHandedOn (disk c.args.second) (disk (second_of store))) _ c.open.ensures.handed_on c.open.ensures.handed_back
    (λ store book refused handed is. wanted store refused (λ a b. IsHandedOn (disk c.args.first) (disk a) × IsHandedOn (disk c.args.second) (disk b)) is handed)

pub returns-clause-one_vault : goal.returns-clause-one_vault
returns-clause-one_vault g c = λ pass.
    begun c.open.result c.args.life c.begin.result c.begin.ensures (λ store book. IsOfOneVault g.D.Device.disk store) _ (c.open.ensures.one_vault pass)
    (λ store book new one_vault is. subst (λ (s : StoreSeen g.row.D.Denot). IsOfOneVault g.D.Device.disk s) (sym is.store_is) one_vault)
