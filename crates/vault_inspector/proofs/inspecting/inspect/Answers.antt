use Rattle.std.proofs.Common.{◌≡◌, IsTrue, rules}
use Rattle.vault_inspector.specs.declared.inspecting.Active.TheVariants as active
use Rattle.vault_inspector.specs.Found.{right_in, active_among}
use Rattle.vault_inspector.proofs.Reports.{read_behind, first_head, first_is, second_is, vault_by_first, second_head, active_second, beside_second, vault_by_second, no_active}
use Rattle.vault_inspector.proofs.inspecting.inspect.Goals as goal

pub returns-in_ok-state-in-First : goal.returns-in_ok-state-in-First
returns-in_ok-state-in-First g c =
    let r = c.in-First.right in
    let a = c.in_ok-a.ensures.head in
    let b = c.in_ok-b.ensures.head in
    let chosen : active_among (right_in c.in_ok-a.a) (right_in c.in_ok-b.b) ≡ active.First r = cc (c.active_among.ensures, c.right_in.ensures, c.right_in-2.ensures, c.in-First.is) in
    let read = λ (honest : IsTrue (g.D.Device.disk c.args.first.now).honest) (other : IsTrue (g.D.Device.disk c.args.second.now).honest).
    read_behind (g.D.Device.disk c.args.first.now) (g.D.Device.disk c.read_head.new.device) r c.in_ok-state-in-First.field-0.state c.in_ok-state-in-First.field-0.book c.read_head.ensures.reads honest c.in_ok-state-in-First.ensures.read
    (first_head _ _ c.in_ok-a.a c.in_ok-b.b (a honest) (b other) r chosen) in
    record {
      first_unchanged = search rules;
      second_unchanged = search rules;
      first = λ honest other. first_is _ _ c.in_ok-a.a c.in_ok-b.b (a honest) (b other) r chosen _ _ (read honest other);
      second = λ honest other. rw c.beside-other.ensures (second_is _ _ c.in_ok-a.a c.in_ok-b.b (a honest) (b other) r chosen);
      vault = λ honest other. rw (c.found.ensures, c.beside-other.ensures) (vault_by_first _ _ c.in_ok-a.a c.in_ok-b.b (a honest) (b other) r chosen _ _ (read honest other));
      cause = tt;
      memory = tt;
    }

pub returns-in_ok-state-in-Second : goal.returns-in_ok-state-in-Second
returns-in_ok-state-in-Second g c =
    let r = c.in-Second.right in
    let a = c.in_ok-a.ensures.head in
    let b = c.in_ok-b.ensures.head in
    let chosen : active_among (right_in c.in_ok-a.a) (right_in c.in_ok-b.b) ≡ active.Second r = cc (c.active_among.ensures, c.right_in.ensures, c.right_in-2.ensures, c.in-Second.is) in
    let read = λ (honest : IsTrue (g.D.Device.disk c.args.first.now).honest) (other : IsTrue (g.D.Device.disk c.args.second.now).honest).
    read_behind (g.D.Device.disk c.args.second.now) (g.D.Device.disk c.read_head-2.new.device) r c.in_ok-state-in-Second.field-0.state c.in_ok-state-in-Second.field-0.book c.read_head-2.ensures.reads other c.in_ok-state-in-Second.ensures.read
    (second_head _ _ c.in_ok-a.a c.in_ok-b.b (a honest) (b other) r chosen) in
    record {
      first_unchanged = search rules;
      second_unchanged = search rules;
      first = λ honest other. rw c.beside-other-in-Second.ensures (beside_second _ _ c.in_ok-a.a c.in_ok-b.b (a honest) (b other) r chosen);
      second = λ honest other. active_second _ _ c.in_ok-a.a c.in_ok-b.b (a honest) (b other) r chosen _ _ (read honest other);
      vault = λ honest other. rw (c.found-in-Second.ensures, c.beside-other-in-Second.ensures) (vault_by_second _ _ c.in_ok-a.a c.in_ok-b.b (a honest) (b other) r chosen _ _ (read honest other));
      cause = tt;
      memory = tt;
    }

pub returns-in-Neither-clause-vault : goal.returns-in-Neither-clause-vault
returns-in-Neither-clause-vault g c = λ honest other.
    let a = c.in_ok-a.ensures.head honest in
    let b = c.in_ok-b.ensures.head other in
    let chosen : active_among (right_in c.in_ok-a.a) (right_in c.in_ok-b.b) ≡ active.Neither = cc (c.active_among.ensures, c.right_in.ensures, c.right_in-2.ensures, c.in-Neither.is) in
    (no_active _ _ c.in_ok-a.a c.in_ok-b.b a b chosen).2
