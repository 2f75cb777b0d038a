use Rattle.std.proofs.Common.{◌∙◌, ◌<◌, ◌≤◌, sym, subst}
use Rattle.vault_protocol.proofs.ReadWhole.{read_all, read_too_much, read_more, read_within}
use Rattle.vault_protocol.proofs.input.read_script.Goals as goal

pub returns-then-count-eq0-clause-end : goal.returns-then-count-eq0-clause-end
returns-then-count-eq0-clause-end g c = c.in-Ok.ensures.bytes.1 c.if-count-eq0.true (subst (λ n. 0 < n) (sym (c.read.auto.buf ∙ c.deref_mut.ensures.len)) c.loop-call.invariant.room)

pub returns-then-count-eq0-clause-ok : goal.returns-then-count-eq0-clause-ok
returns-then-count-eq0-clause-ok g c =
    read_all _ _ _ c.loop-call.script.items c.read.new.buf c.in-Ok.count c.loop-call.invariant.taken c.in-Ok.ensures.bytes.0 c.if-count-eq0.true
    (c.in-Ok.ensures.bytes.1 c.if-count-eq0.true (subst (λ n. 0 < n) (sym (c.read.auto.buf ∙ c.deref_mut.ensures.len)) c.loop-call.invariant.room))

pub returns-then-len-count-clause-too_long : goal.returns-then-len-count-clause-too_long
returns-then-len-count-clause-too_long g c = λ long.
    read_too_much _ _ _ c.loop-call.script.items c.read.new.buf c.in-Ok.count c.len.result c.loop-call.invariant.taken c.in-Ok.ensures.bytes.0 c.in-Ok.ensures.bound.1
    (c.len.ensures ∙ c.loop-call.script.ok.0) c.if-len-count.true

pub loop-call-preserved : goal.loop-call-preserved
loop-call-preserved g c =
    let len = c.read.auto.buf ∙ c.deref_mut.ensures.len in
    let added = c.in_ok-extend_from_slice.ensures.items in
    record {
      taken = read_more c.loop-call.script.items c.read.new.buf c.loop-call.buffer.items c.deref.result.now _ c.in-Ok.count c.loop-call.buffer.len c.deref.ensures.value len added
          _ _ _ c.loop-call.invariant.taken c.in-Ok.ensures.bytes.0;
      room = c.loop-call.invariant.room;
      bound = read_within c.loop-call.script.items c.read.new.buf c.loop-call.buffer.items c.deref.result.now _ c.in-Ok.count c.loop-call.buffer.len c.deref.ensures.value len added
          c.len.result _ c.extend_from_slice.new.self.ok.0 (c.len.ensures ∙ c.loop-call.script.ok.0) c.in-Ok.ensures.bound.1 c.if-len-count.false
          (subst (λ n. n ≤ 16777216) (sym c.len.ensures) c.loop-call.invariant.bound);
    }
