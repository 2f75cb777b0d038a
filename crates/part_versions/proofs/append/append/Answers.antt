use Rattle.std.proofs.Common.{◌≡◌, ◌-◌, ◌<◌, ◌≤◌, [], ◌∷◌, ◌++◌, length, replicate, rules, arith}
use Rattle.std.proofs.lemmas.Result.{on_ok_weaker}
use Rattle.vault_state.specs.Shelf.{content_weight}
use Rattle.part_versions.proofs.Shelving.{put_inside, put_past, light_at}
use Rattle.part_versions.proofs.append.append.Goals as goal

pub returns-then-index-len-clause-ok : goal.returns-then-index-len-clause-ok
returns-then-index-len-clause-ok g c =
    let inside : c.number-index.result < length c.args.parts.now.items = search rules in
    on_ok_weaker c.push.result (put_inside c.args.parts.now.items c.number-index.result c.args.place c.index_mut.result.now c.push.new.self c.args.content.now c.number-index.ensures inside c.index_mut.ensures.value) c.push.ensures.ok

pub returns-clause-ok : goal.returns-clause-ok
returns-clause-ok g c =
    let past : length c.args.parts.now.items ≤ c.number-index.result = search rules in
    let longer : c.pad.new.parts.items ≡ c.args.parts.now.items ++ replicate (c.number-index.result - length c.args.parts.now.items) [] = search rules in
    let one : c.push-2.new.self ≡ c.args.content.now ∷ [] = search rules in
    let pushed : c.push-3.new.self.items ≡ c.pad.new.parts.items ++ c.push-2.new.self ∷ [] = search rules in
    put_past c.args.parts.now.items c.pad.new.parts.items c.push-3.new.self.items c.number-index.result c.args.place c.push-2.new.self c.args.content.now c.number-index.ensures past longer one pushed

pub push-requires-clause-light : goal.push-requires-clause-light
push-requires-clause-light g c = light_at c.args.parts.now.items _ c.index_mut.result.now (content_weight c.args.content.now) (search rules) c.index_mut.ensures.value c.requires.light

pub push-requires-2-clause-light : goal.push-requires-2-clause-light
push-requires-2-clause-light g c = rw c.new-part.ensures (omega (arith, c.requires.light))
