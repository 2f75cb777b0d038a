use Rattle.std.proofs.Common.{◌≡◌, [], ◌∷◌, ◌++◌, rules}
use Rattle.part_versions.proofs.Shelving.{padded}
use Rattle.part_versions.proofs.append.pad.Goals as goal

pub loop-alloc-preserved : goal.loop-alloc-preserved
loop-alloc-preserved g c =
    let pushed : c.push.new.self.items ≡ c.loop-alloc.parts.items ++ c.new.result ∷ [] = search rules in
    record {
      items = padded c.args.parts.now.items c.loop-alloc.parts.items c.push.new.self.items c.new.result c.loop-alloc.invariant.items pushed c.new.ensures;
      below = search rules;
      room = search rules;
    }
