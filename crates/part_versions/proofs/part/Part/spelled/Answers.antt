use Rattle.std.proofs.Common.{◌∙◌, ap}
use Rattle.std.specs.List.{flat_map}
use Rattle.part_versions.specs.Cuts.{spelled}
use Rattle.part_versions.proofs.Cuts.{bytes_spelled}
use Rattle.part_versions.proofs.part.Part.spelled.Goals as goal

pub returns : goal.returns
returns g c =
    c.deref.ensures.value ∙ bytes_spelled c.self.inside.ends.items c.self.inside.bytes.items c.self.invariant ∙ ap (flat_map spelled) c.self.view_is
