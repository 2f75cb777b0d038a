use Rattle.std.proofs.Common.{◌≡◌, ap, sym, ◌∙◌, length, rules}
use Rattle.part_versions.proofs.Cuts.{length-contents_of}
use Rattle.part_versions.proofs.part.Part.len.Goals as goal

pub returns : goal.returns
returns g c =
    let counted : c.len.result ≡ length c.self.inside.ends.items = search rules in
    counted ∙ sym (length-contents_of c.self.inside.ends.items c.self.inside.bytes.items) ∙ ap length c.self.view_is
