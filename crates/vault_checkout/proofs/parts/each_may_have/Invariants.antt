use Rattle.std.specs.Prelude.{◌↔◌, [], take, drop}
use Rattle.check_outs.specs.Parts.{EachMayHave}
use Rattle.vault_checkout.proofs.parts.each_may_have.Given as goal

-- what is left decides
abbrev pub invariant-loop-index : goal.invariant-loop-index
invariant-loop-index g l = EachMayHave l.tree [] l.claims l.drafts ↔ EachMayHave l.tree (take l.index l.claims) (drop l.index l.claims) (drop l.index l.drafts)
