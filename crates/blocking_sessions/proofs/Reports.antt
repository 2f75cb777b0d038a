-- What a connection of a reader and a writer comes to.
use Rattle.std.proofs.Common.{◌≡◌, ℕ, List, [], Option, sym, subst, inl}
use Rattle.std.proofs.KnownBytes.{Appends-nil}
use Rattle.line_inlet.specs.Reading.{Reading}
use Rattle.vault_desk.specs.Serving.{HeardAll, WritesAll}
use Rattle.vault_desk.specs.declared.report.Out.{Out}
use Rattle.vault_desk.specs.declared.report.Ended.{Ended}
use Rattle.vault_desk.specs.declared.report.Ended.TheVariants as ends
use Rattle.vault_desk.proofs.Heard.{hears_nothing, hears_end}
use Rattle.vault_desk.proofs.Told.{not_ended_left}

-- where nothing was heard and nothing written, memory may have been refused
pub none_heard : {A : Type 0} (a b : Reading) (outs : List (Out A)) → outs ≡ [] → b ≡ a → HeardAll a b outs ends.NoMemory
none_heard a b outs none same = subst (λ r. HeardAll a r outs ends.NoMemory) (sym same) (hears_end a a _ outs ends.NoMemory (hears_nothing a outs none) (λ given left. tt))

pub none_written : {A : Type 0} (a b : Option (List ℕ)) (outs : List (Out A)) → outs ≡ [] → b ≡ a → WritesAll ends.NoMemory a b outs
none_written {A} a b outs none same =
    let P : List (Out A) → Type 0 = λ o. WritesAll ends.NoMemory a a o in
    let here : P [] = inl (Appends-nil a, not_ended_left [] tt) in
    subst (λ w. WritesAll ends.NoMemory a w outs) (sym same) (subst P (sym none) here)

-- what was written over a connection was written by its writer
pub written_of : {A : Type 0} (a a' b b' : Option (List ℕ)) (outs outs' : List (Out A)) (ended ended' : Ended) → WritesAll ended a b outs → a ≡ a' → b ≡ b'
    → outs ≡ outs' → ended ≡ ended' → WritesAll ended' a' b' outs'
written_of a a' b b' outs outs' ended ended' h first last same end =
    subst (λ e. WritesAll e a' b' outs') end (subst (λ o. WritesAll ended a' b' o) same (subst (λ w. WritesAll ended a' w outs) last (subst (λ w. WritesAll ended w b outs) first h)))
