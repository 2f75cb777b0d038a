use Rattle.std.proofs.Common.{◌≡◌, ◌-◌, length, take, rules, arith, ap, sym, subst, ◌∙◌, List, ℕ, length-take}
use Rattle.part_versions.specs.Cuts.{end_of, contents_of, IsCut}
use Rattle.part_versions.proofs.Cuts.{length-contents_of, contents_of-front, cut-front}
use Rattle.part_versions.proofs.part.Part.pop.Goals as goal

-- what the ends and the bytes are afterwards
one_less : (ends bytes new_ends new_bytes : List ℕ) (end : ℕ) → IsCut ends bytes → new_ends ≡ take (length ends - 1) ends → end ≡ end_of new_ends (length new_ends) → new_bytes ≡ take end bytes
    → contents_of new_ends new_bytes ≡ take (length ends - 1) (contents_of ends bytes)
one_less ends bytes new_ends new_bytes end cut e l b =
    let n = length ends - 1 in
    let long : length new_ends ≡ length ends - 1 = omega (arith, ap length e, length-take (length ends - 1) ends) in
    ap (contents_of new_ends) (b ∙ ap (λ m. take m bytes) (l ∙ ap (end_of new_ends) long))
    ∙ ap (λ es. contents_of es (take (end_of es (length ends - 1)) bytes)) e
    ∙ contents_of-front ends bytes (length ends - 1) cut (omega arith)

still_cut : (ends bytes new_ends new_bytes : List ℕ) (end : ℕ) → IsCut ends bytes → new_ends ≡ take (length ends - 1) ends → end ≡ end_of new_ends (length new_ends) → new_bytes ≡ take end bytes
    → IsCut new_ends new_bytes
still_cut ends bytes new_ends new_bytes end cut e l b =
    let long : length new_ends ≡ length ends - 1 = omega (arith, ap length e, length-take (length ends - 1) ends) in
    let P : List ℕ → Type 0 = λ bs. IsCut new_ends bs in
    let Q : List ℕ → Type 0 = λ es. IsCut es (take (end_of es (length ends - 1)) bytes) in
    subst P (sym (b ∙ ap (λ m. take m bytes) (l ∙ ap (end_of new_ends) long))) (subst Q (sym e) (cut-front ends bytes (length ends - 1) cut (omega arith)))

pub invariant_of-self : goal.invariant_of-self
invariant_of-self g c =
    let ends : c.pop.new.self.items ≡ take (length c.self.inside.ends.items - 1) c.self.inside.ends.items = search rules in
    let end : c.end_of-end.result ≡ end_of c.pop.new.self.items (length c.pop.new.self.items) = search rules in
    let bytes : c.truncate.new.self.items ≡ take c.end_of-end.result c.self.inside.bytes.items = search rules in
    still_cut c.self.inside.ends.items c.self.inside.bytes.items c.pop.new.self.items c.truncate.new.self.items c.end_of-end.result c.self.invariant ends end bytes

pub returns : goal.returns
returns g c =
    let ends : c.pop.new.self.items ≡ take (length c.self.inside.ends.items - 1) c.self.inside.ends.items = search rules in
    let end : c.end_of-end.result ≡ end_of c.pop.new.self.items (length c.pop.new.self.items) = search rules in
    let bytes : c.truncate.new.self.items ≡ take c.end_of-end.result c.self.inside.bytes.items = search rules in
    one_less c.self.inside.ends.items c.self.inside.bytes.items c.pop.new.self.items c.truncate.new.self.items c.end_of-end.result c.self.invariant ends end bytes
    ∙ ap (λ n. take (n - 1) (contents_of c.self.inside.ends.items c.self.inside.bytes.items)) (sym (length-contents_of c.self.inside.ends.items c.self.inside.bytes.items))
    ∙ ap (λ versions. take (length versions - 1) versions) c.self.view_is
