use Rattle.std.proofs.Common.{◌≡◌, ◌+◌, ◌<◌, ◌≤◌, [], ◌∷◌, ◌++◌, length, rules, arith, ap, sym, subst, ◌∙◌, List, ℕ, append_assoc}
use Rattle.std.specs.Int.{w16, to_be_bytes}
use Rattle.std.specs.Vec.{vec_len}
use Rattle.vault_state.specs.Shelf.{content_weight, versions_weight}
use Rattle.part_versions.specs.Cuts.{spelled, contents_of, IsCut}
use Rattle.part_versions.proofs.Cuts.{length-bytes, cut-push, contents_of-push}
use Rattle.part_versions.proofs.part.Part.push.Goals as goal

pub overflow_cast-len-2 : goal.overflow_cast-len-2
overflow_cast-len-2 g c =
    let first : vec_len c.extend_from_slice.new.self ≡ length c.self.inside.bytes.items + 2 = search rules in
    let grown : vec_len c.extend_from_slice-2.new.self ≡ vec_len c.extend_from_slice.new.self + length c.args.content.now = search rules in
    let before = length-bytes c.self.inside.ends.items c.self.inside.bytes.items c.self.invariant in
    let seen = ap versions_weight c.self.view_is in
    let light : versions_weight c.args.self.now + content_weight c.args.content.now ≤ 16777216 = c.requires.light in
    omega (arith, first, grown, before, seen, light, c.len.ensures)

-- what the ends and the bytes are afterwards
same_cut : (ends bytes content front new_ends new_bytes : List ℕ) (end : ℕ) → IsCut ends bytes → front ≡ bytes ++ to_be_bytes w16 (length content) → new_bytes ≡ front ++ content
    → end ≡ length new_bytes → new_ends ≡ ends ++ end ∷ []
    → IsCut new_ends new_bytes × (contents_of new_ends new_bytes ≡ contents_of ends bytes ++ content ∷ [])
same_cut ends bytes content front new_ends new_bytes end cut f b l e =
    let P : List ℕ → Type 0 = λ bs. IsCut (ends ++ length bs ∷ []) bs × (contents_of (ends ++ length bs ∷ []) bs ≡ contents_of ends bytes ++ content ∷ []) in
    let Q : ℕ → Type 0 = λ n. IsCut (ends ++ n ∷ []) new_bytes × (contents_of (ends ++ n ∷ []) new_bytes ≡ contents_of ends bytes ++ content ∷ []) in
    let R : List ℕ → Type 0 = λ es. IsCut es new_bytes × (contents_of es new_bytes ≡ contents_of ends bytes ++ content ∷ []) in
    let all : new_bytes ≡ bytes ++ spelled content = b ∙ ap (λ (l : List ℕ). l ++ content) f ∙ append_assoc bytes (to_be_bytes w16 (length content)) content in
    subst R (sym e) (subst Q (sym l) (subst P (sym all) (cut-push ends bytes content cut, contents_of-push ends bytes content cut)))

pub invariant_of-self-2 : goal.invariant_of-self-2
invariant_of-self-2 g c =
    let front : c.extend_from_slice.new.self.items ≡ c.self.inside.bytes.items ++ to_be_bytes w16 (length c.args.content.now) = search rules in
    let bytes : c.extend_from_slice-2.new.self.items ≡ c.extend_from_slice.new.self.items ++ c.args.content.now = search rules in
    let end : c.len.result ≡ length c.extend_from_slice-2.new.self.items = search rules in
    let ends : c.push.new.self.items ≡ c.self.inside.ends.items ++ c.len.result ∷ [] = search rules in
    (same_cut c.self.inside.ends.items c.self.inside.bytes.items c.args.content.now c.extend_from_slice.new.self.items c.push.new.self.items c.extend_from_slice-2.new.self.items c.len.result c.self.invariant front bytes end ends).0

pub returns-clause-ok : goal.returns-clause-ok
returns-clause-ok g c =
    let front : c.extend_from_slice.new.self.items ≡ c.self.inside.bytes.items ++ to_be_bytes w16 (length c.args.content.now) = search rules in
    let bytes : c.extend_from_slice-2.new.self.items ≡ c.extend_from_slice.new.self.items ++ c.args.content.now = search rules in
    let end : c.len.result ≡ length c.extend_from_slice-2.new.self.items = search rules in
    let ends : c.push.new.self.items ≡ c.self.inside.ends.items ++ c.len.result ∷ [] = search rules in
    (same_cut c.self.inside.ends.items c.self.inside.bytes.items c.args.content.now c.extend_from_slice.new.self.items c.push.new.self.items c.extend_from_slice-2.new.self.items c.len.result c.self.invariant front bytes end ends).1
    ∙ ap (λ versions. versions ++ c.args.content.now ∷ []) c.self.view_is
