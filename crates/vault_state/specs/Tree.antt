-- The tree of places. This project's own, after the hierarchies of Gray, Lorie, Putzolu and Traiger (1976). Place 0 is the library; the
-- list has the others, by number from 1 on.
use Rattle.std.specs.Prelude.{◌≡◌, ℕ, zero, suc, ◌+◌, ◌<◌, ◌≤◌, Bool, true, false, not, ◌||◌, ◌&&◌, ◌==◌, nat_le, nat_lt, if◌then◌else◌, List, [], ◌∷◌, length, ◌++◌, Option, None, Some, slice_get, count_by, position, filter}
use Rattle.std.specs.List.{range_with_len, filter_map}
use Rattle.std.specs.Option.{option_map, option_map_or, option_and_then}
use Rattle.std.specs.Str.{bytes_eq}
use Rattle.vault_state.specs.declared.place.Place.{Place}
use Rattle.vault_state.specs.declared.place.Kind.{Kind}
use Rattle.vault_state.specs.declared.place.Kind.TheVariants.{Library, Project, Assembly, Part}
use Rattle.vault_state.specs.Limits.{greatest_depth, part_depth, most_places, most_children}

-- a place by its parent, its name and its kind
abbrev pub new_place : ℕ → List ℕ → Kind → Place
new_place parent name kind = record { parent = parent; name = name; kind = kind }

-- the place that stands for any position beyond the end of a list of places
abbrev pub no_place : Place
no_place = new_place 0 [] Library

-- the parent of a place; the library has none
abbrev pub parent_of : List Place → ℕ → Option ℕ
parent_of tree zero = None
parent_of tree (suc n) = option_map (λ place. place.parent) (slice_get tree n)

-- whether p is q, or p's parent is under q, where p's ancestors are at most n
abbrev pub is_under_within : ℕ → List Place → ℕ → ℕ → Bool
is_under_within zero tree p q = p == q
is_under_within (suc n) tree p q = (p == q) || option_map_or (λ parent. is_under_within n tree parent q) (parent_of tree p) false

-- whether p is q, or p's parent is under q; a parent's number is smaller, so p has at most p ancestors
abbrev pub is_under : List Place → ℕ → ℕ → Bool
is_under tree p q = is_under_within p tree p q

-- how many ancestors a place has, where they are at most n
abbrev pub depth_within : ℕ → List Place → ℕ → ℕ
depth_within zero tree p = 0
depth_within (suc n) tree p = option_map_or (λ parent. suc (depth_within n tree parent)) (parent_of tree p) 0

-- how many ancestors a place has
abbrev pub depth : List Place → ℕ → ℕ
depth tree p = depth_within p tree p

-- a place of this name under this parent
abbrev pub is_child : ℕ → List ℕ → Place → Bool
is_child parent name place = (place.parent == parent) && bytes_eq place.name name

-- what a place is; place 0 is the library
abbrev pub kind_of : List Place → ℕ → Kind
kind_of tree zero = Library
kind_of tree (suc n) = option_map_or (λ (place : Place). place.kind) (slice_get tree n) Library

-- whether a kind is the kind of parts
abbrev pub is_part_kind : Kind → Bool
is_part_kind Library = false
is_part_kind Project = false
is_part_kind Assembly = false
is_part_kind Part = true

-- whether a place is a part
abbrev pub is_part : List Place → ℕ → Bool
is_part tree p = is_part_kind (kind_of tree p)

-- whether assemblies and parts may both stand at a depth: from the least depth of parts on, but not at the greatest depth
abbrev pub is_between : ℕ → Bool
is_between d = nat_le part_depth d && nat_lt d greatest_depth

-- whether a place of a kind may stand at a depth: the library at 0, projects at 1, assemblies at 2 and where both may stand, parts where
-- both may stand and at the greatest depth
abbrev pub may_stand : Kind → ℕ → Bool
may_stand Library d = d == 0
may_stand Project d = d == 1
may_stand Assembly d = (d == 2) || is_between d
may_stand Part d = is_between d || (d == greatest_depth)

-- whether a place may have a child of a kind: it is no part, and such a child may stand right under it
abbrev pub may_have : List Place → ℕ → Kind → Bool
may_have tree parent kind = not (is_part tree parent) && may_stand kind (suc (depth tree parent))

-- the kind that is made at a depth by default: a project, under it an assembly, and below that a part
abbrev pub kind_at : ℕ → Kind
kind_at d =
    if d == 1 then Project
    else if d == 2 then Assembly
    else Part

-- the kind that is made under a place by default
abbrev pub kind_under : List Place → ℕ → Kind
kind_under tree parent = kind_at (suc (depth tree parent))

-- whether an assembly may be asked for under a place: where a part is the default, but not at the greatest depth
abbrev pub may_nest_under : List Place → ℕ → Bool
may_nest_under tree parent = is_between (suc (depth tree parent))

-- the place by this name under a parent
abbrev pub child : List Place → ℕ → List ℕ → Option ℕ
child tree parent name = option_map (λ i. i + 1) (position (is_child parent name) tree)

-- the place at the end of these names, from a place on
abbrev pub find_below : List Place → ℕ → List (List ℕ) → Option ℕ
find_below tree at [] = Some at
find_below tree at (name ∷ names) = option_and_then (λ next. find_below tree next names) (child tree at name)

-- the place at the end of a path
abbrev pub find_place : List Place → List (List ℕ) → Option ℕ
find_place tree path = find_below tree 0 path

-- how many places a parent has right under it
abbrev pub children_count : List Place → ℕ → ℕ
children_count tree parent = count_by (λ (place : Place). place.parent == parent) tree

-- the children of a place, by number
abbrev pub children_of : List Place → ℕ → List ℕ
children_of tree parent = filter (λ p. option_map_or (λ q. q == parent) (parent_of tree p) false) (range_with_len 1 (length tree))

-- the names on the way to a place, where its ancestors are at most n
abbrev pub path_within : ℕ → List Place → ℕ → List (List ℕ)
path_within zero tree p = []
path_within (suc n) tree zero = []
path_within (suc n) tree (suc p) =
    option_map_or (λ (place : Place). path_within n tree place.parent ++ place.name ∷ []) (slice_get tree p) []

-- the path of a place
abbrev pub path_of : List Place → ℕ → List (List ℕ)
path_of tree p = path_within p tree p

-- the name of a place; the library has none
abbrev pub name_of : List Place → ℕ → Option (List ℕ)
name_of tree zero = None
name_of tree (suc n) = option_map (λ place. place.name) (slice_get tree n)

-- the names of a place's children, by number
abbrev pub names_under : List Place → ℕ → List (List ℕ)
names_under tree parent = filter_map (name_of tree) (children_of tree parent)

-- there is no room for one more place under the parent
abbrev pub is_full : List Place → ℕ → Bool
is_full tree parent = nat_le most_places (length tree + 1) || nat_le most_children (children_count tree parent)

-- The invariant of a tree.
pub record IsTree (tree : List Place) : Type 0 where
  -- the library is a place, too
  pub few : length tree < most_places
  -- a parent has a smaller number
  pub parents : (p parent : ℕ) → parent_of tree p ≡ Some parent → parent < p
  pub shallow : (p : ℕ) → depth tree p ≤ greatest_depth
  -- a parent is no part
  pub no_parts_above : (p parent : ℕ) → parent_of tree p ≡ Some parent → is_part tree parent ≡ false
  -- each kind stands at its depths
  pub kinds : (p : ℕ) → may_stand (kind_of tree p) (depth tree p) ≡ true
  -- siblings differ in name
  pub siblings : (i j : ℕ) (a b : Place) → slice_get tree i ≡ Some a → slice_get tree j ≡ Some b → a.parent ≡ b.parent → a.name ≡ b.name
      → i ≡ j
  pub narrow : (p : ℕ) → children_count tree p ≤ most_children
