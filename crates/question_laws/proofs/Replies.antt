-- No reply is longer than the table says.
use Rattle.std.specs.Prelude.{◌≡◌, ℕ, zero, suc, ◌+◌, ◌*◌, ◌^◌, ◌<◌, ◌≤◌, ◌==◌, not, Bool, true, false, List, [], ◌∷◌, ◌++◌, length, map, filter, take, find, codes, decimal, Option, None, Some, slice_get, slice_index_or, Result, Ok, Err, IfSome, ◌&&◌, All, refl}
use Rattle.std.proofs.lemmas.Bool.{cases_lt}
use Rattle.std.proofs.lemmas.List.{get_or_past}
use Rattle.std.specs.List.{cons_option, prefix_len, flat_map, AllByRecursion, filter_map}
use Rattle.std.specs.Option.{option_map, ok_or}
use Rattle.std.proofs.Common.{sym, subst, ap, ◌⊎◌, inl, inr, cond, arith}
use Rattle.std.proofs.lemmas.Fmt.{length-decimal-le}
use Rattle.std.proofs.lemmas.List.Elements.{All-nil, All-cons, All-head, All-tail, All-weaker, All-filter}
use Rattle.vault_state.specs.Name.{IsName}
use Rattle.vault_state.specs.Path.{path_text}
use Rattle.vault_state.specs.Tree.{is_under, children_of, name_of, names_under, path_of}
use Rattle.vault_state.specs.Shelf.{Draft, versions_of, numbered}
use Rattle.vault_state.specs.Drafts.{SavedDraft, drafts_of, content_at}
use Rattle.vault_state.specs.Claims.{same_id, claim_of, before, blocker, standing_by, meet, standing_of, standing_behind, is_held, covering, in_way_of, look_set, claims_at, overlap}
use Rattle.vault_state.specs.Vault.{Vault, IsVault, IsClaim, IsDraft, IsNoteOf, session_of}
use Rattle.vault_state.specs.declared.place.Place.{Place}
use Rattle.vault_state.specs.declared.session.Session.{Session}
use Rattle.vault_state.specs.declared.claims.Item.{Item}
use Rattle.vault_state.specs.declared.claims.Claim.{Claim}
use Rattle.vault_state.specs.declared.claims.PathItem.{PathItem}
use Rattle.vault_state.specs.declared.claims.Owner.{Owner}
use Rattle.vault_state.specs.declared.claims.Owner.TheVariants as owners
use Rattle.vault_state.specs.declared.claims.Standing.{Standing}
use Rattle.vault_state.specs.declared.claims.Standing.TheVariants as standings
use Rattle.vault_state.specs.declared.ids.ClaimId.{ClaimId}
use Rattle.vault_state.specs.declared.ids.ClaimId.TheVariants.{Long, Short}
use Rattle.vault_state.proofs.Stays.{own_id, claim_there}
use Rattle.vault_state.proofs.Shelves.{few_at}
use Rattle.design_tree.proofs.Children.{length-children_of}
use Rattle.vault_model.specs.Said.{Command}
use Rattle.vault_model.specs.declared.commands.Command.TheVariants as commands
use Rattle.vault_model.specs.declared.replies.Reply.TheVariants as replies
use Rattle.vault_model.specs.declared.replies.Refusal.{Refusal}
use Rattle.vault_model.specs.declared.replies.Refusal.TheVariants.{NoSession, Joined, NoPlace, Exists, WrongKind, Covered, NoClaim, NotYours, NotHeld, Overlaps, NotCovered, ItemCount, NoVersion, Limit}
use Rattle.vault_model.specs.declared.replies.Refusal.TheVariants as refusals
use Rattle.vault_model.specs.Step.{Outcome, chained, refuse_if, refuse_by, ◌>>=◌, is_owned_by, owned, usable, permitted, admitted, join, make, nest, asked, check_out, extend, save, check_in, fetch, count, abandon, give, note, read_note, hold, release, state, list, designer_of, at_path, show, claims, drafts, draft, joining, at_door, in_session, decide, outcome_of, step}
use Rattle.vault_lines.specs.Texts.{newline, claim_text, refusal_text, content_text, item_text, standing_text, shown_text, children_text, claims_text, drafts_text, reply_text}
use Rattle.question_laws.proofs.Lines.{some_of}
use Rattle.question_laws.proofs.Near.{all_contains}
use Rattle.question_laws.proofs.Versions.{found_in}
use Rattle.question_laws.proofs.Lengths.{joined, same, in_row, claim_short, content_short, name_short, way_short, path_short, get_at}
use Rattle.question_laws.specs.Longest.{IsNamedOwner, IsNamed, longest_reply, RepliesAreShort}

-- what a command comes to has a text of at most k bytes
abbrev Fits : ℕ → Result Outcome Refusal → Type 0
Fits k (Ok outcome) = length (reply_text outcome.reply) ≤ k
Fits k (Err refusal) = length (refusal_text refusal ++ newline) ≤ k

-- the same of a line of its definition, where it refuses
abbrev Refuses : ℕ → {X : Type 0} → Result X Refusal → Type 0
Refuses k (Ok x) = Unit {0}
Refuses k (Err refusal) = length (refusal_text refusal ++ newline) ≤ k

follows : (k : ℕ) {X : Type 0} (r : Result X Refusal) (f : X → Result Outcome Refusal) → Refuses k r → ((x : X) → r ≡ Ok x → Fits k (f x)) → Fits k (r >>= f)
unfolding chained
follows k (Ok x) f refuses next = next x refl
follows k (Err e) f refuses next = refuses

-- the refusals that name no claim
abbrev IsPlain : Refusal → Type 0
IsPlain (refusals.Covered id) = ⊥
IsPlain (refusals.Overlaps id) = ⊥
IsPlain e = Unit {0}

plain : (k : ℕ) → 7 ≤ k → (e : Refusal) → IsPlain e → length (refusal_text e ++ newline) ≤ k
plain k h refusals.NoSession is = h
plain k h refusals.Joined is = h
plain k h refusals.NoPlace is = h
plain k h refusals.Exists is = h
plain k h refusals.WrongKind is = h
plain k h (refusals.Covered id) is = absurd is
plain k h refusals.NoClaim is = h
plain k h refusals.NotYours is = h
plain k h refusals.NotHeld is = h
plain k h (refusals.Overlaps id) is = absurd is
plain k h refusals.NotCovered is = h
plain k h refusals.ItemCount is = h
plain k h refusals.NoVersion is = h
plain k h refusals.Limit is = h

found : (k : ℕ) → 7 ≤ k → {X : Type 0} (o : Option X) (e : Refusal) → IsPlain e → Refuses k (ok_or o e)
found k h None e is = plain k h e is
found k h (Some x) e is = tt

tested : (k : ℕ) → 7 ≤ k → (b : Bool) (e : Refusal) → IsPlain e → Refuses k (refuse_if b e)
tested k h true e is = plain k h e is
tested k h false e is = tt

through : (k : ℕ) {X Y : Type 0} (r : Result X Refusal) (f : X → Result Y Refusal) → Refuses k r → ((x : X) → r ≡ Ok x → Refuses k (f x)) → Refuses k (r >>= f)
unfolding chained
through k (Ok x) f refuses next = next x refl
through k (Err e) f refuses next = refuses

-- the claims of the line have short texts
abbrev IsShort : ClaimId → Type 0
IsShort id = length (claim_text id) ≤ 11

by_claim : (k : ℕ) → 19 ≤ k → (r : ClaimId → Refusal) → ((id : ClaimId) → refusal_text (r id) ≡ refusal_text (Covered id)) ⊎ ((id : ClaimId) → refusal_text (r id) ≡ refusal_text (Overlaps id)) → (o : Option ClaimId) → IfSome o IsShort → Refuses k (refuse_by o r)
by_claim k h r which None short = tt
by_claim k h r (inl is) (Some id) short = subst (λ t. length (t ++ newline) ≤ k) (sym (is id)) (fit (codes "ERR 23 ") (same 7))
  where
    fit : (c : List ℕ) → length c ≤ 7 → length ((c ++ claim_text id) ++ newline) ≤ k
    fit c seven = omega (arith, joined (c ++ claim_text id) newline 18 1 (joined c (claim_text id) 7 11 seven short) (same 1), h)
by_claim k h r (inr is) (Some id) short = subst (λ t. length (t ++ newline) ≤ k) (sym (is id)) (fit (codes "ERR 33 ") (same 7))
  where
    fit : (c : List ℕ) → length c ≤ 7 → length ((c ++ claim_text id) ++ newline) ≤ k
    fit c seven = omega (arith, joined (c ++ claim_text id) newline 18 1 (joined c (claim_text id) 7 11 seven short) (same 1), h)

-- an element that is found is one of those that were looked at
of_found : {X : Type 0} (P : X → Type 0) (test : X → Bool) (xs : List X) → All P xs → (x : X) → find test xs ≡ Some x → P x
of_found P test xs all x e = all_contains P xs x all (found_in test xs x e).0

taken_all : {X : Type 0} (P : X → Type 0) (n : ℕ) (xs : List X) → All P xs → All P (take n xs)
taken_all P zero xs all = All-nil P
taken_all P (suc n) [] all = All-nil P
taken_all P (suc n) (x ∷ xs) all = All-cons P x (take n xs) (All-head P x xs all) (taken_all P n xs (All-tail P x xs all))

IsShortStanding : Standing → Type 0
IsShortStanding standings.Held = Unit {0}
IsShortStanding (standings.Queued id) = IsShort id

abbrev AllShort : List Claim → Type 0
AllShort line = All (λ (c : Claim). IsShort c.id) line

found_short : (test : Claim → Bool) (line : List Claim) → AllShort line → IfSome (option_map (λ (c : Claim). c.id) (find test line)) IsShort
found_short test line all = by_found (find test line) refl
  where
    by_found : (o : Option Claim) → find test line ≡ o → IfSome (option_map (λ (c : Claim). c.id) o) IsShort
    by_found None e = tt
    by_found (Some c) e = of_found (λ (d : Claim). IsShort d.id) test line all c e

stands_short : (tree : List Place) (line : List Claim) (items : List Item) → AllShort line → IsShortStanding (standing_behind tree line items)
unfolding IsShortStanding
stands_short tree line items all = by_blocker (blocker tree line items) (found_short (λ d. overlap tree items d.items) line all)
  where
    by_blocker : (o : Option ClaimId) → IfSome o IsShort → IsShortStanding (standing_by o)
    by_blocker None short = tt
    by_blocker (Some id) short = short

asked_fits : (id : ClaimId) (standing : Standing) → IsShort id → IsShortStanding standing → length (reply_text (asked id standing)) ≤ 41
unfolding IsShortStanding
asked_fits id standings.Held short none = held (codes "OK held ") (same 8)
  where
    held : (c : List ℕ) → length c ≤ 8 → length ((c ++ claim_text id) ++ newline) ≤ 41
    held c eight = omega (arith, joined (c ++ claim_text id) newline 19 1 (joined c (claim_text id) 8 11 eight short) (same 1))
asked_fits id (standings.Queued other) short behind =
    joined (codes "OK queued " ++ claim_text id) (codes " behind " ++ claim_text other ++ newline) 21 20
    (joined (codes "OK queued ") (claim_text id) 10 11 (same 10) short)
    (joined (codes " behind " ++ claim_text other) newline 19 1 (joined (codes " behind ") (claim_text other) 8 11 (same 8) behind) (same 1))

number_fits : (c : List ℕ) (k n digits : ℕ) → length c ≤ k → 0 < digits → n < 10 ^ digits → n < 2 ^ 64 → length ((c ++ decimal n) ++ newline) ≤ k + digits + 1
number_fits c k n digits short some low fits =
    joined (c ++ decimal n) newline (k + digits) 1 (joined c (decimal n) k digits short (length-decimal-le digits n some low fits)) (same 1)

filter_less : {X : Type 0} (test : X → Bool) (xs : List X) → length (filter test xs) ≤ length xs
filter_less test [] = omega arith
filter_less test (x ∷ xs) = by_test (test x) (filter_less test xs)
  where
    by_test : (b : Bool) → length (filter test xs) ≤ length xs → length (cond b (x ∷ filter test xs) (filter test xs)) ≤ length (x ∷ xs)
    by_test true rest = omega (arith, rest)
    by_test false rest = omega (arith, rest)

map_length : {X Y : Type 0} (f : X → Y) (xs : List X) → length (map f xs) ≡ length xs
map_length f [] = refl
map_length f (x ∷ xs) = ap suc (map_length f xs)

by_each : {X : Type 0} (P : X → Type 0) (xs : List X) → All P xs → AllByRecursion P xs
by_each P [] all = tt
by_each P (x ∷ xs) all = (All-head P x xs all, by_each P xs (All-tail P x xs all))

-- texts in a row, each after a space
spaced : {X : Type 0} (f : X → List ℕ) (m : ℕ) (xs : List X) → AllByRecursion (λ x. length (f x) ≤ m) xs → length (flat_map (λ x. 32 ∷ f x) xs) ≤ length xs * (m + 1)
spaced {X} f m xs each = in_row (λ x. 32 ∷ f x) (m + 1) xs (one_more xs each)
  where
    one_more : (ys : List X) → AllByRecursion (λ x. length (f x) ≤ m) ys → AllByRecursion (λ x. length (32 ∷ f x) ≤ m + 1) ys
    one_more [] h = tt
    one_more (y ∷ ys) h = (omega (arith, h.0), one_more ys h.1)

named_less : {X Y : Type 0} (f : X → Option Y) (xs : List X) → length (filter_map f xs) ≤ length xs
named_less f [] = omega arith
named_less {X} {Y} f (x ∷ xs) = by_option (f x) (named_less f xs)
  where
    by_option : (o : Option Y) → length (filter_map f xs) ≤ length xs → length (cons_option o (filter_map f xs)) ≤ length (x ∷ xs)
    by_option None rest = omega (arith, rest)
    by_option (Some y) rest = omega (arith, rest)

named_each : {X Y : Type 0} (P : Y → Type 0) (f : X → Option Y) (xs : List X) → ((x : X) → IfSome (f x) P) → AllByRecursion P (filter_map f xs)
named_each P f [] each = tt
named_each {X} {Y} P f (x ∷ xs) each = by_option (f x) (each x) (named_each P f xs each)
  where
    by_option : (o : Option Y) → IfSome o P → AllByRecursion P (filter_map f xs) → AllByRecursion P (cons_option o (filter_map f xs))
    by_option None h rest = rest
    by_option (Some y) h rest = (h, rest)

list_fits : (c : List ℕ) (k digits count : ℕ) (n : ℕ) (row : List ℕ) → length c ≤ k → 0 < digits → n < 10 ^ digits → n < 2 ^ 64 → length row ≤ count
    → length (((c ++ decimal n) ++ row) ++ newline) ≤ k + digits + count + 1
list_fits c k digits count n row short some low fits few =
    joined ((c ++ decimal n) ++ row) newline (k + digits + count) 1
    (joined (c ++ decimal n) row (k + digits) count (joined c (decimal n) k digits short (length-decimal-le digits n some low fits)) few) (same 1)

module _ (v : Vault) (kept : IsVault v) (named : IsNamed v) where
  short_line : AllShort v.line
  short_line = All-weaker (IsClaim v.tree v.sessions v.last_long v.last_short) (λ (c : Claim). IsShort c.id)
      (λ c h. claim_short v.last_long v.last_short c.id h.given kept.numbers.long kept.numbers.short) v.line kept.claims

  -- the id of a claim that is found
  short_id : (id : ClaimId) (c : Claim) → claim_of v.line id ≡ Some c → IsShort id
  short_id id c e = subst IsShort (own_id v.line id c e) (claim_there (λ (d : Claim). IsShort d.id) v.line id short_line c e)

  standing_found : (id : ClaimId) (standing : Standing) → standing_of v.tree v.line id ≡ Some standing → IsShort id × IsShortStanding standing
  standing_found id standing e = by_found (claim_of v.line id) refl e
    where
      by_found : (o : Option Claim) → claim_of v.line id ≡ o → option_map (λ (c : Claim). standing_behind v.tree (before v.line id) c.items) o ≡ Some standing → IsShort id × IsShortStanding standing
      by_found None found h = cc
      by_found (Some c) found h =
          let is : standing_behind v.tree (before v.line id) c.items ≡ standing = cc in
          (short_id id c found, subst IsShortStanding is (stands_short v.tree (before v.line id) c.items (taken_all (λ (d : Claim). IsShort d.id) (prefix_len (λ (d : Claim). not (same_id d.id id)) v.line) v.line short_line)))

  owns : (k : ℕ) → 7 ≤ k → (session : Session) (id : ClaimId) → Refuses k (owned v session id)
  unfolding owned
  owns k h session id = through k _ _ (found k h _ NoClaim tt) (λ claim _. through k _ _ (tested k h _ NotYours tt) (λ _ _. tt))

  uses : (k : ℕ) → 7 ≤ k → (session : Session) (id : ClaimId) → Refuses k (usable v session id)
  unfolding usable
  uses k h session id = through k _ _ (found k h _ NoClaim tt) (λ claim _. through k _ _ (tested k h _ NotYours tt) (λ _ _. through k _ _ (tested k h _ NotHeld tt) (λ _ _. tt)))

  covered : (parent : ℕ) → IfSome (covering v.tree v.line parent) IsShort
  covered parent = found_short (λ (c : Claim). is_held v.tree v.line c && look_set v.tree c.items parent) v.line short_line

  in_way : (id : ClaimId) (items : List Item) → IfSome (in_way_of v.tree v.line id items) IsShort
  in_way id items = found_short (λ (d : Claim). overlap v.tree items d.items) (filter (λ (c : Claim). not (same_id c.id id) && is_held v.tree v.line c) v.line)
      (All-filter (λ (c : Claim). not (same_id c.id id) && is_held v.tree v.line c) (λ (c : Claim). IsShort c.id) v.line short_line)

  permits : (session : Session) (parent : ℕ) (claim : Option ℕ) → Refuses 19 (permitted v session parent claim)
  unfolding permitted
  permits session parent None = by_claim 19 (same 19) Covered (inl (λ id. refl)) (covering v.tree v.line parent) (covered parent)
  permits session parent (Some number) = through 19 _ _ (uses 19 (omega arith) session (Long number)) (λ claim _. tested 19 (omega arith) _ NotCovered tt)

  admits : (session : Session) (parent : ℕ) (name : List ℕ) (claim : Option ℕ) → Refuses 19 (admitted v session parent name claim)
  unfolding admitted
  admits session parent name claim =
      through 19 _ _ (tested 19 (omega arith) _ Exists tt) (λ _ _. through 19 _ _ (permits session parent claim) (λ _ _. tested 19 (omega arith) _ Limit tt))

  place_fits : length (reply_text (replies.Place (length v.tree + 1))) ≤ 19
  place_fits = let few = kept.tree.few in
      omega (arith, number_fits (codes "OK place ") 9 (length v.tree + 1) 4 (same 9) (omega arith) (omega (arith, few)) (omega (arith, few)))

  joins : (name : List ℕ) → Fits 22 (join v name)
  unfolding join
  joins name = let last = kept.numbers.session in follows 22 _ _ (tested 22 (omega arith) _ Limit tt) (λ _ _.
      number_fits (codes "OK session ") 11 (v.last_session + 1) 10 (same 11) (omega arith) (omega (arith, last)) (omega (arith, last)))

  new_long_short : IsShort (Long (v.last_long + 1))
  new_long_short = let last = kept.numbers.long in
      joined (codes "c") (decimal (v.last_long + 1)) 1 10 (same 1) (length-decimal-le 10 (v.last_long + 1) (omega arith) (omega (arith, last)) (omega (arith, last)))

  new_short_short : IsShort (Short (v.last_short + 1))
  new_short_short = let last = kept.numbers.short in
      joined (codes "h") (decimal (v.last_short + 1)) 1 10 (same 1) (length-decimal-le 10 (v.last_short + 1) (omega arith) (omega (arith, last)) (omega (arith, last)))

  stands : (id : ClaimId) → Fits 41 (state v id)
  unfolding state
  stands id = follows 41 _ _ (found 41 (omega arith) _ NoClaim tt) (λ standing e.
      let short = standing_found id standing (some_of _ _ standing e) in asked_fits id standing short.0 short.1)

  names_fit : (place : ℕ) → length (children_text (names_under v.tree place)) ≤ 2123
  names_fit place =
      let count : length (names_under v.tree place) ≤ 64 = omega (arith, named_less (name_of v.tree) (children_of v.tree place), length-children_of v.tree place, kept.tree.narrow place) in
      let row : length (flat_map (λ name. 32 ∷ name) (names_under v.tree place)) ≤ length (names_under v.tree place) * 33 =
      spaced (λ name. name) 32 (names_under v.tree place) (named_each (λ name. length name ≤ 32) (name_of v.tree) (children_of v.tree place) each) in
      list_fits (codes "OK list ") 8 2 2112 (length (names_under v.tree place)) (flat_map (λ name. 32 ∷ name) (names_under v.tree place)) (same 8) (omega arith) (omega (arith, count)) (omega (arith, count)) (omega (arith, row, count))
    where
      each : (p : ℕ) → IfSome (name_of v.tree p) (λ name. length name ≤ 32)
      each zero = tt
      each (suc p) = by_place (slice_get v.tree p) refl
        where
          by_place : (o : Option Place) → slice_get v.tree p ≡ o → IfSome (option_map (λ (x : Place). x.name) o) (λ name. length name ≤ 32)
          by_place None e = tt
          by_place (Some x) e = let at = get_at v.tree p x e in name_short x.name (subst (λ (y : Place). IsName y.name) at.1 (named.places p x at.0))

  content_fits : (content : List ℕ) → length content ≤ 1024 → length (reply_text (replies.Content content)) ≤ 2060
  content_fits content short =
      joined (codes "OK content " ++ content_text content) newline 2059 1 (joined (codes "OK content ") (content_text content) 11 2048 (same 11) (content_short 1024 content (omega arith) short)) (same 1)

  version_short : (place version : ℕ) (content : List ℕ) → numbered (versions_of v.shelf place) version ≡ Some content → length content ≤ 1024
  version_short place zero content e = cc
  version_short place (suc n) content e =
      let at = get_at (versions_of v.shelf place) n content e in by_place (cases_lt place (length v.shelf))
    where
      at : (n < length (versions_of v.shelf place)) × (slice_index_or (versions_of v.shelf place) n content ≡ content)
      at = get_at (versions_of v.shelf place) n content e

      by_place : (place < length v.shelf) ⊎ (length v.shelf ≤ place) → length content ≤ 1024
      by_place (inl inside) = subst (λ c. length c ≤ 1024) at.1 (kept.versions.shelf_is.short place [] inside n content at.0)
      by_place (inr past) = let none = ap length (get_or_past v.shelf place [] past) in absurd (omega (arith, none, at.0))

  fetches : (path : List (List ℕ)) (version : ℕ) → Fits 2060 (fetch v path version)
  unfolding fetch
  fetches path version = follows 2060 _ _ (found 2060 (omega arith) _ NoPlace tt) (λ place _. follows 2060 _ _ (tested 2060 (omega arith) _ WrongKind tt) (λ _ _.
      follows 2060 _ _ (found 2060 (omega arith) _ NoVersion tt) (λ content e. content_fits content (version_short place version content (some_of _ _ content e)))))

  counts : (path : List (List ℕ)) → Fits 18 (count v path)
  unfolding count
  counts path = follows 18 _ _ (found 18 (omega arith) _ NoPlace tt) (λ place _. follows 18 _ _ (tested 18 (omega arith) _ WrongKind tt) (λ _ _.
      let few = few_at v.shelf place kept.versions.shelf_is.few in
      number_fits (codes "OK versions ") 12 (length (versions_of v.shelf place)) 5 (same 12) (omega arith) (omega (arith, few)) (omega (arith, few))))

  checks_in : (session : Session) (number : ℕ) → Fits 17 (check_in v session number)
  unfolding check_in
  checks_in session number = follows 17 _ _ (uses 17 (omega arith) session (Long number)) (λ _ _. follows 17 _ _ (tested 17 (omega arith) _ Limit tt) (λ _ _.
      let few = kept.drafts.few number in
      number_fits (codes "OK checked in ") 14 (length (drafts_of v.drafts number)) 2 (same 14) (omega arith) (omega (arith, few)) (omega (arith, few))))

  makes : (session : Session) (path : List (List ℕ)) (claim : Option ℕ) → Fits 19 (make v session path claim)
  unfolding make
  makes session path claim = follows 19 _ _ (found 19 (omega arith) _ Exists tt) (λ name _. follows 19 _ _ (found 19 (omega arith) _ NoPlace tt) (λ parent _.
      follows 19 _ _ (tested 19 (omega arith) _ WrongKind tt) (λ _ _. follows 19 _ _ (admits session parent name claim) (λ _ _. place_fits))))

  nests : (session : Session) (path : List (List ℕ)) (claim : Option ℕ) → Fits 19 (nest v session path claim)
  unfolding nest
  nests session path claim = follows 19 _ _ (found 19 (omega arith) _ Exists tt) (λ name _. follows 19 _ _ (found 19 (omega arith) _ NoPlace tt) (λ parent _.
      follows 19 _ _ (tested 19 (omega arith) _ WrongKind tt) (λ _ _. follows 19 _ _ (admits session parent name claim) (λ _ _. place_fits))))

  checks_out : (designer : List ℕ) (wanted : List PathItem) → Fits 41 (check_out v designer wanted)
  unfolding check_out
  checks_out designer wanted = follows 41 _ _ (tested 41 (omega arith) _ ItemCount tt) (λ _ _. follows 41 _ _ (found 41 (omega arith) _ NoPlace tt) (λ items _.
      follows 41 _ _ (tested 41 (omega arith) _ Limit tt) (λ _ _. asked_fits (Long (v.last_long + 1)) (standing_behind v.tree v.line items) new_long_short (stands_short v.tree v.line items short_line))))

  holds : (session : Session) (wanted : List PathItem) → Fits 41 (hold v session wanted)
  unfolding hold
  holds session wanted = follows 41 _ _ (tested 41 (omega arith) _ ItemCount tt) (λ _ _. follows 41 _ _ (found 41 (omega arith) _ NoPlace tt) (λ items _.
      follows 41 _ _ (tested 41 (omega arith) _ Limit tt) (λ _ _. asked_fits (Short (v.last_short + 1)) (standing_behind v.tree v.line items) new_short_short (stands_short v.tree v.line items short_line))))

  used_id : (session : Session) (id : ClaimId) (claim : Claim) → usable v session id ≡ Ok claim → IsShort id
  unfolding usable chained
  used_id session id claim e = by_found (claim_of v.line id) refl e
    where
      by_found : (o : Option Claim) → claim_of v.line id ≡ o → (ok_or o NoClaim >>= λ c. refuse_if (not (is_owned_by session c.owner)) NotYours >>= λ _. refuse_if (not (is_held v.tree v.line c)) NotHeld >>= λ _. Ok c) ≡ Ok claim → IsShort id
      by_found None f h = cc
      by_found (Some c) f h = short_id id c f

  extends : (session : Session) (id : ClaimId) (wanted : List PathItem) → Fits 20 (extend v session id wanted)
  unfolding extend
  extends session id wanted = follows 20 _ _ (uses 20 (omega arith) session id) (λ claim e. follows 20 _ _ (tested 20 (omega arith) _ ItemCount tt) (λ _ _.
      follows 20 _ _ (found 20 (omega arith) _ NoPlace tt) (λ items _. follows 20 _ _ (by_claim 20 (omega arith) Overlaps (inr (λ i. refl)) _ (in_way id (claim.items ++ items))) (λ _ _.
      joined (codes "OK held " ++ claim_text id) newline 19 1 (joined (codes "OK held ") (claim_text id) 8 11 (same 8) (used_id session id claim e)) (same 1)))))

  saves : (session : Session) (number : ℕ) (path : List (List ℕ)) (content : List ℕ) → Fits 9 (save v session number path content)
  unfolding save
  saves session number path content = follows 9 _ _ (uses 9 (omega arith) session (Long number)) (λ _ _. follows 9 _ _ (found 9 (omega arith) _ NoPlace tt) (λ _ _.
      follows 9 _ _ (tested 9 (omega arith) _ WrongKind tt) (λ _ _. follows 9 _ _ (tested 9 (omega arith) _ NotCovered tt) (λ _ _. follows 9 _ _ (tested 9 (omega arith) _ Limit tt) (λ _ _. same 9)))))

  abandons : (designer : List ℕ) (number : ℕ) → Fits 13 (abandon v designer number)
  unfolding abandon
  abandons designer number = follows 13 _ _ (found 13 (omega arith) _ NoClaim tt) (λ _ _. follows 13 _ _ (tested 13 (omega arith) _ NotYours tt) (λ _ _. same 13))

  gives : (session : Session) (number : ℕ) (designer : List ℕ) → Fits 9 (give v session number designer)
  unfolding give
  gives session number designer = follows 9 _ _ (owns 9 (omega arith) session (Long number)) (λ _ _. same 9)

  notes : (session : Session) (number : ℕ) (text : List ℕ) → Fits 9 (note v session number text)
  unfolding note
  notes session number text = follows 9 _ _ (owns 9 (omega arith) session (Long number)) (λ _ _. follows 9 _ _ (tested 9 (omega arith) _ Limit tt) (λ _ _. same 9))

  note_short : (id : ClaimId) (text : List ℕ) → IsNoteOf id text → length text ≤ 64
  note_short (Long n) text is = is
  note_short (Short n) text is = omega (arith, ap length is)

  reads_note : (number : ℕ) → Fits 137 (read_note v number)
  unfolding read_note
  reads_note number = follows 137 _ _ (found 137 (omega arith) _ NoClaim tt) (λ claim e.
      let is = claim_there (IsClaim v.tree v.sessions v.last_long v.last_short) v.line (Long number) kept.claims claim (some_of _ _ claim e) in
      joined (codes "OK note " ++ content_text claim.note) newline 136 1
      (joined (codes "OK note ") (content_text claim.note) 8 128 (same 8) (content_short 64 claim.note (omega arith) (note_short claim.id claim.note is.noted))) (same 1))

  releases : (session : Session) (number : ℕ) → Fits 12 (release v session number)
  unfolding release
  releases session number = follows 12 _ _ (found 12 (omega arith) _ NoClaim tt) (λ _ _. follows 12 _ _ (tested 12 (omega arith) _ NotYours tt) (λ _ _. same 12))

  lists : (path : List (List ℕ)) → Fits 2123 (list v path)
  unfolding list
  lists path = follows 2123 _ _ (found 2123 (omega arith) _ NoPlace tt) (λ place _. names_fit place)

  lists_claims : (path : List (List ℕ)) → Fits 3086 (claims v path)
  unfolding claims
  lists_claims path = follows 3086 _ _ (found 3086 (omega arith) _ NoPlace tt) (λ place _. claims_fit place)
    where
      claims_fit : (place : ℕ) → length (claims_text (claims_at v.tree v.line place)) ≤ 3086
      claims_fit place = near (λ (c : Claim). meet v.tree (look_set v.tree c.items) (λ q. is_under v.tree q place))
        where
          mapped : (cs : List Claim) → AllShort cs → AllByRecursion (λ id. length (claim_text id) ≤ 11) (map (λ (c : Claim). c.id) cs)
          mapped [] all = tt
          mapped (c ∷ cs) all = (All-head (λ (d : Claim). IsShort d.id) c cs all, mapped cs (All-tail (λ (d : Claim). IsShort d.id) c cs all))

          near : (test : Claim → Bool) → length (claims_text (map (λ (c : Claim). c.id) (filter test v.line))) ≤ 3086
          near test =
              let ids : List ClaimId = map (λ (c : Claim). c.id) (filter test v.line) in
              let count : length ids ≤ 256 = omega (arith, map_length (λ (c : Claim). c.id) (filter test v.line), filter_less test v.line, kept.few_claims) in
              let row : length (flat_map (λ id. 32 ∷ claim_text id) ids) ≤ length ids * 12 =
              spaced claim_text 11 ids (mapped (filter test v.line) (All-filter test (λ (c : Claim). IsShort c.id) v.line short_line)) in
              list_fits (codes "OK claims ") 10 3 3072 (length ids) (flat_map (λ id. 32 ∷ claim_text id) ids) (same 10) (omega arith) (omega (arith, count)) (omega (arith, count)) (omega (arith, row, count))

  path_fits : (p : ℕ) → length (path_text (path_of v.tree p)) ≤ 231
  path_fits p = let way = way_short v.tree kept.tree.parents named.places p in
      path_short (path_of v.tree p) way.0 (omega (arith, way.1, kept.tree.shallow p))

  lists_drafts : (session : Session) (number : ℕ) → Fits 14861 (drafts v session number)
  unfolding drafts
  lists_drafts session number = follows 14861 _ _ (owns 14861 (omega arith) session (Long number)) (λ _ _. drafts_fit (drafts_of v.drafts number) (kept.drafts.few number))
    where
      mapped : (ds : List Draft) → AllByRecursion (λ path. length (path_text path) ≤ 231) (map (λ (x : Draft). path_of v.tree x.place) ds)
      mapped [] = tt
      mapped (d ∷ ds) = (path_fits d.place, mapped ds)

      drafts_fit : (ds : List Draft) → length ds ≤ 64 → length (drafts_text (map (λ (x : Draft). path_of v.tree x.place) ds)) ≤ 14861
      drafts_fit ds few =
          let paths : List (List (List ℕ)) = map (λ (x : Draft). path_of v.tree x.place) ds in
          let count : length paths ≤ 64 = omega (arith, map_length (λ (x : Draft). path_of v.tree x.place) ds, few) in
          let row : length (flat_map (λ path. 32 ∷ path_text path) paths) ≤ length paths * 232 = spaced path_text 231 paths (mapped ds) in
          list_fits (codes "OK drafts ") 10 2 14848 (length paths) (flat_map (λ path. 32 ∷ path_text path) paths) (same 10) (omega arith) (omega (arith, count)) (omega (arith, count)) (omega (arith, row, count))

  reads_draft : (session : Session) (number : ℕ) (path : List (List ℕ)) → Fits 2060 (draft v session number path)
  unfolding draft
  reads_draft session number path = follows 2060 _ _ (owns 2060 (omega arith) session (Long number)) (λ _ _. follows 2060 _ _ (found 2060 (omega arith) _ NoPlace tt) (λ place _.
      follows 2060 _ _ (tested 2060 (omega arith) _ WrongKind tt) (λ _ _. follows 2060 _ _ (found 2060 (omega arith) _ NoVersion tt) (λ content e.
      content_fits content (draft_short place content (some_of _ _ content e))))))
    where
      all_short : (xs : List SavedDraft) → All (IsDraft v.tree v.line) xs → All (λ (d : Draft). length d.content ≤ 1024) (drafts_of xs number)
      all_short [] all = All-nil (λ (d : Draft). length d.content ≤ 1024)
      all_short (x ∷ xs) all = by_test (x.claim == number) (all_short xs (All-tail (IsDraft v.tree v.line) x xs all))
        where
          by_test : (b : Bool) → All (λ (d : Draft). length d.content ≤ 1024) (drafts_of xs number)
              → All (λ (d : Draft). length d.content ≤ 1024) (map (λ (z : SavedDraft). z.draft) (cond b (x ∷ filter (λ (z : SavedDraft). z.claim == number) xs) (filter (λ (z : SavedDraft). z.claim == number) xs)))
          by_test true rest = All-cons (λ (d : Draft). length d.content ≤ 1024) x.draft (drafts_of xs number) ((All-head (IsDraft v.tree v.line) x xs all).short) rest
          by_test false rest = rest

      draft_short : (place : ℕ) (content : List ℕ) → content_at (drafts_of v.drafts number) place ≡ Some content → length content ≤ 1024
      draft_short place content e = by_found (find (λ (x : Draft). x.place == place) (drafts_of v.drafts number)) refl e
        where
          by_found : (o : Option Draft) → find (λ (x : Draft). x.place == place) (drafts_of v.drafts number) ≡ o → option_map (λ (x : Draft). x.content) o ≡ Some content → length content ≤ 1024
          by_found None f h = cc
          by_found (Some d) f h = let is : d.content ≡ content = cc in
              subst (λ c. length c ≤ 1024) is (of_found (λ (x : Draft). length x.content ≤ 1024) (λ (x : Draft). x.place == place) (drafts_of v.drafts number) (all_short v.drafts kept.drafts.each) d f)

  designer_short : (owner : Owner) (name : List ℕ) → IsNamedOwner owner → designer_of v.sessions owner ≡ Some name → length name ≤ 32
  designer_short (owners.Designer other) name is e = let same_name : other ≡ name = cc in name_short name (subst IsName same_name is)
  designer_short (owners.Session number) name is e = by_session (session_of v.sessions number) refl e
    where
      by_session : (o : Option Session) → session_of v.sessions number ≡ o → option_map (λ (s : Session). s.name) o ≡ Some name → length name ≤ 32
      by_session None f h = cc
      by_session (Some s) f h = let same_name : s.name ≡ name = cc in
          name_short name (subst IsName same_name (of_found (λ (t : Session). IsName t.name) (λ (t : Session). t.number == number) v.sessions named.sessions s f))

  standing_fits : (standing : Standing) → IsShortStanding standing → length (standing_text standing) ≤ 26
  unfolding IsShortStanding
  standing_fits standings.Held short = omega arith
  standing_fits (standings.Queued id) short = joined (codes " queued behind ") (claim_text id) 15 11 (same 15) short

  items_fit : (items : List Item) → length items ≤ 8 → length (flat_map (λ item. 32 ∷ item_text item) (map (at_path v.tree) items)) ≤ 1872
  items_fit items few =
      let row = spaced item_text 233 (map (at_path v.tree) items) (mapped items) in
      omega (arith, row, map_length (at_path v.tree) items, few)
    where
      mapped : (xs : List Item) → AllByRecursion (λ item. length (item_text item) ≤ 233) (map (at_path v.tree) xs)
      mapped [] = tt
      mapped (x ∷ xs) = (omega (arith, path_fits x.place), mapped xs)

  shows : (id : ClaimId) → Fits 1952 (show v id)
  unfolding show
  shows id = follows 1952 _ _ (found 1952 (omega arith) _ NoClaim tt) (λ claim ec. follows 1952 _ _ (found 1952 (omega arith) _ NoClaim tt) (λ standing es.
      follows 1952 _ _ (found 1952 (omega arith) _ NoClaim tt) (λ designer ed.
      let is = claim_there (IsClaim v.tree v.sessions v.last_long v.last_short) v.line id kept.claims claim (some_of _ _ claim ec) in
      let owner = claim_there (λ (c : Claim). IsNamedOwner c.owner) v.line id named.owners claim (some_of _ _ claim ec) in
      let short = standing_found id standing (some_of _ _ standing es) in
      text_fits designer standing (map (at_path v.tree) claim.items) short.0 (designer_short claim.owner designer owner (some_of _ _ designer ed)) (standing_fits standing short.1) (items_fit claim.items is.few))))
    where
      text_fits : (designer : List ℕ) (standing : Standing) (items : List PathItem) → IsShort id → length designer ≤ 32 → length (standing_text standing) ≤ 26 → length (flat_map (λ item. 32 ∷ item_text item) items) ≤ 1872
          → length (shown_text (record { id = id; designer = designer; standing = standing; items = items })) ≤ 1952
      text_fits designer standing items hi hd hs hr =
          let first = codes "OK claim " ++ claim_text id in
          let row = flat_map (λ item. 32 ∷ item_text item) items in
          joined (first ++ codes " " ++ designer ++ standing_text standing ++ row) newline 1951 1
          (joined (first ++ codes " " ++ designer ++ standing_text standing) row 79 1872
          (joined (first ++ codes " " ++ designer) (standing_text standing) 53 26
          (joined (first ++ codes " ") designer 21 32
          (joined first (codes " ") 20 1
          (joined (codes "OK claim ") (claim_text id) 9 11 (same 9) hi) (same 1)) hd) hs) hr) (same 1)

  each_fits : (session : Session) (command : Command) → Fits (longest_reply command) (in_session v session command)
  each_fits session (commands.Join name) = plain 22 (omega arith) Joined tt
  each_fits session (commands.Make path claim) = makes session path claim
  each_fits session (commands.Nest path claim) = nests session path claim
  each_fits session (commands.CheckOut items) = checks_out session.name items
  each_fits session (commands.Extend id items) = extends session id items
  each_fits session (commands.Save number path content) = saves session number path content
  each_fits session (commands.CheckIn number) = checks_in session number
  each_fits session (commands.Abandon number) = abandons session.name number
  each_fits session (commands.Hold items) = holds session items
  each_fits session (commands.Release number) = releases session number
  each_fits session (commands.State id) = stands id
  each_fits session (commands.List path) = lists path
  each_fits session (commands.Fetch path version) = fetches path version
  each_fits session (commands.Count path) = counts path
  each_fits session (commands.Give number designer) = gives session number designer
  each_fits session (commands.Note number text) = notes session number text
  each_fits session (commands.ReadNote number) = reads_note number
  each_fits session (commands.Show id) = shows id
  each_fits session (commands.Claims path) = lists_claims path
  each_fits session (commands.Drafts number) = lists_drafts session number
  each_fits session (commands.Draft number path) = reads_draft session number path
  each_fits session (commands.Await id) = stands id
  each_fits session commands.Leave = same 8

  -- no bound is below a plain refusal's text
  seven : (command : Command) → 7 ≤ longest_reply command
  seven (commands.Join name) = omega arith
  seven (commands.Make path claim) = omega arith
  seven (commands.Nest path claim) = omega arith
  seven (commands.CheckOut items) = omega arith
  seven (commands.Extend id items) = omega arith
  seven (commands.Save number path content) = omega arith
  seven (commands.CheckIn number) = omega arith
  seven (commands.Abandon number) = omega arith
  seven (commands.Hold items) = omega arith
  seven (commands.Release number) = omega arith
  seven (commands.State id) = omega arith
  seven (commands.List path) = omega arith
  seven (commands.Fetch path version) = omega arith
  seven (commands.Count path) = omega arith
  seven (commands.Give number designer) = omega arith
  seven (commands.Note number text) = omega arith
  seven (commands.ReadNote number) = omega arith
  seven (commands.Show id) = omega arith
  seven (commands.Claims path) = omega arith
  seven (commands.Drafts number) = omega arith
  seven (commands.Draft number path) = omega arith
  seven (commands.Await id) = omega arith
  seven commands.Leave = omega arith

  door_fits : (command : Command) → Fits (longest_reply command) (at_door v command)
  door_fits command = follows (longest_reply command) _ _ (found (longest_reply command) (seven command) _ NoSession tt) (λ name e. by_join command name (some_of _ _ name e))
    where
      by_join : (c : Command) (name : List ℕ) → joining c ≡ Some name → Fits (longest_reply c) (join v name)
      by_join (commands.Join other) name e = joins name
      by_join c name e = cc

  decided_fits : (n : ℕ) (command : Command) → Fits (longest_reply command) (decide v n command)
  unfolding decide
  decided_fits n command = by_door (n == 0)
    where
      by_door : (b : Bool) → Fits (longest_reply command) (cond b (at_door v command) (ok_or (session_of v.sessions n) NoSession >>= λ session. in_session v session command))
      by_door true = door_fits command
      by_door false = follows (longest_reply command) _ _ (found (longest_reply command) (seven command) _ NoSession tt) (λ session _. each_fits session command)

pub replies_are_short : RepliesAreShort
unfolding step
replies_are_short v n command kept named = by_decision (decide v n command) (decided_fits v kept named n command)
  where
    by_decision : (r : Result Outcome Refusal) → Fits (longest_reply command) r → length (reply_text (outcome_of n v r).reply) ≤ longest_reply command
    by_decision (Ok outcome) fits = fits
    by_decision (Err refusal) fits = fits
