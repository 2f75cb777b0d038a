-- What a crash leaves doesn't depend on marks.
use Rattle.std.proofs.Common.{◌≡◌, ℕ, zero, suc, ◌-◌, List, [], ◌∷◌, ◌++◌, map, take, drop, refl, sym, ap, subst, ◌∙◌}
use Rattle.std.specs.Prelude.{option_to_list}
use Rattle.vault_state.specs.Vault.{Vault}
use Rattle.group_commit.specs.declared.mark.Mark.{Mark}
use Rattle.group_commit.specs.declared.mark.Mark.TheVariants.{Forgotten as Gone}
use Rattle.group_commit.specs.declared.answers.Forgotten.{Forgotten}
use Rattle.group_commit.specs.declared.answers.Forgotten.TheVariants as answers
use Rattle.group_commit.specs.Calls.{IsForgotten}
use Rattle.group_commit.specs.Ticket.{TicketSeen}
use Rattle.group_commit.specs.Entries.{Entry, Kept, with_mark}
use Rattle.group_commit.specs.History.{Given, outcome_of, members, replay, effects}
use Rattle.group_commit.specs.View.{View, view_at}
use Rattle.group_commit.specs.Seen.{VaultSeen, effects_between}
use Rattle.vault_protocol.specs.Saying.{AreLost}

-- the entries, without marks
abbrev pub entries_of : List Kept → List Entry
entries_of kept = map (λ (one : Kept). one.entry) kept

pub same_marked : (mark : Mark) (kept : List Kept) (place : ℕ) → entries_of (with_mark mark kept place) ≡ entries_of kept
same_marked mark [] place = refl
same_marked mark (one ∷ rest) zero = refl
same_marked mark (one ∷ rest) (suc place) = ap (λ more. one.entry ∷ more) (same_marked mark rest place)

take_entries : (n : ℕ) (kept : List Kept) → entries_of (take n kept) ≡ take n (entries_of kept)
take_entries zero kept = refl
take_entries (suc n) [] = refl
take_entries (suc n) (one ∷ rest) = ap (λ more. one.entry ∷ more) (take_entries n rest)

drop_entries : (n : ℕ) (kept : List Kept) → entries_of (drop n kept) ≡ drop n (entries_of kept)
drop_entries zero kept = refl
drop_entries (suc n) [] = refl
drop_entries (suc n) (one ∷ rest) = drop_entries n rest

given_entries : (kept : List Kept) → members kept ≡ map Given (entries_of kept)
given_entries [] = refl
given_entries (one ∷ rest) = ap (λ more. Given one.entry ∷ more) (given_entries rest)

members_same : (kept other : List Kept) → entries_of kept ≡ entries_of other → members kept ≡ members other
members_same kept other e = given_entries kept ∙ ap (map Given) e ∙ sym (given_entries other)

effects_same : (v : Vault) (kept other : List Kept) → entries_of kept ≡ entries_of other → effects v kept ≡ effects v other
effects_same v [] [] e = refl
effects_same v [] (two ∷ more) e = cc e
effects_same v (one ∷ rest) [] e = cc e
effects_same v (one ∷ rest) (two ∷ more) e =
    let first : one.entry ≡ two.entry = cc e in
    let behind : entries_of rest ≡ entries_of more = cc e in
    ap (λ given. option_to_list (outcome_of v given).effect ++ effects (outcome_of v given).vault rest) first
    ∙ ap (λ list. option_to_list (outcome_of v two.entry).effect ++ list) (effects_same (outcome_of v two.entry).vault rest more behind)

taken_same : (n : ℕ) (kept other : List Kept) → entries_of kept ≡ entries_of other → entries_of (take n kept) ≡ entries_of (take n other)
taken_same n kept other e = take_entries n kept ∙ ap (take n) e ∙ sym (take_entries n other)

dropped_same : (n : ℕ) (kept other : List Kept) → entries_of kept ≡ entries_of other → entries_of (drop n kept) ≡ entries_of (drop n other)
dropped_same n kept other e = drop_entries n kept ∙ ap (drop n) e ∙ sym (drop_entries n other)

-- the vault after the first entries
pub view_at_same : (v : View) (kept : List Kept) (n : ℕ) → entries_of kept ≡ entries_of v.kept → view_at (record v { kept = kept }) n ≡ view_at v n
view_at_same v kept n e = ap (replay v.base) (members_same (take (n - v.retired) kept) (take (n - v.retired) v.kept) (taken_same (n - v.retired) kept v.kept e))

-- the effects of entries
pub effects_between_same : (v : View) (kept : List Kept) (from to : ℕ) → entries_of kept ≡ entries_of v.kept
    → effects_between (record v { kept = kept }) from to ≡ effects_between v from to
effects_between_same v kept from to e =
    ap (λ at. effects at (take (to - from) (drop (from - v.retired) kept))) (view_at_same v kept from e)
    ∙ effects_same (view_at v from) (take (to - from) (drop (from - v.retired) kept)) (take (to - from) (drop (from - v.retired) v.kept))
    (taken_same (to - from) (drop (from - v.retired) kept) (drop (from - v.retired) v.kept) (dropped_same (from - v.retired) kept v.kept e))

pub lost_none : {D : Type 0} (seen : VaultSeen D) → AreLost seen seen
lost_none seen = record { store = refl; view = refl; entries = refl }

-- one more ticket was given up
pub lost_more : {D : Type 0} (old seen next : VaultSeen D) (claim : TicketSeen) (answer : Forgotten) → AreLost old seen → IsForgotten seen next claim answer → AreLost old next
lost_more old seen next claim answers.Here h f = subst (AreLost old) (sym f.1) (record {
  store = h.store;
  view = ap (λ (v : View). record v { kept = with_mark Gone seen.view.kept (claim.position - seen.view.retired) }) h.view;
  entries = same_marked Gone seen.view.kept (claim.position - seen.view.retired) ∙ h.entries;
})
lost_more old seen next claim answers.Stranger h f = subst (AreLost old) (sym f.0) h

pub lost_then : {D : Type 0} (old seen next : VaultSeen D) → AreLost old seen → AreLost seen next → AreLost old next
lost_then old seen next h f = record {
  store = f.store ∙ h.store;
  view = f.view ∙ ap (λ (v : View). record v { kept = next.view.kept }) h.view;
  entries = f.entries ∙ h.entries;
}
