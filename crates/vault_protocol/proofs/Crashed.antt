-- A crash of both devices, and what is printed then.
use Rattle.std.proofs.Common.{◌≡◌, ℕ, ◌+◌, ◌&&◌, Bool, cond, List, [], length, sym, ap, ◌∙◌, subst}
use Rattle.std.specs.Prelude.{Ok}
use Rattle.vault_state.specs.Vault.{durable}
use Rattle.vault_device.specs.declared.history.Pick.{Pick}
use Rattle.vault_journal.specs.Spelling.{records_of}
use Rattle.vault_store.specs.declared.phase.Advanced.TheVariants.{Settled}
use Rattle.vault_store.specs.declared.phase.Phase.{Phase}
use Rattle.vault_format.specs.Files.{header, frame_extra}
use Rattle.vault_store.specs.Phases.{is_idle, is_snapshot, is_opening}
use Rattle.group_commit.specs.View.{View, opened_view, view_at}
use Rattle.group_commit.specs.Seen.{VaultSeen, snapshot_length}
use Rattle.group_commit.specs.Calls.{behind_snapshot, gained, generation_after, tail_after}
use Rattle.vault_device.specs.Picks.{gives_one}
use Rattle.vault_protocol.specs.Talk.{Line, Talk, Said, none_each, said, all_gone, crashed}
use Rattle.vault_protocol.specs.Saying.{known_texts, AreLost}
use Rattle.vault_protocol.proofs.Lost.{view_at_same, effects_between_same}
use Rattle.vault_protocol.proofs.Saying.{known_said}
use Rattle.vault_protocol.proofs.Staging.{talk_of}

-- whether a crash with this pick leaves a gate of this view open
abbrev pub found_open : Pick → View → Bool
found_open pick v = gives_one pick && is_opening v.phase

pub crashed_talk : {D : Type 0} (old lost next : VaultSeen D) (sessions asked : List ℕ) (lines none : List Line) (now : Talk) (pick : Pick)
    → talk_of old sessions asked lines ≡ now
    → AreLost old lost
    → next.view ≡ opened_view (durable (view_at lost.view (cond (found_open pick lost.view) lost.view.sealed lost.view.settled)))
    → next.store.buffer ≡ []
    → next.store.generation ≡ cond (found_open pick lost.view) (generation_after lost.view (Ok Settled) lost.store.generation) lost.store.generation
    → next.store.tail ≡ cond (found_open pick lost.view) (tail_after lost.view (Ok Settled) lost.store.tail) lost.store.tail
    → none ≡ []
    → talk_of next none_each none_each none ≡ (said (crashed pick now)).talk
unfolding all_gone
crashed_talk old lost next sessions asked lines none now pick is h view buffer generation tail empty =
    subst (λ (t : Talk). talk_of next none_each none_each none ≡ (said (crashed pick t)).talk) is
    (path ∙ sym (ap (λ (s : Said). record s.talk { view = all_gone s.talk.view }) (known_said (crashed pick (talk_of old sessions asked lines)) lines)))
  where
    opened : Bool
    opened = found_open pick old.view

    views : next.view ≡ opened_view (durable (view_at old.view (cond opened old.view.sealed old.view.settled)))
    views =
        view ∙ ap (λ (v : View). opened_view (durable (view_at v (cond (found_open pick v) v.sealed v.settled)))) h.view
        ∙ ap (λ v. opened_view (durable v)) (view_at_same old.view lost.view.kept (cond opened old.view.sealed old.view.settled) h.entries)

    generations : next.store.generation ≡ cond opened (generation_after old.view (Ok Settled) old.store.generation) old.store.generation
    generations =
        generation
        ∙ ap (λ (v : View). cond (found_open pick v) (generation_after v (Ok Settled) lost.store.generation) lost.store.generation) h.view
        ∙ ap (λ (n : ℕ). cond opened (generation_after old.view (Ok Settled) n) n) (ap (λ s. s.generation) h.store)

    behind : behind_snapshot lost.view ≡ behind_snapshot old.view
    behind = ap behind_snapshot h.view ∙ ap (λ v. header + snapshot_length (durable v)) (view_at_same old.view lost.view.kept old.view.sealed h.entries)

    gains : gained lost.view (Ok Settled) ≡ gained old.view (Ok Settled)
    gains =
        ap (λ (v : View). gained v (Ok Settled)) h.view
        ∙ ap (λ effects. cond (is_idle old.view.phase) 0 (frame_extra + length (records_of effects))) (effects_between_same old.view lost.view.kept old.view.settled old.view.sealed h.entries)

    tails : next.store.tail ≡ cond opened (tail_after old.view (Ok Settled) old.store.tail) old.store.tail
    tails =
        tail
        ∙ ap (λ (p : Phase). cond (gives_one pick && is_opening p) (cond (is_snapshot p) (behind_snapshot lost.view) (lost.store.tail + gained lost.view (Ok Settled))) lost.store.tail) (ap (λ (v : View). v.phase) h.view)
        ∙ ap (λ n. cond opened (cond (is_snapshot old.view.phase) n (lost.store.tail + gained lost.view (Ok Settled))) lost.store.tail) behind
        ∙ ap (λ n. cond opened (cond (is_snapshot old.view.phase) (behind_snapshot old.view) (lost.store.tail + n)) lost.store.tail) gains
        ∙ ap (λ (n : ℕ). cond opened (tail_after old.view (Ok Settled) n) n) (ap (λ s. s.tail) h.store)

    path : talk_of next none_each none_each none ≡ record (crashed pick (talk_of old sessions asked lines)) { lines = [] }
    path = λ i. record { view = views i; buffer = ap length buffer i; generation = generations i; tail = tails i; sessions = none_each; asked = none_each; lines = empty i }

-- what is printed: the texts that are known
pub crashed_text : {D : Type 0} (old : VaultSeen D) (sessions asked : List ℕ) (lines : List Line) (now : Talk) (pick : Pick) → talk_of old sessions asked lines ≡ now
    → known_texts lines ≡ (said (crashed pick now)).text
crashed_text old sessions asked lines now pick is =
    subst (λ (t : Talk). known_texts lines ≡ (said (crashed pick t)).text) is (sym (ap (λ (s : Said). s.text) (known_said (crashed pick (talk_of old sessions asked lines)) lines)))
