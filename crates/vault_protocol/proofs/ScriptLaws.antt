-- The laws of scripts.
use Rattle.std.proofs.Common.{◌≡◌, ℕ, List, [], ◌∷◌, ◌++◌, Option, refl, sym, ap, ◌∙◌, subst, append_assoc}
use Rattle.vault_device.specs.declared.history.Pick.{Pick}
use Rattle.group_commit.specs.Runs.{Crash}
use Rattle.group_commit.specs.View.{View}
use Rattle.group_commit.specs.Seen.{snapshot_length}
use Rattle.group_commit.proofs.Reach.{reachable_goes_on}
use Rattle.vault_protocol.specs.Talk.{Talk, Said, new_talk, all_gone, crashed}
use Rattle.vault_protocol.specs.Script.{said_for, said_with, printed}
use Rattle.vault_protocol.specs.ScriptLaws.{texts_of, talk_after, reached_by, ended_by, PrintedInParts, ScriptsAreRuns, IsRunTo, GoesOnTo, ActsOnTo, RunsGoOn, gate_of, StopsAreCrashes, OthersAreActs, CommitsSettle, EndsTold, IsMadeOfTold, PrintsOldest, RepliesAreTold}
use Rattle.vault_protocol.proofs.Saying.{known_said}
use Rattle.vault_protocol.proofs.ScriptRuns.{IsSoundTalk, commit_sound, by_sound, after_sound, end_sound}
use Rattle.vault_protocol.proofs.InTurn.{Reached, reaches_acts, reaches_openings, IsToldWhole, told_after, told_commit}
use Rattle.vault_protocol.proofs.Replies.{AreOutside, after_outside, by_made, end_made, stop_made, none_kept}
use Rattle.vault_protocol.proofs.Commits.{commit_settles, commit_tells}
use Rattle.vault_protocol.proofs.GoingOn.{acts_on, no_acts, events_on, stops_on, no_events, stop_more}

-- What a script reaches.

new_sound : IsSoundTalk Reached new_talk
new_sound = record { vault = record { holds = (reachable_goes_on snapshot_length).begins; unbroken = refl }; awaited = tt }

reached_sound : (lines : List (List ℕ)) → IsSoundTalk Reached (reached_by lines)
reached_sound lines = after_sound Reached reaches_acts reaches_openings new_talk lines new_sound

pub scripts_are_runs : ScriptsAreRuns
scripts_are_runs lines =
    let reached = reached_sound lines in
    let ended = end_sound Reached reaches_acts (reached_by lines) reached in
    (reached.vault.holds, ended.vault.holds)

-- How it goes on.

-- a script's conversation, with anything else that holds of its view
sound_with : (P : View → Type 0) (lines : List (List ℕ)) → P (reached_by lines).view → IsSoundTalk P (reached_by lines)
sound_with P lines holds =
    let reached = reached_sound lines in
    record { vault = record { holds = holds; unbroken = reached.vault.unbroken }; awaited = reached.awaited }

after_parts : (talk : Talk) (lines more : List (List ℕ)) → talk_after talk (lines ++ more) ≡ talk_after (talk_after talk lines) more
after_parts talk [] more = refl
after_parts talk (line ∷ lines) more = after_parts (said_for talk line).talk lines more

pub runs_go_on : RunsGoOn
runs_go_on lines more events r =
    let P = GoesOnTo events in
    let now : IsSoundTalk P (reached_by lines) = sound_with P lines (no_events events (reached_by lines).view r) in
    let later : IsSoundTalk P (reached_by (lines ++ more)) =
    subst (IsSoundTalk P) (sym (after_parts new_talk lines more)) (after_sound P (events_on events) (stops_on events) (reached_by lines) more now) in
    (later.vault.holds, (end_sound P (events_on events) (reached_by (lines ++ more)) later).vault.holds)

pub stops_are_crashes : StopsAreCrashes
unfolding all_gone
stops_are_crashes lines line pick events is_stop r =
    let talk = reached_by lines in
    let same : (crashed pick talk).view ≡ (said_for talk line).talk.view =
    sym (ap (λ (o : Option Pick). (said_with talk line o).talk.view) is_stop ∙ ap (λ (s : Said). all_gone s.talk.view) (known_said (crashed pick talk) talk.lines)) in
    subst (IsRunTo (events ++ Crash (gate_of pick) ∷ [])) same (stop_more events talk.view pick r)

pub others_are_acts : OthersAreActs
others_are_acts lines events r =
    let P = ActsOnTo events in
    let talk = reached_by lines in
    let now : IsSoundTalk P talk = sound_with P lines (no_acts events talk.view r) in (
      λ line other. subst (λ (o : Option Pick). P (said_with talk line o).talk.view) (sym other) (by_sound P (acts_on events) talk line now).vault.holds,
      (end_sound P (acts_on events) talk now).vault.holds,
    )

-- What its commits make durable.

pub commits_settle : CommitsSettle
commits_settle lines = commit_settles (reached_by lines) (reached_sound lines)

pub ends_told : EndsTold
ends_told lines =
    let reached = reached_sound lines in
    commit_tells (reached_by lines) reached (commit_sound Reached reaches_acts (reached_by lines) reached)

-- What it prints.

in_parts : (talk : Talk) (lines more : List (List ℕ)) → printed talk (lines ++ more) ≡ texts_of talk lines ++ printed (talk_after talk lines) more
in_parts talk [] more = refl
in_parts talk (line ∷ lines) more =
    let now = said_for talk line in
    ap (λ text. now.text ++ text) (in_parts now.talk lines more)
    ∙ sym (append_assoc now.text (texts_of now.talk lines) (printed (talk_after now.talk lines) more))

pub printed_in_parts : PrintedInParts
printed_in_parts lines more = in_parts new_talk lines more

reached_outside : (lines : List (List ℕ)) → AreOutside (reached_by lines).lines
reached_outside lines = after_outside new_talk lines tt

reached_told : (lines : List (List ℕ)) → IsToldWhole (reached_by lines)
reached_told lines = told_after new_talk lines new_sound (record { turn = record { gone = refl; turns = refl }; whole = refl })

pub replies_are_told : RepliesAreTold
replies_are_told lines =
    let talk = reached_by lines in
    let sound = reached_sound lines in
    let outside = reached_outside lines in
    let told = reached_told lines in
    record {
      others = λ line other. subst (λ (o : Option Pick). PrintsOldest talk.view (said_with talk line o)) (sym other) (by_made talk line sound outside told);
      stops = λ line pick stop. subst (λ (o : Option Pick). IsMadeOfTold [] 0 0 (said_with talk line o).text) (sym stop) (stop_made pick talk outside);
      at_end = end_made talk sound outside told.turn;
      let_go = told.turn.gone;
      none_kept = none_kept (ended_by lines) (told_commit talk sound told).turn (ends_told lines);
    }
