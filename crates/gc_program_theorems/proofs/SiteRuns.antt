-- A run of a station at a site, whose link made an act, as a run of the program.
use Rattle.gc_program_theorems.proofs.Common.{◌≡◌, inl, inr, ℕ, Bool, List, [], ◌∷◌, ◌++◌, map, Option, Some, None, Result, Ok, Err, option_map, refl, sym, ap, ◌∙◌, subst, append-nil, none-some, same_Some, AllByRecursion, Consumes, IsAtEnd, Past, Act, Measures, ReportsEndOfRun, RunsAfterFront, most_turns, survey_of, GivesTasks, HasTasks, MeasuresAtLink, ReportsAtSite, Stage, Views, acts_noted, seen_at, with_messages, Stop, Standard, Streams, Tally, Asked, Table, Raw, TasksSeen, form_of_asked, placed, input_of, Description, Task, begun_at, Settings, Recording, Site, ActsAt, rows_noted, stage_after, stage_before, Traces, IsPlain, IsRunOfProgram, WritesThereAlone, appended_noted, settings_for, status_of, written_by, StationRun}
use Rattle.gc_texts.specs.declared.near.Near.{Near}
use Rattle.gc_program_theorems.proofs.SoundLabels.{labels_sound}

-- What comes out of single facts.

-- a source that had exactly this text, and was read to its end, gave all of it
all_given : (text given : List ℕ) (left : Option (List ℕ)) → Consumes (Some text) left given → IsAtEnd left → given ≡ text
all_given text given None takes end = absurd takes
all_given text given (Some rest) takes end = sym (takes ∙ ap (λ (l : List ℕ). given ++ l) end ∙ append-nil given)

-- a list with an element isn't empty
not_empty : {X : Type 0} (x : X) (xs : List X) → Some (x ∷ xs) ≡ Some [] → ⊥
not_empty x xs e = let same : x ∷ xs ≡ [] = same_Some (x ∷ xs) [] e in cc

-- the status that is reported says how the run ended
status_is : (end : Result Tally Stop) (status : ℕ) (old new : Option (List ℕ)) → ReportsEndOfRun end status old new → status ≡ status_of end
status_is (Ok tally) status old new reports = reports.0
status_is (Err stop) status old new reports = reports.0

-- what is noted of a file is what was taken of it
pub noted_is : {F : Type 0} (taken : F → Option (List ℕ)) (file : Option F) (left : F) (noted : Option Past)
    → file ≡ Some left → option_map taken file ≡ option_map rows_noted noted → taken left ≡ appended_noted noted
noted_is taken file left noted is rows = by_noted noted (sym (ap (option_map taken) is) ∙ rows) where
  -- whether anything was noted
  by_noted : (noted : Option Past) → Some (taken left) ≡ option_map rows_noted noted → taken left ≡ appended_noted noted
  by_noted None e = absurd (none-some (taken left) (sym e))
  by_noted (Some past) e = same_Some (taken left) (rows_noted past) e

-- the settings by which a station runs give the same tasks of a text as those that it was asked for with
same_tasks : (standard : Standard) (station : Settings) (recording : Option Recording) (text : List ℕ) (all : TasksSeen)
    → HasTasks text (settings_for standard station recording).choice all → HasTasks text station.choice all
same_tasks standard station None text all has = record { are = has.are; some = has.some }
same_tasks standard station (Some recording) text all has = record { are = has.are; some = has.some }

-- the answers to a call of the table have no form in a text, since it describes other procedures
plain_call : (described : List Description) (call : Asked) → IsPlain (form_of_asked described call) call
plain_call described (Table call) = refl
plain_call described (Raw raw) = tt

-- so it is of each task
plain_tasks : (nears : List Near) (unwatched : List ℕ) (described : List Description) (tasks : List Task)
    → AllByRecursion (λ task. IsPlain task.form task.command.call) (map (placed nears unwatched described) tasks)
plain_tasks nears unwatched described [] = tt
plain_tasks nears unwatched described (task ∷ tasks) = (plain_call described task.command.call, plain_tasks nears unwatched described tasks)

-- A run at a site.

-- a station ran over its link, from `old` to `new`: the text `given` has these tasks, and the run was measured after what comes before the
-- records. `between` are the messages before the report
pub record RanAtLink {S K E : Type 0} (views : Views S K E) (station : Settings) (old new : Stage S K E) (status : ℕ) : Type 0 where
  pub began : ℕ
  pub is_began : new.began ≡ Some began
  pub end : Result Tally Stop
  pub between : E
  pub given : List ℕ
  pub takes : Consumes (views.source.remaining old.streams.input) (views.source.remaining new.streams.input) given
  pub all : TasksSeen
  pub gives : GivesTasks given (input_of views.source old.streams.input) (input_of views.source new.streams.input) station.choice all
  pub ran : RunsAfterFront (survey_of (begun_at began station) most_turns all) (seen_at views old) (seen_at views (with_messages new between)) end
  pub ends : status ≡ status_of end

-- a run at a site whose link made an act ran over that link
pub ran_at_link : {S K E : Type 0} (views : Views S K E) (has_log : Bool) (station : Settings) (old new : Stage S K E) (status : ℕ) (act : Act) (acts : List Act)
    → old.acts ≡ Some [] → new.acts ≡ Some (act ∷ acts) → ReportsAtSite views has_log station old new status → RanAtLink views station old new status
ran_at_link {S} {K} {E} views has_log station old new status act acts none made r = elim r.ran [
  | inl m ↦ measured m m.measured.2
  | inr unbegun ↦ absurd (none-some (act ∷ acts) (sym unbegun.acts ∙ made))
] where
  -- no act is no run
  idle : {P : Type 0} → new.acts ≡ old.acts → P
  idle same = absurd (not_empty act acts (sym made ∙ same ∙ none))

  -- what was measured is the run
  measured : (m : MeasuresAtLink views station old (with_messages new r.between) r.end)
      → Measures m.measured.0 (begun_at m.run station) most_turns (seen_at views old) (seen_at views (with_messages new r.between)) r.end → RanAtLink views station old new status
  measured m (inl (stop, is, refuses, unused)) = idle unused.acts
  measured m (inr (all, gives, inl front)) = idle front.acts
  measured m (inr (all, gives, inr behind)) = record {
    began = m.run;
    is_began = m.began;
    end = r.end;
    between = r.between;
    given = m.measured.0;
    takes = m.measured.1;
    all = all;
    gives = gives;
    ran = behind;
    ends = status_is r.end status _ _ r.tells.counts;
  }

-- A run of the program.

module _ {S K E : Type 0} (views : Views S K E) (standard : Standard) (site : Site) (station : Settings) (recording : Option Recording) (traces : Traces) (status : ℕ)
    (begun ended : Streams S K E) (ran : RanAtLink views (settings_for standard station recording) (stage_before begun) (stage_after ended traces.acted) status)
    (recorded : List Act) where
  -- the run
  abbrev pub run_of : StationRun
  run_of = record {
    survey = survey_of (begun_at ran.began (settings_for standard station recording)) most_turns ran.all;
    old = seen_at views (stage_before begun);
    new = seen_at views (with_messages (stage_after ended traces.acted) ran.between);
    result = ran.end;
    recorded = recorded;
  }

  -- it is the program's, if its source gave the text that was read before, and its sink took what is noted
  pub is_run_of_program : (text : List ℕ) → views.source.remaining begun.input ≡ Some text → text ≡ traces.heard.bytes
      → views.sink.taken begun.output ≡ Some [] → views.sink.taken ended.output ≡ written_by recording traces
      → WritesThereAlone recording traces → acts_noted traces.acted.link ≡ Some recorded → ActsAt site traces.acted
      → IsRunOfProgram standard site station recording traces status run_of
  is_run_of_program text has heard fresh rows alone acts place =
      let takes = subst (λ (t : Option (List ℕ)). Consumes t (views.source.remaining ended.input) ran.given) has ran.takes in
      let given : ran.given ≡ traces.heard.bytes = all_given text ran.given (views.source.remaining ended.input) takes ran.gives.read.to_end.0 ∙ heard in
      let tasks : HasTasks ran.given (settings_for standard station recording).choice ran.all = record { are = ran.gives.are; some = ran.gives.some } in
      record {
        all = ran.all;
        tasks = subst (λ (t : List ℕ). HasTasks t station.choice ran.all) given (same_tasks standard station recording ran.given ran.all tasks);
        began = ran.began;
        is_began = ran.is_began;
        survey = refl;
        plain = subst (AllByRecursion (λ task. IsPlain task.form task.command.call)) (sym ran.gives.are.tasks_are) (plain_tasks _ _ _ _);
        is_run = record { labels = labels_sound ran.given _ _ ran.all ran.gives.are; none = refl; acts = acts; ran = ran.ran };
        acts = acts;
        place = place;
        fresh = fresh;
        rows = rows;
        alone = alone;
        unseen = refl;
        turns = refl;
        ends = ran.ends;
      }
