-- What a station that the program ran has written if its link made no act: a front of what comes before the rows.
use Rattle.gc_program_theorems.proofs.Common.{◌≡◌, inl, inr, ℕ, Bool, List, [], ◌∷◌, ◌++◌, take, drop, Option, Some, None, Result, Err, option_map, refl, sym, ap, ◌∙◌, subst, append-nil, take-append-drop, none-some, same_Some, Appends, IsFront, Past, Ghosts as Source, Act, AreSound, labels_of, Measures, RunsAfterFront, front_text, most_turns, survey_of, text_by, ReportsAtSite, Stage, Views, acts_noted, seen_at, with_messages, Stop, Followed, Heard, Standard, Streams, Record, texts_of, Tally, IsTasks, TasksSeen, Output, Layout, begun_at, with_status_line, Settings, Recording, Site, AppendsInto, MeasuresOnto, RecordsLossy, Seeing, rows_noted, seeing_by, Traces, IsFrontOfHead, WritesThereAlone, appended_noted, settings_for, written_by, StationRun, acts_measured, records_in, records_of_run}
use Rattle.gc_lines.specs.declared.ports.Sink.{Ghosts as Sink}
use Rattle.gc_measuring.specs.declared.stop.Stop.TheVariants.{Run}
use Rattle.gc_options.specs.declared.choice.Choice.{Choice}
use Rattle.gc_program_theorems.proofs.ProgramRuns.{AreNoted, noted_within, told_none}
use Rattle.gc_program_theorems.proofs.SiteRuns.{noted_is}
use Rattle.gc_program_theorems.proofs.Taken.{appended_to_known, run_took, written_front}
use Rattle.gc_program_theorems.proofs.SoundLabels.{labels_sound}

-- What a sink took.

-- a sink took a front of this text, and nothing else
record TookFront (text : List ℕ) (taken : Option (List ℕ)) : Type 0 where
  pub bytes : List ℕ
  pub is : taken ≡ Some bytes
  pub front : IsFront bytes text

-- a sink took a front of what comes before the rows in this layout, of a station with this choice, and nothing else
pub record TookHead (layout : Layout) (choice : Choice) (taken : Option (List ℕ)) : Type 0 where
  pub bytes : List ℕ
  pub is : taken ≡ Some bytes
  pub front : IsFrontOfHead layout choice bytes

-- a sink that had taken nothing, and is what it was, took a front of any head
took_nothing : (layout : Layout) (choice : Choice) (old new : Option (List ℕ)) → old ≡ Some [] → new ≡ old → TookHead layout choice new
took_nothing layout choice old new fresh same =
    record { bytes = []; is = same ∙ fresh; front = record { columns = []; of_text = inl refl; front = record { rest = front_text layout []; split = refl } } }

-- one that took a front of the head of a text's table took such a front
took_of_text : (layout : Layout) (choice : Choice) (text : List ℕ) (all : TasksSeen) → IsTasks text choice.deadline choice.chained all → (taken : Option (List ℕ))
    → TookFront (front_text layout (labels_of all).columns) taken → TookHead layout choice taken
took_of_text layout choice text all are taken took =
    record { bytes = took.bytes; is = took.is; front = record { columns = (labels_of all).columns; of_text = inr (text, all, are, refl); front = took.front } }

-- of no acts, none but the last is measured, either
none_measured : (end : Result Tally Stop) → acts_measured end [] ≡ []
none_measured (Err (Run Output)) = refl
none_measured _ = refl

-- a front of nothing is nothing
front_none : (bytes : List ℕ) → IsFront bytes [] → bytes ≡ []
front_none [] is = refl
front_none (byte ∷ bytes) is = let bad : [] ≡ byte ∷ (bytes ++ is.rest) = is.split in cc

-- a run without an act has written what comes before its rows, and no row
took_front : (run : StationRun) → AreSound run.survey.labels → run.recorded ≡ [] → run.old.acts ≡ Some [] → run.new.acts ≡ Some run.recorded → run.old.taken ≡ Some []
    → RunsAfterFront run.survey run.old run.new run.result → TookFront (front_text run.survey.layout run.survey.labels.columns) run.new.taken
took_front run sound none old new fresh ran =
    let reads = ran.run.ran.1.0 in
    let text = text_by run.survey in
    let front = front_text run.survey.layout run.survey.labels.columns in
    let took = run_took reads ran.run.ran.1.1 run [] (record { labels = sound; none = old; acts = new; ran = ran }) fresh in
    let written = texts_of text took.are.written ++ took.torn in
    let no_record : records_of_run reads run ≡ [] = ap (records_in run.survey reads) (ap (acts_measured run.result) none ∙ none_measured run.result) in
    let nothing : written ≡ [] =
    front_none written (subst (λ (rs : List Record). IsFront written (texts_of text rs)) no_record (written_front text (records_of_run reads run) run.result took.torn took.are)) in
    record { bytes = front; is = took.is ∙ ap (λ (l : List ℕ). Some (front ++ l)) nothing ∙ ap Some (append-nil front); front = record { rest = []; split = sym (append-nil front) } }

-- A station at a site.

module _ {S K E : Type 0} (views : Views S K E) (has_log : Bool) (station : Settings) (old new : Stage S K E) (status : ℕ)
    (idle : (act : Act) (acts : List Act) → new.acts ≡ Some (act ∷ acts) → ⊥) (none : old.acts ≡ Some []) (fresh : views.sink.taken old.streams.output ≡ Some [])
    (r : ReportsAtSite views has_log station old new status) where
  -- what was measured without an act
  front_measured : (told given : List _) (began : ℕ) → new.acts ≡ Some told
      → Measures given (begun_at began station) most_turns (seen_at views old) (seen_at views (with_messages new r.between)) r.end
      → TookHead station.layout station.choice (views.sink.taken new.streams.output)
  front_measured told given began is (inl (stop, ends, refuses, unused)) = took_nothing _ _ _ _ fresh unused.taken
  front_measured told given began is (inr (all, gives, inl front)) =
      let text = front_text station.layout (labels_of all).columns in
      let took = subst (λ (t : Option (List ℕ)). Appends t (views.sink.taken new.streams.output) (take front.bytes text)) fresh front.took.1 in
      took_of_text station.layout station.choice given all gives.are _ (record {
        bytes = take front.bytes text;
        is = appended_to_known [] (take front.bytes text) _ took;
        front = record { rest = drop front.bytes text; split = sym (take-append-drop front.bytes text) };
      })
  front_measured (act ∷ acts) given began is (inr (all, gives, inr behind)) = absurd (idle act acts is)
  front_measured [] given began is (inr (all, gives, inr behind)) =
      let run : StationRun = record {
        survey = survey_of (begun_at began station) most_turns all;
        old = seen_at views old;
        new = seen_at views (with_messages new r.between);
        result = r.end;
        recorded = [];
      } in
      took_of_text station.layout station.choice given all gives.are _ (took_front run (labels_sound given _ _ all gives.are) refl none is fresh behind)

  -- of a run at a site without an act
  front_at_site : TookHead station.layout station.choice (views.sink.taken new.streams.output)
  front_at_site = elim r.ran [
    | inl m ↦ front_measured m.told m.measured.0 m.run m.is m.measured.2
    | inr unbegun ↦ took_nothing _ _ _ _ fresh (ap views.sink.taken unbegun.output)
  ]

-- A station that the program ran.

-- what was written, if anything was noted, is a front of what comes before the rows by these settings; and nothing was written elsewhere
pub record WroteFront (settings : Settings) (recording : Option Recording) (traces : Traces) : Type 0 where
  pub front : (bytes : List ℕ) → written_by recording traces ≡ Some bytes → IsFrontOfHead settings.layout settings.choice bytes
  pub alone : WritesThereAlone recording traces

-- what was noted is what was taken
front_noted : (settings : Settings) (taken noted : Option (List ℕ)) → TookHead settings.layout settings.choice taken → taken ≡ noted → (bytes : List ℕ) → noted ≡ Some bytes
    → IsFrontOfHead settings.layout settings.choice bytes
front_noted settings taken noted took same bytes is =
    subst (λ (l : List ℕ). IsFrontOfHead settings.layout settings.choice l) (same_Some took.bytes bytes (sym took.is ∙ same ∙ is)) took.front

-- without a file nothing is noted of one
unfiled_none : {F : Type 0} (taken : F → Option (List ℕ)) (file : Option F) (noted : Option Past) → file ≡ None → option_map taken file ≡ option_map rows_noted noted
    → (bytes : List ℕ) → appended_noted noted ≡ Some bytes → ⊥
unfiled_none taken file None none rows bytes is = none-some bytes is
unfiled_none taken file (Some past) none rows bytes is = none-some (rows_noted past) (sym (ap (option_map taken) none) ∙ rows)

module _ {S T R K M : Type 0} (source : Source S) (over : Source T) (sink : Sink K) (lasts : K → Bool) (file_sink : Sink (Followed R)) (file_lasts : Followed R → Bool)
    (shown : M → Option (List ℕ)) where
  -- how the ports are seen
  abbrev seeing : Seeing S T (Followed R) K M
  seeing = seeing_by source over sink lasts file_sink file_lasts shown

  module _ (standard : Standard) (site : Site) (station : Settings) (traces : Traces) (status : ℕ)
      (idle : (act : Act) (acts : List Act) → acts_noted traces.acted.link ≡ Some (act ∷ acts) → ⊥) where
    -- the settings by which the station runs
    abbrev settings_of : Option Recording → Settings
    settings_of recording = settings_for standard station recording

    module _ (begun ended : Streams (Heard S) K M) (noted : AreNoted sink traces begun ended) where
      -- of a station that wrote on the output
      wrote_onto : MeasuresOnto seeing site (with_status_line standard.terminal station) begun ended traces.acted status → WroteFront (settings_of None) None traces
      wrote_onto m = record { front = front_noted (settings_of None) (sink.taken ended.output) (Some traces.told.bytes) took noted.told; alone = m.file } where
        -- what the output took
        took : TookHead (settings_of None).layout (settings_of None).choice (sink.taken ended.output)
        took = elim m.ran [
          | inl refuses ↦ took_nothing _ _ _ _ noted.fresh (ap sink.taken refuses.refuses.output)
          | inr h ↦
              subst (λ k. TookHead (settings_of None).layout (settings_of None).choice (sink.taken k)) (sym h.output)
              (front_at_site _ _ (settings_for standard station None) _ _ status idle refl (ap sink.taken h.over_text.output ∙ noted.fresh) h.holds.told)
        ]

      -- of a station that appended to a file
      wrote_into : (recording : Recording) → AppendsInto seeing recording site (with_status_line standard.terminal station) begun ended traces.acted status
          → WroteFront (settings_of (Some recording)) (Some recording) traces
      wrote_into recording a = record { front = front; alone = told_none sink traces begun ended noted a.output } where
        -- what was appended
        front : (bytes : List ℕ) → written_by (Some recording) traces ≡ Some bytes → IsFrontOfHead (settings_of (Some recording)).layout (settings_of (Some recording)).choice bytes
        front bytes is = elim a.ran [
          | inl refuses ↦ absurd (unfiled_none file_sink.taken a.file traces.acted.file refuses.file a.rows bytes is)
          | inr h ↦ elim h.holds.ended [
            | inl unfiled ↦ absurd (unfiled_none file_sink.taken a.file traces.acted.file unfiled.file a.rows bytes is)
            | inr f ↦
                front_noted (settings_of (Some recording)) (file_sink.taken f.ended.output) (appended_noted traces.acted.file)
                (front_at_site _ _ (settings_for standard station (Some recording)) _ _ status idle refl f.filed.fresh f.holds.told)
                (noted_is file_sink.taken a.file f.ended.output traces.acted.file f.filed.left a.rows) bytes is
          ]
        ]

    -- of a station whose messages may be lost
    pub wrote_lossy : {E : Type 0} (recording : Option Recording) → (old new : Streams (Heard S) K E) → AreNoted sink traces old new
        → RecordsLossy seeing site recording (with_status_line standard.terminal station) old new traces.acted status → WroteFront (settings_of recording) recording traces
    wrote_lossy None old new noted r = wrote_onto r.begun r.ended (noted_within seeing sink site None _ traces status old new r noted) r.is
    wrote_lossy (Some recording) old new noted r = wrote_into r.begun r.ended (noted_within seeing sink site (Some recording) _ traces status old new r noted) recording r.is
