-- The run of a station that the program ran, if its link made any act: by what is noted of its streams, its file and its link.
use Rattle.gc_program_theorems.proofs.Common.{◌≡◌, inl, inr, ℕ, Bool, List, [], ◌∷◌, ◌++◌, Option, Some, None, IfSome, refl, sym, ap, ◌∙◌, subst, append-nil, none-some, same_Some, Consumes, IsAtEnd, asks_sync, Ghosts as Source, Act, acts_noted, bytes_in, path_of, Followed, Heard, Standard, Streams, with_status_line, Settings, Recording, Site, AppendsInto, MeasuresOnto, Records, RecordsLossy, Seeing, seeing_by, Traces, IsRunOfProgram, settings_for, StationRun}
use Rattle.gc_lines.specs.declared.ports.Sink.{Ghosts as Sink}
use Rattle.gc_program_theorems.proofs.SiteRuns.{is_run_of_program, noted_is, ran_at_link, run_of}

-- a text that was read to the end of an input is all that this gives
read_whole : (given left : Option (List ℕ)) (text heard : List ℕ) → Consumes given left text → IsAtEnd left → text ≡ heard → IfSome given (λ bytes. heard ≡ bytes)
read_whole None left text heard takes end same = tt
read_whole (Some bytes) None text heard takes end same = absurd takes
read_whole (Some bytes) (Some rest) text heard takes end same = sym (takes ∙ ap (λ (l : List ℕ). text ++ l) end ∙ append-nil text ∙ same)

-- these streams had given and taken nothing at first, and in the end what the traces have
pub record AreNoted {S K M : Type 0} (sink : Sink K) (traces : Traces) (begun ended : Streams (Heard S) K M) : Type 0 where
  pub unheard : begun.input.heard.bytes ≡ []
  pub heard : ended.input.heard.bytes ≡ traces.heard.bytes
  pub fresh : sink.taken begun.output ≡ Some []
  pub told : sink.taken ended.output ≡ Some traces.told.bytes

module _ {S K M : Type 0} (sink : Sink K) (traces : Traces) (begun ended : Streams (Heard S) K M) (noted : AreNoted sink traces begun ended) where
  -- a text that their input gave is the one that the traces have
  text_is : (text : List ℕ) → ended.input.heard.bytes ≡ begun.input.heard.bytes ++ text → text ≡ traces.heard.bytes
  text_is text gave = ap (λ (l : List ℕ). l ++ text) (sym noted.unheard) ∙ sym gave ∙ noted.heard

  -- an output that is what it was has taken nothing
  pub told_none : ended.output ≡ begun.output → traces.told.bytes ≡ []
  told_none same = same_Some traces.told.bytes [] (sym noted.told ∙ ap sink.taken same ∙ noted.fresh)

-- so it is of the streams over which a station with other messages runs
pub noted_within : {S T F K E M : Type 0} (seeing : Seeing S T F K M) (sink : Sink K) (site : Site) (recording : Option Recording) (station : Settings) (traces : Traces) (status : ℕ)
    (old new : Streams (Heard S) K E) (r : RecordsLossy seeing site recording station old new traces.acted status)
    → AreNoted sink traces old new → AreNoted sink traces r.begun r.ended
noted_within seeing sink site recording station traces status old new r noted = record {
  unheard = ap (λ source. source.heard.bytes) r.input ∙ noted.unheard;
  heard = ap (λ source. source.heard.bytes) (sym r.read) ∙ noted.heard;
  fresh = ap sink.taken r.output ∙ noted.fresh;
  told = ap sink.taken (sym r.written) ∙ noted.told;
}

-- a run of a station with a recording has a file at the recording's path, which syncs exactly if the recording asks for that; and what it
-- wrote is what that file has taken
pub record HasFile (R : Type 0) (run : StationRun) (recording : Recording) : Type 0 where
  pub file : Followed R
  pub took : run.new.taken ≡ Some (bytes_in file)
  pub at : path_of file ≡ recording.path.now
  pub syncs : asks_sync file.rows ≡ recording.sync

-- the program ran a station over all that its input gives (`given`), where that is known, with a file if records go to one
pub record HasRun (R : Type 0) (standard : Standard) (given : Option (List ℕ)) (site : Site) (station : Settings) (recording : Option Recording) (traces : Traces) (status : ℕ)
    : Type 0 where
  pub input : IfSome given (λ bytes. traces.heard.bytes ≡ bytes)
  pub run : StationRun
  pub is : IsRunOfProgram standard site station recording traces status run
  pub filed : IfSome recording (λ recording. HasFile R run recording)

module _ {S T R K M : Type 0} (source : Source S) (over : Source T) (sink : Sink K) (lasts : K → Bool) (file_sink : Sink (Followed R)) (file_lasts : Followed R → Bool)
    (shown : M → Option (List ℕ)) where
  -- how the ports are seen
  abbrev seeing : Seeing S T (Followed R) K M
  seeing = seeing_by source over sink lasts file_sink file_lasts shown

  module _ (standard : Standard) (site : Site) (station : Settings) (traces : Traces) (status : ℕ) (act : Act) (acts : List Act)
      (made : acts_noted traces.acted.link ≡ Some (act ∷ acts)) where
    module _ (begun ended : Streams (Heard S) K M) (noted : AreNoted sink traces begun ended) where
      -- of a station that wrote its records on the output
      ran_onto : MeasuresOnto seeing site (with_status_line standard.terminal station) begun ended traces.acted status
          → HasRun R standard (source.remaining begun.input.source) site station None traces status
      ran_onto m = elim m.ran [
        | inl refuses ↦ absurd (none-some (act ∷ acts) (sym refuses.acts ∙ made))
        | inr h ↦
            let r = ran_at_link _ _ (settings_for standard station None) _ _ status act acts refl made h.holds.told in
            record {
              input = read_whole _ _ h.text traces.heard.bytes h.read.takes h.read.gives.read.to_end.0 (text_is sink traces begun ended noted h.text h.read.heard);
              run = run_of _ standard site station None traces status h.begun h.ended r (act ∷ acts);
              is = is_run_of_program _ standard site station None traces status h.begun h.ended r (act ∷ acts) h.text h.over_text.gives
                  (text_is sink traces begun ended noted h.text h.read.heard) (ap sink.taken h.over_text.output ∙ noted.fresh) (ap sink.taken (sym h.output) ∙ noted.told)
                  m.file made m.place;
              filed = tt;
            }
      ]

      -- of a station that appended its records to a file
      ran_into : ((f : Followed R) → file_sink.taken f ≡ Some (bytes_in f)) → (recording : Recording)
          → AppendsInto seeing recording site (with_status_line standard.terminal station) begun ended traces.acted status
          → HasRun R standard (source.remaining begun.input.source) site station (Some recording) traces status
      ran_into taken recording a = elim a.ran [
        | inl refuses ↦ absurd (none-some (act ∷ acts) (sym refuses.refuses.acts ∙ made))
        | inr h ↦ elim h.holds.ended [
          | inl unfiled ↦ absurd (none-some (act ∷ acts) (sym unfiled.acts ∙ made))
          | inr f ↦
              let r = ran_at_link _ _ (settings_for standard station (Some recording)) _ _ status act acts refl made f.holds.told in
              let left = f.ended.output in
              record {
                input = read_whole _ _ h.text traces.heard.bytes h.read.takes h.read.gives.read.to_end.0 (text_is sink traces begun ended noted h.text h.read.heard);
                run = run_of _ standard site station (Some recording) traces status f.begun f.ended r (act ∷ acts);
                is = is_run_of_program _ standard site station (Some recording) traces status f.begun f.ended r (act ∷ acts) h.text
                    (ap over.remaining f.filed.input ∙ h.over_text.gives) (text_is sink traces begun ended noted h.text h.read.heard)
                    f.filed.fresh (noted_is file_sink.taken a.file left traces.acted.file f.filed.left a.rows) (told_none sink traces begun ended noted a.output) made a.place;
                filed = record {
                  file = left;
                  took = taken left;
                  at = subst (λ (o : Option (Followed R)). IfSome o (λ x. path_of x ≡ recording.path.now)) f.filed.left a.path;
                  syncs = subst (λ (o : Option (Followed R)). IfSome o (λ x. asks_sync x.rows ≡ recording.sync)) f.filed.left a.sync;
                };
              }
        ]
      ]

    -- of a station whose messages may be lost
    pub ran_lossy : {E : Type 0} → ((f : Followed R) → file_sink.taken f ≡ Some (bytes_in f)) → (recording : Option Recording) → (old new : Streams (Heard S) K E)
        → AreNoted sink traces old new → RecordsLossy seeing site recording (with_status_line standard.terminal station) old new traces.acted status
        → HasRun R standard (source.remaining old.input.source) site station recording traces status
    ran_lossy taken recording old new noted r =
        subst (λ input. HasRun R standard (source.remaining input.source) site station recording traces status) r.input
        (by_records recording r.is (noted_within seeing sink site recording _ traces status old new r noted)) where
          -- whether records go to a file
          by_records : (recording : Option Recording) → Records seeing site recording (with_status_line standard.terminal station) r.begun r.ended traces.acted status
              → AreNoted sink traces r.begun r.ended → HasRun R standard (source.remaining r.begun.input.source) site station recording traces status
          by_records None m within = ran_onto r.begun r.ended within m
          by_records (Some recording) a within = ran_into r.begun r.ended within taken recording a
