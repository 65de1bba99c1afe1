-- The row of a record, or its object, is its own: one proof for both, over the text under each name.
use Rattle.gc_program_theorems.proofs.Common.{◌≡◌, ℕ, Bool, true, List, [], ◌++◌, map, Option, Some, sym, ap, ◌∙◌, subst, codes, slice_get, AllByRecursion, IsSmallNumber, ReplyFields, IsReply, get_more, every_front as all_front, Answer, Reading, Unreadable as DoesntRead, KeptReply, End, Answered, word_of, fault_of, quality_of, quality_text, line_of, escaped, quality_word, Quality, Entry, code_of, com_of, fault_field, values_of, reply_columns, Act, AnswerIsJustified, Runs, opening, IsOfItsRequest, IsAsListed, IsOfQuality, accepted_at, answer_in, form_at, quality_as, twice_at, IsSaid, Record, AreReadings, Reads, IsOfItsTask, HasItsMoment, IsAsRead, each_said, answers_true, of_tasks, all_at, AreSound, Survey, entry_in, Ends, IsAnInstrument, AnyState, IsOwnAnswer, stretches, run_faithful, length-map, same_Some, IsAdded, IsOutside, IsPlain, IsQuantity, IsRowBy, description_of, IsRowOf, IsOutcomeOfReply, HasReply, quality_in, quantity_in, quantity_source, shown_as, Answers, AreOneForOne, FieldRun, IsFieldRun, acts_in, own_lines, parts_of_run, program_of, records_in, records_of_run, scope_of, came_at, one_added}
use Rattle.gc_station.proofs.Nearly.{qualities_as_listed}
use Rattle.gc_station.proofs.Requested.{one_requested}
use Rattle.gc_world.proofs.Places.{get_seen}
use Rattle.gc_program_theorems.proofs.Endings.{is_answered, is_unreadable, reply_ended, without_fault, without_quality}
use Rattle.gc_program_theorems.proofs.Judged.{judged}
use Rattle.gc_program_theorems.proofs.Owning.{heard_is_reply}
use Rattle.gc_program_theorems.proofs.Setting.{asked_by, never_sent, set_to}

-- what is written of a record of this survey
abbrev pub entry_of : Survey → Record → Entry
entry_of survey r = entry_in survey.layout survey.labels r

-- what holds of all elements of `xs` holds of the one at a place among the first of them (`written`)
pub all_written : {X : Type 0} (P : X → Type 0) (xs written others : List X) → xs ≡ written ++ others → AllByRecursion P xs → (n : ℕ) (x : X) → slice_get written n ≡ Some x → P x
all_written P xs written others order all n x is = all_at P written n x (all_front P written others (subst (AllByRecursion P) order all)) is

-- where each of these records has the relation to what `f` makes of it, what `f` makes of all of them are these records, one for
-- one
pub one_for_one : {X : Type 0} (Is : ℕ → X → Record → Type 0) (f : Record → X) (rs : List Record) → ((n : ℕ) (r : Record) → slice_get rs n ≡ Some r → Is n (f r) r) → AreOneForOne Is (map f rs) rs
one_for_one Is f rs own =
    record {
      as_many = length-map rs f;
      each = λ n x e.
          let seen = get_seen f rs n x e in
          (seen.0, seen.1, subst (λ y. Is n y seen.0) seen.2 (own n seen.0 seen.1));
    }

-- A row or an object.

-- a row or an object of the record of this survey, in which `at` gives the text under each name, has what the record says, however the command
-- ended; the quality; of a line that ended the command, its codes, as numbers, and its values; and, where it has quantities
-- (`has_quantities`), those of an answer as `shown_as` has them, and none if the command isn't answered
pub record HasItsTexts (survey : Survey) (has_quantities : Bool) (at : List ℕ → List ℕ) (r : Record) : Type 0 where
  pub is_of : IsRowOf survey at r
  pub quality : at (codes "quality") ≡ quality_text (quality_of r.end)
  pub rc_com : (line : List ℕ) (n : ℕ) → line_of r.end ≡ Some line → IsSmallNumber (com_of line) n → IsSmallNumber (at (codes "rc_com")) n
  pub rc : (line : List ℕ) (n : ℕ) → line_of r.end ≡ Some line → IsSmallNumber (code_of line) n → IsSmallNumber (at (codes "rc")) n
  pub values : (line : List ℕ) → line_of r.end ≡ Some line → at (codes "values") ≡ escaped (values_of line)
  pub quantities :
      has_quantities ≡ true → (fields : ReplyFields) (told : Reading) → IsSaid (form_at survey.tasks r.place) r.command.call fields told → (q : Quality) (answer : Option Answer) (line : List ℕ)
      → r.end ≡ Answered q answer line → answer ≡ answer_in told → IsPlain (form_at survey.tasks r.place) r.command.call
      → (name : List ℕ) → IsQuantity name → at name ≡ shown_as q (escaped (quantity_in r.command.call (description_of survey r) told line name))
  pub added :
      has_quantities ≡ true → (told : Reading) (q : Quality) (answer : Option Answer) (line : List ℕ) → r.end ≡ Answered q answer line → answer ≡ answer_in told
      → IsOutside r.command.call → (name : List ℕ) → IsAdded survey.labels.columns (description_of survey r) name
      → at name ≡ shown_as q (escaped (quantity_in r.command.call (description_of survey r) told line name))
  pub none : has_quantities ≡ true → (word_of r.end ≡ codes "answered" → ⊥) → (name : List ℕ) → IsQuantity name → at name ≡ []
  pub blank : has_quantities ≡ true → (word_of r.end ≡ codes "answered" → ⊥) → (name : List ℕ) → IsAdded survey.labels.columns (description_of survey r) name → at name ≡ []

module _ (survey : Survey) (reads : Reads) (are : AreReadings reads) (has_quantities : Bool) (at : List ℕ → List ℕ) (r : Record) (has : HasItsTexts survey has_quantities at r) where
  -- if a line with the fields of a reply ended the command in time, and the record's quality and values are as listed
  -- (`IsAsListed`), and it is unreadable only as the line reads, the row says what the line says (`HasReply`)
  says : (line : List ℕ) → line_of r.end ≡ Some line → (x : ReplyFields) × IsReply line x → IsAsListed reads survey.tasks r → IsAsRead (reads (form_at survey.tasks r.place)) r
      → HasReply has_quantities at (twice_at survey.tasks r.place) (accepted_at survey.tasks r.place) (form_at survey.tasks r.place) (description_of survey r) survey.labels.columns
      r.command.call line
  says line answered reply listed as_read =
      let said = reply_columns line reply.0 reply.1 in
      let accepted = accepted_at survey.tasks r.place in
      let twice = twice_at survey.tasks r.place in
      let form = form_at survey.tasks r.place in
      let described = description_of survey r in
      let reading = each_said form r.command.call reply.0 in
      let told = each_said form r.command.call (quantity_source (quality_in accepted reading.0) reply.0) in
      let by = judged reads are accepted form r.command.call line reply.0 reply.1 reading.0 told.0 reading.1 told.1 in
      let judges : (quality : Quality) (values : Option Answer) (l : List ℕ) → r.end ≡ Answered quality values l
      → (quality ≡ quality_as twice (quality_in accepted reading.0)) × (values ≡ answer_in told.0) =
      λ quality values l is.
      let judged_as = listed quality values l is in
      let same = by judged_as.0 values (subst (IsOfQuality (reads form) accepted r.command.call judged_as.0 values) (same_Some l line (ap line_of (sym is) ∙ answered)) judged_as.2) in
      (judged_as.1 ∙ ap (quality_as twice) same.quality_is, same.values_are) in
      record {
        says = record {
          reply = reply.0;
          is_reply = reply.1;
          rc_com = has.rc_com line reply.0.rc_com answered said.rc_com;
          rc = has.rc line reply.0.rc answered said.rc;
        };
        values = has.values line answered ∙ ap escaped said.values;
        answer_reading = reading.0;
        is_answer_reading = reading.1;
        quality = λ answers.
            let e = is_answered r.end (sym has.is_of.command.outcome ∙ answers) in
            has.quality ∙ ap (λ (end : End). quality_text (quality_of end)) e.3 ∙ ap quality_word (judges e.0 e.1 e.2 e.3).0;
        fault = λ unreadable.
            let e = is_unreadable r.end (sym has.is_of.command.outcome ∙ unreadable) in
            let same : e.0 ≡ line = same_Some e.0 line (ap line_of (sym e.2) ∙ answered) in
            let by_line : reads form r.command.call line ≡ DoesntRead e.1 = subst (λ (l : List ℕ). reads form r.command.call l ≡ DoesntRead e.1) same (as_read e.0 e.1 e.2) in
            (e.1, sym (are form r.command.call line reading.0 (record { reply = reply.0; is_reply = reply.1; is_reading = reading.1 })) ∙ by_line, has.is_of.command.fault ∙ ap (λ (end : End). fault_field (fault_of end)) e.2);
        quantity_reading = told.0;
        is_quantity_reading = told.1;
        quantities = λ shows answers plain name quantity.
            let e = is_answered r.end (sym has.is_of.command.outcome ∙ answers) in
            let same : e.2 ≡ line = same_Some e.2 line (ap line_of (sym e.3) ∙ answered) in
            has.quantities shows (quantity_source (quality_in accepted reading.0) reply.0) told.0 told.1 e.0 e.1 e.2 e.3 (judges e.0 e.1 e.2 e.3).1 plain name quantity
            ∙ ap (λ (l : List ℕ). shown_as e.0 (escaped (quantity_in r.command.call described told.0 l name))) same
            ∙ ap (λ (q : Quality). shown_as q (escaped (quantity_in r.command.call described told.0 line name))) (judges e.0 e.1 e.2 e.3).0;
        added = λ shows answers outside name is.
            let e = is_answered r.end (sym has.is_of.command.outcome ∙ answers) in
            let same : e.2 ≡ line = same_Some e.2 line (ap line_of (sym e.3) ∙ answered) in
            has.added shows told.0 e.0 e.1 e.2 e.3 (judges e.0 e.1 e.2 e.3).1 outside name is
            ∙ ap (λ (l : List ℕ). shown_as e.0 (escaped (quantity_in r.command.call described told.0 l name))) same
            ∙ ap (λ (q : Quality). shown_as q (escaped (quantity_in r.command.call described told.0 line name))) (judges e.0 e.1 e.2 e.3).0;
      }

  -- the row of a record is by a line that may have answered it (`IsRowBy`), if the line of its reply is one, the record's answer is
  -- justified, its quality is as listed, and it is of its task and of its request
  row_by_if : (CanAnswer : List ℕ → Type 0) (acts : List Act) → ((line : List ℕ) → line_of r.end ≡ Some line → CanAnswer line)
      → Runs survey.plan survey.tasks (opening survey.plan (scope_of survey reads)) acts
      → AnswerIsJustified survey.plan survey.tasks (scope_of survey reads) acts r → IsAsListed reads survey.tasks r → IsOfItsTask survey.tasks r
      → IsOfItsRequest survey.plan survey.tasks (scope_of survey reads) acts r → HasItsMoment survey.plan survey.tasks (scope_of survey reads) acts r × IsAsRead (reads (form_at survey.tasks r.place)) r
      → IsRowBy CanAnswer has_quantities at survey (scope_of survey reads) acts r
  row_by_if CanAnswer acts can runs came listed of requested added =
      record {
        is_of = has.is_of;
        ended = added.0;
        clock = set_to at survey.tasks r of has.is_of.command.sent;
        asked = asked_by at survey.tasks r of has.is_of.command.sent has.is_of.request survey.plan (scope_of survey reads) acts requested;
        unsent = never_sent at survey.tasks r of has.is_of.command.sent has.is_of.request;
        replied = λ is.
            let replied = reply_ended r.end (subst IsOutcomeOfReply has.is_of.command.outcome is) in
            let justified = came replied.0 replied.1 in (
              replied.0,
              says replied.0 replied.1 (heard_is_reply replied.0 _ justified.reply.id) listed added.1,
              can replied.0 replied.1,
              came_at survey.plan survey.tasks (scope_of survey reads) acts runs r replied.0 replied.1 justified,
            );
        without = λ shows other name quantity. has.none shows (λ answers. other (has.is_of.command.outcome ∙ answers)) name quantity;
        blank = λ shows other name is. has.blank shows (λ answers. other (has.is_of.command.outcome ∙ answers)) name is;
        unqualified = λ other. has.quality ∙ without_quality r.end (λ answers. other (has.is_of.command.outcome ∙ answers));
        faultless = λ other. has.is_of.command.fault ∙ without_fault r.end (λ unreadable. other (has.is_of.command.outcome ∙ unreadable));
      }

-- a run of this survey with these acts, whose labels are sound, and in which the line of each reply may have answered the command of the
-- record that it ended, where `reads` gives what replies say of their calls
pub record IsAnswered (CanAnswer : Answers) (reads : Reads) (survey : Survey) (acts : List Act) : Type 0 where
  pub labels : AreSound survey.labels
  pub runs : Runs survey.plan survey.tasks (opening survey.plan (scope_of survey reads)) acts
  pub answers : (n : ℕ) (r : Record) → slice_get (records_in survey reads acts) n ≡ Some r → (line : List ℕ) → line_of r.end ≡ Some line → CanAnswer n r line

module _ (CanAnswer : Answers) (reads : Reads) (are : AreReadings reads) (survey : Survey) (acts : List Act) (is : IsAnswered CanAnswer reads survey acts) where
  -- a row or an object that has its texts (`HasItsTexts`) is by a line that may have answered its record, if that is among the first
  -- of the run's records (`written`)
  pub written_by : (has_quantities : Bool) (at : List ℕ → List ℕ) (r : Record) → HasItsTexts survey has_quantities at r → (written others : List Record)
      → records_in survey reads acts ≡ written ++ others → (n : ℕ) → slice_get written n ≡ Some r
      → IsRowBy (CanAnswer n r) has_quantities at survey (scope_of survey reads) acts r
  written_by has_quantities at r has written others order n got =
      let records = records_in survey reads acts in
      let there : slice_get records n ≡ Some r = ap (λ l. slice_get l n) order ∙ get_more written others n r got in
      row_by_if survey reads are has_quantities at r has (CanAnswer n r) acts (is.answers n r there) is.runs
      (all_at (AnswerIsJustified survey.plan survey.tasks (scope_of survey reads) acts) records n r (answers_true survey.plan survey.tasks (scope_of survey reads) acts is.runs) there)
      (all_at (λ (x : Record). IsAsListed reads survey.tasks x) records n r (qualities_as_listed survey.plan survey.tasks (scope_of survey reads) acts) there)
      (all_at (IsOfItsTask survey.tasks) records n r (of_tasks survey.plan survey.tasks (scope_of survey reads) acts) there)
      (one_requested survey.plan survey.tasks (scope_of survey reads) acts is.runs n r there)
      (one_added survey.plan survey.tasks (scope_of survey reads) acts is.runs n r there)

-- a run in the field is answered by lines that are its records' own
pub answered_in_field : {State : Type 0} (ends : Ends State) (kept : State → Option KeptReply) → IsAnInstrument ends AnyState kept → (reads : Reads) (x : FieldRun State)
    → IsFieldRun ends kept reads x → IsAnswered (own_lines ends AnyState kept reads x) reads x.run.survey (acts_in x.run)
answered_in_field ends kept is reads x was =
    let faithful = run_faithful ends AnyState kept is x.in_flight (program_of x.run.survey reads (acts_in x.run) x.happened) was.in_field in
    record {
      labels = was.is_run.labels;
      runs = was.in_field.runs;
      answers = λ n r got.
          all_at (IsOwnAnswer ends AnyState kept x.run.survey.tasks (parts_of_run reads x.run) (stretches ends x.in_flight x.happened)) (records_of_run reads x.run) n r faithful.own got;
    }
