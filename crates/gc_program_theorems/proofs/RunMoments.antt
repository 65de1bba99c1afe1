-- The moments of a run that returned are runs so far; and each run so far is one that returns, if it is given as many turns as it made acts.
-- A turn is what was seen at an act.
use Rattle.gc_program_theorems.proofs.Common.{◌≡◌, inl, inr, ℕ, List, [], ◌∷◌, ◌++◌, length, take, drop, Option, Some, Result, Ok, Err, refl, sym, ap, ◌∙◌, subst, append_assoc, append-nil, flat_map-append, append_cancel_left, take-append-drop, same_Some, Appends, without_last, IsFront, Act, AddsActs, Closed, RunFault, Output, Task, with_turns, AreKept, IsKept, KeepsUp, Snapshot, close_at_output, Runs, opening, Record, WritesPart, texts_of, Ran, state_after, AreReadings, Reads, Scope, tally_of, Plan, Tally, runs_front, records_stay, Survey, front_text, text_by, end_of_run, IsMomentOf, MomentsAreRunsSoFar, ReturnedRunsAreRunsSoFar, RunMomentSeen, RunsSoFarReturn, so_far_at, taken_next, IsRunSoFar, before_last, texts_by, StationRun, acts_in, acts_measured, records_in, scope_of}
use Rattle.gc_station.proofs.FirstActs.{first_acts_are_a_run}
use Rattle.gc_measuring.specs.declared.stop.Stop.TheVariants.{Run}
use Rattle.gc_program_theorems.proofs.SoFar.{news_grew}
use Rattle.gc_program_theorems.proofs.Taken.{appended_to_known, run_took, written_front}

module _ (plan : Plan) (commands : List Task) (scope : Scope) (text : Record → List ℕ) (told : Option (List Act)) (taken : Option (List ℕ)) where
  -- at a turn, the one before `act`, all that the acts `before` and the first ones of `acts` settled was kept; and at the turns after it
  -- (`later`), what the acts by then settled
  pub record IsKeptBetween (before acts : List Act) (turn : Snapshot) (later : List Snapshot) : Type 0 where
    pub front : List Act
    pub act : Act
    pub behind : List Act
    pub all : acts ≡ front ++ act ∷ behind
    pub kept : IsKept plan commands scope text told taken (before ++ front) act turn
    pub rest : AreKept plan commands scope text told taken ((before ++ front) ++ act ∷ []) behind later

  -- where turns are `AreKept`, it is so of each of them
  kept_between : (before acts : List Act) (earlier later : List Snapshot) (turn : Snapshot) → AreKept plan commands scope text told taken before acts (earlier ++ turn ∷ later)
      → IsKeptBetween before acts turn later
  kept_between before [] [] later turn are = absurd are
  kept_between before [] (t ∷ earlier) later turn are = absurd are
  kept_between before (act ∷ acts) [] later turn are =
      record {
        front = [];
        act = act;
        behind = acts;
        all = refl;
        kept = subst (λ (xs : List Act). IsKept plan commands scope text told taken xs act turn) (sym (append-nil before)) are.0;
        rest = subst (λ (xs : List Act). AreKept plan commands scope text told taken (xs ++ act ∷ []) acts later) (sym (append-nil before)) are.1;
      }
  kept_between before (act ∷ acts) (t ∷ earlier) later turn are =
      let rest = kept_between (before ++ act ∷ []) acts earlier later turn are.1 in
      let same = append_assoc before (act ∷ []) rest.front in
      record {
        front = act ∷ rest.front;
        act = rest.act;
        behind = rest.behind;
        all = ap (λ (xs : List Act). act ∷ xs) rest.all;
        kept = subst (λ (xs : List Act). IsKept plan commands scope text told taken xs rest.act turn) same rest.kept;
        rest = subst (λ (xs : List Act). AreKept plan commands scope text told taken (xs ++ rest.act ∷ []) rest.behind later) same rest.rest;
      }

-- the acts of a run, among those that its link recorded, are those to which turns belong
pub measured_are : (end : Result Tally RunFault) (recorded acts : List Act) → recorded ≡ acts ++ close_at_output end → acts_measured (end_of_run end) recorded ≡ acts
measured_are (Ok tally) recorded acts e = e ∙ append-nil acts
measured_are (Err Output) recorded acts e = ap (acts_measured (end_of_run (Err Output))) e ∙ without_last acts Closed
measured_are (Err fault) recorded acts e = e ∙ append-nil acts

-- where bytes are split behind the same ones, what follows is a front
front_from : (start front since more all : List ℕ) → start ++ all ≡ ((start ++ front) ++ since) ++ more → all ≡ (front ++ since) ++ more
front_from start front since more all e =
    append_cancel_left start all ((front ++ since) ++ more)
    (e ∙ ap (λ (l : List ℕ). l ++ more) (append_assoc start front since) ∙ append_assoc start (front ++ since) more)

module _ (reads : Reads) (are : AreReadings reads) (run : StationRun) (m : RunMomentSeen) (is : IsMomentOf run m) where
  -- what the run measures
  abbrev survey : Survey
  survey = run.survey

  -- its scope
  abbrev scope : Scope
  scope = scope_of survey reads

  -- what its sink had taken before the records
  abbrev start : List ℕ
  start = m.had ++ front_text survey.layout survey.labels.columns

  -- that is what the run's contract says
  between_is : is.is_run.ran.between ≡ Some start
  between_is =
      appended_to_known m.had (front_text survey.layout survey.labels.columns) is.is_run.ran.between
      (subst (λ (t : Option (List ℕ)). Appends t is.is_run.ran.between (front_text survey.layout survey.labels.columns)) is.had is.is_run.ran.front)

  -- the run kept up
  keeps : KeepsUp survey.plan survey.tasks scope (text_by survey) (Some []) (Some run.recorded) (Some start) run.old.turns run.new.turns (close_at_output is.is_run.ran.end)
  keeps = rw (← is.is_run.none, ← is.is_run.acts, ← between_is) (is.is_run.ran.run.keeps.0 reads are)

  -- at the moment's turn and those after it
  kept : IsKeptBetween survey.plan survey.tasks scope (text_by survey) (Some []) (Some start) [] keeps.acts m.turn m.later
  kept =
      let turns = append_cancel_left run.old.turns keeps.turns (m.earlier ++ m.turn ∷ m.later) (sym keeps.saw ∙ is.among) in
      kept_between survey.plan survey.tasks scope (text_by survey) (Some []) (Some start) [] keeps.acts m.earlier m.later m.turn (rw (← turns) keeps.kept)

  -- the acts that were done by the turn
  done_is : m.done ≡ kept.front
  done_is = subst (λ (t : Option (List Act)). AddsActs (Some []) t kept.front) is.done kept.kept.tells

  -- what was seen of the sink then
  seen_is : m.seen ≡ start ++ texts_by survey reads kept.front
  seen_is = same_Some m.seen (start ++ texts_by survey reads kept.front) (sym is.seen ∙ appended_to_known start (texts_by survey reads kept.front) m.turn.taken kept.kept.took)

  -- the acts of the run
  acts_are : acts_in run ≡ kept.front ++ kept.act ∷ kept.behind
  acts_are =
      ap (λ r. acts_measured r run.recorded) is.is_run.ran.is ∙ measured_are is.is_run.ran.end run.recorded keeps.acts keeps.tells ∙ kept.all

  -- the acts after those that were done
  behind_is : kept.act ∷ kept.behind ≡ m.act ∷ is.others
  behind_is =
      append_cancel_left kept.front (kept.act ∷ kept.behind) (m.act ∷ is.others)
      (sym acts_are ∙ is.order ∙ append_assoc m.done (m.act ∷ []) is.others ∙ ap (λ (xs : List Act). xs ++ m.act ∷ is.others) done_is)

  -- the act at the turn
  act_is : kept.act ≡ m.act
  act_is = let e = behind_is in cc

  -- the acts by the moment
  so_far_are : m.done ++ m.act ∷ [] ≡ kept.front ++ kept.act ∷ []
  so_far_are = ap (λ (xs : List Act). xs ++ m.act ∷ []) done_is ∙ ap (λ (a : Act). kept.front ++ a ∷ []) (sym act_is)

  -- the bytes at the next turn or at the end
  next_is : is.next ≡ ((start ++ texts_by survey reads kept.front) ++ m.since) ++ is.more
  next_is = is.goes_on ∙ ap (λ (l : List ℕ). (l ++ m.since) ++ is.more) seen_is

  -- what was taken by the moment is a front of the texts of all that the acts so far settled
  front_of : IsFront (texts_by survey reads kept.front ++ m.since) (texts_by survey reads (kept.front ++ kept.act ∷ []))
  front_of = by_later m.later kept.behind refl kept.rest is.taken where
    -- by the turns after it
    by_later : (later : List Snapshot) (behind : List Act) → kept.behind ≡ behind
        → AreKept survey.plan survey.tasks scope (text_by survey) (Some []) (Some start) (kept.front ++ kept.act ∷ []) behind later
        → taken_next run.new.taken later ≡ Some is.next → IsFront (texts_by survey reads kept.front ++ m.since) (texts_by survey reads (kept.front ++ kept.act ∷ []))
    by_later [] (act ∷ behind) same rest taken = absurd rest
    by_later (turn ∷ later) [] same rest taken = absurd rest
    by_later (turn ∷ later) (act ∷ behind) same rest taken =
        let texts = texts_by survey reads (kept.front ++ kept.act ∷ []) in
        let there : start ++ texts ≡ is.next = same_Some (start ++ texts) is.next (sym (appended_to_known start texts turn.taken rest.0.took) ∙ taken) in
        record { rest = is.more; split = front_from start (texts_by survey reads kept.front) m.since is.more texts (there ∙ next_is) }
    by_later [] [] same rest taken =
        let took = run_took reads are run m.had is.is_run is.had in
        let written = texts_of (text_by survey) took.are.written ++ took.torn in
        let there : start ++ written ≡ is.next = same_Some (start ++ written) is.next (sym took.is ∙ taken) in
        let w : written ≡ (texts_by survey reads kept.front ++ m.since) ++ is.more = front_from start (texts_by survey reads kept.front) m.since is.more written (there ∙ next_is) in
        let front = written_front (text_by survey) _ run.result took.torn took.are in
        let whole : acts_in run ≡ kept.front ++ kept.act ∷ [] = acts_are ∙ ap (λ (xs : List Act). kept.front ++ kept.act ∷ xs) same in
        record {
          rest = is.more ++ front.rest;
          split = ap (texts_by survey reads) (sym whole) ∙ front.split ∙ ap (λ (l : List ℕ). l ++ front.rest) w ∙ append_assoc (texts_by survey reads kept.front ++ m.since) is.more front.rest;
        }

  -- the moment is a run so far
  moment_so_far : IsRunSoFar reads (so_far_at run m)
  moment_so_far =
      let acts = m.done ++ m.act ∷ [] in
      let last : before_last acts ≡ kept.front = without_last m.done m.act ∙ done_is in
      let settled : texts_by survey reads (before_last acts) ≡ texts_by survey reads kept.front = ap (texts_by survey reads) last in
      record {
        labels = is.is_run.labels;
        runs = subst (λ (xs : List Act). Runs survey.plan survey.tasks (opening survey.plan scope) xs) (sym so_far_are)
            (runs_front survey.plan survey.tasks (opening survey.plan scope) (kept.front ++ kept.act ∷ []) kept.behind
            (subst (λ (xs : List Act). Runs survey.plan survey.tasks (opening survey.plan scope) xs) (kept.all ∙ sym (append_assoc kept.front (kept.act ∷ []) kept.behind)) keeps.runs));
        since = m.since;
        took = ap (λ (l : List ℕ). l ++ m.since) seen_is ∙ append_assoc start (texts_by survey reads kept.front) m.since
            ∙ ap (λ (l : List ℕ). start ++ (l ++ m.since)) (sym settled);
        own = record {
          rest = front_of.rest;
          split = ap (texts_by survey reads) so_far_are ∙ front_of.split ∙ ap (λ (l : List ℕ). (l ++ m.since) ++ front_of.rest) (sym settled);
        };
      }

-- the law: each moment of a run that returned, from its first act on, is a run so far
pub moments_so_far : MomentsAreRunsSoFar
moments_so_far reads are run m is = moment_so_far reads are run m is

-- The end of a run.

module _ (survey : Survey) (reads : Reads) (start taken : List ℕ) where
  -- what a sink that had the bytes `start` has taken of a run that made these acts (`IsRunSoFar`)
  abbrev HasSoFar : List Act → Type 0
  HasSoFar acts =
      (since : List ℕ) × (taken ≡ start ++ (texts_by survey reads (before_last acts) ++ since)) × IsFront (texts_by survey reads (before_last acts) ++ since) (texts_by survey reads acts)

  -- if it has the texts of all records
  all_so_far : (acts : List Act) → taken ≡ start ++ texts_by survey reads acts → HasSoFar acts
  all_so_far acts is =
      let news = news_grew survey reads acts in
      let settled = records_in survey reads (before_last acts) in
      let both : texts_by survey reads acts ≡ texts_by survey reads (before_last acts) ++ texts_of (text_by survey) news.0 =
      ap (texts_of (text_by survey)) news.1 ∙ flat_map-append (text_by survey) settled news.0 in (
        texts_of (text_by survey) news.0,
        is ∙ ap (λ (l : List ℕ). start ++ l) both,
        record { rest = []; split = both ∙ sym (append-nil (texts_by survey reads (before_last acts) ++ texts_of (text_by survey) news.0)) },
      )

  -- if its output failed at a record of the last act
  part_so_far : (acts : List Act) (last : Act) → (has : Option (List ℕ)) → has ≡ Some taken
      → WritesPart (text_by survey) (records_in survey reads acts) (records_in survey reads (acts ++ last ∷ [])) (Some start) has → HasSoFar (acts ++ last ∷ [])
  part_so_far acts last has is w =
      let text = text_by survey in
      let old = records_in survey reads acts in
      let part = take w.part (text w.next) in
      let rest = drop w.part (text w.next) ++ texts_of text w.later in
      let before : before_last (acts ++ last ∷ []) ≡ acts = without_last acts last in
      let bytes = texts_of text (old ++ w.earlier) ++ part in
      let took : taken ≡ start ++ bytes = same_Some taken (start ++ bytes) (sym is ∙ appended_to_known start bytes has w.took) in
      let settled : bytes ≡ texts_by survey reads (before_last (acts ++ last ∷ [])) ++ (texts_of text w.earlier ++ part) =
      ap (λ (l : List ℕ). l ++ part) (flat_map-append text old w.earlier) ∙ append_assoc (texts_of text old) (texts_of text w.earlier) part
      ∙ ap (λ (xs : List Act). texts_by survey reads xs ++ (texts_of text w.earlier ++ part)) (sym before) in
      let whole : texts_by survey reads (acts ++ last ∷ []) ≡ bytes ++ rest =
      ap (texts_of text) (w.order ∙ sym (append_assoc old w.earlier (w.next ∷ w.later))) ∙ flat_map-append text (old ++ w.earlier) (w.next ∷ w.later)
      ∙ ap (λ (l : List ℕ). texts_of text (old ++ w.earlier) ++ (l ++ texts_of text w.later)) (sym (take-append-drop w.part (text w.next)))
      ∙ ap (λ (l : List ℕ). texts_of text (old ++ w.earlier) ++ l) (append_assoc part (drop w.part (text w.next)) (texts_of text w.later))
      ∙ sym (append_assoc (texts_of text (old ++ w.earlier)) part rest) in (
        texts_of text w.earlier ++ part,
        took ∙ ap (λ (l : List ℕ). start ++ l) settled,
        record { rest = rest; split = whole ∙ ap (λ (l : List ℕ). l ++ rest) settled },
      )

  -- the same of other acts
  so_far_of : (acts measured : List Act) → measured ≡ acts → HasSoFar acts → HasSoFar measured
  so_far_of acts measured e h = subst HasSoFar (sym e) h

  -- of a run, whatever its end
  ran_so_far : (end : Result Tally RunFault) (told : List Act) (has : Option (List ℕ)) → has ≡ Some taken
      → Ran survey.plan survey.tasks (scope_of survey reads) (text_by survey) (Some []) (Some told) (Some start) has end → HasSoFar (acts_measured (end_of_run end) told)
  ran_so_far (Ok tally) told has is r =
      so_far_of r.1.acts told r.1.tells
      (all_so_far r.1.acts (same_Some taken (start ++ texts_by survey reads r.1.acts) (sym is ∙ appended_to_known start (texts_by survey reads r.1.acts) has r.1.took)))
  ran_so_far (Err Output) told has is (inl r) =
      let whole : told ≡ (r.acts ++ r.last ∷ []) ++ Closed ∷ [] = r.tells ∙ sym (append_assoc r.acts (r.last ∷ []) (Closed ∷ [])) in
      so_far_of (r.acts ++ r.last ∷ []) (acts_measured (Err (Run Output)) told) (ap (acts_measured (Err (Run Output))) whole ∙ without_last (r.acts ++ r.last ∷ []) Closed)
      (part_so_far r.acts r.last has is r.took)
  ran_so_far (Err Output) told has is (inr r) =
      so_far_of r.acts (acts_measured (Err (Run Output)) told) (ap (acts_measured (Err (Run Output))) r.tells ∙ without_last r.acts Closed)
      (all_so_far r.acts (same_Some taken (start ++ texts_by survey reads r.acts) (sym is ∙ appended_to_known start (texts_by survey reads r.acts) has r.took)))
  ran_so_far (Err fault) told has is r =
      so_far_of r.2.acts told r.2.tells
      (all_so_far r.2.acts (same_Some taken (start ++ texts_by survey reads r.2.acts) (sym is ∙ appended_to_known start (texts_by survey reads r.2.acts) has r.2.took)))

-- the law: each run that returned is a run so far at its end
pub ends_so_far : ReturnedRunsAreRunsSoFar
ends_so_far reads are run had taken is old new =
    let survey = run.survey in
    let b = is.ran in
    let start = had ++ front_text survey.layout survey.labels.columns in
    let between : b.between ≡ Some start =
    appended_to_known had (front_text survey.layout survey.labels.columns) b.between (subst (λ (t : Option (List ℕ)). Appends t b.between (front_text survey.layout survey.labels.columns)) old b.front) in
    let ran : Ran survey.plan survey.tasks (scope_of survey reads) (text_by survey) (Some []) (Some run.recorded) (Some start) run.new.taken b.end =
    rw (← is.none, ← is.acts, ← between) (b.run.ran.0 reads are) in
    let measured : acts_in run ≡ acts_measured (end_of_run b.end) run.recorded = ap (λ r. acts_measured r run.recorded) b.is in
    let h = subst (HasSoFar survey reads start taken) (sym measured) (ran_so_far survey reads start taken b.end run.recorded run.new.taken new ran) in
    let keeps : KeepsUp survey.plan survey.tasks (scope_of survey reads) (text_by survey) (Some []) (Some run.recorded) (Some start) run.old.turns run.new.turns (close_at_output b.end) =
    rw (← is.none, ← is.acts, ← between) (b.run.keeps.0 reads are) in
    record {
      labels = is.labels;
      runs = subst (λ (xs : List Act). Runs survey.plan survey.tasks (opening survey.plan (scope_of survey reads)) xs)
          (sym (measured ∙ measured_are b.end run.recorded keeps.acts keeps.tells)) keeps.runs;
      since = h.0;
      took = h.1;
      own = h.2;
    }

-- the law: each run so far is one that returns, if it is given as many turns as it made acts
pub runs_return : RunsSoFarReturn
runs_return reads are x is few =
    let survey = x.survey in
    let scope = scope_of survey reads in
    let text = text_by survey in
    let turns = with_turns (length x.acts) scope in
    let start = x.had ++ front_text survey.layout survey.labels.columns in
    let whole = first_acts_are_a_run survey.plan survey.tasks scope x.acts []
    (subst (λ (xs : List Act). Runs survey.plan survey.tasks (opening survey.plan scope) xs) (sym (append-nil x.acts)) is.runs) few in
    let ends = whole.ends in
    let more = records_stay survey.plan survey.tasks turns x.acts ends.last in
    let final = (state_after survey.plan survey.tasks turns (x.acts ++ ends.last)).records in
    let settled = texts_by survey reads (before_last x.acts) in
    let texts : texts_of text final ≡ (settled ++ is.since) ++ (is.own.rest ++ (texts_of text whole.all.0 ++ texts_of text more.0)) =
    ap (texts_of text) (more.1 ∙ ap (λ (l : List Record). l ++ more.0) whole.all.1)
    ∙ flat_map-append text ((state_after survey.plan survey.tasks scope x.acts).records ++ whole.all.0) more.0
    ∙ ap (λ (l : List ℕ). l ++ texts_of text more.0) (flat_map-append text (state_after survey.plan survey.tasks scope x.acts).records whole.all.0
    ∙ ap (λ (l : List ℕ). l ++ texts_of text whole.all.0) is.own.split)
    ∙ append_assoc ((settled ++ is.since) ++ is.own.rest) (texts_of text whole.all.0) (texts_of text more.0)
    ∙ append_assoc (settled ++ is.since) is.own.rest (texts_of text whole.all.0 ++ texts_of text more.0) in
    record {
      last = ends.last;
      at_most_a_close = ends.at_most_a_close;
      cause = ends.why;
      tally = tally_of final;
      taken = start ++ texts_of text final;
      ran = record { acts = x.acts ++ ends.last; tells = refl; runs = ends.runs; stops = ends.stops; took = refl; counts = refl };
      front = record {
        rest = is.own.rest ++ (texts_of text whole.all.0 ++ texts_of text more.0);
        split = ap (λ (l : List ℕ). start ++ l) texts ∙ sym (append_assoc start (settled ++ is.since) (is.own.rest ++ (texts_of text whole.all.0 ++ texts_of text more.0)))
            ∙ ap (λ (l : List ℕ). l ++ (is.own.rest ++ (texts_of text whole.all.0 ++ texts_of text more.0))) (sym is.took);
      };
    }
