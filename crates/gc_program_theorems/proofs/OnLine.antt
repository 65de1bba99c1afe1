-- Answers that were made in the field, in runs with the exchanges of a rehearsed line, were made on that line.
use Rattle.gc_program_theorems.proofs.Common.{◌≡◌, ℕ, zero, suc, inl, inr, List, [], ◌∷◌, ◌++◌, map, Some, refl, sym, ◌∙◌, ap, subst, AllByRecursion, slice_get, none-some, same_Some, every_weaker as all_on, asked_line, WINDOW, SceneState, call_at, occasion_in, Record, Has, has_at, has_more, UnderWay, begins, left_by_turns, AreRuns, ArePossibleIfBegun, Run, after_turns, killed_over, left_by_run, left_by_runs, under_way_on, ids_begun, Move, OnLine, AreFaithful, AreInARow, IsOwnAnswer, Program, program_parts, program_records, KeptReplyReads, scene_ends, scene_handed, scene_kept, Stretch, stretches, Up_deliver, Exchange, exchange_in, exchange_of_front, exchange_of_move, exchanges_if_begun, exchanges_of_all, exchanges_of_moves, exchanges_of_runs, exchanges_of_turns, RehearsedStation, as_program, programs}
use Rattle.gc_program_theorems.specs.OnLine.{AllAreOnLine, AnswersAreOnLine, IsOwnOnLine}
use Rattle.gc_program_theorems.proofs.Courses.{after_move, after_moves}
use Rattle.gc_program_theorems.proofs.Sides.{SceneWorld}

-- an element of a list is one of the list with others before it, too
has_behind : {A : Type 0} (a : A) (xs ys : List A) → Has a ys → Has a (xs ++ ys)
has_behind a [] ys h = h
has_behind a (x ∷ xs) ys h = inr (has_behind a xs ys h)

-- no list with an element in its midst is empty
never_empty : {A : Type 0} (front : List A) (x : A) (later : List A) → [] ≡ front ++ x ∷ later → ⊥
never_empty [] x later e = cc
never_empty (y ∷ front) x later e = cc

-- what is an exchange if the front request reaches the instrument after these moves, is one of the moves up to that
in_moves : (front later : List (Move SceneState)) (w : SceneWorld) (x : Exchange) → Has x (exchange_in (under_way_on (after_moves front w).wire))
    → Has x (exchanges_of_moves (front ++ OnLine Up_deliver ∷ later) w)
in_moves [] later w x h = has_more x (exchange_in (under_way_on w.wire)) (exchanges_of_moves later (after_move w (OnLine Up_deliver))) h
in_moves (m ∷ front) later w x h =
    has_behind x (exchange_of_move w m) (exchanges_of_moves (front ++ OnLine Up_deliver ∷ later) (after_move w m)) (in_moves front later (after_move w m) x h)

-- what is an exchange of a run's moves, among which there is one, is one of the run
in_run : (u : UnderWay SceneState) (r : Run SceneState) (front later : List (Move SceneState)) (y : Move SceneState) (x : Exchange) (left : List ℕ)
    → r.moves ≡ front ++ y ∷ later → ArePossibleIfBegun WINDOW scene_ends KeptReplyReads scene_kept left (after_turns scene_ends u r) r.moves
    → Has x (exchanges_of_moves r.moves (ids_begun (left_by_turns scene_ends r.turns u))) → Has x (exchanges_if_begun left (after_turns scene_ends u r) r.moves)
in_run u r front later y x [] split may h = h
in_run u r front later y x (asked ∷ rest) split may h = absurd (never_empty front y later (sym may ∙ split))

-- what is an exchange of the moves of one of the stretches of possible runs, among which there is a move, is one of the runs
in_runs : (u : UnderWay SceneState) (rs : List (Run SceneState)) (k : ℕ) (s : Stretch SceneState) (front later : List (Move SceneState)) (y : Move SceneState) (x : Exchange)
    → slice_get (stretches scene_ends u rs) k ≡ Some s → AreRuns WINDOW scene_ends KeptReplyReads scene_kept u rs → s.moves ≡ front ++ y ∷ later
    → Has x (exchanges_of_moves s.moves (ids_begun s.from)) → Has x (exchanges_of_runs u rs)
in_runs u [] k s front later y x found may split h = absurd (none-some s found)
in_runs u (r ∷ rs) zero s front later y x found may split h =
    let same = sym (same_Some (record { from = left_by_turns scene_ends r.turns u; moves = r.moves }) s found) in
    let begun = in_run u r front later y x (after_turns scene_ends u r).left (ap (λ (t : Stretch SceneState). t.moves) (sym same) ∙ split) may.0.1
    (subst (λ (t : Stretch SceneState). Has x (exchanges_of_moves t.moves (ids_begun t.from))) same h) in
    has_behind x (exchanges_of_turns r.turns (begins u)) _
    (has_more x (exchanges_if_begun (after_turns scene_ends u r).left (after_turns scene_ends u r) r.moves) (exchanges_of_runs (left_by_run WINDOW scene_ends u r) rs) begun)
in_runs u (r ∷ rs) (suc k) s front later y x found may split h =
    has_behind x (exchanges_of_turns r.turns (begins u)) _
    (has_behind x (exchanges_if_begun (after_turns scene_ends u r).left (after_turns scene_ends u r) r.moves) (exchanges_of_runs (left_by_run WINDOW scene_ends u r) rs)
    (in_runs (left_by_run WINDOW scene_ends u r) rs k s front later y x found may.1 split h))

module _ (es : List Exchange) (u : UnderWay SceneState) (x : Program SceneState) (may : AreRuns WINDOW scene_ends KeptReplyReads scene_kept u x.runs)
    (inside : (e : Exchange) → Has e (exchanges_of_runs u x.runs) → Has e es) where
  -- where the exchanges of possible runs are among `es`, an answer that is a record's own was made at one of `es`
  own_on_line : (r : Record) → IsOwnAnswer scene_ends KeptReplyReads scene_kept x.commands (program_parts x) (stretches scene_ends u x.runs) r
      → IsOwnOnLine es x.commands (program_parts x) (stretches scene_ends u x.runs) r
  own_on_line r answers line is =
      let own = answers line is in
      let made = own.made_on in
      let s = own.of.stretch in
      let start = ids_begun s.from in
      let w = after_moves made.front start in
      let call = call_at own.of.task (occasion_in own.of.expected r) in
      let e : Exchange = record {
        request = asked_line (Some made.id) call;
        before = w.wire.state;
        after = (scene_handed w.wire.state made.id call).state;
        reply = Some (scene_handed w.wire.state made.id call).reply;
      } in
      let here : Has e (exchange_in (under_way_on w.wire)) = subst (λ q. Has e (exchange_of_front w.wire.state (map (λ y. y.line) q))) (sym made.reaches) (inl refl) in
      let among = in_runs u x.runs own.of.k s made.front made.later (OnLine Up_deliver) e own.of.of_stretches may made.split
      (subst (λ ms. Has e (exchanges_of_moves ms start)) (sym made.split) (in_moves made.front made.later start e here)) in
      let at = has_at e es (inside e among) in
      record { own = own; happened = record { place = at.0; exchange = e; there = at.1; request = refl; before = refl; reply = ap Some (sym made.reply) } }

  -- where the exchanges of a program's possible runs are among `es`, its answers were made at these
  pub answers_on_line : AllByRecursion (IsOwnAnswer scene_ends KeptReplyReads scene_kept x.commands (program_parts x) (stretches scene_ends u x.runs)) (program_records x)
      → AnswersAreOnLine es u x
  answers_on_line own =
      all_on (IsOwnAnswer scene_ends KeptReplyReads scene_kept x.commands (program_parts x) (stretches scene_ends u x.runs))
      (IsOwnOnLine es x.commands (program_parts x) (stretches scene_ends u x.runs)) (program_records x) own_on_line own

-- where the exchanges of stations in a row are among `es`, the answers of each were made at these
pub all_on_line : (es : List Exchange) (n : ℕ) (u : UnderWay SceneState) (xs : List RehearsedStation) (rss : List (List (Run SceneState)))
    → ((e : Exchange) → Has e (exchanges_of_all u rss) → Has e es) → AreInARow scene_ends KeptReplyReads scene_kept n u (programs xs rss)
    → AreFaithful scene_ends KeptReplyReads scene_kept u (programs xs rss) → AllAreOnLine es u (programs xs rss)
all_on_line es n u [] rss inside field faithful = tt
all_on_line es n u (x ∷ xs) [] inside field faithful = tt
all_on_line es n u (x ∷ xs) (rs ∷ rss) inside field faithful =
    let next = left_by_runs WINDOW scene_ends u rs in (
      answers_on_line es u (as_program x rs) field.0.possible (λ e h. inside e (has_more e (exchanges_of_runs u rs) (exchanges_of_all next rss) h)) faithful.0.own,
      all_on_line es (killed_over WINDOW scene_ends n u rs) next xs rss (λ e h. inside e (has_behind e (exchanges_of_runs u rs) (exchanges_of_all next rss) h)) field.1 faithful.1,
    )
