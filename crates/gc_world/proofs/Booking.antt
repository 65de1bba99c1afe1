-- On which executions the instrument of a scene made the lines that are booked.
use Rattle.gc_world.proofs.Common.{◌≡◌, ℕ, false, cond, List, [], ◌∷◌, ◌++◌, map, Some, None, refl, sym, ◌∙◌, ap, subst, map-append, Call, ById, kept_line, SceneState, scene_restarted, BooksOnExecuting, ExecutesEachTime, scene_handed, scene_ends, by_ids, ids_open, HasExecutions, untouched, Numbered, Request, Wire, World, call_line, replied}
use Rattle.gc_world.proofs.Keeping.{executed_at, stores_after}
use Rattle.gc_world.proofs.Booked.{AllMade, answer_made, has_at}
use Rattle.gc_world.proofs.Flow.{flow_run, taken}
use Rattle.gc_world.proofs.Stable.{IsStable, stable_all}

-- where the executions of a wire are recorded, and each of its answers is among the lines made for its request, each was made on
-- executing its request
pub books_on_executing : (opening : SceneState) (w : Wire SceneState) → HasExecutions scene_ends opening w → AllMade w.made 0 w.settled → BooksOnExecuting opening w
books_on_executing opening w executions all = record {
  executions = executions;
  own = λ m s line found answered.
      let has = has_at (record { number = m; line = line }) w.made (answer_made w.made w.settled m s line all found answered) in
      executions.replies has.0 (record { number = m; line = line }) has.1;
}

-- the requests of lines, in order
abbrev numbers_made : List (Numbered (List ℕ)) → List ℕ
numbers_made made = map (λ entry. entry.number) made

-- the instrument stores no reply, and the requests of the lines that it made are those that it executed
record EachTime (w : World (ById Call) SceneState) : Type 0 where
  stores : w.wire.state.repeats ≡ false
  same : numbers_made w.wire.made ≡ w.wire.executed

-- `EachTime` holds also once the front request was handed over
each_answered : (w : World (ById Call) SceneState) (x : Numbered Request) (rest : List (Numbered Request)) → EachTime w
    → EachTime (record { wire = replied w.wire x.number rest (scene_handed w.wire.state x.line.id x.line.call); client = w.client })
each_answered w x rest h =
    let none : cond w.wire.state.repeats (kept_line w.wire.state.base.kept (Some x.line.id)) None ≡ None =
    ap (λ b. cond b (kept_line w.wire.state.base.kept (Some x.line.id)) None) h.stores in
    record {
      stores = stores_after w.wire.state x.line.id x.line.call ∙ h.stores;
      same =
          map-append (λ (entry : Numbered (List ℕ)). entry.number) w.wire.made (record { number = x.number; line = (scene_handed w.wire.state x.line.id x.line.call).reply } ∷ [])
          ∙ ap (λ l. l ++ x.number ∷ []) h.same
          ∙ sym (ap (λ b. cond b (w.wire.executed ++ x.number ∷ []) w.wire.executed) (executed_at w.wire.state x.line.id x.line.call none));
    }

-- each elementary change of a world keeps `EachTime`
keeps_each_time : (width : ℕ) → IsStable call_line scene_ends (by_ids width scene_ends) EachTime
keeps_each_time width =
    record {
      idles = λ w h. record { stores = h.stores; same = h.same };
      refuses = λ w h. record { stores = h.stores; same = h.same };
      sends = λ w target call deadline x e h. record { stores = h.stores; same = h.same };
      answers = λ w x rest q h. each_answered w x rest h;
      loses_up = λ w k h. record { stores = h.stores; same = h.same };
      repeats_up = λ w k h. record { stores = h.stores; same = h.same };
      loses_down = λ w k h. record { stores = h.stores; same = h.same };
      repeats_down = λ w k h. record { stores = h.stores; same = h.same };
      hears = λ w x rest q h. record { stores = h.stores; same = h.same };
      expires = λ w now h. record { stores = h.stores; same = h.same };
      restarts = λ w u d h. record { stores = h.stores; same = h.same };
      starts = λ w u d h. record { stores = h.stores; same = h.same };
    }

-- on a scene whose instrument stores no reply, the requests of the lines that it made are those that it executed
pub executes_each_time : ExecutesEachTime
executes_each_time width opening events none =
    let state = scene_restarted opening in
    let v = untouched (ids_open state) in
    let steps = taken scene_ends (by_ids width scene_ends) events v in
    subst (λ (w : World (ById Call) SceneState). numbers_made w.wire.made ≡ w.wire.executed) (sym (flow_run scene_ends (by_ids width scene_ends) events v))
    (stable_all call_line scene_ends (by_ids width scene_ends) EachTime (keeps_each_time width) steps (ids_open state) (record { stores = none; same = refl })).same
