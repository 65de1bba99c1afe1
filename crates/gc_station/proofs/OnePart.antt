-- Acts during which a station stays synchronized are of one part of the run: they add no part to those before them. An act is
-- one call on the link, with its result. A part reaches from one synchronization to the next.
use Rattle.gc_station.proofs.Common.{◌≡◌, suc, ◌&&◌, ◌||◌, Bool, true, false, not, List, [], ◌∷◌, ◌++◌, length, refl, sym, ap, subst, arith, Task, Plan, Action, Send, Act, has_begun, parts, Part, part_of_act, ends_part, in_front, parts_of, is_over, state_after, Scope, Puts, Model, Performs, Runs, opening, action_at, first_text, occasion_at, after, after_all, commands_left}
use Rattle.gc_station.proofs.Chaining.{StaysBegun}
use Rattle.gc_station.proofs.Going.{after_all-append, runs_behind}
use Rattle.gc_station.proofs.Turns.{no_act_once_over}
use Rattle.gc_station.proofs.SentAt.{joined_length}
use Rattle.gc_station.proofs.Closings.{needs_of}
use Rattle.gc_station.proofs.Losing.{ready_not_over}

-- if the run isn't over after acts, it wasn't before them, as no act follows once it is over
not_over_before : (plan : Plan) (commands : List Task) (u : Model) (acts : List Act) (over : Bool) → is_over u.progress ≡ over → Runs plan commands u acts
    → is_over (after_all plan commands u acts).progress ≡ false → is_over u.progress ≡ false
not_over_before plan commands u acts false e runs end = e
not_over_before plan commands u [] true e runs end = end
not_over_before plan commands u (act ∷ acts) true e runs end = absurd (no_act_once_over plan commands u act e runs.0)

-- if the station has synchronized after an act (`later`), and the run isn't over, the act ends no part, whether the station had
-- synchronized before (`begun`) or not
ends_no_part : (begun later over : Bool) → later ≡ true → over ≡ false → (begun && (not later || over)) ≡ false
ends_no_part true true over a o = o
ends_no_part true false over a o = cc
ends_no_part false later over a o = refl

-- acts of a run, after each of which the station has synchronized, are one part, if the run isn't over after them
are_one_part : (plan : Plan) (commands : List Task) (s : Model) (acts : List Act) → Runs plan commands s acts → StaysBegun plan commands s acts
    → is_over (after_all plan commands s acts).progress ≡ false → length (parts_of plan commands s acts) ≡ 1
are_one_part plan commands s [] runs keeps end = refl
are_one_part plan commands s (act ∷ acts) runs keeps end =
    let u = after plan commands s act in
    let p = part_of_act plan commands s (action_at plan s) act in
    let over = not_over_before plan commands u acts (is_over u.progress) refl runs.1 end in
    let ends : ends_part plan commands s act ≡ false = ends_no_part (has_begun s.progress) (has_begun u.progress) (is_over u.progress) keeps.0 over in
    subst (λ b. length (in_front p b (parts_of plan commands u acts)) ≡ 1) (sym ends) (joined_length p (parts_of plan commands u acts) 0 (are_one_part plan commands u acts runs.1 keeps.1 end))

-- if two lists have as many parts as each other, they still do once the same part is put before both (`in_front`)
front_length : (p : Part) (ends : Bool) (ps qs : List Part) → length ps ≡ length qs → length (in_front p ends ps) ≡ length (in_front p ends qs)
front_length p true ps qs e = ap suc e
front_length p false [] [] e = refl
front_length p false [] (y ∷ qs) e = absurd (omega (arith, e))
front_length p false (x ∷ ps) [] e = absurd (omega (arith, e))
front_length p false (x ∷ ps) (y ∷ qs) e = e

-- acts that are one part add no part to those of the acts before them: they go on in the last one
parts_more : (plan : Plan) (commands : List Task) (s : Model) (xs ys : List Act) → length (parts_of plan commands (after_all plan commands s xs) ys) ≡ 1
    → length (parts_of plan commands s (xs ++ ys)) ≡ length (parts_of plan commands s xs)
parts_more plan commands s [] ys one = one
parts_more plan commands s (act ∷ xs) ys one =
    front_length (part_of_act plan commands s (action_at plan s) act) (ends_part plan commands s act)
    (parts_of plan commands (after plan commands s act) (xs ++ ys)) (parts_of plan commands (after plan commands s act) xs)
    (parts_more plan commands (after plan commands s act) xs ys one)

-- an act that sends the next command of a cycle puts the line of that command, whole or in part
pub puts_text : (commands : List Task) (plan : Plan) (s : Model) (act : Act) → action_at plan s ≡ Send → Performs commands s (action_at plan s) act
    → Puts (first_text (occasion_at s.progress.moment) s.client (commands_left commands s.progress)) act
puts_text commands plan s act is obeys = subst (λ (o : Action). Performs commands s o act) is obeys

module _ (plan : Plan) (commands : List Task) (scope : Scope) where
  -- the model after these acts
  abbrev state : List Act → Model
  state acts = state_after plan commands scope acts

  -- if the station stays synchronized in the acts `request` and then `between`, and a command of a cycle is next after them, they
  -- add no part to those of the acts before
  pub same_part : (before between : List Act) (request : Act)
      → Runs plan commands (opening plan scope) (before ++ request ∷ between)
      → StaysBegun plan commands (state before) (request ∷ between)
      → action_at plan (state (before ++ request ∷ between)) ≡ Send
      → length (parts plan commands scope (before ++ request ∷ between)) ≡ length (parts plan commands scope before)
  same_part before between request runs keeps next =
      let s = state before in
      let on = runs_behind plan commands (opening plan scope) before (request ∷ between) runs in
      let last = ready_not_over (state (before ++ request ∷ between)).progress (needs_of plan (state (before ++ request ∷ between)) Send next).0 in
      let end = subst (λ (t : Model). is_over t.progress ≡ false) (after_all-append plan commands (opening plan scope) before (request ∷ between)) last in
      parts_more plan commands (opening plan scope) before (request ∷ between) (are_one_part plan commands s (request ∷ between) on keeps end)
