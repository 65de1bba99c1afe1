-- A command of a chain is sent only after the answer of the one before it. The two fields on chains of a progress are
-- `next_is_chained`, whether the next command waits for that answer, and `chain_unbroken`. An act is one call on the link, with
-- its result. `ChainIsRight` says that both fields are right after the acts so far, and `IsUnbroken` that the command before
-- the next one was sent, with no connection closed and no new synchronization since.
use Rattle.gc_station.proofs.Common.{◌≡◌, ◌⊎◌, inl, inr, ℕ, ◌+◌, ◌-◌, ◌<◌, ◌≤◌, ◌||◌, Bool, true, false, List, [], ◌∷◌, ◌++◌, length, drop, map, Option, refl, sym, ap, ◌∙◌, subst, arith, append_assoc, append-nil, AllByRecursion, drop_all, length-drop, map-append, same_from_push, both_ways, or_right, every_behind as all_behind, Answer, Task, End, Answered, line_of, is_good, Quality, Plan, Action, Begin, Renew, Send, Skip, Pass, Close, Stop, Prepare, Progress, Waiting, Act, Told, AnswerIsJustified, IsChained, IsLinked, has_begun, Interleave, RunRequest, of_record, of_task, requests, commands_reached, of_text, in_text, commands_in, is_well, last_well, IsAsListed, KeepsOpen, turned, HoldsBefore, MayGo, Record, state_after, Scope, Model, Performs, Runs, opening, action_at, waiting_of, with_losses, with_progress, moved, after, after_all, cycle_length, place_next, commands_left, cycles_begun, rests, is_chained_in}
use Rattle.gc_station.proofs.Answers.{answers_true}
use Rattle.gc_station.proofs.Counts.{with_losses_progress, with_losses_passes}
use Rattle.gc_station.proofs.Each.{row_settled, reached_next, row}
use Rattle.gc_station.proofs.Interleaving.{ComesBefore, before_not_after, drop_past, interleave_all, interleave_last, reached_before}
use Rattle.gc_station.proofs.EachRun.{invariant_holds}
use Rattle.gc_station.proofs.Row.{last_of_cycle, of_text_last}
use Rattle.gc_station.proofs.Facts.{action_for}
use Rattle.gc_station.proofs.Invariant.{Invariant}
use Rattle.gc_station.proofs.Going.{after_all-append}
use Rattle.gc_station.proofs.Lists.{all_append}
use Rattle.gc_station.proofs.Nearly.{qualities_as_listed}
use Rattle.gc_station.proofs.Walk.{moved_changed}
use Rattle.gc_station.proofs.Words.{begun_kept}
use Rattle.gc_station.proofs.ChainSteps.{Still, GoesOnBy, AtCycleStart, ChangesChain, moved_steps, stays_open}

-- What holds of each of some acts.

-- P holds of each of these acts, with the model before it
abbrev pub EachAct : (P : Model → Act → Type 0) → Plan → List Task → Model → List Act → Type 0
EachAct P plan commands s [] = Unit {0}
EachAct P plan commands s (act ∷ acts) = P s act × EachAct P plan commands (after plan commands s act) acts

-- `EachAct` holds of two lists of acts, the second after the first, if it holds of each
pub each_act_append : (P : Model → Act → Type 0) (plan : Plan) (commands : List Task) (s : Model) (xs ys : List Act) → EachAct P plan commands s xs
    → EachAct P plan commands (after_all plan commands s xs) ys → EachAct P plan commands s (xs ++ ys)
each_act_append P plan commands s [] ys h k = k
each_act_append P plan commands s (x ∷ xs) ys h k = (h.0, each_act_append P plan commands (after plan commands s x) xs ys h.1 k)

-- the station has synchronized after this act, made from the model s on
abbrev pub IsBegunAfter : Plan → List Task → (s : Model) → Act → Type 0
IsBegunAfter plan commands s act = has_begun (after plan commands s act).progress ≡ true

-- the station has synchronized after each of these acts
abbrev pub StaysBegun : Plan → List Task → Model → List Act → Type 0
StaysBegun plan commands s acts = EachAct (IsBegunAfter plan commands) plan commands s acts

-- `StaysBegun` is preserved by one more act, if the station has synchronized after that act
stays_begun_more : (plan : Plan) (commands : List Task) (s : Model) (acts : List Act) (act : Act) → StaysBegun plan commands s acts
    → has_begun (after_all plan commands s (acts ++ act ∷ [])).progress ≡ true → StaysBegun plan commands s (acts ++ act ∷ [])
stays_begun_more plan commands s acts act h e =
    each_act_append (IsBegunAfter plan commands) plan commands s acts (act ∷ []) h
    (ap (λ (x : Model). has_begun x.progress) (sym (after_all-append plan commands s acts (act ∷ []))) ∙ e, tt)

-- this act, made from the model s on, sends no command of the setup
abbrev pub SendsNoSetup : Plan → (s : Model) → Act → Type 0
SendsNoSetup plan s act = action_at plan s ≡ Prepare → ⊥

-- none of these acts sends a command of the setup
abbrev pub PreparesNothing : Plan → List Task → Model → List Act → Type 0
PreparesNothing plan commands s acts = EachAct (SendsNoSetup plan) plan commands s acts

-- What an act leaves out, and what it does to the place and to `next_is_chained`.

-- from the model s to t nothing is left out, or no chain goes on in t
abbrev LeavesNothingOut : (s t : Model) → Type 0
LeavesNothingOut s t = (t.passes ≡ s.passes) ⊎ (t.progress.chain_unbroken ≡ false)

-- no act leaves commands out, but one after which no chain goes on
moved_leaves_nothing_out : (plan : Plan) (commands : List Task) (action : Action) (s : Model) (act : Act) → LeavesNothingOut s (moved plan commands action s act)
moved_leaves_nothing_out plan commands Pass s (Told m) = inr refl
moved_leaves_nothing_out plan commands Pass s act = inl refl
moved_leaves_nothing_out plan commands action s act = inl (ap (λ (x : Model). x.passes) (moved_changed plan commands action s act))

-- if `LeavesNothingOut` holds from s to t, and a chain goes on in t, the commands that were left out in s (`before`) are those
-- left out in t
same_passes : (s t : Model) (before : List RunRequest) → LeavesNothingOut s t → t.progress.chain_unbroken ≡ true → s.passes ≡ before → t.passes ≡ before
same_passes s t before (inl same) e is = same ∙ is
same_passes s t before (inr none) e is = absurd (both_ways t.progress.chain_unbroken none e)

-- whether the cycle's next command counts as one that waits for the answer of the one before it: its cycle is missed, or it rests, or the
-- text chains it
abbrev pub waits_for_answer : Plan → List Task → Progress → Bool
waits_for_answer plan commands p = p.missed || is_chained_in (cycles_begun plan p) (commands_left commands p)

-- what `ChainIsRight` says of `next_is_chained` holds still where the next command and the fields on chains stay (`Still`)
still_chained : (plan : Plan) (commands : List Task) (p q : Progress) → (stays : Still p q)
    → (before : plan.setup < place_next commands p → p.next_is_chained ≡ waits_for_answer plan commands p)
    → plan.setup < place_next commands q → q.next_is_chained ≡ waits_for_answer plan commands q
still_chained plan commands p q k before above =
    let place_is : place_next commands q ≡ place_next commands p = ap (λ (n : ℕ). length commands - n) k.unsent in
    k.next_is_chained ∙ before (subst (λ (n : ℕ). plan.setup < n) place_is above)
    ∙ ap (λ (b : Bool). b || is_chained_in (cycles_begun plan p) (drop (place_next commands p) commands)) (sym k.missed)
    ∙ ap (λ (n : ℕ). q.missed || is_chained_in (plan.cycles - n) (drop (place_next commands p) commands)) (sym k.left)
    ∙ ap (λ (n : ℕ). q.missed || is_chained_in (cycles_begun plan q) (drop n commands)) (sym place_is)

-- if a command is unsent in p, no more are than `commands` has, and one fewer is unsent in q, the next command of q is one place
-- after that of p
next_place : (commands : List Task) (p q : Progress) → q.unsent ≡ p.unsent - 1 → 0 < p.unsent → p.unsent ≤ length commands → place_next commands q ≡ place_next commands p + 1
next_place commands p q less some within = omega (arith, less, some, within)

-- once commands had their turn (`GoesOnBy`), `next_is_chained` is what the text says of the next command, or true in a missed
-- cycle, if no more were unsent than `commands` has
pub next_chained : (plan : Plan) (count : ℕ) (commands : List Task) (p q : Progress) → GoesOnBy plan count commands p q → p.unsent ≤ length commands → q.next_is_chained ≡ waits_for_answer plan commands q
next_chained plan count commands p q on within =
    on.chained ∙ ap (λ (b : Bool). b || is_chained_in (cycles_begun plan p) (drop (place_next commands p + count) commands)) (sym on.missed)
    ∙ ap (λ (n : ℕ). q.missed || is_chained_in (plan.cycles - n) (drop (place_next commands p + count) commands)) (sym on.left)
    ∙ ap (λ (xs : List Task). q.missed || is_chained_in (cycles_begun plan q) xs) (drop_past commands p.unsent count within)
    ∙ ap (λ (n : ℕ). q.missed || is_chained_in (cycles_begun plan q) (drop (length commands - n) commands)) (sym on.unsent)

-- `LeavesNothingOut` is preserved by the loss of what is outstanding, at the end of an act
with_losses_leaves_nothing_out : (s t : Model) → LeavesNothingOut s t → LeavesNothingOut s (with_losses t)
with_losses_leaves_nothing_out s t (inl same) = inl (with_losses_passes t ∙ same)
with_losses_leaves_nothing_out s t (inr none) = inr (ap (λ (p : Progress). p.chain_unbroken) (with_losses_progress t) ∙ none)

-- if no command is unsent, none is left from the next place on
pub no_next_command : (commands : List Task) → drop (length commands - 0) commands ≡ []
no_next_command commands = drop_all (length commands - 0) commands (omega arith)

-- What the last record says.

-- the last of these records (`answer`) is of a command that was answered well, by the reply `line`
record EndsAnsweredWell (records : List Record) : Type 0 where
  earlier : List Record
  answer : Record
  last : records ≡ earlier ++ answer ∷ []
  line : List ℕ
  quality : Quality
  said : Option Answer
  answered : answer.end ≡ Answered quality said line
  well : is_good quality ≡ true

-- a command that was answered well has an answer of a good quality
well_end : (end : End) → is_well end ≡ true → (quality : Quality) × (said : Option Answer) × (line : List ℕ) × (end ≡ Answered quality said line) × (is_good quality ≡ true)
well_end (Answered quality said line) e = (quality, said, line, refl, e)
well_end end e = cc

-- if the last of `r` and the records after it was answered well, `EndsAnsweredWell` holds of all of them
ends_well_with : (r : Record) (rs : List Record) → last_well (is_well r.end) rs ≡ true → EndsAnsweredWell (r ∷ rs)
ends_well_with r [] e = let it = well_end r.end e in record { earlier = []; answer = r; last = refl; quality = it.0; said = it.1; line = it.2; answered = it.3; well = it.4 }
ends_well_with r (x ∷ rs) e =
    let l = ends_well_with x rs e in
    record { earlier = r ∷ l.earlier; answer = l.answer; last = ap (λ xs. r ∷ xs) l.last; quality = l.quality; said = l.said; line = l.line; answered = l.answered; well = l.well }

-- if the last of some records was answered well, `EndsAnsweredWell` holds of them
ends_well : (rs : List Record) → last_well false rs ≡ true → EndsAnsweredWell rs
ends_well [] e = cc
ends_well (r ∷ rs) e = ends_well_with r rs e

-- what holds of all elements of a list holds of its last one
all_last : {A : Type 0} (P : A → Type 0) (xs : List A) (x : A) → AllByRecursion P (xs ++ x ∷ []) → P x
all_last P xs x all = (all_behind P xs (x ∷ []) all).0

-- as `reached_next`, where it is known only that a command is left: in a cycle, the commands that had their turn, with the next
-- one after them, are those that had their turn one place later
reached_one_more : (plan : Plan) (commands : List Task) (cycle place : ℕ) (left : List Task) → drop place commands ≡ left → 0 < length left → 0 < cycle
    → plan.setup ≤ place
    → (task : Task) × (commands_reached plan.setup commands cycle place ++ requests cycle place (of_task task ∷ []) ≡ commands_reached plan.setup commands cycle (place + 1))
reached_one_more plan commands cycle place [] at some many within = absurd (omega (arith, some))
reached_one_more plan commands cycle place (task ∷ others) at some many within = (task, reached_next plan.setup commands cycle place task others at within many)

-- What every run keeps of the chain where it is.

module _ (plan : Plan) (commands : List Task) (scope : Scope) where
  -- the model after these acts
  abbrev at : List Act → Model
  at acts = state_after plan commands scope acts

  -- a station has the progress p and has synchronized; the command before the next one, of the same cycle, was sent among these
  -- acts; and since then no connection was closed, the station didn't resynchronize, no attempts were left out, and no command of
  -- the setup was sent
  record IsUnbroken (acts : List Act) (p : Progress) : Type 0 where
    before : List Act
    request : Act
    between : List Act
    order : acts ≡ before ++ request ∷ between
    sends : action_at plan (at before) ≡ Send
    cycle : cycles_begun plan p ≡ cycles_begun plan (at before).progress
    place : place_next commands p ≡ place_next commands (at before).progress + 1
    stays : AllByRecursion KeepsOpen between
    begun : has_begun p ≡ true
    passes : (at acts).passes ≡ (at before).passes
    keeps : StaysBegun plan commands (at before) (request ∷ between)
    no_setup : PreparesNothing plan commands (at before) (request ∷ between)

  -- if all acts (`all`) are `before` and then `behind`, and the station has synchronized after all of them, it has synchronized
  -- after `behind`, counted from the model after `before`
  begun_by_split : (before behind all : List Act) (q : Progress) → all ≡ before ++ behind → (at all).progress ≡ q → has_begun q ≡ true
      → has_begun (after_all plan commands (at before) behind).progress ≡ true
  begun_by_split before behind all q order there begun =
      ap (λ (x : Model). has_begun x.progress) (sym (ap at order ∙ after_all-append plan commands (opening plan scope) before behind)) ∙ ap has_begun there ∙ begun

  -- the two fields on chains of p are right after these acts: if the next command isn't the first of its cycle, `next_is_chained`
  -- is what the text says of it, or true in a missed cycle; and if `chain_unbroken` is true, `IsUnbroken` holds
  record ChainIsRight (acts : List Act) (p : Progress) : Type 0 where
    next_is_chained : plan.setup < place_next commands p → p.next_is_chained ≡ waits_for_answer plan commands p
    chain_unbroken : p.chain_unbroken ≡ true → IsUnbroken acts p

  -- `LeavesNothingOut` holds from the model before an act to the one after it
  leaves_nothing_out : (acts : List Act) (act : Act) → LeavesNothingOut (at acts) (at (acts ++ act ∷ []))
  leaves_nothing_out acts act =
      let s = at acts in
      subst (λ (x : Model). LeavesNothingOut s x) (sym (after_all-append plan commands (opening plan scope) acts (act ∷ [])))
      (with_losses_leaves_nothing_out s (moved plan commands (action_at plan s) (with_progress turned s) act)
      (moved_leaves_nothing_out plan commands (action_at plan s) (with_progress turned s) act))

  -- `ChainIsRight` is preserved by an act that keeps the fields as `Still` says, doesn't close the connection, and sends no
  -- command of the setup; given that, if a chain goes on after the act, a station that had synchronized still has
  chain_still : (acts : List Act) (act : Act) (p q : Progress) → (there : (at (acts ++ act ∷ [])).progress ≡ q) → (stays : Still p q)
      → (begins : has_begun p ≡ true → q.chain_unbroken ≡ true → has_begun q ≡ true) → (keeps_open : KeepsOpen act)
      → (not_setup : action_at plan (at acts) ≡ Prepare → ⊥) → ChainIsRight acts p → ChainIsRight (acts ++ act ∷ []) q
  chain_still acts act p q there k begins stays other h =
      let place_is : place_next commands q ≡ place_next commands p = ap (λ (n : ℕ). length commands - n) k.unsent in
      record {
        next_is_chained = λ above. still_chained plan commands p q k h.next_is_chained above;
        chain_unbroken = λ e.
            let w = h.chain_unbroken (k.chain_unbroken e) in
            let order = ap (λ xs. xs ++ act ∷ []) w.order ∙ append_assoc w.before (w.request ∷ w.between) (act ∷ []) in
            let begun = begins w.begun e in
            record {
              before = w.before;
              request = w.request;
              between = w.between ++ act ∷ [];
              order = order;
              sends = w.sends;
              cycle = ap (λ (n : ℕ). plan.cycles - n) k.left ∙ w.cycle;
              place = place_is ∙ w.place;
              stays = all_append KeepsOpen w.between (act ∷ []) w.stays (stays, tt);
              begun = begun;
              passes = same_passes (at acts) (at (acts ++ act ∷ [])) (at w.before).passes (leaves_nothing_out acts act)
                  (ap (λ (x : Progress). x.chain_unbroken) there ∙ e) w.passes;
              keeps =
                  stays_begun_more plan commands (at w.before) (w.request ∷ w.between) act w.keeps
                  (begun_by_split w.before (w.request ∷ (w.between ++ act ∷ [])) (acts ++ act ∷ []) q order there begun);
              no_setup =
                  let back = after_all-append plan commands (opening plan scope) w.before (w.request ∷ w.between) in
                  let here : after_all plan commands (at w.before) (w.request ∷ w.between) ≡ at acts = sym back ∙ ap at (sym w.order) in
                  each_act_append (SendsNoSetup plan) plan commands (at w.before) (w.request ∷ w.between) (act ∷ []) w.no_setup
                  (subst (λ (x : Model). PreparesNothing plan commands x (act ∷ [])) (sym here) (other, tt));
            };
      }

  -- `ChainIsRight` is preserved by an act that breaks the chain, as a close or a new synchronization does
  chain_closed : (acts all : List Act) (p q : Progress) → Still p q → q.chain_unbroken ≡ false → ChainIsRight acts p → ChainIsRight all q
  chain_closed acts all p q k broken h =
      record { next_is_chained = λ above. still_chained plan commands p q k h.next_is_chained above; chain_unbroken = λ e. absurd (both_ways q.chain_unbroken broken e) }

  -- `ChainIsRight` holds at the beginning of a cycle
  chain_at_start : (acts : List Act) (q : Progress) → AtCycleStart (cycle_length plan commands) q → ChainIsRight acts q
  chain_at_start acts q a =
      let none : place_next commands q ≤ plan.setup = omega (arith, a.unsent) in
      record { next_is_chained = λ above. absurd (omega (arith, none, above)); chain_unbroken = λ e. absurd (both_ways q.chain_unbroken a.chain_unbroken e) }

  -- `ChainIsRight` holds after commands had their turn without being sent (`GoesOnBy`, with the chain broken), if no more were
  -- unsent than `commands` has
  chain_unsent : (acts : List Act) (count : ℕ) (p q : Progress) → GoesOnBy plan count commands p q → q.chain_unbroken ≡ false → p.unsent ≤ length commands → ChainIsRight acts q
  chain_unsent acts count p q on broken within =
      record { next_is_chained = λ above. next_chained plan count commands p q on within; chain_unbroken = λ e. absurd (both_ways q.chain_unbroken broken e) }

  -- `ChainIsRight` holds after a command of a cycle is sent, if one was unsent, and no more were than `commands` has; given
  -- that, if a chain goes on after the act, the station has synchronized
  chain_sent : (acts : List Act) (act : Act) (p q : Progress) → (here : p ≡ turned (at acts).progress) → (there : (at (acts ++ act ∷ [])).progress ≡ q)
      → (sends : action_at plan (at acts) ≡ Send) → (begins : q.chain_unbroken ≡ true → has_begun q ≡ true)
      → (goes_on : GoesOnBy plan 1 commands p q) → (some : 0 < p.unsent) → (within : p.unsent ≤ length commands) → ChainIsRight (acts ++ act ∷ []) q
  chain_sent acts act p q here there is begins n some within =
      let place_is = next_place commands p q n.unsent some within in
      record {
        next_is_chained = λ above. next_chained plan 1 commands p q n within;
        chain_unbroken = λ e. record {
          before = acts;
          request = act;
          between = [];
          order = refl;
          sends = is;
          cycle = ap (λ (k : ℕ). plan.cycles - k) n.left ∙ ap (λ (x : Progress). cycles_begun plan x) here;
          place = place_is ∙ ap (λ (x : Progress). place_next commands x + 1) here;
          stays = tt;
          begun = begins e;
          passes = same_passes (at acts) (at (acts ++ act ∷ [])) (at acts).passes (leaves_nothing_out acts act)
              (ap (λ (x : Progress). x.chain_unbroken) there ∙ e) refl;
          keeps = (begun_by_split acts (act ∷ []) (acts ++ act ∷ []) q refl there (begins e), tt);
          no_setup = (λ prepares. let both : Send ≡ Prepare = sym is ∙ prepares in cc, tt);
        };
      }

  -- no more commands are unsent than `commands` has
  few_unsent : (acts : List Act) → (at acts).progress.unsent ≤ length commands
  few_unsent acts = let fine = invariant_holds plan commands scope acts in omega (arith, fine.unsent)

  -- `ChainIsRight` is preserved by an act of the action that is next, whose conditions hold, if the act changes the fields as
  -- `ChangesChain` says; given that, if a chain goes on after the act, a station that had synchronized still has
  chain_moved : (acts : List Act) (act : Act) (action : Action) (w : Waiting) (q : Progress) → (is_next : action_at plan (at acts) ≡ action)
      → (needs : HoldsBefore plan (at acts).progress w action) → (performs : Performs commands (at acts) action act) → (there : (at (acts ++ act ∷ [])).progress ≡ q)
      → (begins : has_begun (at acts).progress ≡ true → q.chain_unbroken ≡ true → has_begun q ≡ true)
      → (steps : ChangesChain plan commands action (turned (at acts).progress) q) → ChainIsRight acts (turned (at acts).progress) → ChainIsRight (acts ++ act ∷ []) q
  chain_moved acts act Begin w q is needs o there begins (inl k) h =
      chain_still acts act _ q there k begins (stays_open plan commands Begin (at acts) act o (λ why e. cc))
      (λ e. let both : Begin ≡ Prepare = sym is ∙ e in cc) h
  chain_moved acts act Begin w q is needs o there begins (inr a) h = chain_at_start (acts ++ act ∷ []) q a
  chain_moved acts act Renew w q is needs o there begins (inl k) h =
      chain_still acts act _ q there k begins (stays_open plan commands Renew (at acts) act o (λ why e. cc))
      (λ e. let both : Renew ≡ Prepare = sym is ∙ e in cc) h
  chain_moved acts act Renew w q is needs o there begins (inr k) h = chain_closed acts (acts ++ act ∷ []) _ q k.0 k.1 h
  chain_moved acts act Send w q is needs o there begins n h =
      chain_sent acts act (turned (at acts).progress) q refl there is (begins needs.1) n needs.2 (few_unsent acts)
  chain_moved acts act Skip w q is needs o there begins (inl k) h =
      chain_still acts act _ q there k begins (stays_open plan commands Skip (at acts) act o (λ why e. cc))
      (λ e. let both : Skip ≡ Prepare = sym is ∙ e in cc) h
  chain_moved acts act Skip w q is needs o there begins (inr n) h =
      chain_unsent (acts ++ act ∷ []) 1 (turned (at acts).progress) q n.0 n.1 (few_unsent acts)
  chain_moved acts act Pass w q is needs o there begins (inl k) h =
      chain_still acts act _ q there k begins (stays_open plan commands Pass (at acts) act o (λ why e. cc))
      (λ e. let both : Pass ≡ Prepare = sym is ∙ e in cc) h
  chain_moved acts act Pass w q is needs o there begins (inr k) h =
      chain_unsent (acts ++ act ∷ []) (at acts).progress.next_others (turned (at acts).progress) q k.0 k.1 (few_unsent acts)
  chain_moved acts act Prepare w q is needs o there begins k h = chain_closed acts (acts ++ act ∷ []) _ q k.0 k.1 h
  chain_moved acts act (Close why) w q is needs o there begins k h = chain_closed acts (acts ++ act ∷ []) _ q k.0 k.1 h
  chain_moved acts act (Stop why) w q is needs o there begins k h = absurd o
  chain_moved acts act next w q is needs o there begins k h =
      chain_still acts act _ q there k begins (stays_open plan commands next (at acts) act o (λ why e. cc))
      (λ e. let both : next ≡ Prepare = sym is ∙ e in cc) h

  -- `ChainIsRight` is preserved by all acts of a run
  chain_along : (done acts : List Act) → Runs plan commands (at done) acts → ChainIsRight done (at done).progress → ChainIsRight (done ++ acts) (at (done ++ acts)).progress
  chain_along done [] runs h = subst (λ (xs : List Act). ChainIsRight xs (at xs).progress) (sym (append-nil done)) h
  chain_along done (act ∷ acts) runs h =
      let s = at done in
      let t = moved plan commands (action_at plan s) (with_progress turned s) act in
      let next = after_all-append plan commands (opening plan scope) done (act ∷ []) in
      let far : (at (done ++ act ∷ [])).progress ≡ t.progress = ap (λ (x : Model). x.progress) next ∙ with_losses_progress t in
      let at_turn : ChainIsRight done (turned s.progress) = record {
        next_is_chained = h.next_is_chained;
        chain_unbroken = λ e.
            let w = h.chain_unbroken e in record {
              before = w.before;
              request = w.request;
              between = w.between;
              order = w.order;
              sends = w.sends;
              cycle = w.cycle;
              place = w.place;
              stays = w.stays;
              begun = w.begun;
              passes = w.passes;
              keeps = w.keeps;
              no_setup = w.no_setup;
            };
      } in
      let one = chain_moved done act (action_at plan s) (waiting_of s) t.progress refl (action_for plan s.progress (waiting_of s)) runs.0 far
      (begun_kept plan commands s (action_at plan s) act runs.0) (moved_steps plan commands (action_at plan s) (with_progress turned s) act) at_turn in
      let here = subst (λ (p : Progress). ChainIsRight (done ++ act ∷ []) p) (sym far) one in
      let goes_on = subst (λ (x : Model). Runs plan commands x acts) (sym next) runs.1 in
      subst (λ (xs : List Act). ChainIsRight xs (at xs).progress) (append_assoc done (act ∷ []) acts)
      (chain_along (done ++ act ∷ []) acts goes_on here)

  -- `ChainIsRight` holds after every run
  chain_holds : (acts : List Act) → Runs plan commands (opening plan scope) acts → ChainIsRight acts (at acts).progress
  chain_holds acts runs = chain_along [] acts runs (record { next_is_chained = λ above. sym (ap (is_chained_in (plan.cycles - plan.cycles)) (no_next_command commands)); chain_unbroken = λ e. cc })

  -- after every run, if the next command isn't the first of its cycle, `next_is_chained` is what the text says of it, or true in
  -- a missed cycle
  pub chained_as_text_says : (acts : List Act) → Runs plan commands (opening plan scope) acts → plan.setup < place_next commands (at acts).progress
      → (at acts).progress.next_is_chained ≡ waits_for_answer plan commands (at acts).progress
  chained_as_text_says acts runs above = (chain_holds acts runs).next_is_chained above

  -- `IsLinked` holds: the command before the next one was sent, and was answered well. Since it was sent, the station has
  -- synchronized after each act, and no act sent a command of the setup
  abbrev pub IsLinkedStill : List Act → Type 0
  IsLinkedStill acts =
      (l : IsLinked plan commands scope acts) × StaysBegun plan commands (at l.before) (l.request ∷ l.between)
      × PreparesNothing plan commands (at l.before) (l.request ∷ l.between)

  -- if a chained command is to be sent, `IsLinkedStill` holds
  pub chain_linked : (acts : List Act) → Runs plan commands (opening plan scope) acts → action_at plan (at acts) ≡ Send → IsChained plan commands (at acts).progress
      → IsLinkedStill acts
  chain_linked acts runs is chained = linked_if_may_go needs.4 where
    -- the model after these acts
    s : Model
    s = at acts

    -- the fields on chains of that model say what happened
    h : ChainIsRight acts s.progress
    h = chain_holds acts runs

    -- the invariant of every run holds of it
    fine : Invariant plan commands s
    fine = invariant_holds plan commands scope acts

    -- the conditions of sending hold
    needs : HoldsBefore plan s.progress (waiting_of s) Send
    needs = subst (λ (o : Action). HoldsBefore plan s.progress (waiting_of s) o) is (action_for plan s.progress (waiting_of s))

    -- the next command waits for the answer of the one before it
    next_is_chained : s.progress.next_is_chained ≡ true
    next_is_chained =
        let resting = rests (cycles_begun plan s.progress) (commands_left commands s.progress) in
        h.next_is_chained chained.0 ∙ ap (λ (b : Bool). s.progress.missed || (resting || b)) chained.1
        ∙ or_right s.progress.missed (resting || true) (or_right resting true refl)

    -- `IsLinkedStill` holds if no command is outstanding, the chain is unbroken, so that the command before the next one was sent
    -- (`IsUnbroken`), and the last record, which is that command's own, was answered well (`EndsAnsweredWell`)
    linked_by_last : commands_in s.marks ≡ 0 → s.progress.chain_unbroken ≡ true → EndsAnsweredWell s.records → IsUnbroken acts s.progress
        → IsLinkedStill acts
    linked_by_last settled it l w =
        let b = at w.before in
        let before = invariant_holds plan commands scope w.before in
        let asked = subst (λ (o : Action). HoldsBefore plan b.progress (waiting_of b) o) w.sends (action_for plan b.progress (waiting_of b)) in
        let some = asked.2 in
        let below = before.begun some in
        let many : 0 < cycles_begun plan b.progress = omega (arith, below) in
        let place = place_next commands b.progress in
        let cycle = cycles_begun plan b.progress in
        let left : 0 < length (drop place commands) = let n = length-drop place commands in omega (arith, n, some, before.unsent) in
        let within : plan.setup ≤ place = omega (arith, some, before.unsent) in
        let sent = reached_one_more plan commands cycle place (drop place commands) refl left many within in
        let b_passes = b.passes in
        let there : commands_reached plan.setup commands (cycles_begun plan s.progress) (place_next commands s.progress) ≡ commands_reached plan.setup commands cycle (place + 1) =
        ap (λ (n : ℕ). commands_reached plan.setup commands n (place_next commands s.progress)) w.cycle ∙ ap (λ (n : ℕ). commands_reached plan.setup commands cycle n) w.place in
        let one : RunRequest = record { cycle = cycle; place = place; asked = of_task sent.0 } in
        let all : Interleave (of_text commands (map of_record s.records)) b_passes (commands_reached plan.setup commands cycle place ++ one ∷ []) =
        subst (λ (xs : List RunRequest). Interleave (of_text commands (map of_record s.records)) b_passes xs) (there ∙ sym sent.1)
        (subst (λ (ys : List RunRequest). Interleave (of_text commands (map of_record s.records)) ys
        (commands_reached plan.setup commands (cycles_begun plan s.progress) (place_next commands s.progress))) w.passes
        (subst (λ (xs : List RunRequest). Interleave xs s.passes (commands_reached plan.setup commands (cycles_begun plan s.progress) (place_next commands s.progress)))
        (ap (of_text commands) (row_settled s.marks s.client.waiting s.records settled)) fine.each)) in
        let front = interleave_all (ComesBefore cycle place) (of_text commands (row b.marks b.client.waiting b.records)) b_passes
        (commands_reached plan.setup commands cycle place) before.each
        (reached_before plan.setup commands cycle place within) in
        let kept = interleave_last one (of_text commands (map of_record s.records)) b_passes (commands_reached plan.setup commands cycle place) all
        (λ xs e. before_not_after cycle cycle place place (all_last (ComesBefore cycle place) xs one (subst (AllByRecursion (ComesBefore cycle place)) e front)) (inr (refl, omega arith))) in
        let split = map-append of_record l.earlier (l.answer ∷ []) in
        let listed_all : map of_record s.records ≡ map of_record l.earlier ++ of_record l.answer ∷ [] = ap (map of_record) l.last ∙ split in
        let of_a_cycle : 0 < l.answer.cycle = last_of_cycle plan commands scope acts runs settled it (map of_record l.earlier) (of_record l.answer) listed_all in
        let ends : of_text commands (map of_record l.earlier) ++ in_text commands (of_record l.answer) ∷ [] ≡ kept.0 ++ one ∷ [] =
        sym (of_text_last commands (map of_record l.earlier) (of_record l.answer) of_a_cycle) ∙ ap (of_text commands) (sym listed_all) ∙ kept.1 in
        let own = (same_from_push (of_text commands (map of_record l.earlier)) kept.0 (in_text commands (of_record l.answer)) one ends).1 in
        let true_one = all_last (AnswerIsJustified plan commands scope acts) l.earlier l.answer
        (subst (λ (rs : List Record). AllByRecursion (AnswerIsJustified plan commands scope acts) rs) l.last (answers_true plan commands scope acts runs)) in
        let listed = all_last (λ (r : Record). IsAsListed scope.reads commands r) l.earlier l.answer
        (subst (λ (rs : List Record). AllByRecursion (λ (r : Record). IsAsListed scope.reads commands r) rs) l.last (qualities_as_listed plan commands scope acts)) in
        let linked : IsLinked plan commands scope acts = record {
          before = w.before;
          request = w.request;
          between = w.between;
          order = w.order;
          sends = w.sends;
          cycle = w.cycle;
          place = w.place;
          stays = w.stays;
          earlier = l.earlier;
          answer = l.answer;
          last = l.last;
          own_cycle = ap (λ (r : RunRequest). r.cycle) own;
          own_place = ap (λ (r : RunRequest). r.place) own;
          good =
              let so = listed l.quality l.said l.line l.answered in
              record { line = l.line; quality = l.quality; said = l.said; answered = l.answered; well = l.well; plain = so.0; sent_as = so.1; says = so.2 };
          in_time = true_one l.line (ap line_of l.answered);
        } in
        (linked, w.keeps, w.no_setup)

    -- `IsLinkedStill` holds if the next command may be sent (`MayGo`): as it is chained, that is because the one before it was
    -- answered well
    linked_if_may_go : MayGo s.progress (waiting_of s) → IsLinkedStill acts
    linked_if_may_go (inl free) = absurd (both_ways s.progress.next_is_chained free next_is_chained)
    linked_if_may_go (inr it) = linked_by_last it.0 it.2 (ends_well s.records it.1) (h.chain_unbroken it.2)

  -- a chained command is sent only once the one before it was answered well, as `IsLinked` says
  pub chain_kept : (acts : List Act) → Runs plan commands (opening plan scope) acts
      → action_at plan (at acts) ≡ Send → IsChained plan commands (at acts).progress → IsLinked plan commands scope acts
  chain_kept acts runs is chained = (chain_linked acts runs is chained).0
