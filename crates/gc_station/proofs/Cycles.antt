-- Cycles begin at their due moments or later, and nothing of a missed cycle is sent, if the clock doesn't go back (`ClockRises`). An
-- act is one call on the link, with its result. A cycle is missed if it began so late that the next one was due. The chain's
-- fields of a progress are `next_is_chained`, whether the next command waits for the answer of the one before it, and
-- `chain_unbroken`. `Cycling` says which cycle the station is in, and when it began; `Begun` says that it is in one, or that none
-- has begun yet.
use Rattle.gc_station.proofs.Common.{◌≡◌, ◌⊎◌, inl, inr, ℕ, suc, ◌+◌, ◌-◌, ◌<◌, ◌≤◌, ◌||◌, Bool, true, false, List, [], ◌∷◌, ◌++◌, length, drop, min, nat_lt, nat_le, nat_eq, refl, sym, ap, ◌∙◌, subst, arith, append_assoc, lt-ltb, ne_eqb, leb-false, or_left, cond-false, both_ways, false_from_ne_true, Task, Act, Told, Untold, Gave, Silent, Ended, Broke, Closed, Opened, Unopened, Moment, IsChained, ClockRises, BeginsAt, BeginsLate, LastBegan, SentOnlyInTime, turned, due_at, cycle_begun, cycle_start, is_missed_at, lateness, failing, HoldsBefore, MayGo, state_after, Scope, Model, opening, action_at, waiting_of, with_progress, piece_at, moved, Performs, Runs, cycle_length, cycles_begun, cycle_next, place_next, commands_left, first_is_chained, rests, is_chained_in, is_chained_after, first_upcoming, Cause, Plan, Action, Progress, Waiting, latest}
use Rattle.gc_station.proofs.Interleaving.{drop_past}
use Rattle.gc_station.proofs.Closings.{needs_of}
use Rattle.gc_station.proofs.Always.{always, progress_after_act}
use Rattle.gc_station.proofs.ChainSteps.{GoesOnBy}
use Rattle.gc_station.proofs.EachRun.{invariant_holds}
use Rattle.gc_station.proofs.Facts.{action_for}
use Rattle.gc_station.proofs.InCycle.{or_second, and_second}
use Rattle.gc_station.proofs.Invariant.{Invariant}
use Rattle.gc_station.proofs.Needed.{cycle_is_last}
use Rattle.gc_station.proofs.Walk.{walk}
use Rattle.gc_station.proofs.Ticking.{Ticks, began_kept, began_at_start, rises_front, rises_last, latest_more, last_ticks}
use Rattle.gc_station.proofs.Staying.{Stays, stays, StaysAndTicks, gave_stays, silent_stays, closed_stays}
use Rattle.gc_station.specs.declared.cause.Cause.TheVariants as cause
use Rattle.gc_station.specs.declared.progress.Action.TheVariants as actions

-- What every run keeps of its cycles.

module _ (plan : Plan) (commands : List Task) (scope : Scope) (some : 0 < plan.every) where
  -- the model after these acts
  abbrev at : List Act → Model
  at acts = state_after plan commands scope acts

  -- why the next command of p counts as one that waits for the answer of the one before it: its cycle is missed, or the text chains it, or
  -- it rests
  abbrev pub WaitsForAnswer : Progress → Type 0
  WaitsForAnswer p = (p.missed ≡ true) ⊎ (IsChained plan commands p ⊎ (rests (cycles_begun plan p) (commands_left commands p) ≡ true))

  -- with the progress p a station is within a cycle: `earlier` cycles came before it, it began at `moment`, `late` milliseconds
  -- after it was due; and the fields of p on it are right. `began` is its due moment, which isn't later than the moment read
  -- last, and `due` the same by the clock of time stamps; `missed` says whether the next cycle was due by `moment`. If it is
  -- missed, each command counts as chained, and no chain goes on; and a command counts as chained only for a reason
  -- (`WaitsForAnswer`)
  pub record Cycling (acts : List Act) (p : Progress) : Type 0 where
    pub earlier : ℕ
    pub moment : Moment
    pub late : ℕ
    pub begins : BeginsLate plan commands scope acts earlier moment late
    pub count : cycles_begun plan p ≡ suc earlier
    pub fewer : p.left < plan.cycles
    pub began : p.began + late ≡ moment.elapsed
    pub past : p.began ≤ p.moment.elapsed
    pub missed : p.missed ≡ nat_le plan.every late
    pub due : p.due ≡ moment.utc - late
    pub held : p.missed ≡ true → (p.next_is_chained ≡ true) × (p.chain_unbroken ≡ false)
    pub chained : p.next_is_chained ≡ true → WaitsForAnswer p

  -- no cycle has begun yet, nothing is unsent, and the start of the clock counts as the beginning; or `Cycling` holds
  abbrev pub Begun : List Act → Progress → Type 0
  Begun acts p = ((p.left ≡ plan.cycles) × (p.unsent ≡ 0) × (p.began ≡ 0)) ⊎ Cycling acts p

  -- a cycle that began among acts began among them and more
  pub at_more : (acts more : List Act) (n : ℕ) (m : Moment) → BeginsAt plan commands scope acts n m → BeginsAt plan commands scope (acts ++ more) n m
  at_more acts more n m b = record {
    before = b.before;
    behind = b.behind ++ more;
    order = ap (λ xs. xs ++ more) b.order ∙ append_assoc b.before (Told m ∷ b.behind) more;
    begins = b.begins;
    number = b.number;
  }

  -- a cycle that began late among acts began so among them and more
  pub late_more : (acts more : List Act) (n : ℕ) (m : Moment) (late : ℕ) → BeginsLate plan commands scope acts n m late → BeginsLate plan commands scope (acts ++ more) n m late
  unfolding at_more
  late_more acts more n m late b = record { begins = at_more acts more n m b.begins; grid = b.grid }

  -- `Cycling` is preserved by an act that stays in its cycle, and reads moments as `Ticks` says, if the clock doesn't go back,
  -- and what `Cycling` says of missed cycles and chains (`held`, `chained`) holds after the act
  cycling_on : (acts : List Act) (act : Act) (p q : Progress) (left : q.left ≡ p.left) (missed : q.missed ≡ p.missed) (due : q.due ≡ p.due) (ticks : Ticks p act q)
      (rises : ClockRises p.moment.elapsed (act ∷ [])) (held : p.missed ≡ true → (q.next_is_chained ≡ true) × (q.chain_unbroken ≡ false)) (chained : q.next_is_chained ≡ true → WaitsForAnswer q)
      → Cycling acts p → Cycling (acts ++ act ∷ []) q
  cycling_on acts act p q left missed due ticks rises held chained c =
      let tick = began_kept p q act ticks rises c.past in
      let same = tick.0 in
      let before = c.began in
      let few = c.fewer in
      record {
        earlier = c.earlier;
        moment = c.moment;
        late = c.late;
        begins = late_more acts (act ∷ []) c.earlier c.moment c.late c.begins;
        count = ap (λ (x : ℕ). plan.cycles - x) left ∙ c.count;
        fewer = omega (arith, few, left);
        began = omega (arith, same, before);
        past = tick.1;
        missed = missed ∙ c.missed;
        due = due ∙ c.due;
        held = λ e. held (sym missed ∙ e);
        chained = chained;
      }

  -- `Begun` is preserved by an act that stays in its cycle (`Stays`) and reads moments as `Ticks` says, if the clock doesn't go
  -- back
  pub begun_stays : (acts : List Act) (act : Act) (p q : Progress) → Stays p q → Ticks p act q → ClockRises p.moment.elapsed (act ∷ []) → Begun acts p → Begun (acts ++ act ∷ []) q
  begun_stays acts act p q k t rises (inl none) = inl (k.still.left ∙ none.0, k.still.unsent ∙ none.1, began_at_start p q act t none.2)
  begun_stays acts act p q k t rises (inr c) =
      let place_is : place_next commands q ≡ place_next commands p = ap (λ (x : ℕ). length commands - x) k.still.unsent in
      inr (cycling_on acts act p q k.still.left k.still.missed k.due t rises
      (λ was. let h = c.held was in (k.still.next_is_chained ∙ h.0, false_from_ne_true q.chain_unbroken (λ e. both_ways p.chain_unbroken h.1 (k.still.chain_unbroken e))))
      (λ e. by_chain (c.chained (sym k.still.next_is_chained ∙ e)) place_is k.still.missed) c) where
        -- what makes the next command wait, still does: its cycle is missed, or the text chains it, or it rests
        by_chain : WaitsForAnswer p → place_next commands q ≡ place_next commands p → q.missed ≡ p.missed → WaitsForAnswer q
        by_chain (inl missed) place_is same = inl (same ∙ missed)
        by_chain (inr (inl (above, is))) place_is same = inr (inl (subst (λ (x : ℕ). plan.setup < x) (sym place_is) above, ap (λ (x : ℕ). first_is_chained (drop x commands)) place_is ∙ is))
        by_chain (inr (inr resting)) place_is same =
            inr (inr (ap (λ (x : ℕ). rests (plan.cycles - x) (drop (place_next commands q) commands)) k.still.left ∙ ap (λ (x : ℕ). rests (cycles_begun plan p) (drop x commands)) place_is ∙ resting))

  -- `Begun` is preserved by an act with which the next `count` commands of the cycle had their turn (`GoesOnBy`), at least one,
  -- if the clock doesn't go back and the act reads moments as `Ticks` says. Before the act a command was unsent, and no more than
  -- a cycle has; after it no chain goes on if the cycle is missed
  pub begun_next : (acts : List Act) (act : Act) (count : ℕ) (p q : Progress) (goes_on : GoesOnBy plan count commands p q) (due : q.due ≡ p.due)
      (more : 0 < count) (broken : p.missed ≡ true → q.chain_unbroken ≡ false) (ticks : Ticks p act q) (rises : ClockRises p.moment.elapsed (act ∷ []))
      (here : 0 < p.unsent) (within : p.unsent ≤ cycle_length plan commands) → Begun acts p → Begun (acts ++ act ∷ []) q
  begun_next acts act count p q on due more broken t rises here within (inl none) = let nothing = none.1 in absurd (omega (arith, nothing, here))
  begun_next acts act count p q on due more broken t rises here within (inr c) =
      let unsent = on.unsent in
      let above : plan.setup < place_next commands q = omega (arith, unsent, here, within, more) in
      let others : drop (place_next commands p + count) commands ≡ drop (place_next commands q) commands =
      drop_past commands p.unsent count (omega (arith, within)) ∙ ap (λ (x : ℕ). drop (length commands - x) commands) (sym unsent) in
      inr (cycling_on acts act p q on.left on.missed due t rises
      (λ was. (on.chained ∙ or_left p.missed (is_chained_in (cycles_begun plan p) (drop (place_next commands p + count) commands)) was, broken was))
      (λ e. by_missed p.missed refl (sym on.chained ∙ e) above others) c) where
        -- what makes the new next command wait: its cycle is missed (`true`), or the text chains it, or it rests
        by_missed : (b : Bool) → p.missed ≡ b → is_chained_after plan count commands p ≡ true → plan.setup < place_next commands q
            → drop (place_next commands p + count) commands ≡ drop (place_next commands q) commands → WaitsForAnswer q
        by_missed true is e above others = inl (on.missed ∙ is)
        by_missed false is e above others =
            by_rest (rests (cycles_begun plan p) front) refl (or_second p.missed (is_chained_in (cycles_begun plan p) front) e is) where
              -- the commands from the new next one on
              front : List Task
              front = drop (place_next commands p + count) commands

              -- the lemma above, in a cycle that isn't missed, whether the command rests
              by_rest : (r : Bool) → rests (cycles_begun plan p) front ≡ r → is_chained_in (cycles_begun plan p) front ≡ true → WaitsForAnswer q
              by_rest true resting f = inr (inr (ap (λ (x : ℕ). rests (plan.cycles - x) (drop (place_next commands q) commands)) on.left ∙ ap (rests (cycles_begun plan p)) (sym others) ∙ resting))
              by_rest false awake f = inr (inl (above, ap first_is_chained (sym others) ∙ or_second (rests (cycles_begun plan p) front) (first_is_chained front) f awake))

  -- after these acts the next one reads the clock at the moment m and begins a cycle, before which as many began as by p
  abbrev pub BeginsNow : List Act → Moment → Progress → Type 0
  BeginsNow acts m p = BeginsAt plan commands scope (acts ++ Told m ∷ []) (cycles_begun plan p) m

  -- if a cycle is begun next, `BeginsNow` holds of the progress by then
  begins_now : (acts : List Act) (m : Moment) → action_at plan (at acts) ≡ actions.Begin → BeginsNow acts m (at acts).progress
  begins_now acts m is = record { before = acts; behind = []; order = refl; begins = is; number = refl }

  -- what is known of a cycle that is begun at the moment m: `earlier` cycles came before it, and the moment that counts as its
  -- beginning (`cycle_start`) is its due moment, and isn't later than m
  pub record Start (acts : List Act) (m : Moment) (p : Progress) : Type 0 where
    pub earlier : ℕ
    pub past : cycle_start plan m p ≤ m.elapsed
    pub number : cycles_begun plan p ≡ earlier
    pub late : BeginsLate plan commands scope (acts ++ Told m ∷ []) earlier m (lateness plan m p)

  -- `Cycling` holds after the act that begins a cycle at the moment m, if a cycle was left, and the cycle has a `Start`
  pub begins_cycle : (acts : List Act) (m : Moment) (p : Progress) → (unbegun : 0 < p.left) → (within : p.left ≤ plan.cycles) → Start acts m p
      → Cycling (acts ++ Told m ∷ []) (cycle_begun plan (cycle_length plan commands) (first_upcoming plan commands p) m p)
  begins_cycle acts m p left within x =
      let past = x.past in
      let number = x.number in
      let began : cycle_start plan m p + (m.elapsed - cycle_start plan m p) ≡ m.elapsed = omega (arith, past) in
      record {
        earlier = x.earlier;
        moment = m;
        late = lateness plan m p;
        begins = x.late;
        count = omega (arith, number, left, within);
        fewer = omega (arith, left, within);
        began = began;
        past = past;
        missed = and_second (nat_lt 0 plan.every) (nat_le plan.every (lateness plan m p)) (lt-ltb 0 plan.every some);
        due = refl;
        held = λ e. (or_left _ (rests (cycle_next plan p) (drop plan.setup commands)) e, refl);
        chained = λ e. by_missed (is_missed_at plan m p) refl e;
      } where
        -- why the first command counts as chained: its cycle is missed, or it rests
        by_missed : (b : Bool) → is_missed_at plan m p ≡ b → (is_missed_at plan m p || rests (cycle_next plan p) (drop plan.setup commands)) ≡ true
            → WaitsForAnswer (cycle_begun plan (cycle_length plan commands) (first_upcoming plan commands p) m p)
        by_missed true missed e = inl missed
        by_missed false free e =
            inr (inr (ap (rests (cycle_next plan p)) (sym (cycle_is_last plan commands)) ∙ or_second (is_missed_at plan m p) (rests (cycle_next plan p) (drop plan.setup commands)) e free))

  -- where cycles have due moments, a cycle that begins at the moment m counts as begun when it was due, or at m if that is earlier
  pub start_is : (m : Moment) (p : Progress) → cycle_start plan m p ≡ min (due_at p) m.elapsed
  start_is m p = cond-false (nat_eq plan.every 0) _ _ (ne_eqb plan.every 0 (λ e. omega (arith, e, some)))

  -- a cycle that begins has a `Start`, with the progress p, by which as many cycles began, and the next one is due, as after these acts
  pub starts : (acts : List Act) (m : Moment) (p : Progress) → action_at plan (at acts) ≡ actions.Begin → (count : cycles_begun plan (at acts).progress ≡ cycles_begun plan p)
      → (due : due_at p ≡ due_at (at acts).progress) → Start acts m p
  unfolding begins_now
  starts acts m p is count due =
      let start = start_is m p in
      record {
        earlier = cycles_begun plan (at acts).progress;
        past = omega (arith, start);
        number = sym count;
        late = record { begins = begins_now acts m is; grid = omega (arith, start, due) };
      }

  -- Acts.

  -- from p to q, over an act after these acts: the moment read last is the act's if it reads one, else p's; and `Begun` holds
  -- of q if the clock doesn't go back at the act
  abbrev pub KeepsBegun : List Act → Progress → Act → Progress → Type 0
  KeepsBegun acts p act q = (q.moment.elapsed ≡ latest p.moment.elapsed (act ∷ [])) × (ClockRises p.moment.elapsed (act ∷ []) → Begun (acts ++ act ∷ []) q)

  -- `KeepsBegun`, from a progress to the progress of a model
  abbrev pub KeepsBegunOf : List Act → Progress → Act → Model → Type 0
  KeepsBegunOf acts p act t = KeepsBegun acts p act t.progress

  -- an act that stays in its cycle, as `StaysAndTicks` says, does what `KeepsBegun` says
  pub keeps_begun : (acts : List Act) (p : Progress) (act : Act) (q : Progress) → Begun acts p → StaysAndTicks p act q → KeepsBegun acts p act q
  keeps_begun acts p act q h same = (last_ticks p q act same.1, λ rises. begun_stays acts act p q same.0 same.1 rises h)

  -- where `Begun` holds, an act that only notes a failure does what `KeepsBegunOf` says, if `Ticks` holds of the act with the
  -- progress as it was
  pub begun_after_failure : (acts : List Act) (s : Model) (act : Act) (why : Cause) → Begun acts s.progress → Ticks s.progress act s.progress
      → KeepsBegunOf acts s.progress act (with_progress (failing why) s)
  begun_after_failure acts s act why h t = (
    last_ticks s.progress (failing why s.progress) act (ticks_failing act t),
    λ rises. begun_stays acts act s.progress (failing why s.progress) (stays s.progress (failing why s.progress) refl refl refl refl refl (inl refl)) (ticks_failing act t) rises h,
  ) where
    -- a failure reads no other moment
    ticks_failing : (a : Act) → Ticks s.progress a s.progress → Ticks s.progress a (failing why s.progress)
    ticks_failing (Told m) e = e
    ticks_failing (Gave bytes m) e = e
    ticks_failing (Silent m) e = e
    ticks_failing a e = e

  -- where `Begun` holds, if a command is left that may be sent (`MayGo`), its cycle isn't missed
  pub not_missed : (acts : List Act) (p : Progress) (w : Waiting) → 0 < p.unsent → MayGo p w → Begun acts p → p.missed ≡ false
  not_missed acts p w here may (inl none) = let nothing = none.1 in absurd (omega (arith, nothing, here))
  not_missed acts p w here may (inr c) = by_test p.missed refl may where
    -- the lemma above, whether the cycle is missed (`true`) or not
    by_test : (b : Bool) → p.missed ≡ b → MayGo p w → p.missed ≡ false
    by_test false e m = e
    by_test true e (inl free) = absurd (both_ways p.next_is_chained free (c.held e).0)
    by_test true e (inr going) = absurd (both_ways p.chain_unbroken (c.held e).1 going.2)

  -- an act of each action does to the moment read last, and to `Begun`, what `KeepsBegunOf` says
  pub moved_keeps_begun : (acts : List Act) (next : Action) (act : Act) → (is_next : action_at plan (at acts) ≡ next) → (performs : Performs commands (at acts) next act)
      → Invariant plan commands (at acts) → (needs : HoldsBefore plan (at acts).progress (waiting_of (at acts)) next) → Begun acts (turned (at acts).progress)
      → KeepsBegunOf acts (turned (at acts).progress) act (moved plan commands next (with_progress turned (at acts)) act)
  moved_keeps_begun acts actions.ReadClock act is o fine needs h =
      let s = with_progress turned (at acts) in
      walk plan commands (KeepsBegunOf acts s.progress) actions.ReadClock s act o
      (λ m. keeps_begun acts s.progress (Told m) _ h (stays s.progress _ refl refl refl refl refl (inl refl), (refl, refl)), λ n. begun_after_failure acts s Untold cause.Clock h (refl, refl))
  moved_keeps_begun acts actions.Renew act is o fine needs h =
      let s = with_progress turned (at acts) in
      walk plan commands (KeepsBegunOf acts s.progress) actions.Renew s act o
      (λ m. keeps_begun acts s.progress (Told m) _ h (stays s.progress _ refl refl refl refl refl (inr refl), (refl, refl)), λ n. begun_after_failure acts s Untold cause.Clock h (refl, refl))
  moved_keeps_begun acts actions.Begin act is o fine needs h =
      let s = with_progress turned (at acts) in
      walk plan commands (KeepsBegunOf acts s.progress) actions.Begin s act o (
        λ m. (
          refl,
          λ rises. inr (begins_cycle acts m s.progress needs.4 fine.left (starts acts m s.progress is refl refl)),
        ),
        λ n. begun_after_failure acts s Untold cause.Clock h (refl, refl),
      )
  moved_keeps_begun acts actions.Open act is o fine needs h =
      let s = with_progress turned (at acts) in
      walk plan commands (KeepsBegunOf acts s.progress) actions.Open s act o (
        λ m. keeps_begun acts s.progress Opened _ h (stays s.progress _ refl refl refl refl refl (inl refl), (refl, refl)),
        λ n. keeps_begun acts s.progress Unopened _
            h (stays s.progress _ refl refl refl refl refl (inr refl), (refl, refl)),
      )
  moved_keeps_begun acts actions.Send act is o fine needs h =
      let s = with_progress turned (at acts) in
      let free = not_missed acts s.progress (waiting_of (at acts)) needs.2 needs.4 h in
      walk plan commands (KeepsBegunOf acts s.progress) actions.Send s act o (
        λ m. (
          refl,
          λ rises. begun_next acts _ 1 s.progress _ (record { left = refl; unsent = refl; missed = refl; chained = refl }) refl (omega arith)
              (λ e. absurd (both_ways s.progress.missed free e)) (refl, refl) rises needs.2 fine.unsent h,
        ),
        λ n. (
          refl,
          λ rises. begun_next acts _ 1 s.progress _ (record { left = refl; unsent = refl; missed = refl; chained = refl }) refl (omega arith)
              (λ e. absurd (both_ways s.progress.missed free e)) (refl, refl) rises needs.2 fine.unsent h,
        ),
      )
  moved_keeps_begun acts actions.Prepare act is o fine needs h =
      let s = with_progress turned (at acts) in
      walk plan commands (KeepsBegunOf acts s.progress) actions.Prepare s act o (
        λ m. keeps_begun acts s.progress _ _ h (stays s.progress _ refl refl refl refl refl (inr refl), (refl, refl)),
        λ n. keeps_begun acts s.progress _ _ h (stays s.progress _ refl refl refl refl refl (inr refl), (refl, refl)),
      )
  moved_keeps_begun acts actions.Skip act is o fine needs h =
      let s = with_progress turned (at acts) in
      walk plan commands (KeepsBegunOf acts s.progress) actions.Skip s act o (
        λ m. (
          refl,
          λ rises. begun_next acts (Told m) 1 s.progress _ (record { left = refl; unsent = refl; missed = refl; chained = refl }) refl (omega arith)
              (λ e. refl) (refl, refl) rises needs.2 fine.unsent h,
        ),
        λ n. begun_after_failure acts s Untold cause.Clock h (refl, refl),
      )
  moved_keeps_begun acts actions.Pass act is o fine needs h =
      let s = with_progress turned (at acts) in
      walk plan commands (KeepsBegunOf acts s.progress) actions.Pass s act o (
        λ m. (
          refl,
          λ rises. begun_next acts (Told m) s.progress.next_others s.progress _ (record { left = refl; unsent = refl; missed = refl; chained = refl })
              refl needs.4 (λ e. refl) (refl, refl) rises needs.2 fine.unsent h,
        ),
        λ n. begun_after_failure acts s Untold cause.Clock h (refl, refl),
      )
  moved_keeps_begun acts (actions.Read until) act is o fine needs h =
      let s = with_progress turned (at acts) in
      walk plan commands (KeepsBegunOf acts s.progress) (actions.Read until) s act o (
        λ bytes m. keeps_begun acts s.progress (Gave bytes m) (piece_at plan until bytes m s).progress h (gave_stays plan commands until s bytes m),
        λ m. keeps_begun acts s.progress (Silent m) (moved plan commands (actions.Read until) s (Silent m)).progress h (silent_stays plan s.progress.phase s.progress until m),
        begun_after_failure acts s Ended cause.End h (refl, refl),
        begun_after_failure acts s Broke cause.Read h (refl, refl),
        begun_after_failure acts s Untold cause.Clock h (refl, refl),
      )
  moved_keeps_begun acts (actions.Close why) act is o fine needs h =
      let s = with_progress turned (at acts) in
      walk plan commands (KeepsBegunOf acts s.progress) (actions.Close why) s act o (keeps_begun acts s.progress Closed _ h (closed_stays plan s why))
  moved_keeps_begun acts (actions.Stop why) act is o fine needs h = absurd o
  moved_keeps_begun acts next act is o fine needs h =
      let s = with_progress turned (at acts) in
      walk plan commands (KeepsBegunOf acts s.progress) next s act o (
        λ m. keeps_begun acts s.progress _ _ h (stays s.progress _ refl refl refl refl refl (inl refl), (refl, refl)),
        λ n. keeps_begun acts s.progress _ _ h
            (stays s.progress _ refl refl refl refl refl (inl refl), (refl, refl)),
      )

  -- Whole runs.

  -- a turn that is taken preserves `Begun`
  pub begun_turned : (acts : List Act) (p : Progress) → Begun acts p → Begun acts (turned p)
  begun_turned acts p (inl none) = inl none
  begun_turned acts p (inr c) = inr (record {
    earlier = c.earlier;
    moment = c.moment;
    late = c.late;
    begins = c.begins;
    count = c.count;
    fewer = c.fewer;
    began = c.began;
    past = c.past;
    missed = c.missed;
    due = c.due;
    held = c.held;
    chained = c.chained;
  })

  -- if the clock doesn't go back in these acts, the moment read last is the last that they read, and `Begun` holds after them
  abbrev pub BegunIfClockRises : List Act → Type 0
  BegunIfClockRises acts = ClockRises 0 acts → ((at acts).progress.moment.elapsed ≡ latest 0 acts) × Begun acts (at acts).progress

  -- if the clock doesn't go back in acts and one more, it doesn't at the last act, counted from the moment read before it
  pub rises_here : (acts : List Act) (act : Act) → ClockRises 0 (acts ++ act ∷ []) → (at acts).progress.moment.elapsed ≡ latest 0 acts
      → ClockRises (at acts).progress.moment.elapsed (act ∷ [])
  rises_here acts act rises same = subst (λ (n : ℕ). ClockRises n (act ∷ [])) (sym same) (rises_last 0 acts act rises)

  -- `BegunIfClockRises` is preserved by one act of a run more
  begun_step : (done : List Act) (act : Act) → Performs commands (at done) (action_at plan (at done)) act → BegunIfClockRises done
      → BegunIfClockRises (done ++ act ∷ [])
  begun_step done act o h rises =
      let s = at done in
      let old = h (rises_front 0 done act rises) in
      let on = moved_keeps_begun done (action_at plan s) act refl o (invariant_holds plan commands scope done) (action_for plan s.progress (waiting_of s)) (begun_turned done s.progress old.1) in
      let t = moved plan commands (action_at plan s) (with_progress turned s) act in
      let there = progress_after_act plan commands scope done act in (
        ap (λ (p : Progress). p.moment.elapsed) there ∙ on.0 ∙ ap (λ (n : ℕ). latest n (act ∷ [])) old.0 ∙ sym (latest_more 0 done act),
        subst (λ (p : Progress). Begun (done ++ act ∷ []) p) (sym there) (on.1 (rises_here done act rises old.0)),
      )

  -- `BegunIfClockRises` holds after every run
  pub begun_if_clock_rises : (acts : List Act) → Runs plan commands (opening plan scope) acts → BegunIfClockRises acts
  begun_if_clock_rises acts runs = always plan commands (opening plan scope) (λ (xs : List Act) (t : Model). BegunIfClockRises xs) (λ done act before. begun_step done act)
      (λ rises. (refl, inl (refl, refl, refl))) acts runs

  -- if the cycle that a station is within (`Cycling`) isn't missed, it is the last that began, and it began before the next one
  -- was due
  pub last_began : (acts : List Act) (p : Progress) → p ≡ (at acts).progress → (c : Cycling acts p) → p.missed ≡ false
      → (last : LastBegan plan commands scope acts) × (last.late < plan.every)
  last_began acts p is c free = (
    record { n = c.earlier; moment = c.moment; late = c.late; begins = c.begins; number = sym (ap (λ (q : Progress). cycles_begun plan q) is) ∙ c.count },
    leb-false plan.every c.late (sym c.missed ∙ free),
  )

  -- if a command is sent, its cycle began before the next one was due, if the clock doesn't go back
  pub sent_in_time : (acts : List Act) → Runs plan commands (opening plan scope) acts → ClockRises 0 acts
      → action_at plan (at acts) ≡ actions.Send → (last : LastBegan plan commands scope acts) × (last.late < plan.every)
  sent_in_time acts runs rises is =
      let s = at acts in
      let needs = needs_of plan s actions.Send is in
      let cycle_begun = (begun_if_clock_rises acts runs rises).1 in
      let free = not_missed acts s.progress (waiting_of s) needs.2 needs.4 cycle_begun in
      by_begun needs.2 cycle_begun free where
        -- the lemma above, by whether a cycle has begun: one has, as a command is unsent
        by_begun : 0 < (at acts).progress.unsent → Begun acts (at acts).progress
            → (at acts).progress.missed ≡ false → (last : LastBegan plan commands scope acts) × (last.late < plan.every)
        by_begun here (inl none) free = let nothing = none.1 in absurd (omega (arith, nothing, here))
        by_begun here (inr c) free = last_began acts (at acts).progress refl c free

  -- a cycle that begins does so at the moment at which it counts as begun, or `late` milliseconds after it
  pub begins_due : (acts : List Act) (m : Moment) → action_at plan (at acts) ≡ actions.Begin
      → (late : ℕ) × BeginsLate plan commands scope (acts ++ Told m ∷ []) (cycles_begun plan (at acts).progress) m late
  begins_due acts m is =
      let p = (at acts).progress in
      let x = starts acts m p is refl refl in
      (lateness plan m p, subst (λ (k : ℕ). BeginsLate plan commands scope (acts ++ Told m ∷ []) k m (lateness plan m p)) (sym x.number) x.late)

-- the law: if a command is sent, its cycle began before the next one was due, where cycles have due moments and the clock doesn't
-- go back
pub sent_only_in_time : SentOnlyInTime
sent_only_in_time plan commands scope acts runs is some rises = sent_in_time plan commands scope some acts runs rises is
