-- A run on the way, with what was seen at each act (a `Snapshot`): what the acts before it settled is in the book then, and
-- lasts, unless the act only reads the clock. An act is one call on the link, with its result. At the start the link had recorded `told`, the book had taken `taken`,
-- and `saw` were the turns seen; by now they are those with primes. `text` is how a record is written. `Noted` says what was done
-- and seen so far.
use Rattle.gc_station.proofs.Common.{◌≡◌, ℕ, Bool, true, false, List, [], ◌∷◌, ◌++◌, Option, Some, Err, refl, sym, ap, ◌∙◌, subst, append-nil, append_assoc, Keeps, Task, RunFault, Act, Closed, AddsActs, Plan, Cause, Done, Dead, Write, Clock, Turns, Stale, Stopped, SetUp, Action, ReadClock, Renew, Begin, Skip, Pass, Station, ReadsClock, fault_of_cause, Snapshot, reads_clock_alone, IsKept, AreKept, KeepsUp, close_at_output, Record, state_after, Model, opening, action_at, Performs, stepped, Scope, AreReadings, Refines, Makes, Breaks, as_seen, Tally}
use Rattle.gc_station.specs.declared.cause.Cause.TheVariants.{Read, End, Open}
use Rattle.gc_station.proofs.Going.{Went, went_nothing, went_kept, went_on, runs-append}
use Rattle.gc_station.proofs.Hearing.{adds_acts_append}
use Rattle.gc_texts.specs.declared.fault.RunFault.TheVariants as fault

-- an act that isn't a mere reading of the clock performs an action that isn't one
more_than_clock : (commands : List Task) (s : Model) (action : Action) (act : Act) → Performs commands s action act → (ReadsClock act → ⊥) → reads_clock_alone action ≡ false
more_than_clock commands s ReadClock act does more = absurd (more does)
more_than_clock commands s Renew act does more = absurd (more does)
more_than_clock commands s Begin act does more = absurd (more does)
more_than_clock commands s Skip act does more = absurd (more does)
more_than_clock commands s Pass act does more = absurd (more does)
more_than_clock commands s action act does more = refl

module _ (plan : Plan) (commands : List Task) (scope : Scope) (text : Record → List ℕ) (told : Option (List Act)) (taken : Option (List ℕ)) where
  -- the station `went` through acts, before each of which one of `turns` was seen, after the turns of `saw`; and at each turn,
  -- what the acts before it settled was kept (`kept`)
  pub record Noted (told' : Option (List Act)) (taken' : Option (List ℕ)) (station : Station) (saw saw' : List Snapshot) : Type 0 where
    pub went : Went plan commands scope text told told' taken taken' station
    pub turns : List Snapshot
    pub all : saw' ≡ saw ++ turns
    pub kept : AreKept plan commands scope text told taken [] went.acts turns

  -- `AreKept` is preserved by one act more, if what all acts before it (`done`, and then `acts`) settled was kept at its turn
  kept_more : (done acts : List Act) (turns : List Snapshot) (act : Act) (turn : Snapshot) → AreKept plan commands scope text told taken done acts turns
      → IsKept plan commands scope text told taken (done ++ acts) act turn → AreKept plan commands scope text told taken done (acts ++ act ∷ []) (turns ++ turn ∷ [])
  kept_more done [] [] act turn are is = (subst (λ (xs : List Act). IsKept plan commands scope text told taken xs act turn) (append-nil done) is, tt)
  kept_more done [] (t ∷ turns) act turn are is = absurd are
  kept_more done (a ∷ acts) [] act turn are is = absurd are
  kept_more done (a ∷ acts) (t ∷ turns) act turn are is = (
    are.0,
    kept_more (done ++ a ∷ []) acts turns act turn are.1
        (subst (λ (xs : List Act). IsKept plan commands scope text told taken xs act turn) (sym (append_assoc done (a ∷ []) acts)) is),
  )

  -- `Noted` holds if nothing was done, for a station that is as the model of one that has done nothing
  pub noted_nothing : (station : Station) (saw : List Snapshot) → Refines station (opening plan scope) → Noted told taken station saw saw
  noted_nothing station saw stands = record { went = went_nothing plan commands scope text told taken station stands; turns = []; all = sym (append-nil saw); kept = tt }

  -- `Noted` is preserved if a book took nothing more, as `Keeps` says: if what it took was known, it is known still, and the same
  pub noted_kept : (told' : Option (List Act)) (taken' taken'' : Option (List ℕ)) (station : Station) (saw saw' : List Snapshot) → Keeps taken' taken''
      → Noted told' taken' station saw saw' → Noted told' taken'' station saw saw'
  noted_kept told' taken' taken'' station saw saw' keeps n =
      record { went = went_kept plan commands scope text told told' taken taken' taken'' station keeps n.went; turns = n.turns; all = n.all; kept = n.kept }

  -- what is seen now: what the link has recorded, what the book has taken, and whether that lasts
  abbrev seen_now : Option (List Act) → Option (List ℕ) → Bool → Snapshot
  seen_now told' taken' lasts = record { acts = told'; taken = taken'; lasts = lasts }

  -- if `turns` were seen after those of `saw`, and then one turn more, what was seen after `saw` is `turns` and then that turn
  saw_more : (saw saw' saw'' turns : List Snapshot) (turn : Snapshot) → saw' ≡ saw ++ turns → saw'' ≡ saw' ++ turn ∷ [] → saw'' ≡ saw ++ (turns ++ turn ∷ [])
  saw_more saw saw' saw'' turns turn all one = one ∙ ap (λ (xs : List Snapshot). xs ++ turn ∷ []) all ∙ append_assoc saw turns (turn ∷ [])

  -- `Noted` is preserved by the act of the next action (`Makes`), if replies are read as `AreReadings` says, the link and the
  -- book were seen before the act, and all records lasted then, unless the action only reads the clock
  pub noted_on : (told' told'' : Option (List Act)) (taken' taken'' : Option (List ℕ)) (lasts : Bool) (station new : Station) (action : Action) (saw saw' saw'' : List Snapshot)
      → (n : Noted told' taken' station saw saw')
      → (is_next : action ≡ action_at plan (state_after plan commands scope n.went.acts))
      → Makes commands action (stepped plan commands action) (as_seen told' text taken' station) (as_seen told'' text taken'' new)
      → AreReadings scope.reads → (one_more : saw'' ≡ saw' ++ seen_now told' taken' lasts ∷ []) → (lasting : reads_clock_alone action ≡ false → lasts ≡ true) → Noted told'' taken'' new saw saw''
  noted_on told' told'' taken' taken'' lasts station new action saw saw' saw'' n is makes are one lasting =
      let w = n.went in
      let obeys = (makes.goes (state_after plan commands scope w.acts) taken w.stands (λ ok. w.took)).0 in
      record {
        went = went_on plan commands scope text told told' told'' taken taken' taken'' station new action w is makes are;
        turns = n.turns ++ seen_now told' taken' lasts ∷ [];
        all = saw_more saw saw' saw'' n.turns (seen_now told' taken' lasts) n.all one;
        kept = kept_more [] w.acts n.turns makes.act (seen_now told' taken' lasts) n.kept
            (record { tells = w.tells; took = w.took; lasts = λ more. lasting (more_than_clock commands (state_after plan commands scope w.acts) action makes.act obeys more) });
      }

  -- `KeepsUp` of this run, with the acts `others` after it
  abbrev KeepsUpHere : Option (List Act) → (saw saw' : List Snapshot) → List Act → Type 0
  KeepsUpHere told' saw saw' others = KeepsUp plan commands scope text told told' taken saw saw' others

  -- where `Noted` holds, the run has kept up so far (`KeepsUpHere`), with no act after its own
  pub noted_end : (told' : Option (List Act)) (taken' : Option (List ℕ)) (station : Station) (saw saw' : List Snapshot)
      → Noted told' taken' station saw saw' → KeepsUpHere told' saw saw' []
  noted_end told' taken' station saw saw' n = record {
    acts = n.went.acts;
    tells = subst (λ (xs : List Act). AddsActs told told' xs) (sym (append-nil n.went.acts)) n.went.tells;
    runs = n.went.runs;
    turns = n.turns;
    saw = n.all;
    kept = n.kept;
  }

  -- where `Noted` holds, and the link then recorded a close, as where records couldn't be made to last, the run has kept up
  -- (`KeepsUp`), with that close after its own acts
  pub noted_closed : (told' told'' : Option (List Act)) (taken' : Option (List ℕ)) (station : Station) (saw saw' : List Snapshot)
      → Noted told' taken' station saw saw' → AddsActs told' told'' (Closed ∷ []) → KeepsUpHere told'' saw saw' (Closed ∷ [])
  noted_closed told' told'' taken' station saw saw' n closed = record {
    acts = n.went.acts;
    tells = adds_acts_append told told' told'' n.went.acts (Closed ∷ []) n.went.tells closed;
    runs = n.went.runs;
    turns = n.turns;
    saw = n.all;
    kept = n.kept;
  }

  -- where `Noted` holds, the book refused a record of the next action's act (`Breaks`), and the link then recorded a close, the
  -- run has kept up (`KeepsUp`), with that close after its own acts; if the link and the book were seen before the act, and all
  -- records lasted then, unless the action only reads the clock
  pub noted_refused : (told' told'' told''' : Option (List Act)) (taken' taken'' : Option (List ℕ)) (lasts : Bool) (station : Station) (action : Action) (saw saw' saw'' : List Snapshot)
      → (n : Noted told' taken' station saw saw')
      → (is_next : action ≡ action_at plan (state_after plan commands scope n.went.acts))
      → Breaks commands action (stepped plan commands action) (as_seen told' text taken' station) told'' taken''
      → AddsActs told'' told''' (Closed ∷ []) → (one_more : saw'' ≡ saw' ++ seen_now told' taken' lasts ∷ []) → (lasting : reads_clock_alone action ≡ false → lasts ≡ true)
      → KeepsUpHere told''' saw saw'' (Closed ∷ [])
  noted_refused told' told'' told''' taken' taken'' lasts station action saw saw' saw'' n is breaks closed one lasting =
      let w = n.went in
      let s = state_after plan commands scope w.acts in
      let does = (breaks.goes s taken w.stands (λ ok. w.took)).0 in
      let obeys : Performs commands s (action_at plan s) breaks.act = subst (λ (o : Action). Performs commands s o breaks.act) is does in
      record {
        acts = w.acts ++ breaks.act ∷ [];
        tells = adds_acts_append told told'' told''' (w.acts ++ breaks.act ∷ []) (Closed ∷ []) (adds_acts_append told told' told'' w.acts (breaks.act ∷ []) w.tells breaks.tells) closed;
        runs = runs-append plan commands (opening plan scope) w.acts (breaks.act ∷ []) w.runs (obeys, tt);
        turns = n.turns ++ seen_now told' taken' lasts ∷ [];
        saw = saw_more saw saw' saw'' n.turns (seen_now told' taken' lasts) n.all one;
        kept = kept_more [] w.acts n.turns breaks.act (seen_now told' taken' lasts) n.kept
            (record { tells = w.tells; took = w.took; lasts = λ more. lasting (more_than_clock commands s action breaks.act does more) });
      }

  -- a run that has kept up with no act after it has kept up with the close that `close_at_output` gives for the fault of a cause:
  -- that is none, as only the fault `Output`, which no cause has, gives a close
  pub faulty_keeps : (told' : Option (List Act)) (saw saw' : List Snapshot) (cause : Cause) (why : RunFault) → fault_of_cause cause ≡ Some why
      → KeepsUpHere told' saw saw' [] → KeepsUpHere told' saw saw' (close_at_output {X = Tally} (Err why))
  faulty_keeps told' saw saw' Done why e up = absurd (cc)
  faulty_keeps told' saw saw' Dead why e up = let same : fault.Mute ≡ why = cc in subst (λ (w : RunFault). KeepsUpHere told' saw saw' (close_at_output {X = Tally} (Err w))) same up
  faulty_keeps told' saw saw' Read why e up = let same : fault.Read ≡ why = cc in subst (λ (w : RunFault). KeepsUpHere told' saw saw' (close_at_output {X = Tally} (Err w))) same up
  faulty_keeps told' saw saw' End why e up = let same : fault.LinkClosed ≡ why = cc in subst (λ (w : RunFault). KeepsUpHere told' saw saw' (close_at_output {X = Tally} (Err w))) same up
  faulty_keeps told' saw saw' (Write requests bytes) why e up =
      let same : fault.Write requests bytes ≡ why = cc in subst (λ (w : RunFault). KeepsUpHere told' saw saw' (close_at_output {X = Tally} (Err w))) same up
  faulty_keeps told' saw saw' Clock why e up = let same : fault.Clock ≡ why = cc in subst (λ (w : RunFault). KeepsUpHere told' saw saw' (close_at_output {X = Tally} (Err w))) same up
  faulty_keeps told' saw saw' Open why e up = let same : fault.Socket ≡ why = cc in subst (λ (w : RunFault). KeepsUpHere told' saw saw' (close_at_output {X = Tally} (Err w))) same up
  faulty_keeps told' saw saw' SetUp why e up = let same : fault.SetUp ≡ why = cc in subst (λ (w : RunFault). KeepsUpHere told' saw saw' (close_at_output {X = Tally} (Err w))) same up
  faulty_keeps told' saw saw' Turns why e up = let same : fault.TooManyReads ≡ why = cc in subst (λ (w : RunFault). KeepsUpHere told' saw saw' (close_at_output {X = Tally} (Err w))) same up
  faulty_keeps told' saw saw' Stale why e up = let same : fault.Stale ≡ why = cc in subst (λ (w : RunFault). KeepsUpHere told' saw saw' (close_at_output {X = Tally} (Err w))) same up
  faulty_keeps told' saw saw' Stopped why e up = absurd (cc)
