-- Stations one after the other over a rehearsed line are stations in a row in the field.
use Rattle.gc_program_theorems.proofs.Common.{◌≡◌, ℕ, suc, ◌≤◌, List, [], ◌∷◌, ◌++◌, length, refl, sym, ◌∙◌, ap, subst, arith, append_assoc, AllByRecursion, Asked, WINDOW, Act, Put, Gave, SceneState, invariant_opening, cons_head, Runs, after_all, opening, parts_of, UnderWay, begins, leaves, none_under_way, HasRisingIds, Run, killed_over, killed_unless_begun, left_by_runs, AreInARow, KeptReplyReads, scene_ends, scene_kept, AreShownAs, in_a_row, run, scene_is_an_instrument, word_small, Lines, Happening, Acts, ActLeads, CarriesNothing, LeadAll, acts_of, RunsAndStops, RehearsedStation, acts_of_all, Exchange, exchange_at, exchanges_of, exchanges_of_all, exchanges_of_runs, FewEndUnbegun, RehearsalsInARowAreFaithful, exchanges_happened, left_at_its_end, none_in_flight, programs, some_parts, Has, has_more, cons_not_nil}
use Rattle.gc_station.proofs.Lists.{cons_tail}
use Rattle.gc_program_theorems.proofs.Courses.{BeginIsAt, FromBegin, Sequel, after_exchanges, begins_in_flight, few_from, killed_more, sequel}
use Rattle.gc_program_theorems.proofs.Rehearsed.{OnBegin, begin_happens, first_and_others, first_part, none_kept, other_parts, shows_the_run}
use Rattle.gc_program_theorems.proofs.OnLine.{all_on_line}
use Rattle.gc_program_theorems.proofs.Steps.{Holds}
use Rattle.gc_client.specs.OneForOne as client
use Rattle.gc_station.specs.Parts as part
use Rattle.gc_theorems.specs.Begin as begin

-- Cutting what happened.

-- what happened on a line, cut in two: what happened up to the end of the acts `xs`, and what happened after that. The exchanges are
-- those of the two
record CutHappenings (hs : List Happening) (xs ys : List Act) (l m : Lines) (es : List Exchange) : Type 0 where
  front : List Happening
  back : List Happening
  middle : Lines
  fronts : acts_of front ≡ xs
  backs : acts_of back ≡ ys
  leads : LeadAll l front middle
  later : LeadAll middle back m
  same : exchanges_of l front middle leads ++ exchanges_of middle back m later ≡ es

-- what happened can be cut after its first acts
cut_after_acts : (hs : List Happening) (xs ys : List Act) (l m : Lines) → acts_of hs ≡ xs ++ ys → (all : LeadAll l hs m)
    → CutHappenings hs xs ys l m (exchanges_of l hs m all)
cut_after_acts hs [] ys l m e all = record { front = []; back = hs; middle = l; fronts = refl; backs = e; leads = refl; later = all; same = refl }
cut_after_acts [] (x ∷ xs) ys l m e all = absurd (cons_not_nil x (xs ++ ys) (sym e))
cut_after_acts (Acts act ∷ hs) (x ∷ xs) ys l m e all =
    let rest = cut_after_acts hs xs ys all.0 m (cons_tail act x (acts_of hs) (xs ++ ys) e) all.2 in
    record {
      front = Acts act ∷ rest.front;
      back = rest.back;
      middle = rest.middle;
      fronts = ap (λ a. a ∷ acts_of rest.front) (cons_head act x (acts_of hs) (xs ++ ys) e) ∙ ap (λ told. x ∷ told) rest.fronts;
      backs = rest.backs;
      leads = (all.0, all.1, rest.leads);
      later = rest.later;
      same = rest.same;
    }
cut_after_acts (h ∷ hs) (x ∷ xs) ys l m e all =
    let rest = cut_after_acts hs (x ∷ xs) ys all.0 m e all.2 in
    record {
      front = h ∷ rest.front;
      back = rest.back;
      middle = rest.middle;
      fronts = rest.fronts;
      backs = rest.backs;
      leads = (all.0, all.1, rest.leads);
      later = rest.later;
      same =
          append_assoc (exchange_at l h all.0 all.1) (exchanges_of all.0 rest.front rest.middle rest.leads) (exchanges_of rest.middle rest.back m rest.later)
          ∙ ap (λ es. exchange_at l h all.0 all.1 ++ es) rest.same;
    }

-- Between two stations.

-- a quiet act leaves the line as it is
quiet_same : (act : Act) (l n : Lines) → CarriesNothing act → ActLeads l act n → n ≡ l
quiet_same (Put bytes) l n quiet does = absurd quiet
quiet_same (Gave bytes moment) l n quiet does = absurd quiet
quiet_same act l n quiet does = does

-- if all acts of what happens on the line between two stations are quiet, and `FromBegin` holds from each state with the lines
-- that this leads to in flight and with the unanswered ids of b, it holds from b, with the exchanges of what happens
idle_first : (hs : List Happening) (b : begin.SyncModel SceneState) (l n : Lines) (show : List part.SyncStep) (steps : List (client.Step Asked)) (coming : Sequel)
    → AllByRecursion CarriesNothing (acts_of hs) → Holds (leaves b) l → (all : LeadAll l hs n)
    → ((c : begin.SyncModel SceneState) → BeginIsAt c b.left n → FromBegin c show steps coming)
    → FromBegin b show steps (after_exchanges (exchanges_of l hs n all) coming)
idle_first [] b l n show steps coming quiet holds all on = on b (refl, subst (Holds (leaves b)) (sym all) holds)
idle_first (Acts act ∷ hs) b l n show steps coming quiet holds all on =
    idle_first hs b all.0 n show steps coming quiet.1 (subst (Holds (leaves b)) (sym (quiet_same act l all.0 quiet.0 all.1)) holds) all.2 on
idle_first (h ∷ hs) b l n show steps coming quiet holds all on =
    let others = exchanges_of all.0 hs n all.2 in
    subst (λ es. FromBegin b show steps (record coming { exchanges = es })) (sym (append_assoc (exchange_at l h all.0 all.1) others coming.exchanges))
    (begin_happens h (λ act e. cc) b l all.0 show steps (after_exchanges others coming) holds all.1
    (λ c next k. idle_first hs c all.0 n show steps coming quiet next all.2 (λ d at. on d (subst (λ word. BeginIsAt d word n) k at))))

-- The stations in a row.

-- stations in a row are in the field: there is a list of runs for each, and these are programs in a row. Their exchanges, and `after`
-- them, are `es`
record AreInTheField (n : ℕ) (u : UnderWay SceneState) (xs : List RehearsedStation) (es : List Exchange) : Type 0 where
  runs : List (List (Run SceneState))
  each : length runs ≡ length xs
  field : AreInARow scene_ends KeptReplyReads scene_kept n u (programs xs runs)
  after : List Exchange
  same : exchanges_of_all u runs ++ after ≡ es

-- if `FewEndUnbegun` holds of stations before which `n` in a row ended while they synchronized, it holds with k in place of n,
-- where k is at most n
few_end_with_fewer_before : (k n : ℕ) (xs : List RehearsedStation) → k ≤ n → FewEndUnbegun n xs → FewEndUnbegun k xs
few_end_with_fewer_before k n [] less few = tt
few_end_with_fewer_before k n (x ∷ xs) less few = let one = killed_more k n (left_at_its_end x) less in
    ((let f = few.0 in omega (arith, one, f)), few_end_with_fewer_before (killed_unless_begun (left_at_its_end x) k) (killed_unless_begun (left_at_its_end x) n) xs one few.1)

-- stations one after the other over a rehearsed line, after acts `before` that are quiet, are in the field (`AreInTheField`),
-- over what is in flight, if each of them is `RunsAndStops`, and `FewEndUnbegun` holds of them with n
goes_in_a_row : (n : ℕ) (xs : List RehearsedStation) (hs : List Happening) (before : List Act) (u : UnderWay SceneState) (l m : Lines)
    → AllByRecursion CarriesNothing before → Holds u l → (all : LeadAll l hs m)
    → acts_of hs ≡ before ++ acts_of_all xs → AllByRecursion RunsAndStops xs → FewEndUnbegun n xs → AreInTheField n u xs (exchanges_of l hs m all)
goes_in_a_row n [] hs before u l m quiet holds all told lives few = record { runs = []; each = refl; field = tt; after = exchanges_of l hs m all; same = refl }
goes_in_a_row n (x ∷ xs) hs before u l m quiet holds all told lives few =
    let s = opening x.plan x.scope in
    let ps = parts_of x.plan x.commands s x.acts in
    let left = left_at_its_end x in
    let one = cut_after_acts hs before (acts_of_all (x ∷ xs)) l m told all in
    let two = cut_after_acts one.back x.acts (x.after_run ++ acts_of_all xs) one.middle m one.backs one.later in
    let waited = exchanges_of l one.front one.middle one.leads in
    let ran = exchanges_of one.middle two.front two.middle two.leads in
    let f : OnBegin (begins u) two.middle ps left (waited ++ ran) =
    idle_first one.front (begins u) l one.middle (first_part ps).sync_steps (first_part ps).steps (sequel (other_parts ps) two.middle left ran)
    (subst (AllByRecursion CarriesNothing) (sym one.fronts) quiet)
    (subst (λ v. Holds v l) (sym (begins_in_flight u)) holds) one.leads
    (λ c at. subst (λ acts. OnBegin c two.middle (parts_of x.plan x.commands s acts) (after_all x.plan x.commands s acts).progress.exchange.word ran) two.fronts
    ((shows_the_run x.plan x.commands lives.0.askable two.front two.middle).0 s c one.middle (invariant_opening x.plan x.commands x.scope) refl refl at
    word_small two.leads (subst (Runs x.plan x.commands s) (sym two.fronts) lives.0.runs))) in
    let rs = run f.ts f.ms ∷ f.rs in
    let killed = few_from n u (first_part ps).sync_steps (first_part ps).steps (sequel (other_parts ps) two.middle left (waited ++ ran)) f few.0 in
    let rest = goes_in_a_row (killed_over WINDOW scene_ends n u rs) xs two.back x.after_run (left_by_runs WINDOW scene_ends u rs) two.middle m lives.0.quiet f.later.holds two.later two.backs lives.1
    (few_end_with_fewer_before (killed_over WINDOW scene_ends n u rs) (killed_unless_begun left n) xs killed.1 few.1) in
    record {
      runs = rs ∷ rest.runs;
      each = ap suc rest.each;
      field = (
        record {
          runs = lives.0.runs;
          shown = subst (AreShownAs scene_ends u rs) (sym (first_and_others ps (some_parts x.plan x.commands s x.acts))) (f.show, f.see, f.later.show);
          possible = ((f.are, f.may), f.later.may);
          few = killed.0;
        },
        rest.field,
      );
      after = rest.after;
      same =
          append_assoc (exchanges_of_runs u rs) (exchanges_of_all (left_by_runs WINDOW scene_ends u rs) rest.runs) rest.after
          ∙ ap (λ es. exchanges_of_runs u rs ++ es) rest.same
          ∙ ap (λ es. es ++ exchanges_of two.middle two.back m two.later) f.same
          ∙ append_assoc waited ran (exchanges_of two.middle two.back m two.later)
          ∙ ap (λ es. waited ++ es) two.same
          ∙ one.same;
    }

-- where nothing is in flight, `HasRisingIds` holds
rising_where_empty : (state : SceneState) → HasRisingIds (none_under_way state)
rising_where_empty state = record { low = 1; numbers = []; some = omega arith; rising = tt; few = tt; ids = refl }

-- stations in a row over a rehearsed line, as the law has them, are stations in a row in the field, and each is faithful
pub stations_are_faithful : RehearsalsInARowAreFaithful
stations_are_faithful xs lines c lives few =
    let u = none_under_way c.start in
    let good = none_kept c.start c.none in
    let start = none_in_flight c.start in
    let goes = goes_in_a_row 0 xs c.happened [] u start lines tt (record { up = tt; down = refl; one = tt; state = refl; good = good }) c.leads c.acts_are lives few in
    let faithful = in_a_row scene_ends KeptReplyReads scene_kept scene_is_an_instrument.instrument u (record { ids = tt; good = good }) (rising_where_empty c.start) (programs xs goes.runs) goes.field in
    record {
      runs = goes.runs;
      each = goes.each;
      after = goes.after;
      same = goes.same;
      field = goes.field;
      faithful = faithful;
      answers =
          all_on_line (exchanges_happened lines c) 0 u xs goes.runs
          (λ e h. subst (Has e) goes.same (has_more e (exchanges_of_all u goes.runs) goes.after h)) goes.field faithful;
    }
