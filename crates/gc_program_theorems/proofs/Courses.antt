-- What happens on the line from a synchronization, or from a client that has synchronized, on; and the same with one thing more
-- before it.
use Rattle.gc_program_theorems.proofs.Common.{◌≡◌, ◌⊎◌, inl, inr, ℕ, ◌+◌, ◌≤◌, Bool, true, false, if◌then◌else◌, List, [], ◌∷◌, ◌++◌, map, map-id, nat_eq, refl, sym, ◌∙◌, ap, subst, arith, append_assoc, Asked, WINDOW, ById, SceneState, Part, idle_part, by_ids, AreTurns, IsTurn, SyncModel, UnderWay, begins, leaves, turns, AreFewKilled, ArePossibleIfBegun, AreRuns, Run, after_turns, killed_by, killed_over, killed_unless_begun, left_by_run, left_by_runs, left_if_begun, under_way_on, ids_begun, Move, ArePossible, IsPossible, moved, moves, seen, KeptReplyReads, scene_ends, scene_kept, AreShownAs, shown, shows, Numbered, Exchange, exchange_of_move, exchange_of_turn, exchanges_if_begun, exchanges_of_moves, exchanges_of_runs, exchanges_of_turns, Lines, same_lines, run}
use mathlib.Core.List.{map-map}
use Rattle.gc_theorems.specs.Prelude.{turned}
use Rattle.gc_program_theorems.proofs.Sides.{SceneWorld, client_move, is_move, is_turn, leaves_turn, turn_answers_none, line_move, move_exchange, move_of, seen_none, shows_none, turn_exchange, turn_of}
use Rattle.gc_program_theorems.proofs.Steps.{AreSteps, Holds, Step, all_stepped, exchange_of_step, exchanges_of_steps, stepped, under_way}
use Rattle.gc_theorems.proofs.InTime.{seen_append}
use Rattle.gc_client.specs.OneForOne as client
use Rattle.gc_station.specs.Parts as part
use Rattle.gc_theorems.specs.Begin as begin

-- in the state b of a synchronization these ids are unanswered, and these lines in flight
abbrev pub BeginIsAt : SyncModel SceneState → List ℕ → Lines → Type 0
BeginIsAt b word l = (b.left ≡ word) × Holds (leaves b) l

-- the world w has this client, and these lines in flight
abbrev pub WorldIsAt : SceneWorld → ById Asked → Lines → Type 0
WorldIsAt w c l = (w.client ≡ c) × Holds (under_way_on w.wire) l

-- the world after a move, with a client's window of seven
abbrev pub after_move : SceneWorld → Move SceneState → SceneWorld
after_move w m = moves scene_ends (by_ids WINDOW scene_ends) w m

-- the world after these moves, in order, with a client's window of seven
abbrev pub after_moves : List (Move SceneState) → SceneWorld → SceneWorld
after_moves ms w = moved scene_ends (by_ids WINDOW scene_ends) ms w

-- what comes: after the part that is going on the other parts, the lines in flight at the end, and the ids that the station's last
-- synchronization leaves unanswered then, none if it has synchronized; and all exchanges of the instrument from now on
pub record Sequel : Type 0 where
  pub parts : List Part
  pub lines : Lines
  pub left : List ℕ
  pub exchanges : List Exchange

-- these parts, then these lines in flight, and these ids unanswered; and these exchanges
abbrev pub sequel : List Part → Lines → (left : List ℕ) → List Exchange → Sequel
sequel ps m left es = record { parts = ps; lines = m; left = left; exchanges = es }

-- what comes, with these exchanges before those that come
abbrev pub after_exchanges : List Exchange → Sequel → Sequel
after_exchanges es coming = record coming { exchanges = es ++ coming.exchanges }

-- runs over what is in flight show the parts of the sequel, are possible, and lead to its lines; at most five in a row are killed
-- while they synchronize. At their end no more count as killed in a row than the ids that the station leaves unanswered say
pub record Later (u : UnderWay SceneState) (rs : List (Run SceneState)) (coming : Sequel) : Type 0 where
  pub show : AreShownAs scene_ends u rs coming.parts
  pub may : AreRuns WINDOW scene_ends KeptReplyReads scene_kept u rs
  pub holds : Holds (left_by_runs WINDOW scene_ends u rs) coming.lines
  pub few : AreFewKilled WINDOW scene_ends 0 u rs
  pub ends : killed_over WINDOW scene_ends 0 u rs ≤ killed_unless_begun coming.left 0

-- if some ids of a run's synchronization aren't answered, no other run (`rs`) follows, and these are the ids that the station
-- leaves unanswered at the end (`left`)
abbrev pub IsLastUnlessBegun : List ℕ → (left : List ℕ) → List (Run SceneState) → Type 0
IsLastUnlessBegun [] left rs = Unit {0}
IsLastUnlessBegun (asked ∷ word) left rs = (rs ≡ []) × (left ≡ asked ∷ word)

-- from the state b of a synchronization on: possible turns show `turns`, and possible moves after them `steps`; later runs show
-- the sequel (`Later`), and there are none if the turns leave ids unanswered. All of them have the sequel's exchanges
pub record FromBegin (b : SyncModel SceneState) (turns : List part.SyncStep) (steps : List (client.Step Asked)) (coming : Sequel) : Type 0 where
  pub ts : List (begin.SyncTurn SceneState)
  pub ms : List (Move SceneState)
  pub rs : List (Run SceneState)
  pub show : shown scene_ends ts b ≡ turns
  pub see : seen ms ≡ steps
  pub are : AreTurns scene_ends KeptReplyReads scene_kept ts b
  pub may : ArePossibleIfBegun WINDOW scene_ends KeptReplyReads scene_kept (turned scene_ends ts b).left (turned scene_ends ts b) ms
  pub later : Later (left_if_begun WINDOW scene_ends (turned scene_ends ts b).left (turned scene_ends ts b) ms) rs coming
  pub rest : IsLastUnlessBegun (turned scene_ends ts b).left coming.left rs
  pub same :
      exchanges_of_turns ts b ++ (exchanges_if_begun (turned scene_ends ts b).left (turned scene_ends ts b) ms
      ++ exchanges_of_runs (left_if_begun WINDOW scene_ends (turned scene_ends ts b).left (turned scene_ends ts b) ms) rs) ≡ coming.exchanges

-- from the world w of a client on: possible moves show `steps`, and later runs show the sequel (`Later`). All of them have the
-- sequel's exchanges
pub record FromClient (w : SceneWorld) (steps : List (client.Step Asked)) (coming : Sequel) : Type 0 where
  pub ms : List (Move SceneState)
  pub rs : List (Run SceneState)
  pub see : seen ms ≡ steps
  pub may : ArePossible scene_ends KeptReplyReads scene_kept (by_ids WINDOW scene_ends) ms w
  pub later : Later (under_way_on (after_moves ms w).wire) rs coming
  pub same : exchanges_of_moves ms w ++ exchanges_of_runs (under_way_on (after_moves ms w).wire) rs ≡ coming.exchanges

-- One thing more before what follows.

-- what comes later doesn't depend on the exchanges
later_with : (u : UnderWay SceneState) (rs : List (Run SceneState)) (coming : Sequel) (es : List Exchange) → Later u rs coming → Later u rs (record coming { exchanges = es })
later_with u rs coming es l = record { show = l.show; may = l.may; holds = l.holds; few = l.few; ends = l.ends }

-- if t is a possible turn in the state b, and `FromBegin` holds from the state after t, it holds from b, with what t shows before
-- the turns `xs`, and with t's exchange
turn_before : (b : SyncModel SceneState) (t : begin.SyncTurn SceneState) (xs : List part.SyncStep) (steps : List (client.Step Asked)) (coming : Sequel)
    → IsTurn KeptReplyReads scene_kept b t → FromBegin (turns scene_ends b t) xs steps coming
    → FromBegin b (shows b t ++ xs) steps (after_exchanges (exchange_of_turn b t) coming)
turn_before b t xs steps coming is f = record {
  ts = t ∷ f.ts;
  ms = f.ms;
  rs = f.rs;
  show = ap (λ l. shows b t ++ l) f.show;
  see = f.see;
  are = (is, f.are);
  may = f.may;
  later = later_with (left_if_begun WINDOW scene_ends (turned scene_ends f.ts (turns scene_ends b t)).left (turned scene_ends f.ts (turns scene_ends b t)) f.ms) f.rs coming
      (exchange_of_turn b t ++ coming.exchanges) f.later;
  rest = f.rest;
  same = append_assoc (exchange_of_turn b t) (exchanges_of_turns f.ts (turns scene_ends b t)) _ ∙ ap (λ l. exchange_of_turn b t ++ l) f.same;
}

-- if t is a possible turn without an exchange in the state b, and `FromBegin` holds from the state after t, it holds from b, with
-- what t shows before the turns `xs`
pub turn_first : (b : SyncModel SceneState) (t : begin.SyncTurn SceneState) (xs : List part.SyncStep) (steps : List (client.Step Asked)) (coming : Sequel)
    → IsTurn KeptReplyReads scene_kept b t → exchange_of_turn b t ≡ [] → FromBegin (turns scene_ends b t) xs steps coming → FromBegin b (shows b t ++ xs) steps coming
turn_first b t xs steps coming is none f =
    subst (λ es. FromBegin b (shows b t ++ xs) steps (after_exchanges es coming)) none (turn_before b t xs steps coming is f)

-- if `xs` are possible steps from what b has in flight, and `FromBegin` holds from each state with what they leave in flight
-- and with the unanswered ids of b, it holds from b, with the exchanges of the steps: they show nothing
pub steps_turn : (xs : List Step) (b : SyncModel SceneState) (show : List part.SyncStep) (steps : List (client.Step Asked)) (coming : Sequel) → AreSteps xs (leaves b)
    → ((c : SyncModel SceneState) → leaves c ≡ all_stepped xs (leaves b) → c.left ≡ b.left → FromBegin c show steps coming)
    → FromBegin b show steps (after_exchanges (exchanges_of_steps xs (leaves b)) coming)
steps_turn [] b show steps coming are on = on b refl refl
steps_turn (x ∷ xs) b show steps coming are on =
    let one = leaves_turn b x in
    let others = exchanges_of_steps xs (stepped (leaves b) x) in
    let rest = subst (λ u. FromBegin (turns scene_ends b (turn_of x)) show steps (after_exchanges (exchanges_of_steps xs u) coming)) one
    (steps_turn xs (turns scene_ends b (turn_of x)) show steps coming (subst (AreSteps xs) (sym one) are.1)
    (λ c e l. on c (e ∙ ap (all_stepped xs) one) (l ∙ turn_answers_none b x))) in
    let both = turn_before b (turn_of x) show steps (after_exchanges others coming) (is_turn b x are.0) rest in
    let named = subst (λ es. FromBegin b (shows b (turn_of x) ++ show) steps (after_exchanges es (after_exchanges others coming))) (turn_exchange b x) both in
    let joined = subst (λ es. FromBegin b (shows b (turn_of x) ++ show) steps (record coming { exchanges = es })) (sym (append_assoc (exchange_of_step (leaves b) x) others coming.exchanges)) named in
    subst (λ l. FromBegin b (l ++ show) steps (after_exchanges (exchanges_of_steps (x ∷ xs) (leaves b)) coming)) (shows_none b x) joined

-- if x is a possible move in the world w, and `FromClient` holds from the world after x, it holds from w, with what the client
-- sees of x before the other steps, and with the exchange of x
move_before : (w : SceneWorld) (x : Move SceneState) (steps : List (client.Step Asked)) (coming : Sequel) → IsPossible KeptReplyReads scene_kept w x
    → FromClient (after_move w x) steps coming → FromClient w (seen (x ∷ []) ++ steps) (after_exchanges (exchange_of_move w x) coming)
move_before w x steps coming is f = record {
  ms = x ∷ f.ms;
  rs = f.rs;
  see = seen_append (x ∷ []) f.ms ∙ ap (λ l. seen (x ∷ []) ++ l) f.see;
  may = (is, f.may);
  later = later_with (under_way_on (after_moves f.ms (after_move w x)).wire) f.rs coming (exchange_of_move w x ++ coming.exchanges) f.later;
  same = append_assoc (exchange_of_move w x) (exchanges_of_moves f.ms (after_move w x)) _ ∙ ap (λ l. exchange_of_move w x ++ l) f.same;
}

-- if x is a possible move without an exchange in the world w, and `FromClient` holds from the world after x, it holds from w, with
-- what the client sees of x before the other steps
pub move_first : (w : SceneWorld) (x : Move SceneState) (steps : List (client.Step Asked)) (coming : Sequel) → IsPossible KeptReplyReads scene_kept w x
    → exchange_of_move w x ≡ [] → FromClient (after_move w x) steps coming → FromClient w (seen (x ∷ []) ++ steps) coming
move_first w x steps coming is none f =
    subst (λ es. FromClient w (seen (x ∷ []) ++ steps) (after_exchanges es coming)) none (move_before w x steps coming is f)

-- if `xs` are possible steps from what w has in flight, and `FromClient` holds from each world with what they leave in flight
-- and with the client of w, it holds from w, with the exchanges of the steps: the client sees nothing of them
pub steps_move : (xs : List Step) (w : SceneWorld) (steps : List (client.Step Asked)) (coming : Sequel) → AreSteps xs (under_way_on w.wire)
    → ((v : SceneWorld) → under_way_on v.wire ≡ all_stepped xs (under_way_on w.wire) → v.client ≡ w.client → FromClient v steps coming)
    → FromClient w steps (after_exchanges (exchanges_of_steps xs (under_way_on w.wire)) coming)
steps_move [] w steps coming are on = on w refl refl
steps_move (x ∷ xs) w steps coming are on =
    let one = line_move w x in
    let others = exchanges_of_steps xs (stepped (under_way_on w.wire) x) in
    let rest = subst (λ u. FromClient (after_move w (move_of x)) steps (after_exchanges (exchanges_of_steps xs u) coming)) one
    (steps_move xs (after_move w (move_of x)) steps coming (subst (AreSteps xs) (sym one) are.1)
    (λ v e c. on v (e ∙ ap (all_stepped xs) one) (c ∙ client_move w x))) in
    let both = move_before w (move_of x) steps (after_exchanges others coming) (is_move w x are.0) rest in
    let named = subst (λ es. FromClient w (seen (move_of x ∷ []) ++ steps) (after_exchanges es (after_exchanges others coming))) (move_exchange w x) both in
    let joined = subst (λ es. FromClient w (seen (move_of x ∷ []) ++ steps) (record coming { exchanges = es })) (sym (append_assoc (exchange_of_step (under_way_on w.wire) x) others coming.exchanges)) named in
    subst (λ l. FromClient w (l ++ steps) (after_exchanges (exchanges_of_steps (x ∷ xs) (under_way_on w.wire)) coming)) (seen_none x) joined

-- From one side to the other.

-- lines that are given a number, without it, are the same lines
without_number : {Line : Type 0} (xs : List Line) → map (λ (x : Numbered Line). x.line) (map (λ x. record { number = 7; line = x }) xs) ≡ xs
without_number xs = map-map _ _ xs ∙ map-id xs

-- a client that has just synchronized has in flight what the synchronization left
pub begun_in_flight : (u : UnderWay SceneState) → under_way_on (ids_begun u).wire ≡ u
begun_in_flight u = ap (λ q. under_way q (under_way_on (ids_begun u).wire).down u.state) (without_number u.up) ∙ ap (λ q. under_way u.up q u.state) (without_number u.down)

-- a synchronization starts over what is in flight
pub begins_in_flight : (u : UnderWay SceneState) → leaves (begins u) ≡ u
begins_in_flight u = ap (λ q. under_way q (leaves (begins u)).down u.state) (same_lines u.up) ∙ ap (λ q. under_way u.up q u.state) (same_lines u.down)

-- if all ids are answered, `FromClient` of the client that has synchronized gives `FromBegin`, which shows no further turns
pub begun_from : (b : SyncModel SceneState) (show : List part.SyncStep) (steps : List (client.Step Asked)) (coming : Sequel) → b.left ≡ [] → show ≡ []
    → FromClient (ids_begun (leaves b)) steps coming → FromBegin b show steps coming
begun_from b show steps coming none quiet f = record {
  ts = [];
  ms = f.ms;
  rs = f.rs;
  show = sym quiet;
  see = f.see;
  are = tt;
  may = subst (λ left. ArePossibleIfBegun WINDOW scene_ends KeptReplyReads scene_kept left b f.ms) (sym none) f.may;
  later = subst (λ left. Later (left_if_begun WINDOW scene_ends left b f.ms) f.rs coming) (sym none) f.later;
  rest = subst (λ left. IsLastUnlessBegun left coming.left f.rs) (sym none) tt;
  same =
      subst (λ left. exchanges_if_begun left b f.ms ++ exchanges_of_runs (left_if_begun WINDOW scene_ends left b f.ms) f.rs ≡ coming.exchanges) (sym none) f.same;
}

-- where k runs counted as killed before, and not n, no more do after one run more, if k is at most n
pub killed_more : (k n : ℕ) (left : List ℕ) → k ≤ n → killed_unless_begun left k ≤ killed_unless_begun left n
killed_more k n [] less = omega arith
killed_more k n (asked ∷ rest) less = by_first (nat_eq asked 6) where
  -- the lemma above, by whether no id is answered (`b`)
  by_first : (b : Bool) → (if b then k else k + 1) ≤ (if b then n else n + 1)
  by_first true = less
  by_first false = omega (arith, less)

-- after the run r, if it has synchronized (no id is left), 0 count as killed in a row; else as many as the ids say that the
-- station leaves unanswered at the end (`last`), and no run follows it
killed_first : (n : ℕ) (u : UnderWay SceneState) (r : Run SceneState) (left last : List ℕ) (rs : List (Run SceneState))
    → (after_turns scene_ends u r).left ≡ left → IsLastUnlessBegun left last rs
    → (killed_by scene_ends n u r ≡ 0) ⊎ ((rs ≡ []) × (killed_by scene_ends n u r ≡ killed_unless_begun last n))
killed_first n u r [] last rs e rest = inl (ap (λ l. killed_unless_begun l n) e)
killed_first n u r (asked ∷ word) last rs e rest = inr (rest.0, ap (λ l. killed_unless_begun l n) (e ∙ sym rest.1))

-- where `n` runs in a row count as killed before a synchronization, and `killed_unless_begun coming.left n`, at most five, once its
-- station has ended: of these and the runs from the synchronization on, at most five in a row count as killed, and at the end at
-- most `killed_unless_begun coming.left n`
pub few_from : (n : ℕ) (u : UnderWay SceneState) (show : List part.SyncStep) (steps : List (client.Step Asked)) (coming : Sequel)
    → (f : FromBegin (begins u) show steps coming) → killed_unless_begun coming.left n ≤ 5
    → AreFewKilled WINDOW scene_ends n u (run f.ts f.ms ∷ f.rs) × (killed_over WINDOW scene_ends n u (run f.ts f.ms ∷ f.rs) ≤ killed_unless_begun coming.left n)
few_from n u show steps coming f small = by_end (killed_first n u (run f.ts f.ms) (turned scene_ends f.ts (begins u)).left coming.left f.rs refl f.rest) where
  -- if no run counts as killed in a row after the first run, at most five do
  none_killed : killed_by scene_ends n u (run f.ts f.ms) ≡ 0 → killed_by scene_ends n u (run f.ts f.ms) ≤ 5
  none_killed none = omega (arith, none)

  -- if `killed_over` counts no more with 0 before than the ids that are left say, it counts no more than they say with n before
  at_the_end : killed_over WINDOW scene_ends 0 (left_by_run WINDOW scene_ends u (run f.ts f.ms)) f.rs ≤ killed_unless_begun coming.left n
  at_the_end = let ends = f.later.ends in let more = killed_more 0 n coming.left (omega arith) in omega (arith, ends, more)

  -- the claim of `few_from`, by whether the first run has synchronized
  by_end : (killed_by scene_ends n u (run f.ts f.ms) ≡ 0) ⊎ ((f.rs ≡ []) × (killed_by scene_ends n u (run f.ts f.ms) ≡ killed_unless_begun coming.left n))
      → AreFewKilled WINDOW scene_ends n u ((run f.ts f.ms) ∷ f.rs) × (killed_over WINDOW scene_ends n u ((run f.ts f.ms) ∷ f.rs) ≤ killed_unless_begun coming.left n)
  by_end (inl none) = (
    (none_killed none, subst (λ k. AreFewKilled WINDOW scene_ends k (left_by_run WINDOW scene_ends u (run f.ts f.ms)) f.rs) (sym none) f.later.few),
    subst (λ k. killed_over WINDOW scene_ends k (left_by_run WINDOW scene_ends u (run f.ts f.ms)) f.rs ≤ killed_unless_begun coming.left n) (sym none) at_the_end,
  )
  by_end (inr killed) =
      let count = killed.1 in (
        (
          omega (arith, count, small),
          subst (λ rs. AreFewKilled WINDOW scene_ends (killed_by scene_ends n u (run f.ts f.ms)) (left_by_run WINDOW scene_ends u (run f.ts f.ms)) rs) (sym killed.0) tt,
        ),
        subst (λ rs. killed_over WINDOW scene_ends (killed_by scene_ends n u (run f.ts f.ms)) (left_by_run WINDOW scene_ends u (run f.ts f.ms)) rs ≤ killed_unless_begun coming.left n) (sym killed.0)
            (omega (arith, count)),
      )

-- one station, killed or not, counts as at most five in a row
one_station_is_few : (left : List ℕ) → killed_unless_begun left 0 ≤ 5
one_station_is_few [] = omega arith
one_station_is_few (asked ∷ rest) = by_first (nat_eq asked 6) where
  -- the lemma above, by whether no id is answered (`b`)
  by_first : (b : Bool) → (if b then 0 else 0 + 1) ≤ 5
  by_first true = omega arith
  by_first false = omega arith

-- `FromBegin` of a synchronization over what is in flight in the world w, which shows the part p and then a sequel, gives
-- `FromClient` from w, with no steps, and with p in front of the sequel's parts
pub ended_from : (w : SceneWorld) (p : Part) (coming : Sequel) → FromBegin (begins (under_way_on w.wire)) p.sync_steps p.steps coming
    → FromClient w [] (sequel (p ∷ coming.parts) coming.lines coming.left coming.exchanges)
ended_from w p coming f =
    let few = few_from 0 (under_way_on w.wire) p.sync_steps p.steps coming f (one_station_is_few coming.left) in
    record {
      ms = [];
      rs = run f.ts f.ms ∷ f.rs;
      see = refl;
      may = tt;
      later = record { show = (f.show, f.see, f.later.show); may = ((f.are, f.may), f.later.may); holds = f.later.holds; few = few.0; ends = few.1 };
      same = f.same;
    }

-- where the lines m are in flight, `FromClient` holds with no steps and one further part, in which nothing happens
pub ends_client_idly : (w : SceneWorld) (m : Lines) (left : List ℕ) → Holds (under_way_on w.wire) m → FromClient w [] (sequel (idle_part ∷ []) m left [])
ends_client_idly w m left holds =
    record {
      ms = [];
      rs = record { turns = []; moves = [] } ∷ [];
      see = refl;
      may = tt;
      later = record {
        show = (refl, refl, tt);
        may = ((tt, refl), tt);
        holds = subst (λ u. Holds u m) (sym (begins_in_flight (under_way_on w.wire))) holds;
        few = (omega arith, tt);
        ends = omega arith;
      };
      same = refl;
    }

-- where the lines m are in flight, `FromClient` holds with no steps and no further parts
pub ends_client : (w : SceneWorld) (m : Lines) (left : List ℕ) → Holds (under_way_on w.wire) m → FromClient w [] (sequel [] m left [])
ends_client w m left holds = record { ms = []; rs = []; see = refl; may = tt; later = record { show = tt; may = tt; holds = holds; few = tt; ends = omega arith }; same = refl }

-- where some ids aren't answered, and the lines m are in flight, `FromBegin` holds with no turns, no steps and no further parts,
-- and with these ids unanswered at the end
pub ends_begin : (b : SyncModel SceneState) (m : Lines) → (b.left ≡ [] → ⊥) → Holds (leaves b) m → FromBegin b [] [] (sequel [] m b.left [])
ends_begin b m some holds = by_left b.left refl where
  -- the lemma above, by the ids that are left
  by_left : (left : List ℕ) → b.left ≡ left → FromBegin b [] [] (sequel [] m b.left [])
  by_left [] e = absurd (some e)
  by_left (asked ∷ rest) e = record {
    ts = [];
    ms = [];
    rs = [];
    show = refl;
    see = refl;
    are = tt;
    may = subst (λ left. ArePossibleIfBegun WINDOW scene_ends KeptReplyReads scene_kept left b []) (sym e) refl;
    later = subst (λ left. Later (left_if_begun WINDOW scene_ends left b []) [] (sequel [] m b.left [])) (sym e) (record { show = tt; may = tt; holds = holds; few = tt; ends = omega arith });
    rest = subst (λ left. IsLastUnlessBegun left b.left []) (sym e) (refl, e);
    same = subst (λ left. exchanges_if_begun left b [] ++ exchanges_of_runs (left_if_begun WINDOW scene_ends left b []) [] ≡ []) (sym e) refl;
  }
