-- The outstanding requests: each was put among the acts, in order; and since then no moment at or past its deadline was read,
-- or one was and the request has timed out. What every run keeps of this, and of the truth of its records, is `Honest`. An act
-- is one call on the link, with its result.
use Rattle.gc_station.proofs.Common.{◌≡◌, ◌⊎◌, inl, inr, ℕ, ◌+◌, ◌<◌, ◌≤◌, ◌||◌, Bool, true, false, List, [], ◌∷◌, ◌++◌, length, map, Option, Some, None, IfSome, nat_le, refl, sym, ap, ◌∙◌, subst, arith, append_assoc, IsSomeAnd, slice_get, AllByRecursion, nat_tests, length-map, Asked, Pending, id_at_place, IsWithinLimits, ById, expired, expires, call_at, Task, Mark, Plan, Action, Act, Gave, Moment, ReadsBefore, deadline_after, IsRecordedBy, IsRepliedIn, AnswerIsJustified, OneReadsPast, LateIsJustified, LostIsJustified, IsLast, count_at, IsCompared, IsAsExpected, IsNotAsExpected, IsByExpectation, expected_at, IsAsking, Record, state_after, Puts, moment_in, Model, IsSending, action_at, cycle_to_send, place_to_send, next_request_text, occasion_at, Performs, Scope}
use Rattle.std.proofs.Common.{length-append}
use Rattle.gc_station.proofs.Lists.{all_append, all_on, AllRisingAt, rising_follow, rising_map}
use Rattle.gc_client.specs.Ids
use Rattle.gc_station.specs.declared.progress.Action.TheVariants as actions

-- whether a request has timed out is as these acts say: if it has (`true`), one of them reads a moment at or past its deadline;
-- otherwise none does
abbrev pub TimedOutAsRead : (timed_out : Bool) → (deadline : ℕ) → List Act → Type 0
TimedOutAsRead true deadline acts = OneReadsPast deadline acts
TimedOutAsRead false deadline acts = AllByRecursion (ReadsBefore deadline) acts

-- as `TimedOutAsRead`, where besides the acts the moment `now` was read, which isn't among them yet
abbrev pub TimedOutAsReadBy : (now : ℕ) → (timed_out : Bool) → (deadline : ℕ) → List Act → Type 0
TimedOutAsReadBy now true deadline acts = OneReadsPast deadline acts ⊎ (deadline ≤ now)
TimedOutAsReadBy now false deadline acts = AllByRecursion (ReadsBefore deadline) acts × (now < deadline)

-- a moment at or past d that was read among acts was read among them and more
past_more : (d : ℕ) (xs ys : List Act) → OneReadsPast d xs → OneReadsPast d (xs ++ ys)
past_more d xs ys t = record { earlier = t.earlier; telling = t.telling; later = t.later ++ ys; at = ap (λ zs. zs ++ ys) t.at ∙ append_assoc t.earlier (t.telling ∷ t.later) ys; past = t.past }

-- an act that reads no moment preserves `TimedOutAsRead`
pub as_read_without_moment : (act : Act) → moment_in act ≡ None → (timed_out : Bool) (d : ℕ) (xs : List Act) → TimedOutAsRead timed_out d xs → TimedOutAsRead timed_out d (xs ++ act ∷ [])
as_read_without_moment act none true d xs told = past_more d xs (act ∷ []) told
as_read_without_moment act none false d xs all =
    all_append (ReadsBefore d) xs (act ∷ []) all (subst (λ (o : Option Moment). IfSome o (λ told. told.elapsed < d)) (sym none) tt, tt)

-- where `TimedOutAsRead` holds, `TimedOutAsReadBy` holds at the moment `now`, which times the request out if its deadline has
-- come
as_read_at_moment : (now : ℕ) (timed_out : Bool) (d : ℕ) (xs : List Act) → TimedOutAsRead timed_out d xs → TimedOutAsReadBy now (timed_out || nat_le d now) d xs
as_read_at_moment now true d xs told = inl told
as_read_at_moment now false d xs all = by_test (nat_le d now) refl where
  -- the lemma above, by whether the deadline has come (`true`)
  by_test : (t : Bool) → nat_le d now ≡ t → TimedOutAsReadBy now t d xs
  by_test true e = let past : d ≤ now = grind (arith, nat_tests, e) in inr past
  by_test false e = let low : now < d = grind (arith, nat_tests, e) in (all, low)

-- a moment, at which requests may time out, preserves `IsWithinLimits`
pub expired_within_limits : (c : ById Asked) (now : ℕ) → IsWithinLimits c → IsWithinLimits (expires c now)
expired_within_limits c now w = record { digit = w.digit; few = let n : length (map (expired now) c.waiting) ≡ length c.waiting = length-map c.waiting (expired now) in omega (arith, n, w.few) }

-- once the act that reads the moment m is among the acts, `TimedOutAsReadBy` of that moment becomes `TimedOutAsRead`
pub as_read_after_moment : (act : Act) (m : Moment) → moment_in act ≡ Some m → (timed_out : Bool) (d : ℕ) (xs : List Act)
    → TimedOutAsReadBy m.elapsed timed_out d xs → TimedOutAsRead timed_out d (xs ++ act ∷ [])
as_read_after_moment act m reads true d xs (inl told) = past_more d xs (act ∷ []) told
as_read_after_moment act m reads true d xs (inr reached) =
    record { earlier = xs; telling = act; later = []; at = refl; past = subst (λ (o : Option Moment). IsSomeAnd o (λ told. d ≤ told.elapsed)) (sym reads) reached }
as_read_after_moment act m reads false d xs both =
    all_append (ReadsBefore d) xs (act ∷ []) both.0 (subst (λ (o : Option Moment). IfSome o (λ told. told.elapsed < d)) (sym reads) both.1, tt)

module _ (plan : Plan) (commands : List Task) (scope : Scope) where
  -- the model after these acts
  abbrev state : List Act → Model
  state acts = state_after plan commands scope acts

  -- after these acts, the command with this mark is sent next; the mark has what the text expects of its answer, the number that is
  -- kept of its counter, and the values of the moment read last
  pub record Marked (acts : List Act) (mark : Mark) : Type 0 where
    pub sends : IsSending plan (state acts)
    pub cycle : mark.cycle ≡ cycle_to_send plan (state acts)
    pub place : mark.place ≡ place_to_send plan commands (state acts)
    pub sent : mark.sent ≡ (state acts).progress.moment.utc
    pub id : mark.id ≡ (state acts).client.next
    pub expects : mark.expected.expects ≡ (expected_at commands mark.place).expects
    pub before : mark.expected.before ≡ count_at (state acts).counts (expected_at commands mark.place).counter
    pub values : mark.expected.values ≡ (state acts).progress.moment.values

  -- `call` is what the command at this place asks for if it is sent after these acts
  abbrev pub AsksThen : (acts : List Act) (place : ℕ) → (call : Asked) → Type 0
  AsksThen acts place call = (task : Task) × (slice_get commands place ≡ Some task) × (call ≡ call_at task (occasion_at (state acts).progress.moment))

  -- the request p that waits at the place `at`, with this id and mark, was put among these acts; `number` acts came before it,
  -- and `Stays` holds of the acts after it, by whether p has timed out and its deadline. If p isn't the oldest (`at` is above 0),
  -- it was put by an action that sends a request of the client (`asks`)
  pub record WasAsked (acts : List Act) (Stays : Bool → ℕ → List Act → Type 0) (number at with_id : ℕ) (p : Pending Asked)
      (mark : Option Mark) : Type 0 where
    pub before : List Act
    pub request : Act
    pub between : List Act
    pub order : acts ≡ before ++ request ∷ between
    pub many : length before ≡ number
    pub asks : 0 < at → IsAsking (action_at plan (state before))
    pub its : (m : Mark) → mark ≡ Some m → Marked before m
    pub id : with_id ≡ (state before).client.next
    pub put : Puts (next_request_text (state before).client p.call) request
    pub deadline : (m : Mark) → mark ≡ Some m → p.deadline ≡ deadline_after plan commands scope before
    pub made : (m : Mark) → mark ≡ Some m → AsksThen before m.place p.call
    pub stays : Stays p.given_up p.deadline between

  -- an outstanding request at the place `at` was put among these acts, with the id of that place, and `TimedOutAsRead` holds of
  -- it since. The client's next id is `next`, and `count` requests wait
  abbrev pub StillWaits : List Act → (next count : ℕ) → (number at : ℕ) → Pending Asked → Option Mark → Type 0
  StillWaits acts next count number at p mark = WasAsked acts TimedOutAsRead number at (id_at_place next count at) p mark

  -- as `StillWaits`, at the moment `now`, which isn't among the acts yet; and a request with that id waited at the client as it was
  -- after the acts
  abbrev pub StillWaitsAt : List Act → (client : ById Asked) → (now : ℕ) → (next count : ℕ) → (number at : ℕ) → Pending Asked → Option Mark → Type 0
  StillWaitsAt acts client now next count number at p mark =
      WasAsked acts (TimedOutAsReadBy now) number at (id_at_place next count at) p mark × Ids.Waits client (id_at_place next count at)

  -- an act adds the record after one of these acts wrote its request; and that asked for what its command did then
  pub record WasMade (acts : List Act) (r : Record) : Type 0 where
    pub act : Act
    pub its : IsRecordedBy plan commands scope acts r act
    pub asks : AsksThen its.before r.place r.command.call

  -- a record is true: if its command was sent, its request was made so; if it is of a reply in time, late or lost, it came about as the law
  -- on such records says; and it is as the text expects it, or isn't, as its ending says
  pub record IsJustified (acts : List Act) (r : Record) : Type 0 where
    pub answered : AnswerIsJustified plan commands scope acts r
    pub late : LateIsJustified plan commands scope acts r
    pub lost : LostIsJustified plan commands scope acts r
    pub made : (utc : ℕ) → r.sent ≡ Some utc → WasMade acts r
    pub unsent : r.sent ≡ None → r.id ≡ 0
    pub expected : IsByExpectation plan commands scope acts r

  -- what every run keeps: the outstanding requests at the client c, with these marks, were put among the acts, in order
  -- (`StillWaits`); and the records are true by `all` acts
  pub record Honest (acts all : List Act) (c : ById Asked) (marks : List (Option Mark)) (records : List Record) : Type 0 where
    pub waiting : AllRisingAt (StillWaits acts c.next (length c.waiting)) 0 0 c.waiting marks
    pub written : AllByRecursion (IsJustified all) records

  -- `Honest`, of the client, the marks and the records of a model
  abbrev pub IsHonest : (acts all : List Act) → Model → Type 0
  IsHonest acts all s = Honest acts all s.client s.marks s.records

  -- a request that was put among acts was put among them and one more. S is what holds of the acts since, and gives T of those
  -- and the one more
  pub asked_more : (acts : List Act) (act : Act) (S T : Bool → ℕ → List Act → Type 0) (number at id : ℕ) (p : Pending Asked) (mark : Option Mark)
      → ((b : Bool) (d : ℕ) (xs : List Act) → S b d xs → T b d (xs ++ act ∷ []))
      → WasAsked acts S number at id p mark → WasAsked (acts ++ act ∷ []) T number at id p mark
  asked_more acts act S T number at id p mark step s = record {
    before = s.before;
    request = s.request;
    between = s.between ++ act ∷ [];
    order = ap (λ xs. xs ++ act ∷ []) s.order ∙ append_assoc s.before (s.request ∷ s.between) (act ∷ []);
    many = s.many;
    asks = s.asks;
    its = s.its;
    id = s.id;
    put = s.put;
    deadline = s.deadline;
    made = s.made;
    stays = step p.given_up p.deadline s.between s.stays;
  }

  -- where `WasAsked` holds at the place `at` with an id, it holds at the place at' with an equal id, if `at` is above 0, or at'
  -- is 0 (the place of the oldest)
  pub asked_with_equal_id : (acts : List Act) (S : Bool → ℕ → List Act → Type 0) (number at at' id id' : ℕ)
      (p : Pending Asked) (mark : Option Mark) → (0 < at' → 0 < at) → id' ≡ id
      → WasAsked acts S number at id p mark → WasAsked acts S number at' id' p mark
  asked_with_equal_id acts S number at at' id id' p mark places ids s = record {
    before = s.before;
    request = s.request;
    between = s.between;
    order = s.order;
    many = s.many;
    asks = λ above. s.asks (places above);
    its = s.its;
    id = ids ∙ s.id;
    put = s.put;
    deadline = s.deadline;
    made = s.made;
    stays = s.stays;
  }

  -- the number of a request that was put is below the count of the acts
  pub asked_number_below : (acts : List Act) (S : Bool → ℕ → List Act → Type 0) (number at id : ℕ) (p : Pending Asked) (mark : Option Mark)
      → WasAsked acts S number at id p mark → number < length acts
  asked_number_below acts S number at id p mark s =
      let whole : length acts ≡ length s.before + length (s.request ∷ s.between) = ap length s.order ∙ length-append s.before (s.request ∷ s.between) in
      let many = s.many in
      omega (arith, whole, many)

  -- the act that writes a record's request and the one that adds the record are among the acts with one more at their end, too
  abbrev recorded_more : (acts : List Act) (act : Act) (r : Record) (then : Act)
      → IsRecordedBy plan commands scope acts r then → IsRecordedBy plan commands scope (acts ++ act ∷ []) r then
  recorded_more acts act r then a = record {
    before = a.before;
    request = a.request;
    between = a.between;
    behind = a.behind ++ act ∷ [];
    order = ap (λ xs. xs ++ act ∷ []) a.order ∙ append_assoc a.before (a.request ∷ (a.between ++ then ∷ a.behind)) (act ∷ [])
        ∙ ap (λ xs. a.before ++ a.request ∷ xs) (append_assoc a.between (then ∷ a.behind) (act ∷ []));
    own = a.own;
    written = a.written;
  }

  -- a record whose reply came among the acts (`IsRepliedIn`) is one whose reply came among them and one more
  abbrev replied_more : (acts : List Act) (act : Act) (r : Record) (line : List ℕ)
      → IsRepliedIn plan commands scope acts r line → IsRepliedIn plan commands scope (acts ++ act ∷ []) r line
  replied_more acts act r line a = record { piece = a.piece; moment = a.moment; its = recorded_more acts act r (Gave a.piece a.moment) a.its; came = a.came; id = a.id }

  -- a record that is true by the acts so far is true by one act more: one that is lost because the run stopped would be the last
  -- act's, after which no act is made
  true_more : (acts : List Act) (act : Act) (r : Record)
      → Performs commands (state acts) (action_at plan (state acts)) act
      → IsJustified acts r → IsJustified (acts ++ act ∷ []) r
  true_more acts act r obeys is = record { answered = answered_more; late = late_more; lost = lost_more; made = made_more; unsent = is.unsent; expected = (met_more, unmet_more) } where
    -- a record of a reply in time is true by one act more
    answered_more : AnswerIsJustified plan commands scope (acts ++ act ∷ []) r
    answered_more line e =
        let a = is.answered line e in record { reply = replied_more acts act r line a.reply; waits = a.waits; in_time = a.in_time }

    -- a record whose request was made so is by one act more
    made_more : (utc : ℕ) → r.sent ≡ Some utc → WasMade (acts ++ act ∷ []) r
    made_more utc e = let a = is.made utc e in record { act = a.act; its = recorded_more acts act r a.act a.its; asks = a.asks }

    -- a record of a reply that was compared with what the text expects is so by one act more
    compared_more : (met : Bool) → IsCompared plan commands scope acts r met → IsCompared plan commands scope (acts ++ act ∷ []) r met
    compared_more met a = record { line = a.line; its_line = a.its_line; act = a.act; its = recorded_more acts act r a.act a.its; compared = a.compared }

    -- a record that was answered well is as expected by one act more
    met_more : IsAsExpected plan commands scope (acts ++ act ∷ []) r
    met_more well = compared_more true (is.expected.0 well)

    -- a record that ended as unexpected isn't as expected by one act more
    unmet_more : IsNotAsExpected plan commands scope (acts ++ act ∷ []) r
    unmet_more line e = compared_more false (is.expected.1 line e)

    -- a late record is true by one act more
    late_more : LateIsJustified plan commands scope (acts ++ act ∷ []) r
    late_more e =
        let a = is.late e in record { line = a.line; reply = replied_more acts act r a.line a.reply; too_late = a.too_late }

    -- no act is made after one at which the run stopped
    not_last : (before : List Act) (request : Act) (between : List Act) (then : Act) (behind : List Act) → acts ≡ before ++ request ∷ (between ++ then ∷ behind)
        → IsLast plan commands scope (before ++ request ∷ between) then behind → ⊥
    not_last before request between then behind order last =
        let whole : acts ≡ (before ++ request ∷ between) ++ then ∷ [] =
        order ∙ ap (λ xs. before ++ request ∷ (between ++ then ∷ xs)) last.none ∙ sym (append_assoc before (request ∷ between) (then ∷ [])) in
        let stopped : action_at plan (state acts) ≡ actions.Stop last.why = ap (λ xs. action_at plan (state xs)) whole ∙ last.stops in
        subst (λ (o : Action). Performs commands (state acts) o act) stopped obeys

    -- a lost record is true by one act more: it isn't lost because the run stopped, as then no act would follow
    lost_more : LostIsJustified plan commands scope (acts ++ act ∷ []) r
    lost_more e =
        let a = is.lost e in
        record {
          act = a.act;
          its = recorded_more acts act r a.act a.its;
          shown = elim a.shown [
            | inl over ↦ inl over
            | inr other ↦ elim other [
              | inl anew ↦ inr (inl anew)
              | inr last ↦ absurd (not_last a.its.before a.its.request a.its.between a.act a.its.behind a.its.order last)
            ]
          ];
        }

  -- records that are true by the acts so far are true by one more
  pub all_true_more : (acts : List Act) (act : Act) (rs : List Record)
      → Performs commands (state acts) (action_at plan (state acts)) act
      → AllByRecursion (IsJustified acts) rs → AllByRecursion (IsJustified (acts ++ act ∷ [])) rs
  all_true_more acts act rs obeys all = all_on (IsJustified acts) (IsJustified (acts ++ act ∷ [])) rs
      (λ r is. true_more acts act r obeys is) all

  -- an act that changes nothing of the client, and reads no moment, preserves `Honest`
  pub honest_without_moment : (acts : List Act) (act : Act) (c : ById Asked) (marks : List (Option Mark)) (rs : List Record) → moment_in act ≡ None
      → Honest acts (acts ++ act ∷ []) c marks rs → Honest (acts ++ act ∷ []) (acts ++ act ∷ []) c marks rs
  honest_without_moment acts act c marks rs none h = record {
    waiting = rising_follow (StillWaits acts c.next (length c.waiting)) (StillWaits (acts ++ act ∷ []) c.next (length c.waiting)) 0 0 c.waiting marks
        (λ n j p mark w. asked_more acts act TimedOutAsRead TimedOutAsRead n j _ p mark (as_read_without_moment act none) w) h.waiting;
    written = h.written;
  }

  -- a request that was put among acts, with `TimedOutAsRead` since, was put with `TimedOutAsReadBy` since once the moment `now`
  -- has timed it out or not
  asked_at_moment : (acts : List Act) (now number at id : ℕ) (p : Pending Asked) (mark : Option Mark)
      → WasAsked acts TimedOutAsRead number at id p mark
      → WasAsked acts (TimedOutAsReadBy now) number at id (expired now p) mark
  asked_at_moment acts now number at id p mark s = record {
    before = s.before;
    request = s.request;
    between = s.between;
    order = s.order;
    many = s.many;
    asks = s.asks;
    its = s.its;
    id = s.id;
    put = s.put;
    deadline = s.deadline;
    made = s.made;
    stays = as_read_at_moment now p.given_up p.deadline s.between s.stays;
  }

  -- once the moment `now` has timed out the requests whose deadline has come, the same requests wait, as `StillWaitsAt` says
  pub still_wait_at_moment : (acts : List Act) (now : ℕ) (c : ById Asked) (marks : List (Option Mark))
      → AllRisingAt (StillWaits acts c.next (length c.waiting)) 0 0 c.waiting marks
      → AllRisingAt (StillWaitsAt acts c now c.next (length (map (expired now) c.waiting))) 0 0 (map (expired now) c.waiting) marks
  still_wait_at_moment acts now c marks all =
      subst (λ (n : ℕ). AllRisingAt (StillWaitsAt acts c now c.next n) 0 0 (map (expired now) c.waiting) marks) (sym (length-map c.waiting (expired now)))
      (rising_map (StillWaits acts c.next (length c.waiting)) (StillWaitsAt acts c now c.next (length c.waiting)) (expired now) 0 0 c.waiting marks
      (λ n j p mark low w. let below : j < length c.waiting = omega (arith, low) in (asked_at_moment acts now n j _ p mark w, (j, below, refl))) all)

  -- requests that wait as `StillWaitsAt` says, at the moment m, wait as `StillWaits` says once the act that reads that moment is
  -- among the acts
  pub still_wait_after_moment : (acts : List Act) (act : Act) (client : ById Asked) (m : Moment) (next count : ℕ) (ps : List (Pending Asked))
      (marks : List (Option Mark)) → moment_in act ≡ Some m
      → AllRisingAt (StillWaitsAt acts client m.elapsed next count) 0 0 ps marks → AllRisingAt (StillWaits (acts ++ act ∷ []) next count) 0 0 ps marks
  still_wait_after_moment acts act client m next count ps marks reads all =
      rising_follow (StillWaitsAt acts client m.elapsed next count) (StillWaits (acts ++ act ∷ []) next count) 0 0 ps marks
      (λ n j p mark w. asked_more acts act (TimedOutAsReadBy m.elapsed) TimedOutAsRead n j _ p mark (as_read_after_moment act m reads) w.0) all

  -- an act that reads a moment, and so times requests out, preserves `Honest`
  pub honest_after_moment : (acts : List Act) (act : Act) (m : Moment) (c : ById Asked) (marks : List (Option Mark))
      (rs : List Record) → moment_in act ≡ Some m
      → Honest acts (acts ++ act ∷ []) c marks rs → Honest (acts ++ act ∷ []) (acts ++ act ∷ []) (expires c m.elapsed) marks rs
  honest_after_moment acts act m c marks rs reads h = record {
    waiting = still_wait_after_moment acts act c m _ _ (map (expired m.elapsed) c.waiting) marks reads (still_wait_at_moment acts m.elapsed c marks h.waiting);
    written = h.written;
  }
