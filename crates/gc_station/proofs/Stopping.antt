-- How a run ends that is stale, and one whose end was asked for. `TracksFresh` says of an act which records it recorded, and what
-- became of the moment from which on the run may become stale. An act is one call on the link, with its result.
use Rattle.gc_station.proofs.Common.{◌≡◌, inl, inr, ◌⊎◌, ℕ, ◌-◌, ◌<◌, ◌≤◌, ◌||◌, Bool, true, false, List, [], ◌∷◌, ◌++◌, drop, map, Option, Some, None, nat_lt, nat_le, nat_eq, refl, sym, ap, ◌∙◌, subst, append-nil, append_assoc, arith, ltb-true, lt-ltb, leb-true, le-leb, and_parts, cond-true, cond-false, false≢true, nat_tests, AllByRecursion, map-id, map-append, map-map, Asked, Pending, heard, hears, lost, Task, Act, Told, Gave, Closed, Moment, all_among, Cause, Mark, Plan, Action, Phase, Progress, Until, Waiting, Shows, EndsRun, is_stale, action_of, action_in, action_on, records_of, ended_confirmed, Model, opening, action_at, waiting_of, unsent_record, first_unsent_record, with_progress, with_moment, with_rest, is_heard, line_came, lines_completed, after_piece, piece_at, Performs, moved, losing, after, Runs, place_next, mark_next, turned, moment_noted, quieted, time_passed, loses_all, Record, state_after, Scope, Reads, places_of, unanswered, renews, renewed_if, renewed_by, fresh_after, cut_to, oldest, fresh_in, fresh_of, Watch, least_moment, asked_after, RenewsNot, NoneWellSince, HasStale, ClosesStale, StopsAtItsClose, EndsOnceStale, GoesOnInItsChain, ClosesBetweenChains, IsListening, HasLast}
use Rattle.std.specs.Cmp.Derive.{both_true}
use Rattle.gc_station.proofs.Always.{always, always_of_progress}
use Rattle.gc_station.proofs.Closings.{cause_in, no_cause_shown, Decided, after_decided, runs_split, stopped_for, needs_of, done_is_finished}
use Rattle.gc_station.proofs.Counts.{with_losses_progress}
use Rattle.gc_station.proofs.Going.{after_all-append, runs_behind}
use Rattle.gc_station.proofs.Lists.{all_append}
use Rattle.gc_station.proofs.Making.{unconfirmed_end}
use Rattle.gc_station.proofs.Opens.{Quits}
use Rattle.gc_station.proofs.Records.{fresh-append}
use Rattle.gc_station.proofs.Silences.{closes_at_its_end, ended_by_close, not_closing}
use Rattle.gc_station.proofs.Turns.{no_act_in_over}
use Rattle.gc_station.proofs.Unbroken.{unbroken_holds, resting_sends_no_chained}
use Rattle.gc_station.proofs.Freshness.{all_mapped, oldest_among, fresh_below, renewed_place, unwell_renews_none, unwell_changes_none}
use Rattle.gc_station.proofs.Walk.{asked_along, came_along, quieted_along, closed_along, walk, piece_before}
use Rattle.gc_station.specs.declared.cause.Cause.TheVariants as cause
use Rattle.gc_station.specs.declared.progress.Action.TheVariants as actions
use Rattle.gc_station.specs.declared.progress.Phase.TheVariants as phase

-- Records.

-- among these records one renews the watched command with this place (`renews`)
abbrev HasWell : (place : ℕ) → List Record → Type 0
HasWell place rs =
    (front : List Record) × (r : Record) × (later : List Record) × (rs ≡ front ++ r ∷ later) × (renews r.cycle r.turn.place r.end place ≡ true)

-- the record `r` is of a command that wasn't answered well, or is unconfirmed
abbrev IsNotWell : Record → Type 0
IsNotWell r = ended_confirmed r.end ≡ false

-- such records renew no watched command
unwell_renew_none : (place : ℕ) (rs : List Record) → AllByRecursion IsNotWell rs → AllByRecursion (RenewsNot place) rs
unwell_renew_none place [] all = tt
unwell_renew_none place (r ∷ rs) all = (unwell_renews_none r.cycle r.turn.place r.end place all.0, unwell_renew_none place rs all.1)

-- they don't change when the watched commands were answered well last
unwell_same : (now : ℕ) (ws : List Watch) (rs : List Record) → AllByRecursion IsNotWell rs → fresh_after now ws rs ≡ ws
unwell_same now ws [] all = refl
unwell_same now ws (r ∷ rs) all =
    ap (λ vs. fresh_after now vs rs) (unwell_changes_none now r.utc r.cycle r.turn.place r.end ws all.0) ∙ unwell_same now ws rs all.1

-- a watched command once these records were made at the moment `now`
abbrev watch_after : (now : ℕ) → List Record → Watch → Watch
watch_after now [] w = w
watch_after now (r ∷ rs) w = watch_after now rs (renewed_by now r w)

-- records change each watched command by itself
each_by_itself : (now : ℕ) (ws : List Watch) (rs : List Record) → fresh_after now ws rs ≡ map (watch_after now rs) ws
each_by_itself now ws [] = sym (map-id ws)
each_by_itself now ws (r ∷ rs) = each_by_itself now (map (renewed_by now r) ws) rs ∙ map-map (watch_after now rs) (renewed_by now r) ws

-- records leave a watched command its place
place_stays : (now : ℕ) (rs : List Record) (w : Watch) → (watch_after now rs w).place ≡ w.place
place_stays now [] w = refl
place_stays now (r ∷ rs) w = place_stays now rs (renewed_by now r w) ∙ renewed_place (renews r.cycle r.turn.place r.end w.place) now r.utc w

-- of records that are recorded at the moment `now`, none renews this watched command, and it stays; or one does, and it is fresh by `now`
abbrev StaysOrIsFresh : (now : ℕ) → Watch → List Record → Type 0
StaysOrIsFresh now w rs =
    (AllByRecursion (RenewsNot w.place) rs × (watch_after now rs w ≡ w)) ⊎ (HasWell w.place rs × ((watch_after now rs w).fresh ≡ now))

-- `StaysOrIsFresh` holds of any records
fresh_cases : (now : ℕ) (w : Watch) (rs : List Record) → StaysOrIsFresh now w rs
fresh_cases now w [] = inl (tt, refl)
fresh_cases now w (r ∷ rs) =
    by_first (fresh_cases now (renewed_if true now r.utc w) rs) (fresh_cases now w rs) (renews r.cycle r.turn.place r.end w.place) refl where
      -- the lemma above, by whether the first record renews the command
      by_first : StaysOrIsFresh now (renewed_if true now r.utc w) rs → StaysOrIsFresh now w rs → (b : Bool) → renews r.cycle r.turn.place r.end w.place ≡ b
          → StaysOrIsFresh now w (r ∷ rs)
      by_first here there true well = on_well here where
        -- the lemma above, if the first record renews the command, by the other records
        on_well : StaysOrIsFresh now (renewed_if true now r.utc w) rs → StaysOrIsFresh now w (r ∷ rs)
        on_well (inl none) =
            inr (([], r, rs, refl, well), ap (λ b. (watch_after now rs (renewed_if b now r.utc w)).fresh) well ∙ ap (λ (v : Watch). v.fresh) none.1)
        on_well (inr some) = inr (([], r, rs, refl, well), ap (λ b. (watch_after now rs (renewed_if b now r.utc w)).fresh) well ∙ some.1)
      by_first here there false unwell = on_unwell there where
        -- the lemma above, if the first record doesn't, by the other records
        on_unwell : StaysOrIsFresh now w rs → StaysOrIsFresh now w (r ∷ rs)
        on_unwell (inl none) = inl ((unwell, none.0), ap (λ b. watch_after now rs (renewed_if b now r.utc w)) unwell ∙ none.1)
        on_unwell (inr ((front, x, later, order, well), e)) =
            inr ((r ∷ front, x, later, ap (λ xs. r ∷ xs) order, well), ap (λ b. (watch_after now rs (renewed_if b now r.utc w)).fresh) unwell ∙ e)

-- the record of the first of these commands, if it isn't sent, isn't of one that was answered well
unsent_unwell : (p : Progress) (m : Moment) (mark : Mark) (list : List Task) → AllByRecursion IsNotWell (first_unsent_record p m mark list)
unsent_unwell p m mark [] = tt
unsent_unwell p m mark (task ∷ others) = (unconfirmed_end p, tt)

-- the records of requests that are lost are of commands that weren't answered well
lost_unwell : (reads : Reads) (utc : ℕ) (marks : List (Option Mark)) (ps : List (Pending Asked)) → AllByRecursion IsNotWell (records_of reads utc marks (map lost ps))
lost_unwell reads utc [] ps = tt
lost_unwell reads utc (mark ∷ marks) [] = tt
lost_unwell reads utc (None ∷ marks) (p ∷ ps) = lost_unwell reads utc marks ps
lost_unwell reads utc (Some mark ∷ marks) (p ∷ ps) = (refl, lost_unwell reads utc marks ps)

-- What an act records.

-- from s to t an act wrote records of which none renews this watched command, `w` in s; in t it is fresh by the same moment, bounded by
-- the one that the act read
abbrev RecordsNoneWell : (s : Model) → Act → (t : Model) → (w w' : Watch) → Type 0
RecordsNoneWell s act t w w' =
    (rs : List Record) × (t.records ≡ s.records ++ rs) × AllByRecursion (RenewsNot w.place) rs × (w'.fresh ≡ least_moment w.fresh (act ∷ []))

-- from s to t an act, a read that gave bytes, wrote records of which at least one renews this watched command, which is fresh in t by
-- the moment of the read
abbrev RecordsOneWell : (s : Model) → Act → (t : Model) → (w w' : Watch) → Type 0
RecordsOneWell s act t w w' =
    (rs : List Record) × (t.records ≡ s.records ++ rs) × HasWell w.place rs × (bytes : List ℕ) × (m : Moment) × (act ≡ Gave bytes m) × (w'.fresh ≡ m.elapsed)

-- from s to t a watched command, `w` in s and w' in t, kept its place, and was recorded as `RecordsNoneWell` or `RecordsOneWell` says
abbrev Tracks : (s : Model) → Act → (t : Model) → (w w' : Watch) → Type 0
Tracks s act t w w' = (w'.place ≡ w.place) × (RecordsNoneWell s act t w w' ⊎ RecordsOneWell s act t w w')

-- from s to t an act changed each watched command by itself, as `Tracks` says
abbrev TracksFresh : (s : Model) → Act → (t : Model) → Type 0
TracksFresh s act t = (f : Watch → Watch) × (t.fresh ≡ map f s.fresh) × ((w : Watch) → Tracks s act t w (f w))

-- t is the model `mid` after some lines of a piece, heard at the moment `now`: they added records, and `fresh` is what
-- `fresh_after` makes of these
abbrev HeardSince : (mid : Model) → (now : ℕ) → (t : Model) → Type 0
HeardSince mid now t = (rs : List Record) × (t.records ≡ mid.records ++ rs) × (t.fresh ≡ fresh_after now mid.fresh rs) × (t.progress.moment.elapsed ≡ now)

-- one line more preserves `HeardSince`
heard_line : (mid : Model) (now : ℕ) (t : Model) (line : List ℕ) → HeardSince mid now t → HeardSince mid now (line_came t line)
heard_line mid now t line (rs, order, fresh, at) =
    let added = records_of t.reads t.progress.moment.utc t.marks (hears t.client line (heard line)).settlements in (
      rs ++ added,
      ap (λ xs. xs ++ added) order ∙ append_assoc mid.records rs added,
      ap (λ n. fresh_after n t.fresh added) at ∙ ap (λ f. fresh_after now f added) fresh ∙ sym (fresh-append now mid.fresh rs added),
      at,
    )

-- `HeardSince` holds after a piece, from the model before its lines on
heard_since_piece : (is_heard : Bool) (word piece : List ℕ) (mid : Model) → HeardSince mid mid.progress.moment.elapsed (after_piece is_heard word piece mid)
heard_since_piece is_heard word piece mid =
    let now = mid.progress.moment.elapsed in
    let none = sym (append-nil mid.records) in
    came_along (HeardSince mid now) (λ t line h. heard_line mid now t line h) is_heard word piece mid ([], none, refl, refl)
    ([], none, refl, asked_along (λ (q : Progress). q.moment.elapsed ≡ now) (λ q line e. e) mid.progress (lines_completed mid.rest piece) refl) ([], none, refl, refl)

-- a read that gave bytes wrote records as `TracksFresh` says
gave_fresh : (plan : Plan) (until : Until) (s : Model) (bytes : List ℕ) (m : Moment) → TracksFresh s (Gave bytes m) (piece_at plan until bytes m s)
gave_fresh plan until s bytes m =
    let mid = with_moment m (with_progress (moment_noted m) s) in
    by_case (heard_since_piece (is_heard s.progress.phase) s.progress.exchange.word bytes mid) where
      -- the lemma above, by the records that the piece recorded
      by_case : HeardSince (with_moment m (with_progress (moment_noted m) s)) m.elapsed
          (after_piece (is_heard s.progress.phase) s.progress.exchange.word bytes (with_moment m (with_progress (moment_noted m) s)))
          → TracksFresh s (Gave bytes m) (piece_at plan until bytes m s)
      by_case (rs, order, fresh, at) = (
        (λ w. watch_after m.elapsed rs (cut_to m.elapsed w)),
        fresh ∙ each_by_itself m.elapsed (map (cut_to m.elapsed) s.fresh) rs ∙ map-map (watch_after m.elapsed rs) (cut_to m.elapsed) s.fresh,
        λ w. (place_stays m.elapsed rs (cut_to m.elapsed w), by_records w (fresh_cases m.elapsed (cut_to m.elapsed w) rs)),
      ) where
        -- the same of one watched command, by whether one of the records renews it
        by_records : (w : Watch) → StaysOrIsFresh m.elapsed (cut_to m.elapsed w) rs
            → RecordsNoneWell s (Gave bytes m) (piece_at plan until bytes m s) w (watch_after m.elapsed rs (cut_to m.elapsed w))
            ⊎ RecordsOneWell s (Gave bytes m) (piece_at plan until bytes m s) w (watch_after m.elapsed rs (cut_to m.elapsed w))
        by_records w (inl none) = inl (rs, order, none.0, ap (λ (v : Watch). v.fresh) none.1)
        by_records w (inr some) = inr (rs, order, some.0, bytes, m, refl, some.1)

-- an act of each action wrote records as `TracksFresh` says, from before its turn to before what is outstanding is lost
moved_fresh : (plan : Plan) (commands : List Task) (next : Action) (s : Model) (act : Act) → Performs commands s next act → TracksFresh s act (moved plan commands next (with_progress turned s) act)
moved_fresh plan commands actions.Skip s act o =
    walk plan commands (TracksFresh s) actions.Skip (with_progress turned s) act o (
      λ m.
          let rs = unsent_record plan commands s.progress (Told m) in
          let unwell = unsent_unwell (turned s.progress) m (mark_next plan commands s.progress) (drop (place_next commands s.progress) commands) in
          (cut_to m.elapsed, refl, λ w. (refl, inl (rs, refl, unwell_renew_none w.place rs unwell, refl))),
      λ n. ((λ w. w), sym (map-id s.fresh), λ w. (refl, inl ([], refl, tt, refl))),
    )
moved_fresh plan commands (actions.Read until) s act o =
    let none = sym (append-nil s.records) in
    walk plan commands (TracksFresh s) (actions.Read until) (with_progress turned s) act o (
      λ bytes m. gave_fresh plan until (with_progress turned s) bytes m,
      λ m. (cut_to m.elapsed, refl, λ w. (refl, inl ([], none, tt, refl))),
      ((λ w. w), sym (map-id s.fresh), λ w. (refl, inl ([], none, tt, refl))),
      ((λ w. w), sym (map-id s.fresh), λ w. (refl, inl ([], none, tt, refl))),
      ((λ w. w), sym (map-id s.fresh), λ w. (refl, inl ([], none, tt, refl))),
    )
moved_fresh plan commands (actions.Close why) s act o =
    let none = sym (append-nil s.records) in
    walk plan commands (TracksFresh s) (actions.Close why) (with_progress turned s) act o ((λ w. w), sym (map-id s.fresh), λ w. (refl, inl ([], none, tt, refl)))
moved_fresh plan commands (actions.Stop why) s act o = absurd o
moved_fresh plan commands actions.ReadClock s act o =
    let none = sym (append-nil s.records) in
    walk plan commands (TracksFresh s) actions.ReadClock (with_progress turned s) act o (
      λ m. (cut_to m.elapsed, refl, λ w. (refl, inl ([], none, tt, refl))),
      λ n. ((λ w. w), sym (map-id s.fresh), λ w. (refl, inl ([], none, tt, refl))),
    )
moved_fresh plan commands actions.Renew s act o =
    let none = sym (append-nil s.records) in
    walk plan commands (TracksFresh s) actions.Renew (with_progress turned s) act o (
      λ m. (cut_to m.elapsed, refl, λ w. (refl, inl ([], none, tt, refl))),
      λ n. ((λ w. w), sym (map-id s.fresh), λ w. (refl, inl ([], none, tt, refl))),
    )
moved_fresh plan commands actions.Begin s act o =
    let none = sym (append-nil s.records) in
    walk plan commands (TracksFresh s) actions.Begin (with_progress turned s) act o (
      λ m. (cut_to m.elapsed, refl, λ w. (refl, inl ([], none, tt, refl))),
      λ n. ((λ w. w), sym (map-id s.fresh), λ w. (refl, inl ([], none, tt, refl))),
    )
moved_fresh plan commands actions.Pass s act o =
    let none = sym (append-nil s.records) in
    walk plan commands (TracksFresh s) actions.Pass (with_progress turned s) act o (
      λ m. (cut_to m.elapsed, refl, λ w. (refl, inl ([], none, tt, refl))),
      λ n. ((λ w. w), sym (map-id s.fresh), λ w. (refl, inl ([], none, tt, refl))),
    )
moved_fresh plan commands next s act o =
    let none = sym (append-nil s.records) in
    walk plan commands (TracksFresh s) next (with_progress turned s) act o (
      λ m. ((λ w. w), sym (map-id s.fresh), λ w. (refl, inl ([], none, tt, refl))),
      λ n. ((λ w. w), sym (map-id s.fresh), λ w. (refl, inl ([], none, tt, refl))),
    )

-- the loss of what is outstanding preserves `TracksFresh`: what is lost wasn't answered well
losing_fresh : (s : Model) (act : Act) (all : Bool) (t : Model) → TracksFresh s act t → TracksFresh s act (losing all t)
losing_fresh s act false t h = h
losing_fresh s act true t (f, fresh, each) =
    let more = records_of t.reads t.progress.moment.utc t.marks (map lost t.client.waiting) in
    let none = lost_unwell t.reads t.progress.moment.utc t.marks t.client.waiting in
    (f, unwell_same t.progress.moment.elapsed t.fresh more none ∙ fresh, λ w. ((each w).0, by_records w (f w) more none (each w).1)) where
      -- the lemma above for one watched command, by whether one of the records before renews it
      by_records : (w w' : Watch) (more : List Record) → AllByRecursion IsNotWell more → RecordsNoneWell s act t w w' ⊎ RecordsOneWell s act t w w'
          → RecordsNoneWell s act (record t { records = t.records ++ more }) w w' ⊎ RecordsOneWell s act (record t { records = t.records ++ more }) w w'
      by_records w w' more none (inl (rs, order, unwell, least)) =
          inl (
            rs ++ more,
            ap (λ xs. xs ++ more) order ∙ append_assoc s.records rs more,
            all_append (RenewsNot w.place) rs more unwell (unwell_renew_none w.place more none),
            least,
          )
      by_records w w' more none (inr (rs, order, (front, r, later, split, well), bytes, m, is, at)) =
          inr (
            rs ++ more,
            ap (λ xs. xs ++ more) order ∙ append_assoc s.records rs more,
            (front, r, later ++ more, ap (λ xs. xs ++ more) split ∙ append_assoc front (r ∷ later) more, well),
            bytes,
            m,
            is,
            at,
          )

-- a whole act wrote records as `TracksFresh` says
after_fresh : (plan : Plan) (commands : List Task) (s : Model) (act : Act) → Performs commands s (action_at plan s) act → TracksFresh s act (after plan commands s act)
after_fresh plan commands s act o =
    let t = moved plan commands (action_at plan s) (with_progress turned s) act in
    losing_fresh s act (loses_all t.progress) t (moved_fresh plan commands (action_at plan s) s act o)

-- Since the last answer of a good quality.

-- the least of a number and the moments of two lists of acts is that of the second list, from that of the first on
least-append : (n : ℕ) (xs ys : List Act) → least_moment n (xs ++ ys) ≡ least_moment (least_moment n xs) ys
least-append n [] ys = refl
least-append n (x ∷ xs) ys = least-append (least_moment n (x ∷ [])) xs ys

-- whether the end was asked for in two lists of acts is known from the second list, and from that of the first
pub asked-append : (b : Bool) (xs ys : List Act) → asked_after b (xs ++ ys) ≡ asked_after (asked_after b xs) ys
asked-append b [] ys = refl
asked-append b (x ∷ xs) ys = asked-append (asked_after b (x ∷ [])) xs ys

-- an act of which `Tracks` holds preserves `NoneWellSince`
none_well_more : (plan : Plan) (commands : List Task) (scope : Scope) (done : List Act) (act : Act) (w w' : Watch) → NoneWellSince plan commands scope done w.place w.fresh
    → Tracks (state_after plan commands scope done) act (state_after plan commands scope (done ++ act ∷ [])) w w' → NoneWellSince plan commands scope (done ++ act ∷ []) w'.place w'.fresh
none_well_more plan commands scope done act w w' u (place, tracked) =
    subst (λ p. NoneWellSince plan commands scope (done ++ act ∷ []) p w'.fresh) (sym place) (by_records tracked) where
      -- the lemma above, by whether the act recorded the command as answered well
      by_records : RecordsNoneWell (state_after plan commands scope done) act (state_after plan commands scope (done ++ act ∷ [])) w w'
          ⊎ RecordsOneWell (state_after plan commands scope done) act (state_after plan commands scope (done ++ act ∷ [])) w w'
          → NoneWellSince plan commands scope (done ++ act ∷ []) w.place w'.fresh
      by_records (inl (rs, order, unwell, least)) = record {
        before = u.before;
        behind = u.behind ++ act ∷ [];
        order = ap (λ xs. xs ++ act ∷ []) u.order ∙ append_assoc u.before u.behind (act ∷ []);
        from = u.from;
        start = u.start;
        records = u.records ++ rs;
        written = order ∙ ap (λ xs. xs ++ rs) u.written ∙ append_assoc (state_after plan commands scope u.before).records u.records rs;
        unwell = all_append (RenewsNot w.place) u.records rs u.unwell unwell;
        least = least ∙ ap (λ n. least_moment n (act ∷ [])) u.least ∙ sym (least-append u.from u.behind (act ∷ []));
      }
      by_records (inr (rs, order, (front, r, later, split, well), bytes, m, is, at)) =
          let all = done ++ act ∷ [] in
          record {
            before = all;
            behind = [];
            order = sym (append-nil all);
            from = m.elapsed;
            start = inr (record {
              earlier = done;
              piece = bytes;
              moment = m;
              order = ap (λ a. done ++ a ∷ []) is;
              at = refl;
              answer = r;
              written = record {
                earlier = front;
                later = later;
                written = sym (ap (λ a. (state_after plan commands scope (done ++ a ∷ [])).records) is)
                    ∙ order ∙ ap (λ xs. (state_after plan commands scope done).records ++ xs) split;
              };
              well = well;
            });
            records = [];
            written = sym (append-nil (state_after plan commands scope all).records);
            unwell = tt;
            least = at;
          }

-- after these acts each watched command is as `NoneWellSince` says, and the watched commands are those of the scope
record AreTracked (plan : Plan) (commands : List Task) (scope : Scope) (acts : List Act) : Type 0 where
  each : AllByRecursion (λ w. NoneWellSince plan commands scope acts w.place w.fresh) (state_after plan commands scope acts).fresh
  places : places_of (state_after plan commands scope acts).fresh ≡ scope.watched

-- what changes each watched command by itself, and leaves it its place, leaves all their places
places_stay : (f : Watch → Watch) → ((w : Watch) → (f w).place ≡ w.place) → (ws : List Watch) → places_of (map f ws) ≡ places_of ws
places_stay f same [] = refl
places_stay f same (w ∷ ws) = ap (λ p. p ∷ places_of (map f ws)) (same w) ∙ ap (λ ps. w.place ∷ ps) (places_stay f same ws)

-- an act of which `TracksFresh` holds preserves `AreTracked`
tracked_more : (plan : Plan) (commands : List Task) (scope : Scope) (done : List Act) (act : Act) → AreTracked plan commands scope done
    → TracksFresh (state_after plan commands scope done) act (state_after plan commands scope (done ++ act ∷ [])) → AreTracked plan commands scope (done ++ act ∷ [])
tracked_more plan commands scope done act u (f, fresh, each) =
    let now = λ (w : Watch). NoneWellSince plan commands scope (done ++ act ∷ []) w.place w.fresh in
    let was = (state_after plan commands scope done).fresh in
    record {
      each = subst (AllByRecursion now) (sym fresh)
          (all_mapped (λ (w : Watch). NoneWellSince plan commands scope done w.place w.fresh) now f (λ w h. none_well_more plan commands scope done act w (f w) h (each w)) was u.each);
      places = ap places_of fresh ∙ places_stay f (λ w. (each w).0) was ∙ u.places;
    }

-- before the first act no watched command was answered
none_tracked : (plan : Plan) (commands : List Task) (scope : Scope) (places : List ℕ)
    → AllByRecursion (λ w. NoneWellSince plan commands scope [] w.place w.fresh) (map unanswered places)
none_tracked plan commands scope [] = tt
none_tracked plan commands scope (p ∷ places) = (
  record { before = []; behind = []; order = refl; from = 0; start = inl (refl, refl); records = []; written = refl; unwell = tt; least = refl },
  none_tracked plan commands scope places,
)

-- `AreTracked` holds after each run
tracked_holds : (plan : Plan) (commands : List Task) (scope : Scope) (acts : List Act) → Runs plan commands (opening plan scope) acts → AreTracked plan commands scope acts
tracked_holds plan commands scope acts runs =
    always plan commands (opening plan scope) (λ (done : List Act) (t : Model). AreTracked plan commands scope done) (λ done act runs' o u.
    tracked_more plan commands scope done act u
    (subst (λ (t : Model). TracksFresh (state_after plan commands scope done) act t) (sym (after_all-append plan commands (opening plan scope) done (act ∷ [])))
    (after_fresh plan commands (state_after plan commands scope done) act o)))
    (record { each = none_tracked plan commands scope scope.watched; places = map-map (λ (w : Watch). w.place) unanswered scope.watched ∙ map-id scope.watched }) acts runs

-- a run that is stale is so by a watched command
stale_has : (plan : Plan) (s : Model) → is_stale plan s.progress (waiting_of s) ≡ true → HasStale plan s
stale_has plan s stale = by_oldest (oldest s.fresh) refl where
  -- the two parts of the test
  parts : (nat_lt 0 plan.stale ≡ true) × (nat_le plan.stale (s.progress.moment.elapsed - fresh_of s.progress.moment.elapsed s.fresh) ≡ true)
  parts = and_parts (nat_lt 0 plan.stale) (nat_le plan.stale (s.progress.moment.elapsed - fresh_of s.progress.moment.elapsed s.fresh)) stale

  -- the plan sets a limit
  wanted : 0 < plan.stale
  wanted = ltb-true 0 plan.stale parts.0

  -- the lemma above, by the watched command that was answered well the longest ago
  by_oldest : (o : Option Watch) → oldest s.fresh ≡ o → HasStale plan s
  by_oldest None e =
      let long : plan.stale ≤ s.progress.moment.elapsed - s.progress.moment.elapsed = leb-true plan.stale (s.progress.moment.elapsed - s.progress.moment.elapsed)
      (ap (λ x. nat_le plan.stale (s.progress.moment.elapsed - fresh_in x s.progress.moment.elapsed)) (sym e) ∙ parts.1) in
      absurd (omega (arith, long, wanted))
  by_oldest (Some w) e =
      let among = oldest_among s.fresh w e in
      record {
        front = among.0;
        watch = w;
        later = among.1;
        among = among.2;
        wanted = wanted;
        long = leb-true plan.stale (s.progress.moment.elapsed - w.fresh)
            (ap (λ x. nat_le plan.stale (s.progress.moment.elapsed - fresh_in x s.progress.moment.elapsed)) (sym e) ∙ parts.1);
      }

-- a run with a watched command that is stale is stale
has_stale : (plan : Plan) (s : Model) → HasStale plan s → is_stale plan s.progress (waiting_of s) ≡ true
has_stale plan s h =
    let now = s.progress.moment.elapsed in
    let low : fresh_of now s.fresh ≤ h.watch.fresh = subst (λ ws. fresh_of now ws ≤ h.watch.fresh) (sym h.among) (fresh_below now h.front h.watch h.later) in
    let long : plan.stale ≤ now - fresh_of now s.fresh = omega (arith, low, h.long) in
    both_true (lt-ltb 0 plan.stale h.wanted) (le-leb plan.stale (now - fresh_of now s.fresh) long)

-- a connection is closed, and a run ends without one, for `Stale` only if the run is stale (`IsStaleAt`)
pub closes_stale : ClosesStale
closes_stale plan commands scope acts runs is =
    let s = state_after plan commands scope acts in
    let u = tracked_holds plan commands scope acts runs in
    let some = stale_has plan s (closes_at_its_end plan s cause.Stale is (not_closing plan commands scope acts cause.Stale runs (λ act shows. shows))) in
    record {
      some = some;
      front = places_of some.front;
      later = places_of some.later;
      watched = sym u.places ∙ ap places_of some.among ∙ map-append (λ (w : Watch). w.place) some.front (some.watch ∷ some.later);
      since = all_among (λ (w : Watch). NoneWellSince plan commands scope acts w.place w.fresh) some.front some.watch some.later
          (subst (AllByRecursion (λ (w : Watch). NoneWellSince plan commands scope acts w.place w.fresh)) some.among u.each);
    }

-- If a run stops.

-- no act shows that a run ends for `Stale` or `Stopped`, the causes for which a close is one of `Quits`
quits_never_shown : (why : Cause) (act : Act) → Quits (actions.Close why) → Shows why act → ⊥
quits_never_shown cause.Stale act quits shows = shows
quits_never_shown cause.Stopped act quits shows = shows
quits_never_shown why act quits shows = absurd quits

-- if a run stops for `Stale` or `Stopped` (`Quits`), its last act is a close, which was next for that cause
stops_at_its_close : (why : Cause) → Quits (actions.Close why) → StopsAtItsClose why
stops_at_its_close why quits plan commands scope acts runs stop = by_shown (stopped_for plan commands scope acts why runs stop).shown where
  -- what is claimed
  Claim : Type 0
  Claim = (earlier : List Act) × (acts ≡ earlier ++ Closed ∷ []) × (action_at plan (state_after plan commands scope earlier) ≡ actions.Close why)

  -- a cause that equals `why` is `Stale` or `Stopped`, too; so `why` is neither `Done`, `Turns` nor `Open`
  alike : (other : Cause) → why ≡ other → Quits (actions.Close other)
  alike other e = subst (λ (c : Cause). Quits (actions.Close c)) e quits

  -- the lemma above, by why the run stopped
  by_shown : ((why ≡ cause.Turns) × ((state_after plan commands scope acts).progress.turns ≡ 0))
      ⊎ HasLast acts (λ earlier last. EndsRun plan (state_after plan commands scope earlier) why last) → Claim
  by_shown (inl turns) = absurd (alike cause.Turns turns.0)
  by_shown (inr (earlier, last, order, ends)) =
      let closed = ended_by_close plan (state_after plan commands scope earlier) why last (alike cause.Done) (alike cause.Open) (quits_never_shown why last quits) ends in
      (earlier, order ∙ ap (λ a. earlier ++ a ∷ []) closed.0, closed.1)

-- if a run stops because it is stale, its last act is the close for that
pub stops_stale : StopsAtItsClose cause.Stale
stops_stale = stops_at_its_close cause.Stale tt

-- if a run stops because that was asked for, its last act is the close for that
pub stops_stopped : StopsAtItsClose cause.Stopped
stops_stopped = stops_at_its_close cause.Stopped tt

-- What follows a moment at which the run is stale.

-- an act that only listens (`IsListening`) shows no cause
listening_shows_none : (act : Act) (why : Cause) → IsListening act → Shows why act → ⊥
listening_shows_none act why o shows = no_cause_shown IsListening false≢true false≢true false≢true (λ text n. false≢true) why act o shows

-- an act that only listens (`IsListening`) decides no end
listening_decides_none : (plan : Plan) (s : Model) (act : Act) (at : Phase) (why : Cause) → IsListening act → Decided plan s at why act → ⊥
listening_decides_none plan s act at why o (inl failed) = listening_shows_none act why o failed.1
listening_decides_none plan s act at why o (inr (down, inl (other, is, next, ends))) = false≢true (subst IsListening is o)
listening_decides_none plan s act at why o (inr (down, inr (is, ends))) = false≢true (subst IsListening is o)

-- if the end isn't decided, turns are left, and the run is stale, the next action closes for that
stale_next : (plan : Plan) (p : Progress) (w : Waiting) (at : Phase) → p.phase ≡ at → cause_in at ≡ None → 0 < p.turns → is_stale plan p w ≡ true → action_of plan p w ≡ actions.Close cause.Stale
stale_next plan p w at is none some stale = ap (λ x. action_in x plan p w) is ∙ by_phase at none where
  -- turns are left, by their test
  turns : nat_eq p.turns 0 ≡ false
  turns = grind (arith, nat_tests, some)

  -- the action if the end isn't decided yet
  on : action_on plan p w ≡ actions.Close cause.Stale
  on = cond-false (nat_eq p.turns 0) _ _ turns ∙ cond-true (is_stale plan p w) _ _ stale

  -- the lemma above, in each phase
  by_phase : (at : Phase) → cause_in at ≡ None → action_in at plan p w ≡ actions.Close cause.Stale
  by_phase phase.Down e = on
  by_phase phase.Pausing e = on
  by_phase phase.Clearing e = on
  by_phase phase.Draining e = on
  by_phase phase.Ready e = on
  by_phase (phase.Closing why) e = cc
  by_phase (phase.Over why) e = cc

-- if the close for a stale run is next, no act follows but it
only_close_follows : (plan : Plan) (commands : List Task) (t : Model) (behind : List Act) → action_at plan t ≡ actions.Close cause.Stale → Runs plan commands t behind
    → (behind ≡ []) ⊎ (behind ≡ Closed ∷ [])
only_close_follows plan commands t [] is runs = inl refl
only_close_follows plan commands t (act ∷ others) is runs = inr (by_rest others runs.1) where
  -- the act is the close
  closes : act ≡ Closed
  closes = subst (λ (o : Action). Performs commands t o act) is runs.0

  -- the run is over after it
  over : (after plan commands t act).progress.phase ≡ phase.Over cause.Stale
  over =
      let u = moved plan commands (action_at plan t) (with_progress turned t) act in
      ap (λ (p : Progress). p.phase) (with_losses_progress u) ∙ ap (λ (o : Action). (moved plan commands o (with_progress turned t) act).progress.phase) is

  -- the lemma above, by the acts after that one
  by_rest : (rest : List Act) → Runs plan commands (after plan commands t act) rest → act ∷ rest ≡ Closed ∷ []
  by_rest [] more = ap (λ a. a ∷ []) closes
  by_rest (x ∷ xs) more = absurd (no_act_in_over plan commands (after plan commands t act) x more.0 cause.Stale over)

-- a moment that is read, and at which a run with turns left is stale, ends the run: no act comes after it but one close
pub ends_once_stale : EndsOnceStale
ends_once_stale plan commands scope earlier behind telling runs tells turns stale =
    let s = state_after plan commands scope earlier in
    let all = earlier ++ telling ∷ [] in
    let t = state_after plan commands scope all in
    let split = runs_split plan commands (opening plan scope) earlier behind telling runs in
    let later = runs_behind plan commands (opening plan scope) all behind
    (subst (λ (xs : List Act). Runs plan commands (opening plan scope) xs) (sym (append_assoc earlier (telling ∷ []) behind)) runs) in
    only_close_follows plan commands t behind (stale_next plan t.progress (waiting_of t) t.progress.phase refl (by_end (cause_in t.progress.phase) refl) turns (has_stale plan t stale)) later where
      -- the moment decides no end
      by_end : (e : Option Cause) → cause_in (state_after plan commands scope (earlier ++ telling ∷ [])).progress.phase ≡ e
          → cause_in (state_after plan commands scope (earlier ++ telling ∷ [])).progress.phase ≡ None
      by_end None is = is
      by_end (Some why) is =
          let s = state_after plan commands scope earlier in
          let next = after_all-append plan commands (opening plan scope) earlier (telling ∷ []) in
          let split = runs_split plan commands (opening plan scope) earlier behind telling runs in
          absurd (listening_decides_none plan s telling _ why tells
          (after_decided plan commands s telling why split.1 (done_is_finished plan commands scope earlier) (sym (ap (λ (x : Model). cause_in x.progress.phase) next) ∙ is)))

-- If the end of the run was asked for.

-- after an act the end of the run was asked for exactly if it was before, or the act read a moment that asks for it
-- (`asked_after`)
moved_asked : (plan : Plan) (commands : List Task) (next : Action) (s : Model) (act : Act) → Performs commands s next act
    → (moved plan commands next (with_progress turned s) act).progress.stops ≡ asked_after s.progress.stops (act ∷ [])
moved_asked plan commands (actions.Read until) s act o =
    let P : Act → Model → Type 0 = λ (a : Act) (t : Model). t.progress.stops ≡ asked_after s.progress.stops (a ∷ []) in
    walk plan commands P (actions.Read until) (with_progress turned s) act o (
      λ bytes m. let mid = piece_before m s in
          came_along (λ (t : Model). t.progress.stops ≡ (s.progress.stops || m.stops)) (λ t line e. e) (is_heard s.progress.phase) s.progress.exchange.word bytes mid refl
          (asked_along (λ (q : Progress). q.stops ≡ (s.progress.stops || m.stops)) (λ q line e. e) mid.progress (lines_completed mid.rest bytes) refl) refl,
      λ m. quieted_asked plan s.progress.phase (time_passed until m (turned s.progress)),
      refl,
      refl,
      refl,
    ) where
      -- the end of a pause or a drain doesn't change whether the end of the run was asked for
      quieted_asked : (plan : Plan) (at : Phase) (p : Progress) → (quieted plan at p).stops ≡ p.stops
      quieted_asked plan at p = quieted_along (λ (q : Progress). q.stops ≡ p.stops) plan at p refl (refl) refl
moved_asked plan commands (actions.Close why) s act o =
    walk plan commands (λ (a : Act) (t : Model). t.progress.stops ≡ asked_after s.progress.stops (a ∷ [])) (actions.Close why) (with_progress turned s) act o
    (closed_along (λ (q : Progress). q.stops ≡ s.progress.stops) plan (waiting_of (with_rest [] (with_progress turned s))) why (turned s.progress) refl refl)
moved_asked plan commands (actions.Stop why) s act o = absurd o
moved_asked plan commands next s act o =
    walk plan commands (λ (a : Act) (t : Model). t.progress.stops ≡ asked_after s.progress.stops (a ∷ [])) next (with_progress turned s) act o (λ m. refl, λ n. refl)

-- after each run, whether the end was asked for is what its moments say
pub stops_as_asked : (plan : Plan) (commands : List Task) (scope : Scope) (acts : List Act) → Runs plan commands (opening plan scope) acts
    → (state_after plan commands scope acts).progress.stops ≡ asked_after false acts
stops_as_asked plan commands scope acts runs =
    always_of_progress plan commands (opening plan scope) (λ (p : Progress) (done : List Act). p.stops ≡ asked_after false done) (λ done act runs' o e.
    let s = state_after plan commands scope done in
    moved_asked plan commands (action_at plan s) s act o ∙ ap (λ b. asked_after b (act ∷ [])) e ∙ sym (asked-append false done (act ∷ []))) refl acts runs

-- once the end was asked for, no cycle begins, no command of the setup is sent, and each command that is sent goes on with a
-- chain that has begun
pub goes_on_in_its_chain : GoesOnInItsChain
goes_on_in_its_chain plan commands scope acts runs asked =
    let s = state_after plan commands scope acts in
    let stops : s.progress.stops ≡ true = stops_as_asked plan commands scope acts runs ∙ asked in (
      λ is. let needs = needs_of plan s actions.Send is in needs.7 stops,
      λ is. let needs = needs_of plan s actions.Begin is in let never : true ≡ false = sym stops ∙ needs.5 in cc,
      λ is. let needs = needs_of plan s actions.Prepare is in let never : true ≡ false = sym stops ∙ needs.5 in cc,
    )

-- a connection is closed, and a run ends without one, for `Stopped` only if the end was asked for, and the run may end there; no
-- command of an attempt that has begun is left that may be sent
pub closes_between_chains : ClosesBetweenChains
closes_between_chains plan commands scope acts runs is =
    let s = state_after plan commands scope acts in
    let it = closes_at_its_end plan s cause.Stopped is (not_closing plan commands scope acts cause.Stopped runs (λ act shows. shows)) in
    (sym (stops_as_asked plan commands scope acts runs) ∙ it.0, it.1, resting_sends_no_chained s.progress (waiting_of s) (unbroken_holds plan commands scope acts runs) it.1)
