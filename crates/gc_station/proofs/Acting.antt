-- Each act preserves `HoldsMidAct` (see `Midway`), which holds in the midst of an act, before what is outstanding is lost: the
-- counts, the client, the marks and the records belong together (`Sound`), and the phase fits them (`PhaseFits`). An act is one
-- call on the link, with its result. A mark says which command an outstanding request is of, or `None` of a null procedure; a
-- piece is the bytes that one read gave.
use Rattle.gc_station.proofs.Common.{◌≡◌, ℕ, ◌<◌, inl, ◌&&◌, ◌||◌, Bool, true, false, not, List, [], if◌then◌else◌, nat_lt, Option, refl, sym, ap, subst, both_ways, rest_behind, IDS, heard, hears, heard_parts, Task, Moment, Mark, Plan, Cause, Phase, Down, Pausing, Draining, Ready, Over, Progress, Until, Waiting, Act, Told, Cut, Gave, Silent, Ended, Broke, Opened, is_up, is_past, is_quiet, commands_in, moment_noted, failing, after_failure, is_spared, lines_synchronizing, quieted, drained, time_passed, silent, is_idle, closed, Model, with_progress, with_moment, with_rest, waiting_of, line_came, lines_completed, after_piece, is_heard, piece_noted, piece_at, after_clock, after_put, after_open, after_read, after_close}
use Rattle.gc_station.specs.Progressing.{is_finished}
use Rattle.gc_station.proofs.Invariant.{is_before_requests, is_done, says_done}
use Rattle.gc_station.proofs.Meets.{hears_settles_oldest}
use Rattle.gc_station.proofs.Midway.{Sound, ledger_at, NothingIsLeft, PhaseFits, PhaseFitsAt, HoldsMidAct, sound_moment, sound_settles, HoldsMidActAt}
use Rattle.gc_station.proofs.Turns.{phase_failed, phase_by}
use Rattle.gc_station.proofs.Walk.{asked_along, came_along, closed_along}
use Rattle.gc_station.proofs.InCycle.{finished_by_test}
use Rattle.gc_station.specs.declared.cause.Cause.TheVariants as cause

-- the phase after a failure for `why` (`phase_failed`) is `PhaseFits`, if `why` isn't `Done`
fail_fits : (p : Progress) (rest : List ℕ) (marks : List (Option Mark)) (why : Cause) (up : Bool) → is_done why ≡ false → PhaseFits (phase_failed up why) p.left p.unsent rest marks
fail_fits p rest marks why true other = record { empty = λ e. cc; finished = λ e. absurd (both_ways (is_done why) other e) }
fail_fits p rest marks why false other = record { empty = λ e. cc; finished = λ e. absurd (both_ways (is_done why) other e) }

-- a failure for `why` preserves `HoldsMidAct`, if `why` isn't `Done`
pub mid_fail : (plan : Plan) (commands : List Task) (s : Model) (why : Cause) → is_done why ≡ false → HoldsMidAct plan commands s → HoldsMidAct plan commands (with_progress (failing why) s)
mid_fail plan commands s why other mid = (mid.0, fail_fits s.progress s.rest s.marks why (is_up s.progress.phase) other)

-- a moment, at which requests may time out, preserves `HoldsMidAct`
pub mid_moment : (plan : Plan) (commands : List Task) (s : Model) (m : Moment) → HoldsMidAct plan commands s → HoldsMidAct plan commands (with_moment m s)
mid_moment plan commands s m mid = (sound_moment plan commands (ledger_at s s.progress) m.elapsed mid.0, mid.1)

-- an act that reads the clock preserves `HoldsMidAct`, if the change of the progress by `f m` does so for each moment m
pub mid_clock : (plan : Plan) (commands : List Task) (f : Moment → Progress → Progress) (s : Model) (act : Act) → HoldsMidAct plan commands s
    → ((m : Moment) → HoldsMidAct plan commands (with_progress (f m) s)) → HoldsMidAct plan commands (after_clock f s act)
mid_clock plan commands f s (Told m) mid ok = mid_moment plan commands (with_progress (f m) s) m (ok m)
mid_clock plan commands f s act mid ok = mid_fail plan commands s cause.Clock refl mid

-- `HoldsMidAct` holds after an act that puts bytes, whole or in part, if it holds of the model that `f` changed
pub mid_put : (plan : Plan) (commands : List Task) (requests : ℕ) (f : Model → Model) (s : Model) (act : Act) → HoldsMidAct plan commands (f s) → HoldsMidAct plan commands (after_put requests f s act)
mid_put plan commands requests f s (Cut bytes n) mid = mid_fail plan commands (f s) (cause.Write requests n) refl mid
mid_put plan commands requests f s act mid = mid

-- the phase after a lost connection or a failed attempt (`phase_by`) is `PhaseFits`, if `why` isn't `Done`, no bytes of a line
-- are kept, and nothing is left to be sent where all is done
failure_phase_fits : (why : Cause) (p : Progress) (rest : List ℕ) (marks : List (Option Mark)) (done again : Bool) → is_done why ≡ false → rest ≡ [] → (done ≡ true → NothingIsLeft p)
    → PhaseFits (phase_by done again why) p.left p.unsent rest marks
failure_phase_fits why p rest marks true again other none finished = record { empty = λ e. cc; finished = λ e. let it = finished refl in (it.0, it.1, inl refl) }
failure_phase_fits why p rest marks false true other none finished = record { empty = λ e. none; finished = λ e. cc }
failure_phase_fits why p rest marks false false other none finished = record { empty = λ e. cc; finished = λ e. absurd (both_ways (is_done why) other e) }

-- if no bytes of a line are kept, the progress after a lost connection or a failed attempt, not for `Done`, is `PhaseFitsAt`
after_failure_fits : (plan : Plan) (n : ℕ) (why : Cause) (p : Progress) (rest : List ℕ) (marks : List (Option Mark)) → is_done why ≡ false → rest ≡ []
    → PhaseFitsAt (after_failure plan n why p) rest marks
after_failure_fits plan n why p rest marks other none =
    failure_phase_fits why p rest marks (is_finished n p) (is_spared plan why p || nat_lt 0 p.tries) other none
    (λ finished. let it = finished_by_test n p finished in (it.0, it.1))

-- an attempt to connect, made in the phase `Down`, preserves `HoldsMidAct`
pub mid_open : (plan : Plan) (commands : List Task) (s : Model) (act : Act) → s.progress.phase ≡ Down → HoldsMidAct plan commands s → HoldsMidAct plan commands (after_open plan s act)
mid_open plan commands s Opened is mid = (mid.0, record { empty = λ e. mid.1.empty (ap is_before_requests is); finished = λ e. cc })
mid_open plan commands s act is mid = (mid.0, after_failure_fits plan (commands_in s.marks) cause.Open s.progress s.rest s.marks refl (mid.1.empty (ap is_before_requests is)))

-- the phase of a run that is over for `why`, with no bytes of a line kept, is `PhaseFits`, if nothing is left to be sent where `why`
-- is `Done`
over_fits : (why : Cause) (p : Progress) (marks : List (Option Mark)) → (is_done why ≡ true → NothingIsLeft p) → PhaseFits (Over why) p.left p.unsent [] marks
over_fits why p marks done = record { empty = λ e. cc; finished = λ e. let it = done e in (it.0, it.1, inl refl) }

-- the progress after a close is `PhaseFitsAt`, with no bytes of a line kept, if at a close for `Done` nothing is left to be sent
close_fits : (plan : Plan) (w : Waiting) (why : Cause) (p : Progress) (marks : List (Option Mark)) → (why ≡ cause.Done → NothingIsLeft p) → PhaseFitsAt (closed plan w why p) [] marks
close_fits plan w cause.Done p marks done = over_fits cause.Done p marks (λ e. done refl)
close_fits plan w cause.Clock p marks done = over_fits cause.Clock p marks (λ e. cc)
close_fits plan w cause.Turns p marks done = over_fits cause.Turns p marks (λ e. cc)
close_fits plan w cause.Stale p marks done = over_fits cause.Stale p marks (λ e. cc)
close_fits plan w cause.Stopped p marks done = over_fits cause.Stopped p marks (λ e. cc)
close_fits plan w why p marks done = after_failure_fits plan w.commands why p [] marks refl refl

-- a close preserves `Sound`: it leaves the counts, the client, the marks and the records
close_sound : (plan : Plan) (commands : List Task) (s : Model) (w : Waiting) (why : Cause) → Sound plan commands (ledger_at s s.progress)
    → Sound plan commands (ledger_at s (closed plan w why s.progress))
close_sound plan commands s w why sound = closed_along (λ (q : Progress). Sound plan commands (ledger_at s q)) plan w why s.progress sound sound

-- a close for `why` preserves `HoldsMidAct`, if nothing is left to be sent where `why` is `Done`
pub mid_close : (plan : Plan) (commands : List Task) (s : Model) (why : Cause) → (why ≡ cause.Done → NothingIsLeft s.progress)
    → HoldsMidAct plan commands s → HoldsMidAct plan commands (after_close plan why s)
mid_close plan commands s why done mid = let w : Waiting = waiting_of (with_rest [] s) in (close_sound plan commands s w why mid.0, close_fits plan w why s.progress s.marks done)

-- what `HoldsMidAct` says in the phase `Ready`, in which lines are heard and requests sent: the phase adds nothing to `Sound`
pub record Listening (plan : Plan) (commands : List Task) (s : Model) : Type 0 where
  pub sound : Sound plan commands (ledger_at s s.progress)
  pub is_ready : s.progress.phase ≡ Ready

-- a line that is heard preserves `Listening`
listen_line : (plan : Plan) (commands : List Task) (s : Model) (line : List ℕ) → Listening plan commands s → Listening plan commands (line_came s line)
listen_line plan commands s line l =
    let p = s.progress in
    let x = hears s.client line (heard line) in
    let next : x.client.next ≡ s.client.next = (hears_settles_oldest s.client line (heard line)).next in
    record {
      sound = sound_settles s.reads plan commands (ledger_at s p) x.client p.moment.utc x.settlements
          (heard_parts s.client line (heard line)) (subst (λ (n : ℕ). n < IDS) (sym next) l.sound.digit) l.sound;
      is_ready = l.is_ready;
    }

-- lines are heard in the phase `Ready` alone
pub heard_ready : (phase : Phase) → is_heard phase ≡ true → phase ≡ Ready
heard_ready Ready e = refl
heard_ready phase e = cc

-- lines that are heard while the station synchronizes preserve `Listening`: they change neither the counts nor the phase
listen_asked : (plan : Plan) (commands : List Task) (s : Model) (lines : List (List ℕ)) → Listening plan commands s → Listening plan commands (with_progress (λ p. lines_synchronizing p lines) s)
listen_asked plan commands s lines l =
    let it = asked_along (λ (q : Progress). Sound plan commands (ledger_at s q) × (q.phase ≡ Ready)) (λ q line h. h) s.progress lines (l.sound, l.is_ready) in
    record { sound = it.0; is_ready = it.1 }

-- a piece that is heard preserves `Listening`
listen_came : (plan : Plan) (commands : List Task) (s : Model) (word piece : List ℕ) → Listening plan commands s → Listening plan commands (after_piece true word piece s)
listen_came plan commands s word piece l =
    let kept : Listening plan commands (with_rest (rest_behind s.rest piece) s) = record { sound = l.sound; is_ready = l.is_ready } in
    came_along (Listening plan commands) (listen_line plan commands) true word piece s kept
    (listen_asked plan commands (with_rest (rest_behind s.rest piece) s) (lines_completed s.rest piece) kept) l

-- where `Listening` holds of a model, `HoldsMidAct` holds of it once it is noted what a piece settled (`piece_noted`)
piece_noted_ready : (plan : Plan) (commands : List Task) (s : Model) (until : Until) (before : ℕ) → Listening plan commands s → HoldsMidAct plan commands (piece_noted plan until before s)
piece_noted_ready plan commands s until before l = (
  l.sound,
  record {
    empty = λ e. absurd (both_ways (is_before_requests s.progress.phase) (ap is_before_requests l.is_ready) e);
    finished = λ e. absurd
        (both_ways (says_done s.progress.phase) (ap says_done l.is_ready) e);
  },
)

-- a piece, which is heard or discarded as the phase says (`heard`), preserves `HoldsMidAct`, once it is noted what the piece
-- settled (`piece_noted`)
piece_noted_came : (plan : Plan) (commands : List Task) (s : Model) (until : Until) (before : ℕ) (heard : Bool) (word piece : List ℕ) → is_heard s.progress.phase ≡ heard
    → HoldsMidAct plan commands s → HoldsMidAct plan commands (piece_noted plan until before (after_piece heard word piece s))
piece_noted_came plan commands s until before true word piece is mid =
    piece_noted_ready plan commands (after_piece true word piece s) until before (listen_came plan commands s word piece (record { sound = mid.0; is_ready = heard_ready s.progress.phase is }))
piece_noted_came plan commands s until before false word piece is mid = (mid.0, record { empty = mid.1.empty; finished = mid.1.finished })

-- a piece preserves `HoldsMidAct`, whether it is heard or discarded
pub mid_piece : (plan : Plan) (commands : List Task) (s : Model) (until : Until) (piece : List ℕ) (m : Moment) → HoldsMidAct plan commands s → HoldsMidAct plan commands (piece_at plan until piece m s)
mid_piece plan commands s until piece m mid =
    piece_noted_came plan commands (with_moment m (with_progress (moment_noted m) s)) until (commands_in s.marks) (is_heard s.progress.phase) s.progress.exchange.word piece refl
    (mid_moment plan commands (with_progress (moment_noted m) s) m mid)

-- Nothing came.

-- the end of a pause, if it ends (`ends`), preserves `PhaseFits`
pause_fits : (ends : Bool) (phase : Phase) (left unsent : ℕ) (rest : List ℕ) (marks : List (Option Mark)) → phase ≡ Pausing
    → PhaseFits phase left unsent rest marks → PhaseFits (if ends then Down else phase) left unsent rest marks
pause_fits true phase left unsent rest marks is placed = record { empty = λ e. placed.empty (ap is_before_requests is); finished = λ e. cc }
pause_fits false phase left unsent rest marks is placed = placed

-- the end of a drain, if it ends (`ends`), preserves `HoldsMidActAt`
drained_mid : (plan : Plan) (commands : List Task) (s : Model) (p : Progress) (ends : Bool) → HoldsMidActAt plan commands s p → HoldsMidActAt plan commands s (if ends then drained p else p)
drained_mid plan commands s p true mid = (mid.0, record { empty = λ e. cc; finished = λ e. cc })
drained_mid plan commands s p false mid = mid

-- the end of a pause or a drain, if one ends, preserves `HoldsMidActAt`
quieted_mid : (plan : Plan) (commands : List Task) (s : Model) (phase : Phase) (p : Progress) → p.phase ≡ phase → HoldsMidActAt plan commands s p → HoldsMidActAt plan commands s (quieted plan phase p)
quieted_mid plan commands s Pausing p is mid = (mid.0, pause_fits (is_past p.exchange.pause p && not (is_idle plan p)) p.phase p.left p.unsent s.rest s.marks is mid.1)
quieted_mid plan commands s Draining p is mid = drained_mid plan commands s p (is_quiet plan p) mid
quieted_mid plan commands s phase p is mid = mid

-- a read that gave nothing preserves `HoldsMidAct`
pub mid_silent : (plan : Plan) (commands : List Task) (s : Model) (until : Until) (m : Moment) → HoldsMidAct plan commands s
    → HoldsMidAct plan commands (with_moment m (with_progress (silent plan until m) s))
mid_silent plan commands s until m mid = mid_moment plan commands (with_progress (silent plan until m) s) m (quieted_mid plan commands s s.progress.phase (time_passed until m s.progress) refl mid)

-- a read preserves `HoldsMidAct`, whatever came of it
pub mid_read : (plan : Plan) (commands : List Task) (until : Until) (s : Model) (act : Act) → HoldsMidAct plan commands s → HoldsMidAct plan commands (after_read plan until s act)
mid_read plan commands until s (Gave bytes m) mid = mid_piece plan commands s until bytes m mid
mid_read plan commands until s (Silent m) mid = mid_silent plan commands s until m mid
mid_read plan commands until s Ended mid = mid_fail plan commands s cause.End refl mid
mid_read plan commands until s Broke mid = mid_fail plan commands s cause.Read refl mid
mid_read plan commands until s act mid = mid_fail plan commands s cause.Clock refl mid
