-- What holds in the midst of an act, before what is outstanding is lost: `HoldsMidAct`, which has the counts and the records, and
-- what the phase says. At the end of an act it gives the invariant of every run (`Invariant`).
use Rattle.gc_station.proofs.Common.{◌≡◌, ℕ, nat_lt, take, ◌+◌, ◌-◌, ◌%◌, ◌<◌, ◌≤◌, ◌⊎◌, inl, inr, ◌&&◌, ◌||◌, Bool, true, false, not, List, [], ◌∷◌, ◌++◌, length, drop, map, nat_eq, Option, Some, None, refl, sym, ap, ◌∙◌, subst, arith, append-nil, slice_get, AllByRecursion, nat_tests, length-map, length-drop, nil_from_length, both_ways, Asked, WINDOW, IDS, Pending, ById, Settlement, expires, expired, fresh, lost, pending_of, send_unless_full, sends, of_settled, of_pending, expired_parts, lost_parts, head_of_drop, Expected, call_at, End, Task, client_sent, Mark, Plan, Phase, Progress, has_begun, is_up, of_text, Interleave, RunRequest, requests, of_task, commands_reached, commands_in, occasion_of, records_of, record_with, is_over_in, is_over, loses_all, MarksAsk, MarkAsks, went_out, Record, IsFinished, IsOfItsTask, Model, losing, with_losses, cycle_length, Reads}
use Rattle.std.proofs.Common.{ltb-true, ltb-false, length-append}
use Rattle.std.proofs.Math.Nat.{mod-lt}
use Rattle.gc_station.proofs.Interleaving.{interleave_more, interleave_past}
use Rattle.gc_station.proofs.Each.{row_in_text_moment, row_in_text_settles, row_in_text_null, row_in_text_sent, row_in_text_skipped, reached_past, reached_next, reached_whole, reached_none, row_in_text_prepared, row}
use Rattle.gc_station.proofs.Invariant.{Invariant, is_before_requests, says_done}
use Rattle.gc_station.proofs.Lists.{all_append}
use Rattle.gc_station.proofs.Tasked.{marks_ask_more, marks_ask_settled, settled_tasked, unsent_tasked}

-- what a station has of its commands: `left` cycles haven't begun, and `unsent` commands of the present one haven't had their
-- turn; requests are outstanding at the client, with their marks; records were written, and commands left out (`passes`)
pub record Ledger : Type 0 where
  pub left : ℕ
  pub unsent : ℕ
  pub client : ById Asked
  pub marks : List (Option Mark)
  pub records : List Record
  pub passes : List RunRequest

-- the ledger of the model s, with the counts of the progress p
abbrev pub ledger_at : (s : Model) → (p : Progress) → Ledger
ledger_at s p = record { left = p.left; unsent = p.unsent; client = s.client; marks = s.marks; records = s.records; passes = s.passes }

-- the counts of the ledger b lie within the plan and the commands, and none is unsent before the first cycle. The records that
-- are of cycles, and after them the outstanding commands of cycles, with those that were left out between them, are the commands
-- that had their turn, in order. Each outstanding request has its mark, at most seven are outstanding, and the next id is below
-- 8. Each asks what its mark says, and each record is of its task
pub record Sound (plan : Plan) (commands : List Task) (b : Ledger) : Type 0 where
  pub unsents : b.unsent ≤ cycle_length plan commands
  pub lefts : b.left ≤ plan.cycles
  pub begun : 0 < b.unsent → b.left < plan.cycles
  pub paired : length b.marks ≡ length b.client.waiting
  pub window : length b.client.waiting ≤ WINDOW
  pub digit : b.client.next < IDS
  pub each : Interleave (of_text commands (row b.marks b.client.waiting b.records)) b.passes (commands_reached plan.setup commands (plan.cycles - b.left) (length commands - b.unsent))
  pub own : MarksAsk commands b.marks (map of_pending b.client.waiting)
  pub tasked : AllByRecursion (IsOfItsTask commands) b.records

-- no cycle and no command is left to be sent
abbrev pub NothingIsLeft : Progress → Type 0
NothingIsLeft p = (p.left ≡ 0) × (p.unsent ≡ 0)

-- before requests are sent (`is_before_requests`) no bytes are kept; in a phase that says that the run is done (`says_done`) no
-- cycle and no command is left to be sent, and no command is outstanding unless the run is over
pub record PhaseFits (phase : Phase) (left unsent : ℕ) (rest : List ℕ) (marks : List (Option Mark)) : Type 0 where
  pub empty : is_before_requests phase ≡ true → rest ≡ []
  pub finished : says_done phase ≡ true → (left ≡ 0) × (unsent ≡ 0) × ((is_over_in phase ≡ true) ⊎ (commands_in marks ≡ 0))

-- `PhaseFits` by the phase and the counts of this progress
abbrev pub PhaseFitsAt : Progress → List ℕ → List (Option Mark) → Type 0
PhaseFitsAt p rest marks = PhaseFits p.phase p.left p.unsent rest marks

-- what holds of a model in the midst of an act, with this progress in place of its own: `Sound` of its ledger, and `PhaseFits` of
-- its phase
abbrev pub HoldsMidActAt : Plan → List Task → Model → Progress → Type 0
HoldsMidActAt plan commands s p = Sound plan commands (ledger_at s p) × PhaseFitsAt p s.rest s.marks

-- `HoldsMidActAt` with the model's own progress
abbrev pub HoldsMidAct : Plan → List Task → Model → Type 0
HoldsMidAct plan commands s = HoldsMidActAt plan commands s s.progress

-- the invariant of every run gives `HoldsMidAct`
pub mid_act_of : (plan : Plan) (commands : List Task) (s : Model) → Invariant plan commands s → HoldsMidAct plan commands s
mid_act_of plan commands s fine = (
  record {
    unsents = fine.unsent;
    lefts = fine.left;
    begun = fine.begun;
    paired = fine.paired;
    window = fine.window;
    digit = fine.digit;
    each = fine.each;
    own = fine.own;
    tasked = fine.tasked;
  },
  record {
    empty = fine.rest;
    finished = λ e. let it = fine.finished e in (it.0, it.1, inr it.2);
  },
)

-- What holds of the counts and the records.

-- `Interleave` holds with a list xs' in place of an equal list xs
interleave_by_equal : (xs xs' ys zs : List RunRequest) → xs' ≡ xs → Interleave xs ys zs → Interleave xs' ys zs
interleave_by_equal xs xs' ys zs e h = subst (λ (l : List RunRequest). Interleave l ys zs) (sym e) h

-- to time out requests at the moment m preserves `Sound`
pub sound_moment : (plan : Plan) (commands : List Task) (b : Ledger) (m : ℕ) → Sound plan commands b → Sound plan commands (record b { client = expires b.client m })
sound_moment plan commands b m sound =
    let same : length (map (expired m) b.client.waiting) ≡ length b.client.waiting = length-map b.client.waiting (expired m) in
    record {
      unsents = sound.unsents;
      lefts = sound.lefts;
      begun = sound.begun;
      paired = sound.paired ∙ sym same;
      window = omega (arith, same, sound.window);
      digit = sound.digit;
      each = interleave_by_equal _ _ _ _ (row_in_text_moment commands b.marks b.client.waiting b.records (of_text commands (row b.marks b.client.waiting b.records)) m refl) sound.each;
      own = subst (MarksAsk commands b.marks) (sym (expired_parts m b.client.waiting)) sound.own;
      tasked = sound.tasked;
    }

-- `Sound` is preserved by settlements `ss` of the oldest requests, with their records, if the other requests wait at the client
-- `next`, whose next id is below 8
pub sound_settles : (reads : Reads) (plan : Plan) (commands : List Task) (b : Ledger) (next : ById Asked) (utc : ℕ) (ss : List (Settlement Asked))
    → map of_settled ss ++ map of_pending next.waiting ≡ map of_pending b.client.waiting → next.next < IDS → Sound plan commands b
    → Sound plan commands (record b { client = next; marks = drop (length ss) b.marks; records = b.records ++ records_of reads utc b.marks ss })
sound_settles reads plan commands b next utc ss parts low sound =
    let ended = map of_settled ss in
    let waits = map of_pending next.waiting in
    let ends : length ended ≡ length ss = length-map ss of_settled in
    let behind : length waits ≡ length next.waiting = length-map next.waiting of_pending in
    let count : length ended + length waits ≡ length b.client.waiting = sym (length-append ended waits) ∙ ap length parts ∙ length-map b.client.waiting of_pending in
    let fewer : length (drop (length ss) b.marks) ≡ length b.marks - length ss = length-drop (length ss) b.marks in
    let all : MarksAsk commands b.marks (ended ++ waits) = subst (MarksAsk commands b.marks) (sym parts) sound.own in
    record {
      unsents = sound.unsents;
      lefts = sound.lefts;
      begun = sound.begun;
      paired = omega (arith, ends, behind, count, fewer, sound.paired);
      window = omega (arith, ends, behind, count, sound.window);
      digit = low;
      each = interleave_by_equal _ _ _ _ (row_in_text_settles reads commands utc b.marks b.client.waiting next.waiting ss b.records
          (of_text commands (row b.marks b.client.waiting b.records)) parts refl) sound.each;
      own = marks_ask_settled commands b.marks ss waits all;
      tasked = all_append (IsOfItsTask commands) b.records _ sound.tasked (settled_tasked reads commands utc b.marks ss waits all);
    }

-- this client once a request with this target, call and deadline was sent, if the window has room: its next id is the one after
-- it (7 is followed by 0), and the request is added to those that wait
abbrev pub with_sent : ById Asked → (target : ℕ) → Asked → (deadline : ℕ) → ById Asked
with_sent client target call deadline = record { next = (client.next + 1) % IDS; waiting = client.waiting ++ pending_of target call deadline ∷ [] }

-- if there is room, a send makes of the client what `with_sent` says
pub sent_with_room : (client : ById Asked) (target : ℕ) (call : Asked) (deadline : ℕ) → length client.waiting < WINDOW
    → client_sent client (sends WINDOW client target call deadline) ≡ with_sent client target call deadline
sent_with_room client target call deadline room =
    ap (λ (b : Bool). client_sent client (send_unless_full client target call deadline b)) (room_left (length client.waiting) room) where
      -- a number below 7 isn't 7
      room_left : (n : ℕ) → n < 7 → nat_eq n 7 ≡ false
      room_left n room = grind (arith, nat_tests, room)

-- if there are as many marks as requests, there still are with one more mark and one more request at the end
paired_more : (marks : List (Option Mark)) (ws : List (Pending Asked)) (m : Option Mark) (p : Pending Asked) → length marks ≡ length ws → length (marks ++ m ∷ []) ≡ length (ws ++ p ∷ [])
paired_more marks ws m p paired = length-append marks (m ∷ []) ∙ ap (λ n. n + 1) paired ∙ sym (length-append ws (p ∷ []))

-- the ledger b once the client sent a request with this target, call and deadline, unless it refused it; the request has this
-- mark
abbrev pub with_request : (b : Ledger) → (target : ℕ) → Asked → (deadline : ℕ) → Option Mark → Ledger
with_request b target call deadline mark = record b { client = client_sent b.client (sends WINDOW b.client target call deadline); marks = b.marks ++ mark ∷ [] }

-- to send a null procedure for no target (`MarkAsks` without a mark), for which there is room, preserves `Sound`
pub sound_null : (plan : Plan) (commands : List Task) (b : Ledger) (target : ℕ) (call : Asked) (deadline : ℕ)
    → length b.client.waiting < WINDOW → MarkAsks commands None (record { target = target; call = call }) → Sound plan commands b
    → Sound plan commands (with_request b target call deadline None)
sound_null plan commands b target call deadline room is sound =
    let p = pending_of target call deadline in
    let more : length (b.client.waiting ++ p ∷ []) ≡ length b.client.waiting + 1 = length-append b.client.waiting (p ∷ []) in
    subst (λ (c : ById Asked). Sound plan commands (record b { client = c; marks = b.marks ++ None ∷ [] })) (sym (sent_with_room b.client target call deadline room)) (record {
      unsents = sound.unsents;
      lefts = sound.lefts;
      begun = sound.begun;
      paired = paired_more b.marks b.client.waiting None p sound.paired;
      window = omega (arith, more, room);
      digit = mod-lt (b.client.next + 1) (omega arith);
      each = interleave_by_equal _ _ _ _
          (row_in_text_null commands b.marks b.client.waiting p b.records (of_text commands (row b.marks b.client.waiting b.records)) sound.paired refl) sound.each;
      own = marks_ask_more commands b.marks b.client.waiting None p sound.own is;
      tasked = sound.tasked;
    })

-- the mark of the cycle's next command in the ledger b, at the moment `utc` and with this id
abbrev pub ledger_mark : Plan → List Task → (b : Ledger) → (utc id : ℕ) → Expected → Mark
ledger_mark plan commands b utc id expected = record { cycle = plan.cycles - b.left; place = length commands - b.unsent; sent = utc; id = id; expected = expected }

-- to send the cycle's next command, `task`, for which there is room, preserves `Sound`, with one command fewer unsent
pub sound_sent : (plan : Plan) (commands : List Task) (b : Ledger) (utc id deadline : ℕ) (expected : Expected) (task : Task) (others : List Task)
    → length b.client.waiting < WINDOW → 0 < b.unsent → drop (length commands - b.unsent) commands ≡ task ∷ others → Sound plan commands b
    → Sound plan commands (with_request (record b { unsent = b.unsent - 1 }) task.command.target (call_at task (occasion_of (ledger_mark plan commands b utc id expected))) deadline (Some (ledger_mark plan commands b utc id expected)))
sound_sent plan commands b utc id deadline expected task others room some at sound =
    let p = pending_of task.command.target (call_at task (occasion_of (ledger_mark plan commands b utc id expected))) deadline in
    let begun = plan.cycles - b.left in
    let place = length commands - b.unsent in
    let mark : Mark = record { cycle = begun; place = place; sent = utc; id = id; expected = expected } in
    let more : length (b.client.waiting ++ p ∷ []) ≡ length b.client.waiting + 1 = length-append b.client.waiting (p ∷ []) in
    let below = sound.begun some in
    let many : 0 < begun = omega (arith, below) in
    let place_is : length commands - (b.unsent - 1) ≡ place + 1 = omega (arith, some, sound.unsents) in
    let kept = of_text commands (row b.marks b.client.waiting b.records) in
    let within : plan.setup ≤ place = omega (arith, some, sound.unsents) in
    let one = requests begun place (of_task task ∷ []) in
    let each : Interleave (of_text commands (row (b.marks ++ Some mark ∷ []) (b.client.waiting ++ p ∷ []) b.records)) b.passes
    (commands_reached plan.setup commands begun (place + 1)) =
    subst (λ (xs : List RunRequest). Interleave (of_text commands (row (b.marks ++ Some mark ∷ []) (b.client.waiting ++ p ∷ []) b.records)) b.passes xs)
    (reached_next plan.setup commands begun place task others at within many)
    (interleave_by_equal _ _ _ _ (row_in_text_sent commands b.marks b.client.waiting b.records task others kept refl mark p sound.paired at refl many)
    (interleave_more kept b.passes (commands_reached plan.setup commands begun place) one sound.each)) in
    subst (λ (c : ById Asked). Sound plan commands (record b { unsent = b.unsent - 1; client = c; marks = b.marks ++ Some mark ∷ [] }))
    (sym (sent_with_room b.client task.command.target (call_at task (occasion_of (ledger_mark plan commands b utc id expected))) deadline room)) (record {
      unsents = omega (arith, sound.unsents);
      lefts = sound.lefts;
      begun = λ e. below;
      paired = paired_more b.marks b.client.waiting (Some mark) p sound.paired;
      window = omega (arith, more, room);
      digit = mod-lt (b.client.next + 1) (omega arith);
      each = subst (λ (n : ℕ). Interleave (of_text commands (row (b.marks ++ Some mark ∷ []) (b.client.waiting ++ p ∷ []) b.records)) b.passes
          (commands_reached plan.setup commands begun n)) (sym place_is) each;
      own = marks_ask_more commands b.marks b.client.waiting (Some mark) p sound.own (task, head_of_drop commands place task others at, refl);
      tasked = sound.tasked;
    })

-- to send `task`, a command of the setup for which there is room, with a mark of cycle 0 and of its place, preserves `Sound`
pub sound_prepared : (plan : Plan) (commands : List Task) (b : Ledger) (deadline : ℕ) (mark : Mark) (task : Task)
    → length b.client.waiting < WINDOW → mark.cycle ≡ 0 → slice_get commands mark.place ≡ Some task → Sound plan commands b
    → Sound plan commands (with_request b task.command.target (call_at task (occasion_of mark)) deadline (Some mark))
sound_prepared plan commands b deadline mark task room none at sound =
    let p = pending_of task.command.target (call_at task (occasion_of mark)) deadline in
    let more : length (b.client.waiting ++ p ∷ []) ≡ length b.client.waiting + 1 = length-append b.client.waiting (p ∷ []) in
    subst (λ (c : ById Asked). Sound plan commands (record b { client = c; marks = b.marks ++ Some mark ∷ [] }))
    (sym (sent_with_room b.client task.command.target (call_at task (occasion_of mark)) deadline room)) (record {
      unsents = sound.unsents;
      lefts = sound.lefts;
      begun = sound.begun;
      paired = paired_more b.marks b.client.waiting (Some mark) p sound.paired;
      window = omega (arith, more, room);
      digit = mod-lt (b.client.next + 1) (omega arith);
      each = interleave_by_equal _ _ _ _ (row_in_text_prepared commands mark b.marks b.client.waiting p b.records
          (of_text commands (row b.marks b.client.waiting b.records)) none sound.paired refl) sound.each;
      own = marks_ask_more commands b.marks b.client.waiting (Some mark) p sound.own (task, at, refl);
      tasked = sound.tasked;
    })

-- to record the cycle's next command, `task`, with an ending of one that isn't sent, while no command is outstanding, preserves
-- `Sound`, with one command fewer unsent
pub sound_skipped : (plan : Plan) (commands : List Task) (b : Ledger) (utc : ℕ) (end : End) (expected : Expected) (task : Task) (others : List Task)
    → (none : commands_in b.marks ≡ 0) → (some : 0 < b.unsent) → (there : drop (length commands - b.unsent) commands ≡ task ∷ others) → (out : went_out end ≡ false)
    → Sound plan commands b
    → Sound plan commands (record b { unsent = b.unsent - 1; records = b.records ++ record_with utc (ledger_mark plan commands b utc 0 expected) None task.command end ∷ [] })
sound_skipped plan commands b utc end expected task others none some at out sound =
    let begun = plan.cycles - b.left in
    let place = length commands - b.unsent in
    let mark = ledger_mark plan commands b utc 0 expected in
    let r : Record = record_with utc mark None task.command end in
    let below = sound.begun some in
    let many : 0 < begun = omega (arith, below) in
    let place_is : length commands - (b.unsent - 1) ≡ place + 1 = omega (arith, some, sound.unsents) in
    record {
      unsents = omega (arith, sound.unsents);
      lefts = sound.lefts;
      begun = λ e. below;
      paired = sound.paired;
      window = sound.window;
      digit = sound.digit;
      each =
          let kept = of_text commands (row b.marks b.client.waiting b.records) in
          let one = requests begun place (of_task task ∷ []) in
          subst (λ (xs : List RunRequest). Interleave (of_text commands (row b.marks b.client.waiting (b.records ++ r ∷ []))) b.passes xs)
          (reached_next plan.setup commands begun place task others at (omega (arith, some, sound.unsents)) many ∙ ap (λ (n : ℕ). commands_reached plan.setup commands begun n) (sym place_is))
          (interleave_by_equal _ _ _ _ (row_in_text_skipped commands b.marks b.client.waiting b.records task others kept refl begun place r none at refl many)
          (interleave_more kept b.passes (commands_reached plan.setup commands begun place) one sound.each));
      own = sound.own;
      tasked = all_append (IsOfItsTask commands) b.records _ sound.tasked (unsent_tasked commands utc mark end task (head_of_drop commands place task others at) out, tt);
    }

-- to leave out the next `count` commands of the cycle, or all that are unsent if they are fewer, preserves `Sound`, with as many
-- fewer unsent; at least one has to be unsent
pub sound_passed : (plan : Plan) (commands : List Task) (b : Ledger) (count : ℕ)
    → 0 < b.unsent → Sound plan commands b
    → Sound plan commands (record b {
      unsent = b.unsent - count;
      passes = b.passes ++ requests (plan.cycles - b.left) (length commands - b.unsent) (map of_task (take count (drop (length commands - b.unsent) commands)));
    })
sound_passed plan commands b count some sound =
    let begun = plan.cycles - b.left in
    let place = length commands - b.unsent in
    let below = sound.begun some in
    let many : 0 < begun = omega (arith, below) in
    let kept = of_text commands (row b.marks b.client.waiting b.records) in
    let past = requests begun place (map of_task (take count (drop place commands))) in
    record {
      unsents = omega (arith, sound.unsents);
      lefts = sound.lefts;
      begun = λ e. below;
      paired = sound.paired;
      window = sound.window;
      digit = sound.digit;
      each = subst (λ (xs : List RunRequest). Interleave kept (b.passes ++ past) xs)
          (reached_past plan.setup commands begun place count (length commands - (b.unsent - count)) (omega (arith, some, sound.unsents)) (omega (arith, sound.unsents)) many
          (by_count (nat_lt b.unsent count) refl)) (interleave_past kept b.passes (commands_reached plan.setup commands begun place) past sound.each);
      own = sound.own;
      tasked = sound.tasked;
    } where
      -- the new place is `count` places further on, or at the end if fewer commands are unsent
      by_count : (fewer : Bool) → nat_lt b.unsent count ≡ fewer → (length commands - (b.unsent - count) ≡ (length commands - b.unsent) + count)
          ⊎ ((length commands - (b.unsent - count) ≡ length commands) × (length commands ≤ (length commands - b.unsent) + count))
      by_count true e = let more = ltb-true b.unsent count e in inr (omega (arith, more), omega (arith, more, sound.unsents))
      by_count false e = let few = ltb-false b.unsent count e in inl (omega (arith, few, sound.unsents))

-- the beginning of a cycle preserves `Sound`, with one cycle fewer left and all commands of the new one unsent, if a cycle is
-- left and no command of the one before is unsent
pub sound_begun : (plan : Plan) (commands : List Task) (b : Ledger)
    → b.unsent ≡ 0 → 0 < b.left → Sound plan commands b → Sound plan commands (record b { left = b.left - 1; unsent = cycle_length plan commands })
sound_begun plan commands b none some sound =
    let lefts = sound.lefts in
    record {
      unsents = omega arith;
      lefts = omega (arith, lefts);
      begun = λ e. omega (arith, some, lefts);
      paired = sound.paired;
      window = sound.window;
      digit = sound.digit;
      each = subst (λ (xs : List RunRequest). Interleave (of_text commands (row b.marks b.client.waiting b.records)) b.passes xs)
          (reached_whole plan.setup commands (plan.cycles - b.left) (length commands - b.unsent) (omega (arith, none))
          ∙ sym (reached_none plan.setup commands (plan.cycles - b.left) (plan.cycles - (b.left - 1)) (length commands - (cycle_length plan commands))
          (omega (arith, some, lefts)) (omega arith))) sound.each;
      own = sound.own;
      tasked = sound.tasked;
    }

-- The end of what is outstanding.

-- if not all outstanding requests are to be lost (`loses_all`), the station has synchronized (a), and the run isn't over (o)
pub none_lost_parts : (a o : Bool) → (not a || o) ≡ false → (a ≡ true) × (o ≡ false)
none_lost_parts true o e = (refl, e)
none_lost_parts false o e = cc

-- if the counts are those of a run that is done, as `PhaseFits` has them, and the run isn't over, no command is outstanding
still_finished : (p : Progress) (marks : List (Option Mark)) → is_over p ≡ false
    → (p.left ≡ 0) × (p.unsent ≡ 0) × ((is_over_in p.phase ≡ true) ⊎ (commands_in marks ≡ 0)) → IsFinished (commands_in marks) p
still_finished p marks not_over (left, unsent, inl over) = absurd (both_ways (is_over p) not_over (ap (λ b. b || (not (is_up p.phase) && nat_eq p.turns 0)) over))
still_finished p marks not_over (left, unsent, inr none) = (left, unsent, none)

-- once all that is outstanding is lost where `loses_all` says so, `HoldsMidAct` gives the invariant of every run
invariant_losing : (plan : Plan) (commands : List Task) (s : Model) (all : Bool) → loses_all s.progress ≡ all → HoldsMidAct plan commands s → Invariant plan commands (losing all s)
invariant_losing plan commands s true is (sound, placed) =
    let p = s.progress in
    let ss = map lost s.client.waiting in
    let x = sound_settles s.reads plan commands (ledger_at s p) fresh p.moment.utc ss
    (append-nil (map of_settled ss) ∙ lost_parts s.client.waiting) (omega arith) sound in
    let nothing : drop (length ss) s.marks ≡ [] = nil_from_length (drop (length ss) s.marks) x.paired in
    record {
      unsent = x.unsents;
      left = x.lefts;
      begun = x.begun;
      paired = x.paired;
      window = x.window;
      digit = x.digit;
      begins = λ e. refl;
      rest = placed.empty;
      over = λ e. refl;
      finished = λ e. let it = placed.finished e in (it.0, it.1, ap commands_in nothing);
      each = x.each;
      own = x.own;
      tasked = x.tasked;
    }
invariant_losing plan commands s false is (sound, placed) =
    let p = s.progress in
    let kept = none_lost_parts (has_begun p) (is_over p) is in
    record {
      unsent = sound.unsents;
      left = sound.lefts;
      begun = sound.begun;
      paired = sound.paired;
      window = sound.window;
      digit = sound.digit;
      begins = λ e. absurd (both_ways (has_begun p) e kept.0);
      rest = placed.empty;
      over = λ e. absurd (both_ways (is_over p) kept.1 e);
      finished = λ e. still_finished p s.marks kept.1 (placed.finished e);
      each = sound.each;
      own = sound.own;
      tasked = sound.tasked;
    }

-- `HoldsMidAct` gives the invariant of every run after the whole act
pub invariant_with_losses : (plan : Plan) (commands : List Task) (s : Model) → HoldsMidAct plan commands s → Invariant plan commands (with_losses s)
invariant_with_losses plan commands s mid = invariant_losing plan commands s (loses_all s.progress) refl mid
