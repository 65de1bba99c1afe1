-- An exchange with an instrument over its connections, this project's own: when a request may be sent, when the line is dead, and what a
-- request, a line that comes and a moment change of that. Times are in milliseconds of one clock.
use Rattle.gc_session.specs.Common.{Asked, the_word, is_answered, left_by, Settlement, heard, WINDOW}
use Rattle.std.specs.Prelude.{ℕ, ◌+◌, ◌-◌, ◌&&◌, ◌||◌, Bool, true, false, not, if◌then◌else◌, nat_lt, nat_le, nat_eq, min, max, List, [], ◌∷◌, length}
use Rattle.gc_session.specs.declared.exchange.Exchange.{Exchange}
use Rattle.gc_session.specs.Lines.{ends_with_table, is_reply}
pub use Rattle.gc_catalogue.specs.Moments.{later}

-- an exchange in which nothing has happened
abbrev pub new_exchange : Exchange
new_exchange = record {
  word = the_word;
  again = 0;
  hold = 0;
  since = 0;
  alive = 0;
  asked = false;
  pause = 0;
  behind = WINDOW;
  last_ended = 1;
  doubtful = false;
}

-- When something may be done.

-- whether none is left of the ids of a synchronization's null procedures that aren't answered
abbrev pub is_none_left : List ℕ → Bool
is_none_left [] = true
is_none_left (asked ∷ others) = false

-- whether a synchronization is done: none of its null procedures is left unanswered
abbrev pub has_begun : Exchange → Bool
has_begun x = is_none_left x.word

-- whether at least `wait` milliseconds lie between `since`, from when a pause or a quiet time counts, and the moment `now`
abbrev pub is_past : (wait now : ℕ) → Exchange → Bool
is_past wait now x = nat_le wait (now - x.since)

-- the moment `wait` milliseconds after `since`, or the greatest `u64` if that is more. Where it isn't more, and `wait` isn't 0, `is_past` is
-- true exactly from then on (`WaitsEndAtTheirMoments`)
abbrev pub past_at : (wait : ℕ) → Exchange → ℕ
past_at wait x = later x.since wait

-- whether the line is silent at the moment `now`: a request was sent on it, and since then no reply line came (`asked`); a request is
-- outstanding (`all` are), or a null procedure of the synchronization has a deadline (`again`) other than 0; and `patience` has passed
-- since `alive`
abbrev pub is_silent : (patience now all : ℕ) → Exchange → Bool
is_silent patience now all x = x.asked && ((nat_lt 0 all || nat_lt 0 x.again) && nat_le patience (now - x.alive))

-- whether the line is dead: it is silent, and all outstanding requests have timed out (`current` haven't)
abbrev pub is_dead : (patience now all current : ℕ) → Exchange → Bool
is_dead patience now all current x = nat_eq current 0 && is_silent patience now all x

-- whether the null procedure of the first id that isn't answered may be sent: no busy answer has the client wait (`hold`), and the
-- deadline of the null procedure that was sent last has come
abbrev pub may_ask : (now : ℕ) → Exchange → Bool
may_ask now x = nat_eq x.hold 0 && nat_le x.again now

-- the later one of that deadline and of the hold. Once a moment was noted (`moment_passed`), which ends a hold that it reaches, `may_ask` is
-- true of it exactly if `asks_at` is no later (`WaitsEndAtTheirMoments`)
abbrev pub asks_at : Exchange → ℕ
asks_at x = max x.again x.hold

-- whether there is room for another request: fewer than `width` haven't timed out; all that are outstanding, and those that the last line
-- ended that ended any, are together fewer than the window has places; nothing called for a synchronization; and there is no hold
abbrev pub has_room : (width all current : ℕ) → Exchange → Bool
has_room width all current x = nat_lt current width && nat_lt (all + x.last_ended) WINDOW && not x.doubtful && nat_eq x.hold 0

-- whether one of the seven requests before the next one is a call of the table that a reply ended (`behind`)
abbrev pub is_near : Exchange → Bool
is_near x = nat_lt x.behind WINDOW

-- What happens.

-- what is left of a hold at the moment `now`: none (0) once it is reached
abbrev pub hold_left : (hold now : ℕ) → ℕ
hold_left hold now = if nat_lt now hold then hold else 0

-- once the moment `now` was read: a pause and the quiet time count from it. If the clock went back, so that the moment from which a dead
-- line counts (`alive`) lies after it, it becomes `now`. A hold that is reached is over
abbrev pub moment_read : (now : ℕ) → Exchange → Exchange
moment_read now x = record x { since = now; alive = min x.alive now; hold = hold_left x.hold now }

-- the same, but a pause and the quiet time go on. If the clock went back, so that their start (`since`) lies after `now`, it becomes `now`
abbrev pub moment_passed : (now : ℕ) → Exchange → Exchange
moment_passed now x = let y = moment_read now x in record y { since = min x.since now }

-- one more than `n`, but `n` itself if it is `WINDOW`, the number of requests that can be outstanding, or more
abbrev pub one_more_in_window : ℕ → ℕ
one_more_in_window n = if nat_lt n WINDOW then n + 1 else n

-- once a request was sent at the moment `now`. `behind` counts the requests that were sent after the last call of the table that a reply
-- ended, at most `WINDOW`; it is `WINDOW` if a reply ended none since the synchronization. If `asked` is false, this is the first request
-- since a reply line or a new connection, and the time after which the line is dead begins now (`alive`)
abbrev pub request_noted : (now : ℕ) → Exchange → Exchange
request_noted now x = record x {
  alive = if x.asked then x.alive else now;
  asked = true;
  behind = one_more_in_window x.behind;
}

-- once the null procedure of the first id that isn't answered was sent at the moment `now`: it is sent again `wait` milliseconds later
abbrev pub null_noted : (now wait : ℕ) → Exchange → Exchange
null_noted now wait x = let y = request_noted now x in record y { again = later now wait }

-- once a line was heard at the moment `now`. If it is a reply (`is_reply`), it shows that the other end is alive; any other line changes
-- nothing
abbrev pub line_noted : (now : ℕ) (is_reply : Bool) → Exchange → Exchange
line_noted now is_reply x = record x { alive = if is_reply then now else x.alive; asked = if is_reply then false else x.asked }

-- how many requests the last line ended that ended any, once a line came that ended `more`; `last` before it
abbrev pub ended_last : (more last : ℕ) → ℕ
ended_last more last = if nat_lt 0 more then more else last

-- once a line was heard at the moment `now` that is a reply or isn't, settled these requests, and after which `waiting` requests are
-- outstanding. If the last one that it settled, to which it is the reply, is a call of the table, the outstanding requests are those sent
-- after that call
abbrev pub heard_noted : (now : ℕ) (is_reply : Bool) (settlements : List (Settlement Asked)) (waiting : ℕ) → Exchange → Exchange
heard_noted now is_reply settlements waiting x = record (line_noted now is_reply x) {
  behind = if ends_with_table settlements then waiting else x.behind;
  last_ended = ended_last (length settlements) x.last_ended;
}

-- once something came that called for a synchronization, or not (`raised`): the exchange is in doubt until the next one
abbrev pub doubt_noted : (raised : Bool) → Exchange → Exchange
doubt_noted raised x = record x { doubtful = x.doubtful || raised }

-- once a line came in which busy answers call for a wait, of `wait` milliseconds at most from the moment `now` on, or none does (0): nothing
-- is asked until then (`hold`), and the exchange is in doubt until the next synchronization
abbrev pub hold_noted : (now wait : ℕ) → Exchange → Exchange
hold_noted now wait x = record x {
  doubtful = x.doubtful || nat_lt 0 wait;
  hold = if nat_lt 0 wait then max x.hold (later now wait) else x.hold;
}

-- after `line` was heard at the moment `now` during a synchronization: if the line's id is that of the first null procedure that is left,
-- that one is answered, and the next one, if there is one, is sent at once
abbrev pub line_synchronizing : (now : ℕ) → Exchange → List ℕ → Exchange
line_synchronizing now x line =
    let id = heard line in
    line_noted now (is_reply line) (record x { word = left_by x.word id; again = if is_answered x.word id then 0 else x.again })

-- once the line feed of a new connection was sent
abbrev pub cleared : Exchange → Exchange
cleared x = record x { again = 0; asked = false }

-- once the client synchronizes anew: no null procedure is answered. `behind` is `WINDOW`, since the client is new: nothing but null
-- procedures is sent before a reply has ended one of it. `asked`: whether the time after which the line is dead goes on
abbrev pub renewed : (asked : Bool) → Exchange → Exchange
renewed asked x = record x { word = the_word; again = 0; asked = asked; behind = WINDOW; last_ended = 1; doubtful = false }

-- once a new connection was quiet for long enough, at the moment `now`
abbrev pub drained : (now : ℕ) → Exchange → Exchange
drained now x = record x { alive = now; asked = false }

-- the pause `time`, in milliseconds, cut to a minute, and then raised to the quiet time
abbrev pub pause_within : (quiet time : ℕ) → ℕ
pause_within quiet time = max (min time 60000) quiet

-- before the next pause: it is twice as long as the last one, up to a minute, but never below the quiet time. So it is the quiet time if
-- the last pause counts as 0
abbrev pub pause_doubled : (quiet : ℕ) → Exchange → Exchange
pause_doubled quiet x = record x { pause = pause_within quiet (later x.pause x.pause) }
