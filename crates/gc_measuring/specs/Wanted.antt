-- Since when a station wants an answer that doesn't come: this project's own. A want (`Wanted`) has the moment since which an
-- answer is wanted, if one is (`since`); whether an answer came since the last cycle ended, or since the start if none has
-- (`heard`); whether one has been wanted for so long that a message on that is due, or was written (`overdue`); and whether a
-- command that was sent since one is wanted had none in time (`lost`).
use Rattle.std.specs.Prelude.{◌≡◌, ℕ, ◌-◌, Bool, true, false, ◌&&◌, not, nat_lt, List, [], ◌∷◌, Option, None, Some, if◌then◌else◌}
use Rattle.gc_links.specs.declared.link.Moment.{Moment}
use Rattle.gc_station.specs.declared.book.LinkHealth.{LinkHealth}
use Rattle.gc_station.specs.declared.book.LinkHealth.TheVariants.{Fine, Idle, Unconnected, Unquiet, Unheard}
use Rattle.gc_measuring.specs.declared.wanted.Wanted.{Wanted}

-- the want after an answer: no answer is wanted, and the cycle has one
abbrev pub after_answer : Wanted
after_answer = record { since = None; heard = true; overdue = false; lost = false }

-- the want after a command that was sent and had no answer in time
abbrev pub after_loss : Wanted → Wanted
after_loss w = record w { lost = true }

-- the want after a command that wasn't sent for want of a value of a file: the station doesn't wait for the instrument then, so that
-- no answer is wanted, unless a command was sent since one is wanted and had no answer in time
abbrev pub after_unsent : Wanted → Wanted
after_unsent w = if w.lost then w else record w { since = None; overdue = false }

-- since when an answer is wanted, given that one is wanted at this moment: an earlier start stays, else it is this moment
abbrev pub wanted_from : Option Moment → Moment → Option Moment
wanted_from None moment = Some moment
wanted_from (Some since) moment = Some since

-- the want once a cycle has ended, because nothing of the cycle is left to be asked: if the cycle had an answer, and the want
-- isn't overdue, no answer is wanted any longer; else the moment since which one is wanted stays. The next cycle has had no
-- answer yet
abbrev pub after_cycle : Wanted → Wanted
after_cycle w = record {
  since = if w.heard && not w.overdue then None else w.since;
  heard = false;
  overdue = w.overdue;
  lost = if w.heard && not w.overdue then false else w.lost;
}

-- the want with an answer wanted from this moment on, unless one was wanted already
abbrev pub after_want : Moment → Wanted → Wanted
after_want moment w = record w { since = wanted_from w.since moment }

-- the want after a look at a station: an answer is wanted where a connection is wanted and there is none, while a new one isn't
-- quiet yet, and while a request has no reply. A station that is idle has ended a cycle, and one that is fine changes nothing
abbrev pub after_look : LinkHealth → Moment → Wanted → Wanted
after_look Fine moment w = w
after_look Idle moment w = after_cycle w
after_look Unconnected moment w = after_want moment w
after_look Unquiet moment w = after_want moment w
after_look Unheard moment w = after_want moment w

-- whether at least `least` milliseconds passed from `from` to `now`, both by the clock for deadlines
abbrev pub has_lasted : (from now least : ℕ) → Bool
has_lasted from now least = not (nat_lt (now - from) least)

-- the moment since which an answer is wanted, if that is at least `least` milliseconds before `now`, by the clock for deadlines
abbrev pub lasting : (now least : ℕ) → Option Moment → Option Moment
lasting now least None = None
lasting now least (Some since) = if has_lasted since.elapsed now least then Some since else None

-- a look at a station: the health of its link, and the moment
pub record Look : Type 0 where
  pub health : LinkHealth
  pub moment : Moment

-- the want after these looks, in order, if no command ends before the last of them
abbrev pub after_looks : List Look → Wanted → Wanted
after_looks [] w = w
after_looks (look ∷ later) w = after_looks later (after_look look.health look.moment w)

-- if the cycle has had no answer yet, and as long as no command ends, the moment since which an answer is wanted stays the same, whatever
-- becomes of connections and cycles meanwhile
abbrev pub WantCountsOverConnections : Type 0
WantCountsOverConnections =
    (looks : List Look) (since : Moment) (w : Wanted) → w.heard ≡ false → w.since ≡ Some since → (after_looks looks w).since ≡ Some since
