-- How many commands ended how, this project's own: the counts are those of the last attempt of each chain. Commands of the setup
-- aren't counted.
use Rattle.gc_station.specs.Common.{End, Answered, Unreadable, Judged, Late, Skipped, NoValue, Missed, capped, one_more, none_judged, judged_one_more, judged_sum, is_good, Quality, Turn}
use Rattle.std.specs.Prelude.{ℕ, ◌+◌, List, [], ◌∷◌, if◌then◌else◌, nat_eq, nat_lt}
use Rattle.gc_texts.specs.Prelude.{Lost}
use Rattle.gc_station.specs.Records.{Record}
use Rattle.gc_station.specs.declared.tally.Counts.{Counts}
use Rattle.gc_station.specs.declared.tally.Tally.{Tally}

-- the tally in which no command is counted
abbrev pub empty_tally : Tally
empty_tally = record { answered = 0; refused = 0; late = 0; lost = 0; skipped = 0; unreadable = 0; missed = 0; judged = none_judged; retried = 0 }

-- the tally `t` after one more command that was answered, with this quality: a refusal counts as answered, and as refused besides
abbrev pub counted_answered : Quality → Tally → Tally
counted_answered quality t = record t { answered = one_more t.answered; refused = if is_good quality then t.refused else one_more t.refused }

-- the tally `t` after one more command, with this ending
abbrev pub counted : End → Tally → Tally
counted (Answered quality answer line) t = counted_answered quality t
counted Late t = record t { late = one_more t.late }
counted Lost t = record t { lost = one_more t.lost }
counted Skipped t = record t { skipped = one_more t.skipped }
counted NoValue t = record t { skipped = one_more t.skipped }
counted (Unreadable line fault) t = record t { unreadable = one_more t.unreadable }
counted (Judged judgement line) t = record t { judged = judged_one_more judgement t.judged }
counted Missed t = record t { missed = one_more t.missed }

-- the sum of the tallies `a` and `b`, count by count, each up to 2^64 - 1
abbrev pub sum : (a b : Tally) → Tally
sum a b = record {
  answered = capped (a.answered + b.answered);
  refused = capped (a.refused + b.refused);
  late = capped (a.late + b.late);
  lost = capped (a.lost + b.lost);
  skipped = capped (a.skipped + b.skipped);
  unreadable = capped (a.unreadable + b.unreadable);
  missed = capped (a.missed + b.missed);
  judged = judged_sum a.judged b.judged;
  retried = capped (a.retried + b.retried);
}

-- the counts in which no command is counted, of the chains that are over and of the current attempt
abbrev pub empty_counts : Counts
empty_counts = record { settled = empty_tally; attempt = empty_tally }

-- the counts `c` once an attempt begins, in this turn. If it is a further attempt, the counts of the attempt before are
-- discarded, and `retried` counts one more; otherwise they are added to those of the chains that are over
abbrev pub started : Turn → Counts → Counts
started turn c =
    if nat_lt 1 turn.attempt then record { settled = record c.settled { retried = one_more c.settled.retried }; attempt = empty_tally }
    else record { settled = sum c.settled c.attempt; attempt = empty_tally }

-- the counts `c` before a command with this turn is counted: an attempt begins (`started`) if the command is the first one of
-- it
abbrev pub turned_to : Turn → Counts → Counts
turned_to turn c = if nat_eq turn.link 0 then started turn c else c

-- the counts `c` after one more command of this cycle and turn, with this ending. A command of the setup, whose cycle is 0,
-- isn't counted
abbrev pub counted_in : (cycle : ℕ) → Turn → End → Counts → Counts
counted_in cycle turn end c = if nat_eq cycle 0 then c else (let d = turned_to turn c in record d { attempt = counted end d.attempt })

-- the counts `c` after the commands of these records, in order
abbrev pub tallied : Counts → List Record → Counts
tallied c [] = c
tallied c (r ∷ others) = tallied (counted_in r.cycle r.turn r.end c) others

-- the tally of all commands counted in `c`: of the chains that are over, and of the current attempt
abbrev pub total : Counts → Tally
total c = sum c.settled c.attempt

-- the tally of the commands of `records`
abbrev pub tally_of : List Record → Tally
tally_of records = total (tallied empty_counts records)
