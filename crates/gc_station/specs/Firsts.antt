-- The answers of a chain's first sending, with which those of its second are compared: this project's own.
use Rattle.gc_station.specs.Common.{Answer, End, Answered, is_compared, Twice, Form, Expected, Unconfirmed, Turn}
use Rattle.std.specs.Prelude.{ℕ, Bool, true, ◌-◌, ◌==◌, ◌&&◌, if◌then◌else◌, nat_lt, List, [], ◌∷◌, ◌++◌, take, Option, Some, None, slice_get, unwrap_or}
use Rattle.gc_station.specs.declared.firsts.FirstAnswer.{FirstAnswer}
use Rattle.gc_station.specs.declared.firsts.TheConstants.{FIRSTS}
use Rattle.gc_station.specs.declared.mark.Mark.{Mark}
use Rattle.gc_station.specs.Records.{Record}
use Rattle.gc_texts.specs.declared.agree.Twice.TheVariants as twice

-- the answer `first` of a first sending, if it is that of the same command of the text as `turn` is of, in this cycle and in the
-- attempt before
abbrev pub answer_of : (first : FirstAnswer) (cycle : ℕ) → Turn → Option (Option Answer)
answer_of first cycle turn =
    if (first.cycle == cycle) && ((first.turn.place == turn.place) && (turn.attempt - first.turn.attempt == 1)) then Some first.answer else None

-- the answer `found` of a first sending, if there is one, and it is that of the same command (`answer_of`)
abbrev pub answer_found : (found : Option FirstAnswer) (cycle : ℕ) → Turn → Option (Option Answer)
answer_found None cycle turn = None
answer_found (Some first) cycle turn = answer_of first cycle turn

-- the answer of the first sending with which that of a command with this turn in this cycle is compared: none, unless the command is of
-- a second sending. `firsts` are the answers that are kept
abbrev pub answer_first : (firsts : List (Option FirstAnswer)) (cycle : ℕ) → Turn → Twice → Option (Option Answer)
answer_first firsts cycle turn (twice.Second agree nth) = answer_found (unwrap_or (slice_get firsts nth) None) cycle turn
answer_first firsts cycle turn _ = None

-- the kept answers of a first sending with one more, in the place of its command in the chain: those from there on are discarded, and
-- one that comes after 32 commands isn't kept
abbrev pub put : FirstAnswer → List (Option FirstAnswer) → List (Option FirstAnswer)
put first firsts = if nat_lt first.turn.link FIRSTS then take first.turn.link firsts ++ Some first ∷ [] else firsts

-- the kept answers of a first sending once a command with this cycle, turn and ending was recorded: with its answer, if that is
-- unconfirmed
abbrev pub first_noted : (cycle : ℕ) → Turn → End → List (Option FirstAnswer) → List (Option FirstAnswer)
first_noted cycle turn (Answered Unconfirmed answer line) firsts = put (record { cycle = cycle; turn = turn; answer = answer }) firsts
first_noted cycle turn _ firsts = firsts

-- the kept answers of a first sending once these records were made
abbrev pub firsts_after : List (Option FirstAnswer) → List Record → List (Option FirstAnswer)
firsts_after firsts [] = firsts
firsts_after firsts (r ∷ others) = firsts_after (first_noted r.cycle r.turn r.end firsts) others

-- whether the answers of a command are compared in all that they have in columns: those of the table are, and those that are read by a form
-- if its columns are those of a measurement alone (`is_compared`)
abbrev pub compares : Option Form → Bool
compares None = true
compares (Some form) = is_compared form

-- the answer of the first sending with which that of a command of which this is expected is compared, in this cycle: none if its answers
-- aren't compared in all that they have in columns
abbrev pub first_for : (firsts : List (Option FirstAnswer)) (cycle : ℕ) → Expected → Option (Option Answer)
first_for firsts cycle expected = if compares expected.form then answer_first firsts cycle expected.turn expected.twice else None

-- `mark` of a command that is sent, with the answer of the first sending with which its own is compared
abbrev pub with_first : List (Option FirstAnswer) → Mark → Mark
with_first firsts mark = record mark { expected = record mark.expected { first = first_for firsts mark.cycle mark.expected } }
