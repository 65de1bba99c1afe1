-- A tally counts the records of the last attempts: this project's own.
use Rattle.gc_station.specs.Common.{is_good, End, Answered, Unreadable, Judged, Late, Skipped, NoValue, Missed, capped, is_same, judged_count, Judgement}
use Rattle.std.specs.Prelude.{◌≡◌, ℕ, suc, Bool, true, false, List, [], ◌∷◌, if◌then◌else◌, ◌||◌, ◌&&◌, not, nat_eq, nat_lt}
use Rattle.gc_texts.specs.Prelude.{Lost}
use Rattle.gc_station.specs.Records.{Record}
use Rattle.gc_station.specs.Tallies.{tally_of}
use Rattle.gc_station.specs.declared.tally.Tally.{Tally}

-- how many of these records have an ending for which `holds` is true
abbrev pub how_many : (End → Bool) → List Record → ℕ
how_many holds [] = 0
how_many holds (r ∷ others) = if holds r.end then suc (how_many holds others) else how_many holds others

-- whether an ending is `Answered`
abbrev pub ended_answered : End → Bool
ended_answered (Answered quality answer line) = true
ended_answered _ = false

-- whether an ending is `Answered`, and the answer a refusal: its quality isn't a good one
abbrev pub ended_refused : End → Bool
ended_refused (Answered quality answer line) = not (is_good quality)
ended_refused _ = false

-- whether an ending is `Unreadable`
abbrev pub ended_unreadable : End → Bool
ended_unreadable (Unreadable line fault) = true
ended_unreadable _ = false

-- whether an ending is `Judged`, by this judgement
abbrev pub ended_judged : Judgement → End → Bool
ended_judged judgement (Judged own line) = is_same judgement own
ended_judged judgement _ = false

-- whether an ending is `Late`
abbrev pub ended_late : End → Bool
ended_late Late = true
ended_late _ = false

-- whether an ending is `Lost`
abbrev pub ended_lost : End → Bool
ended_lost Lost = true
ended_lost _ = false

-- whether an ending is `Skipped`, or `NoValue`, which counts as one
abbrev pub ended_skipped : End → Bool
ended_skipped Skipped = true
ended_skipped NoValue = true
ended_skipped _ = false

-- whether an ending is `Missed`
abbrev pub ended_missed : End → Bool
ended_missed Missed = true
ended_missed _ = false

-- whether the attempt before these records is followed by a further one of its chain: the next command among them that begins
-- an attempt (its link is 0) has an attempt above 1. Records of cycle 0, which are of the setup, are passed over, as they
-- belong to no chain
abbrev pub is_followed : List Record → Bool
is_followed [] = false
is_followed (r ∷ others) = if nat_eq r.cycle 0 || not (nat_eq r.turn.link 0) then is_followed others else nat_lt 1 r.turn.attempt

-- those of these records that are of a cycle, and whose attempt is the last one of its chain
abbrev pub last_attempts : List Record → List Record
last_attempts [] = []
last_attempts (r ∷ others) = if nat_eq r.cycle 0 || is_followed others then last_attempts others else r ∷ last_attempts others

-- how many further attempts of chains begin among these records
abbrev pub further_attempts : List Record → ℕ
further_attempts [] = 0
further_attempts (r ∷ others) =
    if not (nat_eq r.cycle 0) && nat_eq r.turn.link 0 && nat_lt 1 r.turn.attempt then suc (further_attempts others) else further_attempts others

-- `count`, of the tally of any records, is how many of those of last attempts have an ending for which `holds` is true, up to
-- 2^64 - 1
abbrev pub CountsEndings : (count : Tally → ℕ) (holds : End → Bool) → Type 0
CountsEndings count holds = (records : List Record) → count (tally_of records) ≡ capped (how_many holds (last_attempts records))

-- each count of a tally counts the records of last attempts with its ending; `retried` is how many times a chain was sent again
pub record TalliesCountRecords : Type 0 where
  pub answered : CountsEndings (λ t. t.answered) ended_answered
  pub refused : CountsEndings (λ t. t.refused) ended_refused
  pub unreadable : CountsEndings (λ t. t.unreadable) ended_unreadable
  pub late : CountsEndings (λ t. t.late) ended_late
  pub lost : CountsEndings (λ t. t.lost) ended_lost
  pub skipped : CountsEndings (λ t. t.skipped) ended_skipped
  pub missed : CountsEndings (λ t. t.missed) ended_missed
  pub judged : (judgement : Judgement) → CountsEndings (λ t. judged_count judgement t.judged) (ended_judged judgement)
  pub retried : (records : List Record) → (tally_of records).retried ≡ capped (further_attempts records)
