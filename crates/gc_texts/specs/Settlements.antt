-- The lines of settlements, and what a sink took of them: this project's own.
use Rattle.gc_texts.specs.Common.{decimal, Appends, Call, Settlement, Outcome, Answered, Late, Lost}
use Rattle.std.specs.Prelude.{◌≡◌, ℕ, ◌+◌, ◌<◌, List, [], ◌∷◌, ◌++◌, length, take, Option, Result, Ok, Err, codes}
use Rattle.gc_texts.specs.declared.fault.RunFault.{RunFault}
use Rattle.gc_texts.specs.declared.fault.RunFault.TheVariants.{Output}

-- how a request ended, in words, and after `answered` the line of the reply
abbrev pub outcome_text : Outcome → List ℕ
outcome_text (Answered line) = codes " answered " ++ line
outcome_text Late = codes " late"
outcome_text Lost = codes " lost"

-- the line of a settlement: its place, its target, and how it ended
abbrev pub settlement_line : (place : ℕ) → Settlement Call → List ℕ
settlement_line place s = decimal place ++ codes " " ++ decimal s.target ++ outcome_text s.outcome ++ codes "\n"

-- the lines of settlements, numbered from this place on
abbrev pub settlement_lines_from : (place : ℕ) → List (Settlement Call) → List ℕ
settlement_lines_from place [] = []
settlement_lines_from place (s ∷ later) = settlement_line place s ++ settlement_lines_from (place + 1) later

-- the lines of settlements, numbered from place 0 on
abbrev pub settlement_lines : List (Settlement Call) → List ℕ
settlement_lines settlements = settlement_lines_from 0 settlements

-- a sink took a part of the lines of these settlements, which are numbered from `place` on: the whole lines of the earlier ones, and the
-- first `part` bytes, which aren't all, of the line of the next one. `old` and `new` are what it has taken before and after
pub record WrotePartOfSettlements (place : ℕ) (settled : List (Settlement Call)) (old new : Option (List ℕ)) : Type 0 where
  pub earlier : List (Settlement Call)
  pub next : Settlement Call
  pub later : List (Settlement Call)
  pub order : settled ≡ earlier ++ next ∷ later
  pub part : ℕ
  pub not_all : part < length (settlement_line (place + length earlier) next)
  pub took : Appends old new (settlement_lines_from place earlier ++ take part (settlement_line (place + length earlier) next))

-- the result of writing the lines of these settlements, numbered from `place` on, to a sink: `Ok` if the sink took all of them,
-- and `Output` if it took a part of them. `old` and `new` are what it has taken before and after
abbrev pub WroteSettlements : (place : ℕ) → List (Settlement Call) → (old new : Option (List ℕ)) → Result (Unit {0}) RunFault → Type 0
WroteSettlements place settled old new (Ok _) = Appends old new (settlement_lines_from place settled)
WroteSettlements place settled old new (Err Output) = WrotePartOfSettlements place settled old new
WroteSettlements place settled old new (Err _) = ⊥
