-- Why a text has no rules: this project's own.
use Rattle.std.specs.Prelude.{ℕ, ◌<◌, ◌≤◌, List, length}
use Rattle.gc_texts.specs.declared.text.TheConstants.{TEXT_LIMIT}
use Rattle.gc_rehearsal.specs.Rules.{IsFirstFaultyRule}
use Rattle.gc_rehearsal.specs.declared.reading.Refusal.{Refusal}
use Rattle.gc_rehearsal.specs.declared.reading.Refusal.TheVariants.{TooLong, Line}

-- why a text has no rules: it is too long; or it isn't, and this line is its first faulty one
abbrev pub RefusesRules : List ℕ → Refusal → Type 0
RefusesRules text TooLong = TEXT_LIMIT < length text
RefusesRules text (Line n fault) = (length text ≤ TEXT_LIMIT) × IsFirstFaultyRule text n fault
