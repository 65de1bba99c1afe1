-- After which endings of its commands a chain is repeated: this project's own.
use Rattle.std.specs.Prelude.{ℕ, Bool, false, Option, Some, None}
use Rattle.gc_texts.specs.Codes.{no_codes, lists_code}
use Rattle.gc_texts.specs.Endings.{End, Answered, Unreadable, Judged, Late, Lost, Skipped, NoValue, Missed}
use Rattle.gc_texts.specs.Judgements.{has_judgement, no_judgement}
use Rattle.gc_texts.specs.declared.again.Again.{Again}
use Rattle.gc_texts.specs.declared.codes.Codes.{Codes}

-- the rule with no return code and no outcome: a chain with it isn't repeated
abbrev pub no_again : Again
no_again = record { codes = no_codes; unreadable = false; judged = no_judgement; late = false; lost = false; skipped = false }

-- whether `code`, the return code of a reply, is one of `listed`. `None` never is: it stands for return code 0, and for a reply
-- whose communication code isn't 0
abbrev pub has_code : (listed : Codes) → (code : Option ℕ) → Bool
has_code listed None = false
has_code listed (Some code) = lists_code listed code

-- whether a chain with the rule `again` is repeated after this ending of one of its commands. An answered command decides by `code`, the
-- return code of its reply (`has_code`); any other ending decides by its outcome alone, and a missed cycle never repeats a chain
abbrev pub repeats_after : Again → (code : Option ℕ) → End → Bool
repeats_after again code (Answered quality answer line) = has_code again.codes code
repeats_after again code (Unreadable line fault) = again.unreadable
repeats_after again code (Judged judgement line) = has_judgement again.judged judgement
repeats_after again code Late = again.late
repeats_after again code Lost = again.lost
repeats_after again code Skipped = again.skipped
repeats_after again code NoValue = again.skipped
repeats_after again code Missed = false
