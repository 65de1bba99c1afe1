-- How the line of a command says what to ask for: this project's own.
use Rattle.std.specs.Prelude.{Bool, true, false}
use Rattle.gc_texts.specs.declared.wording.Wording.{Wording}
use Rattle.gc_texts.specs.declared.wording.Wording.TheVariants.{Now}

-- whether the clock is set to the moment at which the request is sent
abbrev pub sets_clock : Wording → Bool
sets_clock Now = true
sets_clock _ = false
