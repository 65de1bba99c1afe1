-- The quality of an answer: this project's own.
use Rattle.std.specs.Prelude.{ℕ, Bool, true, false, List, codes}
use Rattle.gc_texts.specs.declared.quality.Quality.{Quality}
use Rattle.gc_texts.specs.declared.quality.Quality.TheVariants.{Fine, Warning, Unconfirmed, Refused}

-- whether a command with an answer of this quality was answered well, so that its chain may go on
abbrev pub is_good : Quality → Bool
is_good Fine = true
is_good Warning = true
is_good Unconfirmed = true
is_good Refused = false

-- whether an answer of this quality is good, and no other has yet to confirm it
abbrev pub is_confirmed : Quality → Bool
is_confirmed Fine = true
is_confirmed Warning = true
is_confirmed Unconfirmed = false
is_confirmed Refused = false

-- the word of a quality in rows and in lines of JSON
abbrev pub quality_word : Quality → List ℕ
quality_word Fine = codes "ok"
quality_word Warning = codes "warning"
quality_word Unconfirmed = codes "unconfirmed"
quality_word Refused = codes "refused"
