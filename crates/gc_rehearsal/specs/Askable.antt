-- Commands of which each asks what is allowed, this project's own.
use Rattle.std.specs.Prelude.{List}
use Rattle.std.specs.List.{AllByRecursion}
use Rattle.gc_catalogue.specs.Prelude.{IsAskedFitting}
use Rattle.gc_texts.specs.Prelude.{call_at}
use Rattle.gc_texts.specs.declared.tasks.Task.{Task}
use Rattle.gc_texts.specs.declared.occasion.Occasion.{Occasion}

-- what a command asks is allowed, whenever it is sent: a call's numbers lie in their types, and a procedure that isn't in the
-- table may be asked with its parameters (`IsAskedFitting`)
abbrev pub IsAskable : Task → Type 0
IsAskable task = (occasion : Occasion) → IsAskedFitting (call_at task occasion)

-- each of these commands is `IsAskable`
abbrev pub AreAskable : List Task → Type 0
AreAskable commands = AllByRecursion IsAskable commands
