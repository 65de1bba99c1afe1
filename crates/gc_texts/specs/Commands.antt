-- A command text, and the commands that it gives: this project's own.
use Rattle.std.specs.Prelude.{◌≡◌, ℕ, List, ◌∷◌, ◌++◌}
use Rattle.gc_texts.specs.LineForms.{IsTextOf}
use Rattle.gc_texts.specs.Procedures.{IsProcedureText, IsTarget}
use Rattle.gc_texts.specs.declared.commands.Command.{Command}

-- `T RPC` or `T RPC PARAMS`: the target T, and after one space the procedure's number and its parameters
pub record IsCommand (line : List ℕ) (command : Command) : Type 0 where
  pub target_text : List ℕ
  pub procedure : List ℕ
  pub line_is : line ≡ target_text ++ 32 ∷ procedure
  pub target_is : IsTarget target_text command.target
  pub procedure_is : IsProcedureText procedure command.call

-- the text is a list of these commands: one for each line that isn't skipped
abbrev pub IsCommands : List ℕ → List Command → Type 0
IsCommands text commands = IsTextOf IsCommand text commands
