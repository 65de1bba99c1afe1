-- The command line of the program, as clap is to know it, and what its words ask for: this project's own.
use Rattle.gc_console.specs.Common.{Rule, Text, rehearse_rules, shape, station_rules}
use Rattle.std.specs.Prelude.{◌≡◌, ⊤, true, false, List, [], ◌∷◌, codes, map}
use Rattle.clap.specs.Simple.{App, Shape, app_of, new_shape, shape_of, subcommand_of}
use Rattle.clap.specs.declared.builder.command.Command.{Command}
use Rattle.clap.specs.declared.builder.command.Command.TheViews.{out-Command}
use Rattle.gc_console.specs.Jobs.{IsJobOf, name_of, subcommands}
use Rattle.gc_console.specs.declared.words.Job.{Job}
use Rattle.gc_console.specs.declared.words.Subcommand.{Subcommand}
use Rattle.gc_console.specs.Rules.{ask_rules, check_rules, drill_rules, exec_rules, loop_rules, serve_rules}
use Rattle.gc_console.specs.declared.words.Subcommand.TheVariants as subcommand

-- the arguments of a subcommand
abbrev pub rules_of : Subcommand → List Rule
rules_of subcommand.Exec = exec_rules
rules_of subcommand.Check = check_rules
rules_of subcommand.Drill = drill_rules
rules_of subcommand.Loop = loop_rules
rules_of subcommand.Serve = serve_rules
rules_of subcommand.Ask = ask_rules
rules_of subcommand.Station = station_rules
rules_of subcommand.Rehearse = rehearse_rules

-- a subcommand by its name and its arguments
abbrev pub shape_of_subcommand : Subcommand → Shape
shape_of_subcommand s = shape (name_of s) (rules_of s)

-- the program before it has subcommands: it has a version and no subcommand `help`, and wants a subcommand
abbrev pub bare_program : Shape
bare_program =
    record (new_shape (codes "geocom")) { has_version = true; subcommand_required = true; disable_help_subcommand = true }

-- a subcommand of clap's is this one, with its name and its arguments
pub record IsSubcommand (s : Subcommand) (command : Command) : Type 0 where
  pub shape : shape_of command ≡ shape_of_subcommand s
  pub local : (out-Command command).has_globals ≡ false

-- clap's subcommands are these, each with its name and its arguments, in their order
abbrev pub AreSubcommands : List Subcommand → List Command → Type 0
AreSubcommands [] [] = ⊤
AreSubcommands (s ∷ rest) (command ∷ commands) = IsSubcommand s command × AreSubcommands rest commands
AreSubcommands _ _ = ⊥

-- a command of clap's is the program without its subcommands
pub record IsBareProgram (command : Command) : Type 0 where
  pub app : app_of command ≡ record { top = bare_program; subs = [] }
  pub local : (out-Command command).has_globals ≡ false

-- the program with its subcommands, in the order of the help
abbrev pub program : App
program = record {
  top = record bare_program { is_leaf = false };
  subs = map shape_of_subcommand subcommands;
}

-- the words of the command line, the first of which is the program's name, ask for this job: the text that stands for each argument is
-- the one that the words give it, or else its default in `program`
abbrev pub IsJobOfWords : List Text → Job → Type 0
IsJobOfWords words job = IsJobOf (subcommand_of program words) job
