-- What the rows of a table of arguments say to clap: this project's own.
use Rattle.std.specs.Prelude.{◌≡◌, ⊤, ◌&&◌, true, false, List, [], ◌∷◌, length, Some}
use Rattle.clap.specs.Simple.{App, app_of, new_rule}
use Rattle.clap.specs.Walk.{Rule, Text, is_empty, rule_of, texts}
use Rattle.clap.specs.declared.builder.action.ArgAction.{ArgAction}
use Rattle.clap.specs.declared.builder.action.ArgAction.TheVariants.{Set, SetTrue}
use Rattle.clap.specs.declared.builder.arg.Arg.{Arg}
use Rattle.clap.specs.declared.builder.command.Command.{Command}
use Rattle.clap.specs.declared.builder.command.Command.TheViews.{out-Command}
use Rattle.clap.specs.declared.builder.value_parser.ValueParser.{ValueParser}
use Rattle.gc_options.specs.Options.{shape}
use Rattle.gc_options.specs.declared.arguments.Argument.{Argument}
use Rattle.gc_options.specs.declared.arguments.Takes.{Takes}
use Rattle.clap.specs.declared.builder.value_parser.ValueParser.TheVariants as parser
use Rattle.gc_options.specs.declared.arguments.Takes.TheVariants as kind

-- how clap takes an option: as a flag, or with a value
abbrev pub action_for : Takes → ArgAction
action_for kind.Nothing = SetTrue
action_for _ = Set

-- what the value of an option may be
abbrev pub parser_for : Takes → ValueParser
parser_for kind.Positional = parser.String
parser_for kind.Nothing = parser.Bool
parser_for kind.Text = parser.String
parser_for (kind.Signed least most) = parser.Signed least most
parser_for (kind.Unsigned least most) = parser.Unsigned least most

-- the rule of a row for an argument without a name before it
abbrev pub positional_rule : Argument → Rule
positional_rule row = record (new_rule row.name.now) { value_names = length row.value_name.now; required = true }

-- the rule of a row for an option
abbrev pub option_rule : Argument → Rule
option_rule row = record (new_rule row.name.now) {
  long = Some row.name.now;
  action = Some (action_for row.takes);
  parser = Some (parser_for row.takes);
  value_names = length row.value_name.now;
  defaults = texts row.default.now;
  is_free = is_empty row.excludes.now && is_empty row.needs.now;
}

-- the rule of a row, by what its argument takes
abbrev pub rule_by : Takes → Argument → Rule
rule_by kind.Positional row = positional_rule row
rule_by _ row = option_rule row

-- the rule of a row
abbrev pub rule_of_row : Argument → Rule
rule_of_row row = rule_by row.takes row

-- an argument has this rule, and holds for its own command alone
pub record HasRule (rule : Rule) (arg : Arg) : Type 0 where
  pub rule_is : rule_of arg ≡ rule
  pub local : arg.global ≡ false

-- arguments have these rules, each its own, in their order
abbrev pub HaveRules : List Rule → List Arg → Type 0
HaveRules [] [] = ⊤
HaveRules (rule ∷ rules) (arg ∷ args) = HasRule rule arg × HaveRules rules args
HaveRules _ _ = ⊥

-- a command of this name with arguments of these rules, and no subcommand
abbrev pub alone : Text → List Rule → App
alone name rules = record { top = shape name rules; subs = [] }

-- a command has this name and arguments with these rules, and no subcommand
pub record HasArguments (name : Text) (rules : List Rule) (command : Command) : Type 0 where
  pub app : app_of command ≡ alone name rules
  pub local : (out-Command command).has_globals ≡ false
