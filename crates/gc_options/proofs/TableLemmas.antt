-- The arguments that are made of the rows of a table.
use Rattle.gc_options.proofs.Common.{◌≡◌, ◌∙◌, ℕ, ◌+◌, ◌<◌, ◌++◌, false, List, [], ◌∷◌, Option, length, take, get_or, map, refl, sym, subst, ap, append_assoc, append-nil, Bor, Rule, Text, rule_of, HasArguments, HasRule, HaveRules, alone, rule_of_row}
use Rattle.std.proofs.lemmas.List.{take_more, map-append}
use Rattle.clap.specs.Built.{AddsArg, AddsInTurn}
use Rattle.clap.specs.Simple.{app_of, app_of_fields, new_app, with_rule}
use Rattle.clap.specs.declared.builder.arg.Arg.{Arg}
use Rattle.clap.specs.declared.builder.command.Command.{Command}
use Rattle.clap.specs.declared.builder.command.Command.TheViews.{out-Command}
use Rattle.gc_options.specs.declared.arguments.Argument.{Argument}

-- one more argument with its rule
pub have_more : (rules : List Rule) (args : List Arg) (rule : Rule) (arg : Arg) → HaveRules rules args → HasRule rule arg
    → HaveRules (rules ++ rule ∷ []) (args ++ arg ∷ [])
have_more [] [] rule arg have has = (has, tt)
have_more (r ∷ rules) (a ∷ args) rule arg have has = (have.0, have_more rules args rule arg have.1 has)
have_more [] (a ∷ args) rule arg have has = absurd have
have_more (r ∷ rules) [] rule arg have has = absurd have

-- the arguments of one more row
pub have_next : (rows : List Argument) (i : ℕ) (d : Argument) → i < length rows → (args : List Arg) (arg : Arg)
    → HaveRules (map rule_of_row (take i rows)) args → HasRule (rule_of_row (get_or rows i d)) arg → (new : List Arg) → new ≡ args ++ arg ∷ []
    → HaveRules (map rule_of_row (take (i + 1) rows)) new
have_next rows i d lt args arg have has new is =
    let one : map rule_of_row (take (i + 1) rows) ≡ map rule_of_row (take i rows) ++ rule_of_row (get_or rows i d) ∷ [] =
    ap (map rule_of_row) (take_more rows i d lt) ∙ map-append rule_of_row (take i rows) (get_or rows i d ∷ []) in
    subst (λ rules. HaveRules rules new) (sym one)
    (subst (λ all. HaveRules (map rule_of_row (take i rows) ++ rule_of_row (get_or rows i d) ∷ []) all) (sym is) (have_more _ args _ arg have has))

-- a command with a name and help, and without arguments
pub bare : (name : Text) (new told ended : Command) (about after_help : Option (Bor Text)) → app_of new ≡ new_app name
    → (out-Command new).has_globals ≡ false → out-Command told ≡ record (out-Command new) { about = about }
    → out-Command ended ≡ record (out-Command told) { after_help = after_help } → HasArguments name [] ended
bare name new told ended about after_help app local first second = record {
  app = ap app_of_fields second ∙ (ap app_of_fields first ∙ app);
  local = ap (λ fields. fields.has_globals) second ∙ (ap (λ fields. fields.has_globals) first ∙ local);
}

-- a command with one more argument
one_added : (name : Text) (before : List Rule) (rule : Rule) (arg : Arg) (old new : Command) → HasRule rule arg → AddsArg old arg new
    → HasArguments name before old → HasArguments name (before ++ rule ∷ []) new
one_added name before rule arg old new has adds is = record {
  app = adds.shape has.local ∙ (ap (λ app. with_rule app (rule_of arg)) is.app ∙ ap (λ r. with_rule (alone name before) r) has.rule_is);
  local = adds.globals ∙ rw (is.local, has.local) refl;
}

-- a command with further arguments has their rules behind its own
pub all_added : (name : Text) (before rules : List Rule) (args : List Arg) (old new : Command) → HaveRules rules args
    → AddsInTurn AddsArg old args new → HasArguments name before old → HasArguments name (before ++ rules) new
all_added name before [] [] old new have adds is =
    subst (λ command. HasArguments name (before ++ []) command) adds (subst (λ rules. HasArguments name rules old) (sym (append-nil before)) is)
all_added name before (rule ∷ rules) (arg ∷ args) old new have adds is =
    subst (λ all. HasArguments name all new) (append_assoc before (rule ∷ []) rules)
    (all_added name (before ++ rule ∷ []) rules args adds.0 new have.1 adds.2 (one_added name before rule arg old adds.0 have.0 adds.1 is))
all_added name before [] (arg ∷ args) old new have adds is = absurd have
all_added name before (rule ∷ rules) [] old new have adds is = absurd have
