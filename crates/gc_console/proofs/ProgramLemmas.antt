-- The program that clap is told, and the job that words ask it for.
use Rattle.gc_console.proofs.Common.{◌≡◌, ◌∙◌, ℕ, ◌+◌, ◌<◌, ◌++◌, Bool, true, false, List, [], ◌∷◌, Option, Some, None, length, take, get_or, map, find, refl, sym, subst, ap, ⊤, Box, is_some, option_and_then, box_value, found_of, has_subcommand, App, HasMatchesOf, Shape, app_of, argument_words, built, is_simple, label_of, names_of, rows_at, shape_of, subcommand_of, subcommand_rows, subcommand_rows_of, with_subcommand, Text, answers_to, rows_of, stop_after, out-ArgMatches, out-SubCommand, SubCommand, AsksSubcommand, IsJobOf, name_of, subcommands, AreSubcommands, IsBareProgram, IsSubcommand, bare_program, program, shape_of_subcommand, Job, Subcommand, Words}
use Rattle.std.proofs.lemmas.List.{take_more}
use Rattle.std.specs.Prelude.{option_map}
use Rattle.clap.specs.Built.{AddsInTurn, AddsSubcommand, IsParsedFrom}
use Rattle.clap.specs.declared.builder.command.Command.{Command}
use Rattle.clap.specs.declared.builder.command.Command.TheViews.{out-Command}
use Rattle.clap.specs.declared.parser.matches.ArgMatches.{ArgMatches}
use Rattle.gc_console.specs.declared.words.Subcommand.TheVariants as subcommand

-- one more subcommand
are_more : (ss : List Subcommand) (commands : List Command) (s : Subcommand) (command : Command) → AreSubcommands ss commands → IsSubcommand s command
    → AreSubcommands (ss ++ s ∷ []) (commands ++ command ∷ [])
are_more [] [] s command are is = (is, tt)
are_more (t ∷ ss) (c ∷ commands) s command are is = (are.0, are_more ss commands s command are.1 is)
are_more [] (c ∷ commands) s command are is = absurd are
are_more (t ∷ ss) [] s command are is = absurd are

-- the next subcommand
pub are_next : (ss : List Subcommand) (i : ℕ) (d : Subcommand) → i < length ss → (commands : List Command) (command : Command)
    → AreSubcommands (take i ss) commands → IsSubcommand (get_or ss i d) command → (new : List Command) → new ≡ commands ++ command ∷ []
    → AreSubcommands (take (i + 1) ss) new
are_next ss i d lt commands command are is new new_is =
    subst (λ front. AreSubcommands front new) (sym (take_more ss i d lt))
    (subst (λ all. AreSubcommands (take i ss ++ get_or ss i d ∷ []) all) (sym new_is) (are_more (take i ss) commands _ command are is))

-- an app with these subcommands behind its own
abbrev with_all : App → List Shape → App
with_all app [] = app
with_all app (shape ∷ shapes) = with_all (with_subcommand app shape) shapes

-- a command that has this app, and no global argument
pub record IsApp (app : App) (command : Command) : Type 0 where
  pub is : app_of command ≡ app
  local : (out-Command command).has_globals ≡ false

-- a command with one more subcommand
one_more : (app : App) (s : Subcommand) (sub old new : Command) → IsSubcommand s sub → AddsSubcommand old sub new → IsApp app old
    → IsApp (with_subcommand app (shape_of_subcommand s)) new
one_more app s sub old new sub_is adds is = record {
  is = adds.shape sub_is.local ∙ (ap (λ a. with_subcommand a (shape_of sub)) is.is ∙ ap (λ shape. with_subcommand app shape) sub_is.shape);
  local = adds.globals ∙ rw (is.local, sub_is.local) refl;
}

-- a command with further subcommands
all_more : (app : App) (ss : List Subcommand) (commands : List Command) (old new : Command) → AreSubcommands ss commands
    → AddsInTurn AddsSubcommand old commands new → IsApp app old → IsApp (with_all app (map shape_of_subcommand ss)) new
all_more app [] [] old new are adds is = subst (λ command. IsApp app command) adds is
all_more app (s ∷ ss) (command ∷ commands) old new are adds is =
    all_more (with_subcommand app (shape_of_subcommand s)) ss commands adds.0 new are.1 adds.2 (one_more app s command old adds.0 are.0 adds.1 is)
all_more app [] (command ∷ commands) old new are adds is = absurd are
all_more app (s ∷ ss) [] old new are adds is = absurd are

-- the program's own command with its subcommands is `program`
pub is_program : (commands : List Command) (old new : Command) → IsBareProgram old → AreSubcommands subcommands commands
    → AddsInTurn AddsSubcommand old commands new → IsApp program new
is_program commands old new is are adds =
    all_more (record { top = bare_program; subs = [] }) subcommands commands old new are adds (record { is = is.app; local = is.local })

-- clap says what words give of a program that is simple, as this one is
is_simple_program : is_simple program ≡ true
is_simple_program = refl

-- each of these has the name of a subcommand
abbrev AreKnown : List Shape → Type 0
AreKnown [] = ⊤
AreKnown (shape ∷ shapes) = ((s : Subcommand) × (name_of s ≡ shape.name)) × AreKnown shapes

-- the subcommands of the program
are_known : AreKnown (built program).subs
are_known = (
  (subcommand.Exec, refl),
  (
    (subcommand.Check, refl),
    (
      (subcommand.Drill, refl),
      (
        (subcommand.Loop, refl),
        ((subcommand.Serve, refl), ((subcommand.Ask, refl), ((subcommand.Station, refl), ((subcommand.Rehearse, refl), tt)))),
      ),
    ),
  ),
)

-- what is found among them has such a name
found_known : (test : Shape → Bool) (shapes : List Shape) (shape : Shape) → AreKnown shapes → find test shapes ≡ Some shape
    → (s : Subcommand) × (name_of s ≡ shape.name)
found_known test [] shape known is =
    let bad : ◌≡◌ {A = Option Shape} None (Some shape) = is in
    cc
found_known test (first ∷ rest) shape known is = go (test first) refl (found_known test rest shape known.1)
  where
    go : (b : Bool) → test first ≡ b → (find test rest ≡ Some shape → (s : Subcommand) × (name_of s ≡ shape.name))
        → (s : Subcommand) × (name_of s ≡ shape.name)
    go true passes later =
        let same : Some first ≡ Some shape = rw passes at is in
        let first_is : first ≡ shape = cc in
        (known.0.0, known.0.1 ∙ ap (λ x. x.name) first_is)
    go false fails later = later (rw fails at is)

-- the subcommand at which the words stop has the name of one
stop_known : (shapes : List Shape) → AreKnown shapes → (stop : Option (Text × List Text)) (name : Text) (words : Words)
    → option_and_then (λ p. option_map (λ shape. rows_at shape p.1) (find (λ shape. answers_to p.0 (label_of shape)) shapes)) stop ≡ Some (name, words)
    → (s : Subcommand) × (name_of s ≡ name)
stop_known shapes known None name words is =
    let bad : ◌≡◌ {A = Option (Text × Words)} None (Some (name, words)) = is in
    cc
stop_known shapes known (Some p) name words is = go (find (λ shape. answers_to p.0 (label_of shape)) shapes) refl is
  where
    go : (found : Option Shape) → find (λ shape. answers_to p.0 (label_of shape)) shapes ≡ found
        → option_map (λ shape. rows_at shape p.1) found ≡ Some (name, words) → (s : Subcommand) × (name_of s ≡ name)
    go None found is =
        let bad : ◌≡◌ {A = Option (Text × Words)} None (Some (name, words)) = is in
        cc
    go (Some shape) found is =
        let known_as = found_known _ shapes shape known found in
        let pair : ◌≡◌ {A = Text × Words} (rows_at shape p.1) (name, words) = cc in
        (known_as.0, known_as.1 ∙ ap (λ x. x.0) pair)

module _ {Z : Type 0} (words : List Text) where
  -- a subcommand that was found is one of them
  asks_one : (sub : Option (Box SubCommand Z)) → is_some sub ≡ true → subcommand_rows sub ≡ subcommand_of program words
      → AsksSubcommand (subcommand_rows sub)
  asks_one None some is =
      let bad : false ≡ true = some in
      cc
  asks_one (Some b) some is =
      let stop = stop_after (built program).top.rules (names_of (built program)) (argument_words program words) in
      let known =
      stop_known (built program).subs are_known stop (out-SubCommand (box_value b)).name.now
      (rows_of (found_of (out-SubCommand (box_value b)).matches)) (sym is) in
      record {
        subcommand = known.0;
        words = rows_of (found_of (out-SubCommand (box_value b)).matches);
        named = ap (λ name. Some (name, rows_of (found_of (out-SubCommand (box_value b)).matches))) (sym known.1);
      }

-- the job of what clap found is the one that the words ask for
pub job_asked : (commands : List Command) (old command : Command) (words : List Text) (m : ArgMatches) (job : Job) → IsBareProgram old
    → AreSubcommands subcommands commands → AddsInTurn AddsSubcommand old commands command → IsParsedFrom command m
    → HasMatchesOf (app_of command) words m → (AsksSubcommand (subcommand_rows_of m) → IsJobOf (subcommand_rows_of m) job)
    → IsJobOf (subcommand_of program words) job
job_asked commands old command words m job bare are adds parsed matches job_is =
    let is = is_program commands old command bare are adds in
    let program_matches : HasMatchesOf program words m = subst (λ app. HasMatchesOf app words m) is.is matches in
    let found : subcommand_rows_of m ≡ subcommand_of program words = (program_matches is_simple_program).1 in
    let required = parsed.from.needs_subcommand ∙ ap (λ app. app.top.subcommand_required) is.is in
    let some : has_subcommand m ≡ true = (parsed.parsed (parsed.from.globals ∙ is.local)).checked.subcommand required in
    subst (λ asked. IsJobOf asked job) found (job_is (asks_one words (out-ArgMatches m).subcommand some found))
