use Rattle.gc_console.proofs.Common.{rules, ◌≡◌, Some, sym, subst, option_map, false, is_some, subcommand_name_of, subcommand_rows_of, out-ArgMatches, IsJobOf, name_of, words_of}
use Rattle.gc_console.proofs.JobLemmas.{found_subcommand, none_found, one_name}
use Rattle.gc_console.proofs.words.parsed_job.Goals as goal

pub returns-in-Some : goal.returns-in-Some
returns-in-Some c asks =
    let named : Some c.in-Some.name.now ≡ subcommand_name_of c.args.matches.now = search rules in
    let rows : Some (words_of c.in-Some.words.now) ≡ option_map (λ found. found.1) (subcommand_rows_of c.args.matches.now) = search rules in
    let found = found_subcommand c.in-Some.name.now (words_of c.in-Some.words.now) (out-ArgMatches c.args.matches.now).subcommand named rows in
    let same = one_name (name_of asks.subcommand) c.in-Some.name.now asks.words (words_of c.in-Some.words.now) _ asks.named found in
    subst (λ asked. IsJobOf asked c.named_job.result) (sym found) (c.named_job.ensures asks.subcommand same)

pub returns-in-None : goal.returns-in-None
returns-in-None c asks =
    let none : false ≡ is_some (out-ArgMatches c.args.matches.now).subcommand = search rules in
    absurd (none_found (name_of asks.subcommand) asks.words (out-ArgMatches c.args.matches.now).subcommand none asks.named)
