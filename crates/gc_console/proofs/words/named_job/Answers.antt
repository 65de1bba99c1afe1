use Rattle.gc_console.proofs.Common.{◌≡◌, ◌∙◌, Some, None, sym, subst, Option, IsJobOf, name_of, subcommand_named, Subcommand, words_of}
use Rattle.gc_console.proofs.JobLemmas.{named_again, named_so}
use Rattle.gc_console.proofs.words.named_job.Goals as goal

pub returns-in-Some : goal.returns-in-Some
returns-in-Some c s named =
    let same : name_of c.in-Some.subcommand ≡ c.args.name.now = named_so _ _ (sym c.named.ensures ∙ c.in-Some.is) in
    subst (λ name. IsJobOf (Some (name, words_of c.args.words.now)) c.job.result) same c.job.ensures

pub returns-in-None : goal.returns-in-None
returns-in-None c s named =
    let again : subcommand_named c.args.name.now ≡ Some s = subst (λ name. subcommand_named name ≡ Some s) named (named_again s) in
    let none : c.named.result ≡ None = c.in-None.is in
    let bad : ◌≡◌ {A = Option Subcommand} None (Some s) = sym none ∙ (c.named.ensures ∙ again) in
    cc
