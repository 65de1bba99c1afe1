use Rattle.gc_console.proofs.Common.{◌≡◌, true, map, subst, string_bytes, takes}
use Rattle.clap.specs.Values.{kind_of}
use Rattle.clap.specs.declared.error.ErrorKind.{ErrorKind}
use Rattle.gc_console.proofs.ProgramLemmas.{is_program, job_asked}
use Rattle.gc_console.proofs.words.job_of.Goals as goal

pub returns-in-Ok-clause-job : goal.returns-in-Ok-clause-job
returns-in-Ok-clause-job c =
    job_asked c.in_ok-subcommands.subcommands.items c.geocom.result c.in_ok-program.program (map string_bytes c.args.words.now)
    c.in-Ok.matches c.parsed_job.result c.geocom.ensures c.in_ok-subcommands.ensures c.in_ok-program.ensures c.in-Ok.ensures.parsed
    c.in-Ok.ensures.matches c.parsed_job.ensures

pub returns-in-Err-clause-taken : goal.returns-in-Err-clause-taken
returns-in-Err-clause-taken c =
    let is =
    is_program c.in_ok-subcommands.subcommands.items c.geocom.result c.in_ok-program.program c.geocom.ensures
    c.in_ok-subcommands.ensures c.in_ok-program.ensures in
    subst (λ app. takes app (map string_bytes c.args.words.now) ≡ true → kind_of c.in-Err.error ≡ ErrorKind.OutOfMemory) is.is c.in-Err.ensures.passes
