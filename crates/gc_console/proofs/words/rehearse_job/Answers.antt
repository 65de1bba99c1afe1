use Rattle.gc_console.proofs.Common.{◌∙◌, refl, sym, words_of}
use Rattle.gc_console.proofs.JobLemmas.{rehearsal_missing}
use Rattle.gc_console.proofs.words.rehearse_job.Goals as goal

pub returns-in_default-rehearsal_of : goal.returns-in_default-rehearsal_of
returns-in_default-rehearsal_of c =
    rehearsal_missing (words_of c.args.words.now) c.rehearsal_of.result (c.missing_limit.ensures.none c.in_default.is) c.rehearsal_of.ensures.only
    c.in_default-rehearsal_of.is

pub returns : goal.returns
returns c = record {
  words = words_of c.args.words.now;
  named = refl;
  is = record { is = c.in-Some-rehearsal_of.ensures.chosen; fresh = sym c.is_stale_too_soon.ensures ∙ c.if-is_stale_too_soon.false };
}
