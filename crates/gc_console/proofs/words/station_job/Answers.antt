use Rattle.gc_console.proofs.Common.{◌∙◌, Some, sym, subst, codes, IsJobOf, words_of}
use Rattle.gc_console.proofs.JobLemmas.{station_asked, station_missing}
use Rattle.gc_console.proofs.words.station_job.Goals as goal

pub returns-in_default-station_of : goal.returns-in_default-station_of
returns-in_default-station_of c =
    station_missing (words_of c.args.words.now) c.station_of.result (c.missing_limit.ensures.none c.in_default-missing_limit.is) c.station_of.ensures.only
    c.in_default-station_of.is

pub returns : goal.returns
returns c =
    subst (λ job. IsJobOf (Some (codes "station", words_of c.args.words.now)) job) (sym c.station_job_at.ensures)
    (station_asked (words_of c.args.words.now) _ _ _ _ _ (record { place = c.in-Some.ensures; log = c.log_of.ensures; signals = c.signals_of.ensures })
    c.in-Some-station_of.ensures.chosen c.recording_of.ensures (sym c.has_flag-checks.ensures) (sym c.unit_of.ensures ∙ c.in-Some-unit_of.is))
