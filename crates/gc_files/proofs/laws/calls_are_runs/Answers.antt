use Rattle.gc_files.proofs.Killing.{openings_are_runs, failed_openings_are_runs, synced_after_mending}
use Rattle.gc_files.proofs.laws.calls_are_runs.Goals as goal

pub returns : goal.returns
returns c = record { opened = openings_are_runs; failed = failed_openings_are_runs; kept = synced_after_mending }
