use Rattle.gc_console.proofs.system.System.run_serve_job.Goals as goal

pub returns-clause-did : goal.returns-clause-did
returns-clause-did g c = rw (c.said_of.ensures.said) c.serve_with_places_filled-ended.ensures.served
