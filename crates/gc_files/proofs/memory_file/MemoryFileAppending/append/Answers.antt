use Rattle.gc_files.proofs.memory_file.MemoryFileAppending.append.Goals as goal

pub returns-in-Err-clause-step : goal.returns-in-Err-clause-step
returns-in-Err-clause-step c = c.in-Err.ensures.step c.args.self.now.start.items
