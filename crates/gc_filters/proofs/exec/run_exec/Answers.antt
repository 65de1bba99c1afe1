use Rattle.gc_filters.proofs.exec.run_exec.Goals as goal

pub returns : goal.returns
returns g c = (c.answer_all.new.self, rw c.simulator.ensures.state at c.answer_all.ensures.serves)
