use Rattle.gc_console.proofs.Common.{IfOk-weaker}
use Rattle.gc_console.proofs.system.System.run_open.Goals as goal

pub returns-in-Loop-clause-done : goal.returns-in-Loop-clause-done
returns-in-Loop-clause-done g c =
    rw (c.in-Loop.is) (IfOk-weaker c.run_loop-streams.result.1 _ _ (λ status does. record { does = does; none = c.nothing.ensures })
    c.run_loop-streams.ensures.did)

pub returns-in-Ask-clause-done : goal.returns-in-Ask-clause-done
returns-in-Ask-clause-done g c =
    rw (c.in-Ask.is) (IfOk-weaker c.run_ask-streams.result.1 _ _ (λ status does. record { does = does; none = c.nothing-in-Ask.ensures })
    c.run_ask-streams.ensures.did)

pub returns-in-Outline-clause-done : goal.returns-in-Outline-clause-done
returns-in-Outline-clause-done g c =
    rw (c.in-Outline.is) (IfOk-weaker c.check_task_text-streams.result.1 _ _
    (λ status does. record { does = does; none = c.nothing-in-Outline.ensures }) c.check_task_text-streams.ensures.done)

pub returns-in-Station-clause-done : goal.returns-in-Station-clause-done
returns-in-Station-clause-done g c = rw (c.in-Station.is) (rw (c.with_status_line-station.ensures) at c.measure.ensures.told)
