use Rattle.gc_console.proofs.Common.{IfOk-weaker}
use Rattle.gc_console.proofs.system.System.run_job.Goals as goal

pub returns-in-Exec-clause-done : goal.returns-in-Exec-clause-done
returns-in-Exec-clause-done g c =
    rw (c.in-Exec.is) (IfOk-weaker c.run_exec_job.result.0 _ _
    (λ status did. (did, c.run_exec_job.ensures.none)) c.run_exec_job.ensures.did)

pub returns-in-Check-clause-done : goal.returns-in-Check-clause-done
returns-in-Check-clause-done g c =
    rw (c.in-Check.is) (IfOk-weaker c.run_check_job.result.0 _ _
    (λ status did. (did, c.run_check_job.ensures.none)) c.run_check_job.ensures.did)

pub returns-in-Drill-clause-done : goal.returns-in-Drill-clause-done
returns-in-Drill-clause-done g c =
    rw (c.in-Drill.is) (IfOk-weaker c.run_drill_job.result.0 _ _
    (λ status did. (did, c.run_drill_job.ensures.none)) c.run_drill_job.ensures.did)

pub returns-in-Serve-clause-done : goal.returns-in-Serve-clause-done
returns-in-Serve-clause-done g c =
    rw (c.in-Serve.is) (IfOk-weaker c.run_serve_job.result.0 _ _
    (λ status did. (did, c.run_serve_job.ensures.none)) c.run_serve_job.ensures.did)

pub returns-in-Rehearse-clause-done : goal.returns-in-Rehearse-clause-done
returns-in-Rehearse-clause-done g c =
    rw (c.in-Rehearse.is) (IfOk-weaker c.run_rehearse_job.result.0 _ _
    (λ status did. (did, c.run_rehearse_job.ensures.none)) c.run_rehearse_job.ensures.bound)

pub returns-in-Nowhere-clause-done : goal.returns-in-Nowhere-clause-done
returns-in-Nowhere-clause-done g c =
    rw (c.in-Nowhere.is, c.said_of.ensures.said) (IfOk-weaker c.refuse_place-ended.result _ _
    (λ status refuses. (refuses, c.said_of.ensures.none)) c.refuse_place-ended.ensures.told)

pub returns-in-BadLimit-clause-done : goal.returns-in-BadLimit-clause-done
returns-in-BadLimit-clause-done g c =
    rw (c.in-BadLimit.is, c.said_of-in-BadLimit.ensures.said) (IfOk-weaker c.refuse_limit-ended.result _ _
    (λ status refuses. (refuses, c.said_of-in-BadLimit.ensures.none)) c.refuse_limit-ended.ensures)

pub returns-in-NumberMissing-clause-done : goal.returns-in-NumberMissing-clause-done
returns-in-NumberMissing-clause-done g c =
    rw (c.in-NumberMissing.is, c.said_of-in-NumberMissing.ensures.said) (IfOk-weaker c.refuse_numbers-ended.result _ _
    (λ status refuses. (refuses, c.said_of-in-NumberMissing.ensures.none)) c.refuse_numbers-ended.ensures.told)

pub returns-in-NoUnit-clause-done : goal.returns-in-NoUnit-clause-done
returns-in-NoUnit-clause-done g c =
    rw (c.in-NoUnit.is, c.said_of-in-NoUnit.ensures.said) (IfOk-weaker c.refuse_unit-ended.result _ _
    (λ status refuses. (refuses, c.said_of-in-NoUnit.ensures.none)) c.refuse_unit-ended.ensures.told)

pub returns-in-StaleTooSoon-clause-done : goal.returns-in-StaleTooSoon-clause-done
returns-in-StaleTooSoon-clause-done g c =
    rw (c.in-StaleTooSoon.is, c.said_of-in-StaleTooSoon.ensures.said) (IfOk-weaker c.refuse_stale-ended.result _ _
    (λ status refuses. (refuses, c.said_of-in-StaleTooSoon.ensures.none)) c.refuse_stale-ended.ensures.told)

pub returns-in-AtWithoutMultiple-clause-done : goal.returns-in-AtWithoutMultiple-clause-done
returns-in-AtWithoutMultiple-clause-done g c =
    rw (c.in-AtWithoutMultiple.is, c.said_of-in-AtWithoutMultiple.ensures.said) (IfOk-weaker c.refuse_at-ended.result _ _
    (λ status refuses. (refuses, c.said_of-in-AtWithoutMultiple.ensures.none)) c.refuse_at-ended.ensures.told)

pub returns-in-NoDate-clause-done : goal.returns-in-NoDate-clause-done
returns-in-NoDate-clause-done g c =
    rw (c.in-NoDate.is, c.said_of-in-NoDate.ensures.said) (IfOk-weaker c.refuse_date-ended.result _ _
    (λ status refuses. (refuses, c.said_of-in-NoDate.ensures.none)) c.refuse_date-ended.ensures.told)
