use Rattle.gc_console.proofs.Common.{inl, inr, IfOk-weaker}
use Rattle.gc_console.proofs.program.run_program.Goals as goal

pub returns-in-Ok-clause-done : goal.returns-in-Ok-clause-done
returns-in-Ok-clause-done g c =
    let read = c.in-Ok.ensures.read in
    let noted = c.with_noted_messages-noted.ensures in
    IfOk-weaker c.run_words.result.0 _ _
    (λ status does. record { is = inl (read.args, read.is, rw (read.are, noted.input, noted.fresh) at does) })
    c.run_words.ensures.done

pub returns-in-Err-clause-done : goal.returns-in-Err-clause-done
returns-in-Err-clause-done g c =
    let noted = c.with_noted_messages-noted.ensures in
    IfOk-weaker c.refuse_unreadable-ended.result _ _
    (λ status refused. record {
      is = inr (record {
        error = c.in-Err.error;
        unread = c.in-Err.ensures.unread;
        refuses = rw (c.said_of.ensures.said) (rw (noted.fresh) at refused);
        none = c.said_of.ensures.none;
      });
    })
    c.refuse_unreadable-ended.ensures.refused
