use Rattle.gc_ask.proofs.Common.{refl}
use Rattle.gc_ask.proofs.caller.Connection.serve.Goals as goal

pub returns : goal.returns
returns g c = record {
  connection = record { old = _; new = _; end = _ };
  serves = record {
    fresh = (c.new-source.ensures.reads, c.new-source.ensures.failed, c.new-writer.ensures.failed);
    answers = c.serve_anew-served.ensures.answers;
    ended = c.serve_anew-served.ensures.ended;
  };
  end_is = refl;
}
