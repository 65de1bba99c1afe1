use Rattle.gc_filters.proofs.Common.{refl, line, verdict_text}
use Rattle.gc_filters.proofs.check_log.push_whole.Goals as goal

pub returns-else-bytes-gt512-clause-items : goal.returns-else-bytes-gt512-clause-items
returns-else-bytes-gt512-clause-items c =
    record {
      text = verdict_text c.line_verdict.result;
      appended = c.push_verdict-else-bytes-gt512.ensures.items;
      is = line c.line_verdict.result c.if-bytes-gt512.false c.line_verdict.ensures refl;
    }
