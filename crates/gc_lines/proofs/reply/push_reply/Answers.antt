use Rattle.gc_lines.proofs.Common.{arith, decimal_digit}
use Rattle.gc_lines.proofs.reply.push_reply.Goals as goal

pub returns-then-rc-eq0-clause-items : goal.returns-then-rc-eq0-clause-items
returns-then-rc-eq0-clause-items g c = rw (c.if-rc_com-eq0.true, c.if-rc-eq0.true, decimal_digit 0 (omega arith)) c.append.ensures
