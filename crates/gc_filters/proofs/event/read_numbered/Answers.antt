use Rattle.gc_filters.proofs.Common.{UpBytes, UpLose, UpRepeat, DownBytes, DownLose, DownRepeat, Expire}
use Rattle.gc_filters.proofs.event.read_numbered.Goals as goal

pub returns-clause-none : goal.returns-clause-none
returns-clause-none c isnt (UpBytes n) numbered is = c.in_default.ensures n is
returns-clause-none c isnt (UpLose k) numbered is = c.in_default-number_behind.ensures k is
returns-clause-none c isnt (UpRepeat k) numbered is = c.in_default-number_behind-2.ensures k is
returns-clause-none c isnt (DownBytes n) numbered is = c.in_default-number_behind-3.ensures n is
returns-clause-none c isnt (DownLose k) numbered is = c.in_default-number_behind-4.ensures k is
returns-clause-none c isnt (DownRepeat k) numbered is = c.in_default-number_behind-5.ensures k is
returns-clause-none c isnt (Expire moment) numbered is = c.in_default-number_behind-6.ensures moment is
returns-clause-none c isnt event numbered is = numbered
