use Rattle.gc_world.proofs.Common.{ends}
use Rattle.gc_world.proofs.FirstReply.{in_time_is_answered, too_late_is_late, no_second}
use Rattle.gc_world.proofs.Handing.{KeptFits, kept_exchange}
use Rattle.gc_world.proofs.Sends.{never_both, one_or_other}
use Rattle.gc_world.proofs.laws.first_reply_is_booked.Goals as goal

pub returns-clause-in_time : goal.returns-clause-in_time
returns-clause-in_time c = λ width narrow opening events n line t. in_time_is_answered ends KeptFits kept_exchange width narrow opening tt events n line t

pub returns-clause-late : goal.returns-clause-late
returns-clause-late c = λ width narrow opening events n line t. too_late_is_late ends KeptFits kept_exchange width narrow opening tt events n line t

pub returns-clause-one_or_other : goal.returns-clause-one_or_other
returns-clause-one_or_other c = one_or_other ends

pub returns-clause-never_both : goal.returns-clause-never_both
returns-clause-never_both c = never_both ends

pub returns-clause-first_alone : goal.returns-clause-first_alone
returns-clause-first_alone c = λ width narrow opening. no_second ends KeptFits kept_exchange width narrow opening tt
