use Rattle.gc_rows.proofs.Members.{each_member_plain}
use Rattle.gc_rows.proofs.laws.records_have_plain_members.Goals as goal

pub returns : goal.returns
returns c = each_member_plain
