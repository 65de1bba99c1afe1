use Rattle.gc_files.proofs.Common.{rules}
use Rattle.std.proofs.lemmas.Result.{IfErr-weaker, IfOk-weaker}
use Rattle.gc_files.proofs.Adding.{opens_whole, opens_head, opens_part, opens_head_part}
use Rattle.gc_files.proofs.opening.make_table.Goals as goal

pub returns-in_err-cut_torn_row-clause-err : goal.returns-in_err-cut_torn_row-clause-err
returns-in_err-cut_torn_row-clause-err g c = let part = opens_part c.args.head.now _ _ c.in_err-cut_torn_row.ensures.err in search rules

pub returns-then-extent-gt0-clause-ok : goal.returns-then-extent-gt0-clause-ok
returns-then-extent-gt0-clause-ok g c = opens_whole c.args.head.now _ _ c.args.extent.end (search rules) c.requires.end c.in_ok-cut_torn_row.ensures.ok

pub returns-clause-ok : goal.returns-clause-ok
returns-clause-ok g c =
    IfOk-weaker c.append_all.result _ _
    (λ _ puts. opens_head c.args.head.now _ _ _ c.args.extent.end (search rules) c.requires.end c.in_ok-cut_torn_row.ensures.ok puts) c.append_all.ensures.ok

pub returns-clause-err : goal.returns-clause-err
returns-clause-err g c =
    IfErr-weaker c.append_all.result _ _
    (λ _ part. opens_head_part c.args.head.now _ _ _ c.args.extent.end (search rules) c.requires.end c.in_ok-cut_torn_row.ensures.ok part) c.append_all.ensures.err
