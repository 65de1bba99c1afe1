use Rattle.gc_options.proofs.Common.{[], map, rule_of_row}
use Rattle.std.proofs.lemmas.Result.{IfOk-weaker}
use Rattle.gc_options.proofs.TableLemmas.{all_added, bare}
use Rattle.gc_options.proofs.arguments.command_of.Goals as goal

pub returns : goal.returns
returns c =
    IfOk-weaker c.args-2.result _ _
    (λ command adds. all_added c.args.name.now [] (map rule_of_row c.args.table.now) c.in_ok-args.args.items c.after_help.result command c.in_ok-args.ensures
    adds (bare c.args.name.now c.new.result c.about.result c.after_help.result _ _ c.new.ensures.app c.new.ensures.local c.about.ensures c.after_help.ensures))
    c.args-2.ensures
