use Rattle.gc_links.proofs.Common.{rules, path_at}
use Rattle.gc_links.proofs.Taking.{touch_kept, touch_none, touch_not_kept}
use Rattle.gc_links.proofs.watched.take_touch.Goals as goal

pub returns-in_default : goal.returns-in_default
returns-in_default g c = touch_none (path_at c.args.now) (search rules)

pub returns-in-Some-read_file : goal.returns-in-Some-read_file
returns-in-Some-read_file g c =
    touch_kept (path_at c.args.now) c.in-Some.path.now c.read_file.result c.in-Some-read_file.file (search rules) (search rules) c.read_file.ensures

pub returns-in-None : goal.returns-in-None
returns-in-None g c = touch_not_kept (path_at c.args.now) c.in-Some.path.now c.read_file.result (search rules) (search rules) c.read_file.ensures
