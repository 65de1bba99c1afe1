use Rattle.geocom_c.proofs.Common.{arith, items_within_params}
use Rattle.geocom_c.proofs.listed.list.Goals as goal

pub put_items-requires-clause-room : goal.put_items-requires-clause-room
put_items-requires-clause-room c = omega (arith, c.requires, items_within_params c.args.params.now c.in-Ok.items c.in-Ok.ensures.found.0)
