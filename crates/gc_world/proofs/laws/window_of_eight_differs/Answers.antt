use Rattle.gc_world.proofs.Width.{eight_differs, eight_settles_nine, numbers_settle_one}
use Rattle.gc_world.proofs.laws.window_of_eight_differs.Goals as goal

pub returns-clause-differs : goal.returns-clause-differs
returns-clause-differs c = eight_differs

pub returns-clause-by_ids : goal.returns-clause-by_ids
returns-clause-by_ids c = eight_settles_nine

pub returns-clause-by_numbers : goal.returns-clause-by_numbers
returns-clause-by_numbers c = numbers_settle_one
