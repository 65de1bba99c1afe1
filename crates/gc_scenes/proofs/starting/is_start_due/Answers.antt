use Rattle.gc_scenes.proofs.Common.{◌≡◌, Option, Some, None, is_some, refl, ap, rules, tests, ◌∙◌, YieldsList-from_slice, find_from_yields_List, is_due}
use Rattle.std.proofs.Common.{option_map}
use Rattle.gc_scenes.proofs.starting.is_start_due.Goals as goal

-- whether there is a value stays the same where a function is applied to it
is_some_mapped : {A B : Type 0} (f : A → B) (o : Option A) → is_some o ≡ is_some (option_map f o)
is_some_mapped f None = refl
is_some_mapped f (Some x) = refl

pub returns : goal.returns
returns c =
    c.is_some.ensures ∙ is_some_mapped _ c.find.result
    ∙ ap is_some (find_from_yields_List (is_due c.args.rpc) _ _ c.find.result c.find.ensures.ran (YieldsList-from_slice c.args.starts.now cc) (λ x b q k. search (rules, tests)))
