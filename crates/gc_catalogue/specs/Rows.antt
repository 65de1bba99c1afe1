-- No part of a promise: what reading a row of the tables, or a part of one, says of the parameters that are asked for, before
-- (`old`) and after it (`new`). `of` has the ghost members of their trait.
use Rattle.std.specs.Prelude.{◌≡◌, ℕ, List, ◌++◌}
use Rattle.gc_values.specs.Prelude.{kinds_of}
use Rattle.gc_values.specs.declared.fault.ValueFault.{ValueFault}
use Rattle.gc_values.specs.declared.parameters.Parameters.{Ghosts as Parameters}
use Rattle.gc_values.specs.declared.value.Kind.{Kind}
use Rattle.gc_values.specs.declared.value.Value.{Value}
use Rattle.gc_catalogue.specs.Answers.{answer_fields}
use Rattle.gc_catalogue.specs.Calls.{call_fields}
use Rattle.gc_catalogue.specs.declared.answer.Answer.{Answer}
use Rattle.gc_catalogue.specs.declared.answer.Shape.{Shape}
use Rattle.gc_catalogue.specs.declared.call.Call.{Call}

-- these values were asked for one by one: if what is left in `new` reads as `vs`, what was left in `old` reads as these values
-- and then `vs`; and if `e` is the fault of `new` where the kinds `ks` are asked for, it is that of `old` where the kinds of
-- these values and then `ks` are
abbrev pub ReadsRow : {P : Type 0} → Parameters P → (old new : P) → (values : List Value) → Type 0
ReadsRow of old new values =
    ((vs : List Value) → of.reads new vs → of.reads old (values ++ vs))
    × ((ks : List Kind) (e : ValueFault) → of.fails new ks e → of.fails old (kinds_of values ++ ks) e)

-- the call is one of the procedure with this number, and its values were asked for
abbrev pub ReadsCall : {P : Type 0} → Parameters P → (number : ℕ) → (old new : P) → Call → Type 0
ReadsCall of number old new call = ((call_fields call).number ≡ number) × ReadsRow of old new (call_fields call).values

-- the answer has this shape, and its values were asked for
abbrev pub ReadsAnswer : {P : Type 0} → Parameters P → Shape → (old new : P) → Answer → Type 0
ReadsAnswer of shape old new answer = ((answer_fields answer).shape ≡ shape) × ReadsRow of old new (answer_fields answer).values
