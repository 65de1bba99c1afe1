-- What holds of every row of the tables of calls and answers (`call_fields`, `answer_fields`). The prover goes through the rows
-- itself: a new row needs no line here.
use Rattle.gc_catalogue.proofs.Common.{◌<◌, arith, AllByRecursion, kinds_of, Kind, Value, Answer, Call, answer_fields, rounded_answer, call_fields, HaveOneSignature, shown_values}
use Rattle.std.specs.Prelude.{◌≡◌, ◌≤◌, ℕ, List, length}
use Rattle.gc_values.specs.declared.value.Value.TheVariants as value

-- the kinds of a call's values
abbrev pub call_kinds : Call → List Kind
call_kinds call = kinds_of (call_fields call).values

-- the kinds of an answer's values
abbrev pub answer_kinds : Answer → List Kind
answer_kinds answer = kinds_of (answer_fields answer).values

-- a procedure's number has 16 bits
pub number_fits : (call : Call) → (call_fields call).number < 65536
number_fits call = grind arith

-- this value isn't a text
abbrev pub IsNoText : Value → Type 0
IsNoText (value.Text bytes) = ⊥
IsNoText v = Unit {0}

-- no call has a text among its values
pub no_text : (call : Call) → AllByRecursion IsNoText (call_fields call).values
no_text call = grind arith

-- no call has more than six values
pub few_values : (call : Call) → length (call_fields call).values ≤ 6
few_values call = grind arith

-- calls of one number have parameters of the same kinds
same_kinds : (c d : Call) → (call_fields c).number ≡ (call_fields d).number → call_kinds c ≡ call_kinds d
same_kinds c d e = grind arith

-- calls of one number have as many parameters
pub same_parameter_count : (c d : Call) → (call_fields c).number ≡ (call_fields d).number → length (call_fields c).values ≡ length (call_fields d).values
same_parameter_count c d e = grind arith

-- calls of one number have answers of one shape
same_answers : (c d : Call) → (call_fields c).number ≡ (call_fields d).number → (call_fields c).answer ≡ (call_fields d).answer
same_answers c d e = grind arith

-- calls of one number have parameters of the same kinds and answers of one shape
pub same_number_alike : (c d : Call) → (call_fields c).number ≡ (call_fields d).number → HaveOneSignature c d
same_number_alike c d e = record { kinds = same_kinds c d e; answer = same_answers c d e }

-- a call is determined by its number and its values
pub same_call : (c d : Call) → (call_fields c).number ≡ (call_fields d).number → (call_fields c).values ≡ (call_fields d).values → c ≡ d
same_call c d number values = grind arith

-- no answer has more than six values
pub few_answer_values : (answer : Answer) → length (answer_fields answer).values ≤ 6
few_answer_values answer = grind arith

-- answers of one shape have values of the same kinds
pub same_answer_kinds : (a b : Answer) → (answer_fields a).shape ≡ (answer_fields b).shape → answer_kinds a ≡ answer_kinds b
same_answer_kinds a b e = grind arith

-- an answer is determined by its shape and its values
pub same_answer : (a b : Answer) → (answer_fields a).shape ≡ (answer_fields b).shape → (answer_fields a).values ≡ (answer_fields b).values → a ≡ b
same_answer a b shape values = grind arith

-- a rounded answer's values are the answer's, with each double rounded
pub values-rounded : (places : ℕ) (answer : Answer)
    → (answer_fields (rounded_answer places answer)).values ≡ shown_values places (answer_fields answer).values
values-rounded places answer = grind arith

-- a rounded answer has the shape of the answer
pub shape-rounded : (places : ℕ) (answer : Answer) → (answer_fields (rounded_answer places answer)).shape ≡ (answer_fields answer).shape
shape-rounded places answer = grind arith
