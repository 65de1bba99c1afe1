-- One reading for a reply, and which values of an answer are rounded when it is written.
use Rattle.gc_catalogue.proofs.Common.{◌∷◌, sym, ◌∙◌, ValueFault, Value, Answer, Call, answer_fields, IsAnswer, IsUnreadable, AreShown, DoublesAreRounded, OneReading, shown_values, no_list_fault, one_list_fault, one_values}
use Rattle.std.specs.Prelude.{◌≡◌, ℕ, List, [], refl}
use Rattle.gc_values.proofs.RoundedDecimals.{rounded_rounds}
use Rattle.gc_catalogue.proofs.ReadingLaws.{one_reading_by}
use Rattle.gc_catalogue.proofs.Table.{answer_kinds, few_answer_values, same_answer, same_answer_kinds, shape-rounded, values-rounded}
use Rattle.gc_values.specs.declared.value.Value.TheVariants as value

-- parameters are read as at most one answer of a call
pub one_answer : (call : Call) (params : List ℕ) (a b : Answer) → IsAnswer call params a → IsAnswer call params b → a ≡ b
one_answer call params a b x y =
    let shape = x.of_call ∙ sym y.of_call in
    same_answer a b shape (one_values _ _ params (same_answer_kinds a b shape) x.values y.values)

-- parameters that are read as an answer of the call aren't unreadable for it
pub no_unreadable : (call : Call) (params : List ℕ) (a : Answer) (e : ValueFault) → IsAnswer call params a → IsUnreadable call params e → ⊥
no_unreadable call params a e x y =
    no_list_fault (answer_fields a).values params e (few_answer_values a) x.values (rw (same_answer_kinds a y.0 (x.of_call ∙ sym y.1)) y.2)

-- parameters are unreadable for a call by at most one fault
pub one_unreadable : (call : Call) (params : List ℕ) (e f : ValueFault) → IsUnreadable call params e → IsUnreadable call params f → e ≡ f
one_unreadable call params e f x y =
    one_list_fault (answer_kinds x.0) params e f x.2 (rw (same_answer_kinds x.0 y.0 (x.1 ∙ sym y.1)) y.2)

-- a reply has at most one reading for a call
pub one_reading : OneReading
one_reading call r x y =
    one_reading_by (IsAnswer call r.params) (IsUnreadable call r.params) r x y
    (record { answer = one_answer call r.params; fault = one_unreadable call r.params; never_both = no_unreadable call r.params })

-- `AreShown` is true of values and the same values with each double rounded
all_shown : (places : ℕ) (vs : List Value) → AreShown places vs (shown_values places vs)
all_shown places [] = tt
all_shown places (value.Double d ∷ vs) = (rounded_rounds d places, all_shown places vs)
all_shown places (value.Long z ∷ vs) = (refl, all_shown places vs)
all_shown places (value.Short z ∷ vs) = (refl, all_shown places vs)
all_shown places (value.Byte n ∷ vs) = (refl, all_shown places vs)
all_shown places (value.Bool b ∷ vs) = (refl, all_shown places vs)
all_shown places (value.Text t ∷ vs) = (refl, all_shown places vs)

-- an answer is written with every double rounded, and with its shape and every other value as it is
pub doubles_are_rounded : DoublesAreRounded
doubles_are_rounded = λ places answer. (shape-rounded places answer, rw (values-rounded places answer) (all_shown places (answer_fields answer).values))
