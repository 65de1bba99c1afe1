-- One reading for a reply, and each reply has one, whatever its parameters may be read as (`IsReadingBy`).
use Rattle.gc_catalogue.proofs.Common.{◌⊎◌, inl, inr, sym, ◌∙◌, ap, cases_eq, ReplyFields, ValueFault, Answer, Reading, IsReadingBy}
use Rattle.std.specs.Prelude.{◌≡◌, refl}
use Rattle.gc_catalogue.specs.declared.answer.Reading.TheVariants as reading

-- what parameters may be read as: one answer at most, one fault at most, and never both
pub record IsDecisive (IsRead : Answer → Type 0) (IsFaulty : ValueFault → Type 0) : Type 0 where
  pub answer : (a b : Answer) → IsRead a → IsRead b → a ≡ b
  pub fault : (e f : ValueFault) → IsFaulty e → IsFaulty f → e ≡ f
  pub never_both : (a : Answer) (e : ValueFault) → IsRead a → IsFaulty e → ⊥

-- if parameters are read as at most one answer or have at most one fault, and never both (`IsDecisive`), a reply has at most one
-- reading
pub one_reading_by : (IsRead : Answer → Type 0) (IsFaulty : ValueFault → Type 0) (r : ReplyFields) (x y : Reading) → IsDecisive IsRead IsFaulty
    → IsReadingBy IsRead IsFaulty r x → IsReadingBy IsRead IsFaulty r y → x ≡ y
one_reading_by IsRead IsFaulty r (reading.ComFault a) (reading.ComFault b) one x y = ap (λ n. reading.ComFault n) (x.1 ∙ sym y.1)
one_reading_by IsRead IsFaulty r (reading.ComFault a) (reading.Refused b) one x y = absurd (x.0 y.0)
one_reading_by IsRead IsFaulty r (reading.ComFault a) (reading.Value b) one x y = absurd (x.0 y.0)
one_reading_by IsRead IsFaulty r (reading.ComFault a) (reading.Unreadable b) one x y = absurd (x.0 y.0)
one_reading_by IsRead IsFaulty r (reading.Refused a) (reading.ComFault b) one x y = absurd (y.0 x.0)
one_reading_by IsRead IsFaulty r (reading.Refused a) (reading.Refused b) one x y = ap (λ n. reading.Refused n) (x.2 ∙ sym y.2)
one_reading_by IsRead IsFaulty r (reading.Refused a) (reading.Value b) one x y = absurd (x.1 y.1)
one_reading_by IsRead IsFaulty r (reading.Refused a) (reading.Unreadable b) one x y = absurd (x.1 y.1)
one_reading_by IsRead IsFaulty r (reading.Value a) (reading.ComFault b) one x y = absurd (y.0 x.0)
one_reading_by IsRead IsFaulty r (reading.Value a) (reading.Refused b) one x y = absurd (y.1 x.1)
one_reading_by IsRead IsFaulty r (reading.Value a) (reading.Value b) one x y = ap (λ z. reading.Value z) (one.answer a b x.2 y.2)
one_reading_by IsRead IsFaulty r (reading.Value a) (reading.Unreadable b) one x y = absurd (one.never_both a b x.2 y.2)
one_reading_by IsRead IsFaulty r (reading.Unreadable a) (reading.ComFault b) one x y = absurd (y.0 x.0)
one_reading_by IsRead IsFaulty r (reading.Unreadable a) (reading.Refused b) one x y = absurd (y.1 x.1)
one_reading_by IsRead IsFaulty r (reading.Unreadable a) (reading.Value b) one x y = absurd (one.never_both b a y.2 x.2)
one_reading_by IsRead IsFaulty r (reading.Unreadable a) (reading.Unreadable b) one x y = ap (λ z. reading.Unreadable z) (one.fault a b x.2 y.2)

-- if a reply's parameters are read as an answer or have a fault, the reply has a reading
pub each_reading_by : (IsRead : Answer → Type 0) (IsFaulty : ValueFault → Type 0) (r : ReplyFields)
    → ((a : Answer) × IsRead a) ⊎ ((e : ValueFault) × IsFaulty e) → (reading : Reading) × IsReadingBy IsRead IsFaulty r reading
each_reading_by IsRead IsFaulty r read = elim (cases_eq r.rc_com 0) [
  | inr fault ↦ (reading.ComFault r.rc_com, (fault, refl))
  | inl sent ↦ elim (cases_eq r.rc 0) [
    | inr refused ↦ (reading.Refused r.rc, (sent, refused, refl))
    | inl well ↦ elim read [
      | inl found ↦ (reading.Value found.0, (sent, well, found.1))
      | inr none ↦ (reading.Unreadable none.0, (sent, well, none.1))
    ]
  ]
]
