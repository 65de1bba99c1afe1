-- What a reply says of a command, by a form or without one: one thing at most, and something in each case; and that of its line with return
-- code 0. Besides, what the code makes of a reply in time.
use Rattle.gc_station.proofs.Common.{◌≡◌, ◌⊎◌, inl, inr, ℕ, List, Option, Some, None, refl, sym, ap, ◌∙◌, subst, ReplyFields, IsReply, ValueFault, IsAskedReading, Answer, Reading, Asked, Table, Raw, ReadsBy, lists_code, IsFormAnswer, IsFormFault, IsFormReading, measured_part, kinds_seen, as_zero, Form, Expected, answer_as, end_of, refused_as, IsSaid, IsSaidInForm, AreReadings, Reads, IsByForm, IsZeroOf}
use Rattle.std.proofs.Common.{unwrap_or}
use Rattle.arrayvec.specs.ArrayVec.{ArrayVec}
use Rattle.gc_catalogue.proofs.AskedRules.{each_asked_reply, one_asked_reading}
use Rattle.gc_catalogue.proofs.ReadingLaws.{IsDecisive, each_reading_by, one_reading_by}
use Rattle.gc_client.specs.Prelude.{Answered}
use Rattle.gc_texts.proofs.ZeroReplies.{zero_is_reply}
use Rattle.gc_station.proofs.OfKinds.{never_both, one_fault, one_values, read_or_faulty}
use Rattle.gc_catalogue.specs.declared.answer.Reading.TheVariants as reading
use Rattle.gc_client.specs.declared.settlement.Outcome.TheVariants as outcomes

-- What a reply says.

-- parameters are read by a form as one answer at most, or have one fault at most, and never both
form_decisive : (form : Form) (params : List ℕ) → IsDecisive (IsFormAnswer form params) (IsFormFault form params)
form_decisive form params = record {
  answer = λ a b x y. x.answer_is ∙ ap (measured_part form) (one_values (kinds_seen form.kinds) params x.values y.values x.are y.are) ∙ sym y.answer_is;
  fault = one_fault (kinds_seen form.kinds) params;
  never_both = λ a e x why. never_both (kinds_seen form.kinds) params x.values e x.are why;
}

-- parameters are read by a form as an answer, or have a fault
form_answer_or_fault : (form : Form) (params : List ℕ) → ((a : Answer) × IsFormAnswer form params a) ⊎ ((e : ValueFault) × IsFormFault form params e)
form_answer_or_fault form params = elim (read_or_faulty (kinds_seen form.kinds) params) [
  | inl read ↦ inl (measured_part form read.0, record { values = read.0; are = read.1; answer_is = refl })
  | inr faulty ↦ inr faulty
]

-- a reply says one thing at most
pub one_said : (form : Option Form) (call : Asked) (r : ReplyFields) (x y : Reading) → IsSaid form call r x → IsSaid form call r y → x ≡ y
one_said None call r x y is so = one_asked_reading call r x y is so
one_said (Some form) call r x y is so = one_reading_by (IsFormAnswer form r.params) (IsFormFault form r.params) r x y (form_decisive form r.params) is so

-- a reply says something
pub each_said : (form : Option Form) (call : Asked) (r : ReplyFields) → (x : Reading) × IsSaid form call r x
each_said None call r = each_asked_reply call r
each_said (Some form) call r = each_reading_by (IsFormAnswer form r.params) (IsFormFault form r.params) r (form_answer_or_fault form r.params)

-- where a reply's fields with return code 0 say `said`, so does its line with return code 0 (`as_zero`)
pub zero_said : (form : Option Form) (call : Asked) (line : List ℕ) (r : ReplyFields) (said : Reading)
    → IsReply line r → IsSaid form call (record r { rc = 0 }) said → ReadsBy (IsSaid form) call (as_zero line) said
zero_said form call line r said is says = record { reply = record r { rc = 0 }; is_reply = zero_is_reply line r is; is_reading = says }

-- a reply with both codes 0 says by a form what its parameters do
pub codes_are_zero : (form : Form) (r : ReplyFields) (x : Reading) → r.rc_com ≡ 0 → r.rc ≡ 0 → IsFormReading form r.params x → IsSaidInForm form r x
codes_are_zero form r (reading.Value a) none zero is = (none, zero, is)
codes_are_zero form r (reading.Unreadable e) none zero is = (none, zero, is)
codes_are_zero form r (reading.Refused code) none zero is = absurd is
codes_are_zero form r (reading.ComFault code) none zero is = absurd is

-- a reply that says a return code by a form says it without one, too
refused_without : (form : Option Form) (call : Asked) (r : ReplyFields) (code : ℕ) → IsSaid form call r (reading.Refused code) → IsAskedReading call r (reading.Refused code)
refused_without None call r code is = is
refused_without (Some form) (Table call) r code is = is
refused_without (Some form) (Raw raw) r code is = is

-- What the code makes of a reply in time.

module _ (reads : Reads) (are : AreReadings reads) (expected : Expected) (call : Asked) (x : Reading) (line : ArrayVec ℕ) (by : Option Reading) (zeroed : Reading) (read : ReadsBy IsAskedReading call line.items x) where
  -- what the code takes for what a reply says is that
  said_is : (form : Option Form) → IsByForm form (outcomes.Answered x line) by → IsSaid form call read.reply (unwrap_or by x)
  said_is None is = subst (λ (b : Option Reading). IsAskedReading call read.reply (unwrap_or b x)) (sym is) read.is_reading
  said_is (Some form) is = by_form by is where
    -- the lemma above, by what was read by the form
    by_form : (b : Option Reading) → IsByForm (Some form) (outcomes.Answered x line) b → IsSaid (Some form) call read.reply (unwrap_or b x)
    by_form None is = absurd is
    by_form (Some said) is = is read.reply read.is_reply

  -- and what it takes for what the reply would say with return code 0, if it has another
  zero_is : (form : Option Form) (code : ℕ) → x ≡ reading.Refused code → IsZeroOf form call (outcomes.Answered x line) zeroed → reads form call (as_zero line.items) ≡ zeroed
  zero_is form code same is =
      are form call (as_zero line.items) zeroed (subst (λ (y : Reading). IsZeroOf form call (outcomes.Answered y line) zeroed) same is read.reply read.is_reply)

  -- what a reply would say with return code 0 matters only if it has another
  by_said : (said : Reading) → IsZeroOf expected.form call (outcomes.Answered x line) zeroed → IsSaid expected.form call read.reply said
      → answer_as expected said zeroed line.items ≡ answer_as expected said (reads expected.form call (as_zero line.items)) line.items
  by_said (reading.Value a) zero is = refl
  by_said (reading.Unreadable e) zero is = refl
  by_said (reading.ComFault code) zero is = refl
  by_said (reading.Refused code) zero is =
      let same : x ≡ reading.Refused code = one_asked_reading call read.reply x (reading.Refused code) read.is_reading (refused_without expected.form call read.reply code is) in
      ap (λ z. refused_as (lists_code expected.accepted code) expected z line.items) (sym (zero_is expected.form code same zero))

  -- the ending that the code gives a command by a reply in time is that of `end_of`
  pub answer_ends : IsByForm expected.form (outcomes.Answered x line) by → IsZeroOf expected.form call (outcomes.Answered x line) zeroed
      → answer_as expected (unwrap_or by x) zeroed line.items ≡ end_of reads expected call (Answered line.items)
  answer_ends is zero =
      let said = said_is expected.form is in
      let own : reads expected.form call line.items ≡ unwrap_or by x =
      are expected.form call line.items (unwrap_or by x) (record { reply = read.reply; is_reply = read.is_reply; is_reading = said }) in
      by_said (unwrap_or by x) zero said ∙ ap (λ y. answer_as expected y (reads expected.form call (as_zero line.items)) line.items) (sym own)
