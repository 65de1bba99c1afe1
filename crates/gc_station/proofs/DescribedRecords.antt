-- Each record of a reply to a described procedure is as its form reads the reply: what `reads` says of the reply's line, by which the record
-- ended (`AsText`), is the form's reading.
use Rattle.gc_station.proofs.Common.{◌≡◌, ℕ, List, Some, sym, ap, ◌∙◌, subst, same_Some, ReplyFields, IsReply, Answer, Reading, IsFormAnswer, line_of, as_zero, Form, Quality, Task, IsOfQuality, accepted_at, answer_in, form_at, Record, state_after, IsSaidInForm, AreReadings, Scope, Plan}
use Rattle.gc_station.specs.Described.{IsReadBy, IsReadByItsForm, DescribedAnswersAreReadByTheirKinds}
use Rattle.gc_station.proofs.AsText.{IsAsItsText, kept_all}
use Rattle.gc_station.proofs.Lists.{all_on}
use Rattle.gc_station.proofs.Saying.{each_said, zero_said}
use Rattle.gc_catalogue.specs.declared.answer.Reading.TheVariants as reading
use Rattle.gc_texts.specs.declared.quality.Quality.TheVariants as quality

-- a reading that has an answer is that answer
its_answer : (x : Reading) (answer : Answer) → answer_in x ≡ Some answer → x ≡ reading.Value answer
its_answer (reading.Value a) answer e = ap (λ y. reading.Value y) (same_Some a answer e)
its_answer (reading.Refused code) answer e = cc
its_answer (reading.ComFault code) answer e = cc
its_answer (reading.Unreadable why) answer e = cc

module _ (commands : List Task) (scope : Scope) (r : Record) (form : Form) (line : List ℕ) (reply : ReplyFields) (are : AreReadings scope.reads) (is_reply : IsReply line reply) where
  -- what the line says by the form is what the reply says
  says_so : (x : Reading) → scope.reads (Some form) r.command.call line ≡ x → IsSaidInForm form reply x
  says_so x is =
      let said = each_said (Some form) r.command.call reply in
      let own = are (Some form) r.command.call line said.0 (record { reply = reply; is_reply = is_reply; is_reading = said.1 }) in
      subst (IsSaidInForm form reply) (sym own ∙ is) said.1

  -- what the line says with return code 0 is what the reply says with that
  says_zeroed : (x : Reading) → scope.reads (Some form) r.command.call (as_zero line) ≡ x → IsSaidInForm form (record reply { rc = 0 }) x
  says_zeroed x is =
      let said = each_said (Some form) r.command.call (record reply { rc = 0 }) in
      let own = are (Some form) r.command.call (as_zero line) said.0 (zero_said (Some form) r.command.call line reply said.0 is_reply said.1) in
      subst (IsSaidInForm form (record reply { rc = 0 })) (sym own ∙ is) said.1

  -- the answer of a line that has this quality is the form's
  answer_is : (k : Quality) (answer : Answer) → IsOfQuality (scope.reads (Some form)) (accepted_at commands r.place) r.command.call k (Some answer) line → IsFormAnswer form reply.params answer
  answer_is quality.Fine answer is = (says_so (reading.Value answer) (is.2 ∙ ap (λ y. reading.Value y) (sym (same_Some answer is.0 is.1)))).2
  answer_is quality.Warning answer (code, is, listed, has) =
      let z = scope.reads (Some form) r.command.call (as_zero line) in
      (says_zeroed (reading.Value answer) (its_answer z answer (sym has))).2
  answer_is quality.Unconfirmed answer is = absurd is
  answer_is quality.Refused answer is = let none = is.0 in cc

  -- a record that is as its text says is as the form reads the reply
  read_by : (plan : Plan) → form_at commands r.place ≡ Some form → line_of r.end ≡ Some line → IsAsItsText plan commands scope r → IsReadBy form r line reply
  read_by plan formed its is =
      record {
        answered = λ k answer e.
            let so = is.3 k (Some answer) line e in
            answer_is so.0 answer (subst (λ f. IsOfQuality (scope.reads f) (accepted_at commands r.place) r.command.call so.0 (Some answer) line) formed so.2);
        unreadable = λ why e. says_so (reading.Unreadable why) (ap (λ f. scope.reads f r.command.call line) (sym formed) ∙ is.6 line why e);
        faulty = λ why zero also fault.
            is.7 line why its
            (ap (λ f. scope.reads f r.command.call line) formed
            ∙ are (Some form) r.command.call line (reading.Unreadable why) (record { reply = reply; is_reply = is_reply; is_reading = (zero, also, fault) }));
      }

-- the law: each record of a reply to a described procedure is as its form reads the reply
pub described_read : DescribedAnswersAreReadByTheirKinds
described_read plan commands scope acts =
    all_on (IsAsItsText plan commands scope) (λ r. AreReadings scope.reads → IsReadByItsForm commands r) (state_after plan commands scope acts).records
    (λ r is are form line reply formed its is_reply. read_by commands scope r form line reply are is_reply plan formed its is) (kept_all plan commands scope acts).records
