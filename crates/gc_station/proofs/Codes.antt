-- A command is answered well where both codes of its reply are 0 and the values read, or where its return code is accepted,
-- unless it was measured elsewhere than where its target is. `line` is the reply line of a command with this call, and `r` its
-- fields; `reads` gives what each line says for a call (`AreReadings`), and `expected` what the command expects: the return
-- codes that it accepts, and the place of its target.
use Rattle.gc_station.proofs.Common.{◌≡◌, ◌==◌, ◌&&◌, ◌||◌, ◌⊎◌, inl, inr, ℕ, zero, suc, replicate, Bool, true, false, not, List, Option, Some, None, refl, sym, ap, ◌∙◌, list_any, eqb_tells, both_ways, ReplyFields, IsReply, Answer, Reading, Asked, Table, Raw, is_none, lists_code, no_codes, is_off_target, is_good, as_zero, Twice, Form, Judgement, Expected, Quality, GoodIsAnAnswer, quality_in, judged_by, unless_judged, passes_rules, answered_as, warned_as, refused_as, answer_as, end_of, is_well, IsSaid, AreReadings, Reads}
use Rattle.gc_client.specs.Prelude.{Answered}
use Rattle.gc_texts.specs.declared.codes.Codes.{Codes}
use Rattle.gc_station.specs.Codes.{WellIsAnAcceptedCode}
use Rattle.gc_station.proofs.Judging.{unjudged_passes}
use Rattle.gc_station.proofs.Saying.{zero_said}
use Rattle.gc_catalogue.specs.declared.answer.Reading.TheVariants as reading
use Rattle.gc_texts.specs.Endings as ends
use Rattle.gc_texts.specs.declared.agree.Twice.TheVariants as twice
use Rattle.gc_texts.specs.declared.quality.Quality.TheVariants as quality

-- a reply with a communication code other than 0 says that fault, whatever was asked, by a form or without one
pub com_fault_is : (form : Option Form) (asked : Asked) (r : ReplyFields) → (r.rc_com ≡ 0 → ⊥) → IsSaid form asked r (reading.ComFault r.rc_com)
com_fault_is None (Table call) r other = (other, refl)
com_fault_is None (Raw raw) r other = (other, refl)
com_fault_is (Some form) asked r other = (other, refl)

-- a reply with communication code 0 and a return code other than 0 says that refusal, whatever was asked, by a form or without one
pub refused_is : (form : Option Form) (asked : Asked) (r : ReplyFields) → r.rc_com ≡ 0 → (r.rc ≡ 0 → ⊥) → IsSaid form asked r (reading.Refused r.rc)
refused_is None (Table call) r none other = (none, other, refl)
refused_is None (Raw raw) r none other = (none, other, refl)
refused_is (Some form) asked r none other = (none, other, refl)

-- a good quality is a good one in each sending of a chain
good_in : (t : Twice) (q : Quality) → is_good q ≡ true → is_good (quality_in t q) ≡ true
good_in twice.Once q good = good
good_in twice.First q good = refl
good_in (twice.Second agree nth) q good = good

-- a command whose reply has these values, or none, and a good quality is answered well exactly if no rule sets it aside
answered_well : (expected : Expected) (q : Quality) → is_good q ≡ true → (away : Bool) (said : Option Answer) (line : List ℕ)
    → is_well (answered_as expected q away said line) ≡ passes_rules expected away said line
answered_well expected q good away said line =
    by_judgement (judged_by expected away said line) ∙ unjudged_passes expected away said line where
      -- the lemma above, by the judgement
      by_judgement : (o : Option Judgement) → is_well (unless_judged o (ends.Answered (quality_in expected.twice q) said line) line) ≡ is_none o
      by_judgement None = good_in expected.twice q good
      by_judgement (Some judgement) = refl

-- a code other than 0 isn't among places that all have 0
not_among_zeros : (n code : ℕ) → (code ≡ 0 → ⊥) → list_any (λ c. c == code) (replicate n 0) ≡ true → ⊥
not_among_zeros zero code some e = cc
not_among_zeros (suc n) code some e = elim (eqb_tells 0 code) as (λ _. ⊥) [
  | inl same ↦ some (sym same.1)
  | inr other ↦ not_among_zeros n code some (sym (ap (λ b. b || list_any (λ c. c == code) (replicate n 0)) other.0) ∙ e)
]

-- `no_codes` lists no code
none_accepted : (code : ℕ) → lists_code no_codes code ≡ true → ⊥
none_accepted code e = elim (eqb_tells code 0) as (λ _. ⊥) [
  | inl same ↦ let bad : false ≡ true = sym (ap (λ b. not b && list_any (λ c. c == code) (replicate 16 0)) same.0) ∙ e in cc
  | inr other ↦ not_among_zeros 16 code other.1 (sym (ap (λ b. not b && list_any (λ c. c == code) (replicate 16 0)) other.0) ∙ e)
]

-- if no code is accepted, a return code that is 0 or an accepted one is 0
without_codes : (accepted : Codes) (rc : ℕ) → accepted ≡ no_codes → (rc ≡ 0) ⊎ (lists_code accepted rc ≡ true) → rc ≡ 0
without_codes accepted rc none (inl same) = same
without_codes accepted rc none (inr some) = absurd (none_accepted rc (ap (λ (cs : Codes). lists_code cs rc) (sym none) ∙ some))

module _ (reads : Reads) (expected : Expected) (call : Asked) (line : List ℕ) (r : ReplyFields) (are : AreReadings reads) (is : IsReply line r) where
  -- if a reply's fields r mean `said` for the call (`IsSaid`), `reads` reads its line as `said`
  says : (said : Reading) → IsSaid expected.form call r said → reads expected.form call line ≡ said
  says said reading = are expected.form call line said (record { reply = r; is_reply = is; is_reading = reading })

  -- if the same fields with return code 0 mean `said`, `reads` reads the line with return code 0 (`as_zero`) as `said`
  says_zeroed : (said : Reading) → IsSaid expected.form call (record r { rc = 0 }) said → reads expected.form call (as_zero line) ≡ said
  says_zeroed said reading = are expected.form call (as_zero line) said (zero_said expected.form call line r said is reading)

  -- the ending of a command that this line answers is `answer_as` of what the line says, and of what it says with return code 0
  ended : (said : Reading) → reads expected.form call line ≡ said → end_of reads expected call (Answered line) ≡ answer_as expected said (reads expected.form call (as_zero line)) line
  ended said e = ap (λ x. answer_as expected x (reads expected.form call (as_zero line)) line) e

  -- a line that is a refusal ends the command as `refused_as` says, with b for whether the refusal's code is accepted
  ended_refused : (code : ℕ) (b : Bool) → reads expected.form call line ≡ reading.Refused code → lists_code expected.accepted code ≡ b
      → end_of reads expected call (Answered line) ≡ refused_as b expected (reads expected.form call (as_zero line)) line
  ended_refused code b e accepted = ended (reading.Refused code) e ∙ ap (λ x. refused_as x expected (reads expected.form call (as_zero line)) line) accepted

  -- a command that is refused with a code that isn't accepted isn't answered well
  refused_unwell : (code : ℕ) → reads expected.form call line ≡ reading.Refused code → lists_code expected.accepted code ≡ false → is_well (end_of reads expected call (Answered line)) ≡ false
  refused_unwell code e none = ap is_well (ended_refused code false e none)

  -- a command is answered well only if the communication code of its reply is 0
  com_zero : is_well (end_of reads expected call (Answered line)) ≡ true → r.rc_com ≡ 0
  com_zero well = elim (eqb_tells r.rc_com 0) as (λ _. r.rc_com ≡ 0) [
    | inl same ↦ same.1
    | inr other ↦ absurd
        (both_ways (is_well (end_of reads expected call (Answered line))) (ap is_well (ended (reading.ComFault r.rc_com) (says (reading.ComFault r.rc_com) (com_fault_is expected.form call r other.1)))) well)
  ]

  -- a command that is refused, and is answered well nevertheless, was refused with an accepted code
  accepted_one : (accepted : Bool) → lists_code expected.accepted r.rc ≡ accepted → reads expected.form call line ≡ reading.Refused r.rc → is_well (end_of reads expected call (Answered line)) ≡ true
      → lists_code expected.accepted r.rc ≡ true
  accepted_one true e said well = e
  accepted_one false e said well = absurd (both_ways (is_well (end_of reads expected call (Answered line))) (refused_unwell r.rc said e) well)

  -- a command whose reply has communication code 0 is answered well only if the return code is 0 or an accepted one
  rc_zero : r.rc_com ≡ 0 → is_well (end_of reads expected call (Answered line)) ≡ true → (r.rc ≡ 0) ⊎ (lists_code expected.accepted r.rc ≡ true)
  rc_zero none well = elim (eqb_tells r.rc 0) as (λ _. (r.rc ≡ 0) ⊎ (lists_code expected.accepted r.rc ≡ true)) [
    | inl same ↦ inl same.1
    | inr other ↦ inr (accepted_one (lists_code expected.accepted r.rc) refl (says (reading.Refused r.rc) (refused_is expected.form call r none other.1)) well)
  ]

  -- a command whose line says anything but an answer or a refusal with an accepted code isn't answered well
  unread_unwell : (said : Reading) → reads expected.form call line ≡ said → ((answer : Answer) → said ≡ reading.Value answer → ⊥)
      → ((code : ℕ) → said ≡ reading.Refused code → lists_code expected.accepted code ≡ false) → is_well (end_of reads expected call (Answered line)) ≡ false
  unread_unwell (reading.Value answer) e none unlisted = absurd (none answer refl)
  unread_unwell (reading.Refused code) e none unlisted = refused_unwell code e (unlisted code refl)
  unread_unwell (reading.ComFault code) e none unlisted = ap is_well (ended (reading.ComFault code) e)
  unread_unwell (reading.Unreadable fault) e none unlisted = ap is_well (ended (reading.Unreadable fault) e)

  -- a reply with both codes 0 and an answer ends a command as answered with the quality `Fine`, unless a rule sets it aside
  value_ends : (answer : Answer) → IsSaid expected.form call r (reading.Value answer)
      → end_of reads expected call (Answered line) ≡ answered_as expected quality.Fine (is_off_target expected.near answer) (Some answer) line
  value_ends answer has = ended (reading.Value answer) (says (reading.Value answer) has)

  -- a reply with an accepted return code other than 0 ends a command as `warned_as` says, by what its line says with return
  -- code 0
  warned_ends : (said : Reading) → r.rc_com ≡ 0 → (r.rc ≡ 0 → ⊥) → lists_code expected.accepted r.rc ≡ true → IsSaid expected.form call (record r { rc = 0 }) said
      → end_of reads expected call (Answered line) ≡ warned_as expected said line
  warned_ends said none some accepted read =
      ended_refused r.rc true (says (reading.Refused r.rc) (refused_is expected.form call r none some)) accepted ∙ ap (λ x. warned_as expected x line) (says_zeroed said read)

-- the law: if no code is accepted, the line of an answer of a good quality says an answer (both codes are 0), and the record has
-- it
pub without_accept : GoodIsAnAnswer
without_accept says call quality.Fine said line is good = is
without_accept says call quality.Warning said line (code, refusal, listed, has) good = absurd (none_accepted code listed)
without_accept says call quality.Unconfirmed said line is good = absurd is
without_accept says call quality.Refused said line is good = cc

-- the law: how a command that a reply in time ended is answered well or not, by its codes (`EndsByItsCodes`); and one that is
-- late, lost, skipped, without a value or missed never is answered well
pub accepted_codes : WellIsAnAcceptedCode
accepted_codes = record {
  replied = λ reads expected call line r are is. record {
    only = λ well.
        let first = com_zero reads expected call line r are is well in
        (first, rc_zero reads expected call line r are is first well);
    without = λ none well.
        let first = com_zero reads expected call line r are is well in
        (first, without_codes expected.accepted r.rc none (rc_zero reads expected call line r are is first well));
    unread = λ said reading none unlisted. unread_unwell reads expected call line r are is said (says reads expected call line r are is said reading) none unlisted;
    found = λ answer has.
        ap is_well (value_ends reads expected call line r are is answer has) ∙ answered_well expected quality.Fine refl (is_off_target expected.near answer) (Some answer) line;
    away = λ answer has off_target. value_ends reads expected call line r are is answer has ∙ ap (λ b. answered_as expected quality.Fine b (Some answer) line) off_target;
    warned = λ answer none some accepted has.
        ap is_well (warned_ends reads expected call line r are is (reading.Value answer) none some accepted has)
        ∙ answered_well expected quality.Warning refl (is_off_target expected.near answer) (Some answer) line;
    warned_away = λ answer none some accepted has off_target.
        warned_ends reads expected call line r are is (reading.Value answer) none some accepted has ∙ ap (λ b. answered_as expected quality.Warning b (Some answer) line) off_target;
    warned_without = λ fault none some accepted unreadable.
        warned_ends reads expected call line r are is (reading.Unreadable fault) none some accepted unreadable;
  };
  none = λ reads expected call. (refl, refl, refl, refl, refl);
}
