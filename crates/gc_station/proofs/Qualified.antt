-- How a settled command ended is what its line says of its call: the quality of its answer, where its answer was measured, and
-- the answer itself. `answer_as`, `answered_as`, `warned_as` and `refused_as` are the endings of a command by a reply in time, an
-- answer, a reply with an accepted code, and a refusal. A reading `z` is what the line says with return code 0. An answer is
-- off target (`away`) where its direction isn't near the target's place, or its distance isn't the target's.
use Rattle.gc_station.proofs.Common.{◌≡◌, inl, inr, ℕ, Bool, true, false, List, Option, Some, None, refl, sym, ap, ◌∙◌, subst, same_Some, Answer, Reading, Asked, lists_code, End, Answered, Judged, line_of, meets, is_off_target, as_zero, is_good, Twice, Judgement, OffTarget, Unexpected, Disagree, Expected, Quality, agrees_in, quality_in, judged_by, answered_as, warned_as, refused_as, answer_as, end_of, is_well, HasAnswer, answer_in, IsRefusedReading, IsOfQuality, quality_as, Reads}
use Rattle.gc_texts.specs.declared.agree.Agree.{Agree}
use Rattle.gc_station.proofs.Judging.{Passes, passes, answered_unjudged, judged_so, judged_away, judged_unmet, judged_apart}
use Rattle.gc_station.proofs.Meets.{settled_answered}
use Rattle.gc_catalogue.specs.declared.answer.Reading.TheVariants as reading
use Rattle.gc_client.specs.Rule
use Rattle.gc_texts.specs.declared.agree.Twice.TheVariants as twice
use Rattle.gc_texts.specs.declared.quality.Quality.TheVariants as quality

-- Where an answer was measured.

module _ (expected : Expected) (line : List ℕ) where
  -- what ends a command as answered, with these values and this quality: it would have the quality q if its chain were sent once, it has
  -- these values (`given`), and no rule sets it aside
  pub record IsAnsweredSo (q k : Quality) (away : Bool) (given said : Option Answer) : Type 0 where
    pub quality : quality_in expected.twice q ≡ k
    pub same : given ≡ said
    pub passes : Passes expected away given line

  -- if `answered_as` ends a command as answered, it is so
  pub answered_so : (q k : Quality) (away : Bool) (given said : Option Answer) → answered_as expected q away given line ≡ Answered k said line → IsAnsweredSo q k away given said
  answered_so q k away given said e =
      let so = answered_unjudged (quality_in expected.twice q) given line (judged_by expected away given line) k said e in
      record { quality = so.1; same = so.2; passes = passes expected away given line so.0 }

  -- if an answer `a` ends a command as answered, with the answer `answer`, that answer isn't off target
  value_near : (q k : Quality) (a answer : Answer) → answered_as expected q (is_off_target expected.near a) (Some a) line ≡ Answered k (Some answer) line
      → is_off_target expected.near answer ≡ false
  value_near q k a answer e =
      let so = answered_so q k (is_off_target expected.near a) (Some a) (Some answer) e in
      ap (is_off_target expected.near) (sym (same_Some a answer so.same)) ∙ so.passes.here

  -- if a reply with an accepted code ends a command as answered, with an answer, that answer isn't off target
  warned_near : (z : Reading) (k : Quality) (answer : Answer) → warned_as expected z line ≡ Answered k (Some answer) line → is_off_target expected.near answer ≡ false
  warned_near (reading.Value a) k answer e = value_near quality.Warning k a answer e
  warned_near (reading.Refused code) k answer e = let so = (answered_so quality.Warning k false None (Some answer) e).same in cc
  warned_near (reading.ComFault code) k answer e = let so = (answered_so quality.Warning k false None (Some answer) e).same in cc
  warned_near (reading.Unreadable fault) k answer e = let so = (answered_so quality.Warning k false None (Some answer) e).same in cc

  -- if a refusal, accepted (b) or not, ends a command as answered, with an answer, that answer isn't off target
  refused_near : (b : Bool) (z : Reading) (k : Quality) (answer : Answer) → refused_as b expected z line ≡ Answered k (Some answer) line → is_off_target expected.near answer ≡ false
  refused_near true z k answer e = warned_near z k answer e
  refused_near false z k answer e = cc

  -- what a line says is an answer that was measured off target
  record IsAway (z : Reading) : Type 0 where
    answer : Answer
    said : z ≡ reading.Value answer
    away : is_off_target expected.near answer ≡ true

  -- a rule sets a reply aside so. `z` is what its line says, or would say with return code 0; if the answer was measured elsewhere, it is that
  record IsSetAside (z : Reading) (j : Judgement) : Type 0 where
    away : Bool
    given : Option Answer
    judged : judged_by expected away given line ≡ Some j
    elsewhere : away ≡ true → IsAway z

  -- what `answered_as` ends as judged is so, if it has an answer
  value_judged : (q : Quality) (a : Answer) (j : Judgement) → answered_as expected q (is_off_target expected.near a) (Some a) line ≡ Judged j line → IsSetAside (reading.Value a) j
  value_judged q a j e =
      record {
        away = is_off_target expected.near a;
        given = Some a;
        judged = judged_so (quality_in expected.twice q) (Some a) line (judged_by expected (is_off_target expected.near a) (Some a) line) j e;
        elsewhere = λ is. record { answer = a; said = refl; away = is };
      }

  -- so it is if it has none
  empty_judged : (z : Reading) (j : Judgement) → answered_as expected quality.Warning false None line ≡ Judged j line → IsSetAside z j
  empty_judged z j e =
      record {
        away = false;
        given = None;
        judged = judged_so (quality_in expected.twice quality.Warning) None line (judged_by expected false None line) j e;
        elsewhere = λ is. cc;
      }

  -- so is a reply with an accepted code
  warned_judged : (z : Reading) (j : Judgement) → warned_as expected z line ≡ Judged j line → IsSetAside z j
  warned_judged (reading.Value a) j e = value_judged quality.Warning a j e
  warned_judged (reading.Refused code) j e = empty_judged (reading.Refused code) j e
  warned_judged (reading.ComFault code) j e = empty_judged (reading.ComFault code) j e
  warned_judged (reading.Unreadable fault) j e = empty_judged (reading.Unreadable fault) j e

  -- so is any refusal, and its code is accepted (b)
  refused_judged : (b : Bool) (z : Reading) (j : Judgement) → refused_as b expected z line ≡ Judged j line → (b ≡ true) × IsSetAside z j
  refused_judged true z j e = (refl, warned_judged z j e)
  refused_judged false z j e = cc

  -- what ends a command as answered, and not refused: it has this quality in its sending, agrees with the answer of the first one, if it is
  -- of a second, and its line is as expected
  pub record IsGoodSo (k : Quality) (said : Option Answer) : Type 0 where
    pub would_be : Quality
    pub quality : quality_in expected.twice would_be ≡ k
    pub agrees : agrees_in expected.twice expected.first said ≡ true
    pub expects : meets expected.expects expected.before line ≡ true

  -- `answered_as` ends a command so
  answered_good : (q k : Quality) (away : Bool) (given said : Option Answer) → answered_as expected q away given line ≡ Answered k said line → IsGoodSo k said
  answered_good q k away given said e =
      let so = answered_so q k away given said e in
      record { would_be = q; quality = so.quality; agrees = ap (agrees_in expected.twice expected.first) (sym so.same) ∙ so.passes.agrees; expects = so.passes.expects }

  -- and a reply with an accepted code
  warned_good : (z : Reading) (k : Quality) (said : Option Answer) → warned_as expected z line ≡ Answered k said line → IsGoodSo k said
  warned_good (reading.Value a) k said e = answered_good quality.Warning k (is_off_target expected.near a) (Some a) said e
  warned_good (reading.Refused code) k said e = answered_good quality.Warning k false None said e
  warned_good (reading.ComFault code) k said e = answered_good quality.Warning k false None said e
  warned_good (reading.Unreadable fault) k said e = answered_good quality.Warning k false None said e

  -- and any refusal, if it isn't refused
  refused_good : (b : Bool) (z : Reading) (k : Quality) (said : Option Answer) → refused_as b expected z line ≡ Answered k said line → is_good k ≡ true → IsGoodSo k said
  refused_good true z k said e good = warned_good z k said e
  refused_good false z k said e good = let same : quality.Refused ≡ k = cc in let bad : false ≡ true = ap is_good same ∙ good in cc

  -- and any reply in time
  answer_good : (x z : Reading) (k : Quality) (said : Option Answer) → answer_as expected x z line ≡ Answered k said line → is_good k ≡ true → IsGoodSo k said
  answer_good (reading.Value a) z k said e good = answered_good quality.Fine k (is_off_target expected.near a) (Some a) said e
  answer_good (reading.Refused code) z k said e good = refused_good (lists_code expected.accepted code) z k said e good
  answer_good (reading.ComFault code) z k said e good = let same : quality.Refused ≡ k = cc in let bad : false ≡ true = ap is_good same ∙ good in cc
  answer_good (reading.Unreadable fault) z k said e good = cc

  -- a command is of a second sending
  abbrev pub IsSecond : Twice → Type 0
  IsSecond t = (agree : Agree) × (nth : ℕ) × (t ≡ twice.Second agree nth)

  -- an answer that doesn't agree is of a second sending
  second_of : (t : Twice) (first : Option (Option Answer)) (given : Option Answer) → agrees_in t first given ≡ false → IsSecond t
  second_of twice.Once first given e = cc
  second_of twice.First first given e = cc
  second_of (twice.Second agree nth) first given e = (agree, nth, refl)

module _ (reads : Reads) (expected : Expected) (call : Asked) (line : List ℕ) where
  -- if a command ends as answered, and isn't refused, it is so (`IsGoodSo`)
  pub ended_good : (o : Rule.Outcome) (k : Quality) (said : Option Answer) → end_of reads expected call o ≡ Answered k said line → is_good k ≡ true → IsGoodSo expected line k said
  ended_good o k said e good =
      let is : o ≡ Rule.Answered line = settled_answered reads expected call o line (ap line_of e) in
      answer_good expected line (reads expected.form call line) (reads expected.form call (as_zero line)) k said (subst (λ (x : Rule.Outcome). end_of reads expected call x ≡ Answered k said line) is e) good

  -- if a command is answered well, its line is as expected
  pub ended_met : (o : Rule.Outcome) → line_of (end_of reads expected call o) ≡ Some line → is_well (end_of reads expected call o) ≡ true → meets expected.expects expected.before line ≡ true
  ended_met o its good = by_end (end_of reads expected call o) refl its good where
    -- the lemma above, by how it ends
    by_end : (end : End) → end_of reads expected call o ≡ end → line_of end ≡ Some line → is_well end ≡ true → meets expected.expects expected.before line ≡ true
    by_end (Answered k said l) e its good =
        let same : l ≡ line = same_Some l line its in (ended_good o k said (subst (λ (y : List ℕ). end_of reads expected call o ≡ Answered k said y) same e) good).expects
    by_end end e its good = cc

  -- if a reply in time, which says x, ends a command as answered, with an answer, that answer isn't off target
  answer_near : (x z : Reading) (k : Quality) (answer : Answer) → answer_as expected x z line ≡ Answered k (Some answer) line → is_off_target expected.near answer ≡ false
  answer_near (reading.Value a) z k answer e = value_near expected line quality.Fine k a answer e
  answer_near (reading.Refused code) z k answer e = refused_near expected line (lists_code expected.accepted code) z k answer e
  answer_near (reading.ComFault code) z k answer e = cc
  answer_near (reading.Unreadable fault) z k answer e = cc

  -- if a command ends as answered, with an answer, that answer isn't off target
  pub ended_near : (o : Rule.Outcome) (k : Quality) (answer : Answer) → end_of reads expected call o ≡ Answered k (Some answer) line → is_off_target expected.near answer ≡ false
  ended_near o k answer e =
      let is : o ≡ Rule.Answered line = settled_answered reads expected call o line (ap line_of e) in
      answer_near (reads expected.form call line) (reads expected.form call (as_zero line)) k answer (subst (λ (x : Rule.Outcome). end_of reads expected call x ≡ Answered k (Some answer) line) is e)

  -- the line has an answer that was measured off target
  abbrev HasAwayAnswer : Type 0
  HasAwayAnswer = (answer : Answer) × HasAnswer (reads expected.form) expected.accepted call line answer × (is_off_target expected.near answer ≡ true)

  -- a rule sets the reply aside so. If the answer was measured elsewhere, the line has one that was measured off target
  record IsJudgedSo (j : Judgement) : Type 0 where
    away : Bool
    given : Option Answer
    judged : judged_by expected away given line ≡ Some j
    elsewhere : away ≡ true → HasAwayAnswer

  -- if a reply in time, which says x, ends a command as judged, it is so
  answer_judged : (x z : Reading) (j : Judgement) → reads expected.form call line ≡ x → reads expected.form call (as_zero line) ≡ z → answer_as expected x z line ≡ Judged j line → IsJudgedSo j
  answer_judged (reading.Value a) z j is zs e =
      let so = value_judged expected line quality.Fine a j e in
      record {
        away = so.away;
        given = so.given;
        judged = so.judged;
        elsewhere = λ away. let its = so.elsewhere away in (its.answer, inl (is ∙ its.said), its.away);
      }
  answer_judged (reading.Refused code) z j is zs e =
      let both = refused_judged expected line (lists_code expected.accepted code) z j e in
      record {
        away = both.1.away;
        given = both.1.given;
        judged = both.1.judged;
        elsewhere = λ away. let its = both.1.elsewhere away in (its.answer, inr (code, is, both.0, zs ∙ its.said), its.away);
      }
  answer_judged (reading.ComFault code) z j is zs e = cc
  answer_judged (reading.Unreadable fault) z j is zs e = cc

  -- if a command ends as judged, it is so
  ended_judged : (o : Rule.Outcome) (j : Judgement) → end_of reads expected call o ≡ Judged j line → IsJudgedSo j
  ended_judged o j e =
      let is : o ≡ Rule.Answered line = settled_answered reads expected call o line (ap line_of e) in
      answer_judged (reads expected.form call line) (reads expected.form call (as_zero line)) j refl refl (subst (λ (x : Rule.Outcome). end_of reads expected call x ≡ Judged j line) is e)

  -- if a command ends as off target, its line has an answer that was measured off target
  pub ended_away : (o : Rule.Outcome) → end_of reads expected call o ≡ Judged OffTarget line → HasAwayAnswer
  ended_away o e =
      let so = ended_judged o OffTarget e in
      so.elsewhere (judged_away expected so.away so.given line so.judged)

  -- if a command ends as unexpected, its line isn't as expected
  pub ended_unmet : (o : Rule.Outcome) → end_of reads expected call o ≡ Judged Unexpected line → meets expected.expects expected.before line ≡ false
  ended_unmet o e =
      let so = ended_judged o Unexpected e in
      judged_unmet expected so.away so.given line so.judged

  -- if a command ends as disagreeing, it is of a second sending
  pub ended_second : (o : Rule.Outcome) → end_of reads expected call o ≡ Judged Disagree line → IsSecond expected line expected.twice
  ended_second o e =
      let so = ended_judged o Disagree e in
      second_of expected line expected.twice expected.first so.given
      (judged_apart expected so.away so.given line so.judged)

  -- The quality.

  module _ (k : Quality) (said : Option Answer) where
    -- the line has a quality that its sending makes k (`quality_as`), and the answer `said`, as `IsOfQuality` says
    abbrev LineIsOfQuality : Type 0
    LineIsOfQuality = (plain : Quality) × (k ≡ quality_as expected.twice plain) × IsOfQuality (reads expected.form) expected.accepted call plain said line

    -- `Fine` is in each sending as `quality_as` has it
    fine_in : (t : Twice) → quality_in t quality.Fine ≡ quality_as t quality.Fine
    fine_in twice.Once = refl
    fine_in twice.First = refl
    fine_in (twice.Second agree nth) = refl

    -- so is `Warning`
    warning_in : (t : Twice) → quality_in t quality.Warning ≡ quality_as t quality.Warning
    warning_in twice.Once = refl
    warning_in twice.First = refl
    warning_in (twice.Second agree nth) = refl

    -- a refusal is one in each sending
    refusal_in : (t : Twice) → quality_as t quality.Refused ≡ quality.Refused
    refusal_in twice.Once = refl
    refusal_in twice.First = refl
    refusal_in (twice.Second agree nth) = refl

    -- a line that says an answer has the quality with which it ends a command as answered: that of `Fine` in its sending, and that answer
    value_quality : (a : Answer) (away : Bool) → reads expected.form call line ≡ reading.Value a → answered_as expected quality.Fine away (Some a) line ≡ Answered k said line → LineIsOfQuality
    value_quality a away is e =
        let so = answered_so expected line quality.Fine k away (Some a) said e in
        (quality.Fine, sym so.quality ∙ fine_in expected.twice, (a, sym so.same, is))

    module _ (code : ℕ) (is : reads expected.form call line ≡ reading.Refused code) where
      -- a line with an accepted code has the quality with which it ends a command as answered: that of `Warning` in its sending, and the
      -- answer, if any, that it says with return code 0
      warning_quality : (z : Reading) (away : Bool) (given : Option Answer) → lists_code expected.accepted code ≡ true → reads expected.form call (as_zero line) ≡ z → given ≡ answer_in z
          → answered_as expected quality.Warning away given line ≡ Answered k said line → LineIsOfQuality
      warning_quality z away given listed zs has e =
          let so = answered_so expected line quality.Warning k away given said e in
          (quality.Warning, sym so.quality ∙ warning_in expected.twice, (code, is, listed, sym so.same ∙ has ∙ ap answer_in (sym zs)))

      -- a line with an accepted code has the quality with which it ends a command as answered, whatever it says with return
      -- code 0
      warned_quality : (z : Reading) → lists_code expected.accepted code ≡ true → reads expected.form call (as_zero line) ≡ z → warned_as expected z line ≡ Answered k said line → LineIsOfQuality
      warned_quality (reading.Value a) listed zs e = warning_quality (reading.Value a) (is_off_target expected.near a) (Some a) listed zs refl e
      warned_quality (reading.Refused c) listed zs e = warning_quality (reading.Refused c) false None listed zs refl e
      warned_quality (reading.ComFault c) listed zs e = warning_quality (reading.ComFault c) false None listed zs refl e
      warned_quality (reading.Unreadable fault) listed zs e = warning_quality (reading.Unreadable fault) false None listed zs refl e

    -- a line that is a refusal without an accepted code has the quality `Refused`, and no answer
    refusal_quality : (x : Reading) → reads expected.form call line ≡ x → IsRefusedReading expected.accepted x → quality.Refused ≡ k → ◌≡◌ {A = Option Answer} None said → LineIsOfQuality
    refusal_quality x is none same has =
        (quality.Refused, sym same ∙ sym (refusal_in expected.twice), (sym has, subst (IsRefusedReading expected.accepted) (sym is) none))

    -- a refusal, whether its code is accepted (b) or not, has the quality with which it ends a command as answered
    refused_quality : (code : ℕ) (b : Bool) (z : Reading) → lists_code expected.accepted code ≡ b → reads expected.form call line ≡ reading.Refused code → reads expected.form call (as_zero line) ≡ z
        → refused_as b expected z line ≡ Answered k said line → LineIsOfQuality
    refused_quality code true z listed is zs e = warned_quality code is z listed zs e
    refused_quality code false z none is zs e = let same : quality.Refused ≡ k = cc in let has : ◌≡◌ {A = Option Answer} None said = cc in refusal_quality (reading.Refused code) is none same has

    -- a line that says x has the quality with which it ends a command as answered
    answer_quality : (x z : Reading) → reads expected.form call line ≡ x → reads expected.form call (as_zero line) ≡ z → answer_as expected x z line ≡ Answered k said line → LineIsOfQuality
    answer_quality (reading.Value a) z is zs e = value_quality a (is_off_target expected.near a) is e
    answer_quality (reading.Refused code) z is zs e = refused_quality code (lists_code expected.accepted code) z refl is zs e
    answer_quality (reading.ComFault code) z is zs e = let same : quality.Refused ≡ k = cc in let has : ◌≡◌ {A = Option Answer} None said = cc in refusal_quality (reading.ComFault code) is tt same has
    answer_quality (reading.Unreadable fault) z is zs e = cc

    -- if a command ends as answered, its line has the quality and the answer of that ending
    pub ended_quality : (o : Rule.Outcome) → end_of reads expected call o ≡ Answered k said line → LineIsOfQuality
    ended_quality o e =
        let is : o ≡ Rule.Answered line = settled_answered reads expected call o line (ap line_of e) in
        answer_quality (reads expected.form call line) (reads expected.form call (as_zero line)) refl refl (subst (λ (x : Rule.Outcome). end_of reads expected call x ≡ Answered k said line) is e)
