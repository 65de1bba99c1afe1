-- What a row has of an answer, by the quality of its line.
use Rattle.gc_program_theorems.proofs.Common.{◌≡◌, ℕ, List, Option, Some, None, if◌then◌else◌, refl, sym, ap, ◌∙◌, subst, ReplyFields, IsReply, Answer, Reading, Asked, as_zero, Quality, answer_in, IsRefusedReading, IsOfQuality, IsSaid, AreReadings, Reads, zero_said, quality_in, quantity_source}
use Rattle.gc_texts.specs.declared.codes.Codes.{Codes}
use Rattle.gc_texts.specs.declared.form.Form.{Form}
use Rattle.gc_catalogue.specs.declared.answer.Reading.TheVariants as reading
use Rattle.gc_texts.specs.declared.quality.Quality.TheVariants as quality

-- where `answer_in` gives an answer of a reading, the reading is that answer
pub value_if_some : (told : Reading) (answer : Answer) → answer_in told ≡ Some answer → told ≡ reading.Value answer
value_if_some (reading.Value a) answer e = let same : a ≡ answer = cc in ap reading.Value same
value_if_some (reading.Refused code) answer e = cc
value_if_some (reading.ComFault code) answer e = cc
value_if_some (reading.Unreadable fault) answer e = cc

-- where `answer_in` gives none of a reading, the reading is no answer
pub no_value_if_none : (told : Reading) → answer_in told ≡ None → (answer : Answer) → told ≡ reading.Value answer → ⊥
no_value_if_none told none answer is = let bad : Some answer ≡ None = sym (ap answer_in is) ∙ none in cc

-- a reading that is a refusal (`IsRefusedReading`) has the quality `Refused`, and no answer
refused_in : (accepted : Codes) (x : Reading) → IsRefusedReading accepted x → (quality_in accepted x ≡ quality.Refused) × (answer_in x ≡ None)
refused_in accepted (reading.Value answer) is = absurd is
refused_in accepted (reading.Refused code) is = (ap (λ b. if b then quality.Warning else quality.Refused) is, refl)
refused_in accepted (reading.ComFault code) is = (refl, refl)
refused_in accepted (reading.Unreadable fault) is = absurd is

module _ (reads : Reads) (are : AreReadings reads) (accepted : Codes) (form : Option Form) (call : Asked) (line : List ℕ) (reply : ReplyFields) (is_reply : IsReply line reply)
    (said told : Reading) (is_said : IsSaid form call reply said) (is_told : IsSaid form call (quantity_source (quality_in accepted said) reply) told) where
  -- where x is what the fields of the line's reply say of the call, `reads` gives x of the line
  line_says : (x : Reading) → IsSaid form call reply x → reads form call line ≡ x
  line_says x is = are form call line x (record { reply = reply; is_reply = is_reply; is_reading = is })

  -- q is the quality of an answer whose line says `said`, and `values` are the values of `told`, the reading from which a row
  -- has its quantities
  pub record IsJudged (q : Quality) (values : Option Answer) : Type 0 where
    pub quality_is : q ≡ quality_in accepted said
    pub values_are : values ≡ answer_in told

  -- where q is the quality of `said`, and doesn't change the fields of the reply (`quantity_source`), `told`, the reading from
  -- which a row has its quantities, is what `reads` gives of the line
  quantity_reading_is : (q : Quality) → quality_in accepted said ≡ q → (quantity_source q reply ≡ reply) → reads form call line ≡ told
  quantity_reading_is q is same = line_says told (subst (λ (r : ReplyFields). IsSaid form call r told) (ap (λ (k : Quality). quantity_source k reply) is ∙ same) is_told)

  -- if an answer in this line is of the quality q, with these values (`IsOfQuality`), `IsJudged` holds of q and the values
  pub judged : (q : Quality) (values : Option Answer) → IsOfQuality (reads form) accepted call q values line → IsJudged q values
  judged quality.Fine values (answer, has, value) =
      let is : said ≡ reading.Value answer = sym (line_says said is_said) ∙ value in
      let fine : quality_in accepted said ≡ quality.Fine = ap (quality_in accepted) is in
      let same : told ≡ reading.Value answer = sym (quantity_reading_is quality.Fine fine refl) ∙ value in
      record { quality_is = sym fine; values_are = has ∙ sym (ap answer_in same) }
  judged quality.Warning values (code, refusal, listed, has) =
      let is : said ≡ reading.Refused code = sym (line_says said is_said) ∙ refusal in
      let warned : quality_in accepted said ≡ quality.Warning = ap (quality_in accepted) is ∙ ap (λ b. if b then quality.Warning else quality.Refused) listed in
      let zeroed : IsSaid form call (record reply { rc = 0 }) told = subst (λ (k : Quality). IsSaid form call (quantity_source k reply) told) warned is_told in
      let same : reads form call (as_zero line) ≡ told = are form call (as_zero line) told (zero_said form call line reply told is_reply zeroed) in
      record { quality_is = sym warned; values_are = has ∙ ap answer_in same }
  judged quality.Unconfirmed values is = absurd is
  judged quality.Refused values (none, refusal) =
      let is : reads form call line ≡ said = line_says said is_said in
      let both = refused_in accepted said (subst (IsRefusedReading accepted) is refusal) in
      let same : told ≡ said = sym (quantity_reading_is quality.Refused both.0 refl) ∙ is in
      record { quality_is = sym both.0; values_are = none ∙ sym (ap answer_in same ∙ both.1) }
