use Rattle.gc_filters.proofs.Common.{inl, inr, List, ℕ, ap, subst, ◌∙◌, Scripted, before, behind, second_word, IsAnswerLine, rc_in_answer, IsScriptRead}
use Rattle.gc_filters.proofs.RuleForms.{read_as_answer}
use Rattle.gc_filters.proofs.SceneFields.{no_number, number_here}
use Rattle.gc_filters.proofs.scene_reading.read_answer.Goals as goal

pub returns-in_default : goal.returns-in_default
returns-in_default c =
    let no = no_number (IsAnswerLine c.args.line.now) (λ (x : Scripted). x.rpc) _ (second_word c.args.line.now) 65535 (c.second_word.ensures) (λ x h. h.begins.rpc_is) c.in_default.ensures in
    (no.0, (inr (inl c.requires), no.1))

pub returns-in_default-u16_of : goal.returns-in_default-u16_of
returns-in_default-u16_of c =
    let no = no_number (IsAnswerLine c.args.line.now) (λ (x : Scripted). x.rc) _ (rc_in_answer c.args.line.now) 65535 (c.before-2.ensures.is ∙ ap (before 44) c.after_two_words-from_rc.ensures) (λ x h. h.begins.rc_is) c.in_default-u16_of.ensures in
    (no.0, inr (c.requires, no.1))

pub returns : goal.returns
returns c =
    let cut = c.after_two_words-from_rc.ensures in
    read_as_answer c.args.line.now c.in-Some.rpc c.in-Some-u16_of.rc c.scripted.result
    (record {
      word = c.requires;
      rpc_is = number_here _ (second_word c.args.line.now) c.in-Some.rpc 65535 c.second_word.ensures c.in-Some.ensures;
      rc_is = number_here _ (rc_in_answer c.args.line.now) c.in-Some-u16_of.rc 65535 (c.before-2.ensures.is ∙ ap (before 44) cut) c.in-Some-u16_of.ensures;
    })
    (subst (λ (ps : List ℕ). IsScriptRead c.in-Some.rpc c.in-Some-u16_of.rc ps c.scripted.result) (c.behind.ensures.is ∙ ap (behind 44) cut) c.scripted.ensures)
