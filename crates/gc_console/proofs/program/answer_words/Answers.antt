use Rattle.gc_console.proofs.Common.{inl, inr, sym, ◌∙◌, IfOk-weaker}
use Rattle.gc_console.proofs.program.answer_words.Goals as goal

pub returns-then-matches-clause-answered : goal.returns-then-matches-clause-answered
returns-then-matches-clause-answered g c =
    IfOk-weaker c.report_out_of_memory.result _ _ (λ status lacks. record { is = inr (inl lacks) }) c.report_out_of_memory.ensures

pub returns-then-use_stderr-clause-answered : goal.returns-then-use_stderr-clause-answered
returns-then-use_stderr-clause-answered g c =
    IfOk-weaker c.refuse_unparsed.result _ _ (λ status is. record { is = inr (inr is) }) c.refuse_unparsed.ensures

pub returns-clause-answered : goal.returns-clause-answered
returns-clause-answered g c =
    let asks = sym c.ask_for_text.ensures ∙ c.if-not-ask_for_text.false in
    IfOk-weaker c.show.result _ _ (λ status shows. record { is = inl (asks, shows) }) c.show.ensures
