use Rattle.gc_console.proofs.Common.{◌≡◌, true, inr, map, ap, sym, subst, ◌∙◌, Some, IfOk-weaker, list_any, exit_status, string_bytes, takes, asks_for_text, opening, program}
use Rattle.clap.proofs.WalkLemmas.{list_any-map}
use Rattle.gc_console.proofs.Unasked.{no_job}
use Rattle.gc_console.proofs.system.System.run_words.Goals as goal

pub returns-clause-done : goal.returns-clause-done
returns-clause-done g c =
    IfOk-weaker c.answer_words-ended.result _ _ (λ status none. inr none)
    (no_job c.answer_words-ended.result exit_status
    (opening (g.I.Read.remaining c.args.streams.input) (Some c.args.streams.messages.said.bytes)) (map string_bytes c.args.words.items)
    c.said_of.result _ (Some c.answer_words-ended.new.messages.said.bytes)
    (ap (list_any (λ word. asks_for_text (string_bytes word))) c.as_slice-in-Err.ensures.value ∙ list_any-map asks_for_text string_bytes c.args.words.items)
    (ap (λ said. Some said.bytes) (sym c.said_of.ensures.said)) c.answer_words-ended.ensures.answered
    (λ taken. c.answer_words-ended.ensures.memory
    (c.in-Err.ensures.taken (subst (λ words. takes program (map string_bytes words) ≡ true) (sym c.as_slice.ensures.value) taken)))
    c.said_of.ensures.none)
