use Rattle.gc_options.proofs.Common.{◌≡◌, ◌∙◌, Some, sym, subst, ap, option_map, text_in, words_of}
use Rattle.gc_options.proofs.LimitLemmas.{limit_read}
use Rattle.gc_options.proofs.limit.limit_in.Goals as goal

pub returns : goal.returns
returns c =
    limit_read (words_of c.args.words.now) c.args.limit c.in_ok-text_in.field-0.now
    (subst (λ name. text_in (words_of c.args.words.now) name ≡ Some c.in_ok-text_in.field-0.now) c.name.ensures
    (sym c.text_in.ensures ∙ ap (option_map (λ text. text.now)) c.in_ok-text_in.was))
    c.said_by.result c.said_by.ensures.found c.said_by.ensures.only
