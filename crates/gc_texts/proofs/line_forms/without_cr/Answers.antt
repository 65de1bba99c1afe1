use Rattle.gc_texts.proofs.Common.{◌≡◌, ◌∙◌, sym, ap, ◌++◌, [], ◌∷◌, Some, None, strip_suffix_is, Decides-eqb, without_cr}
use Rattle.gc_texts.proofs.LineEnds.{without_cr-end, without_cr-none}
use Rattle.gc_texts.proofs.line_forms.without_cr.Goals as goal

pub returns-in-Some : goal.returns-in-Some
returns-in-Some c =
    let e : c.args.line.now ≡ c.in-Some.front.now ++ 13 ∷ [] = strip_suffix_is Decides-eqb c.args.line.now (13 ∷ []) (Some c.in-Some.front) c.in-Some.ensures.cases in
    sym (ap without_cr e ∙ without_cr-end c.in-Some.front.now)

pub returns-in-None : goal.returns-in-None
returns-in-None c = sym (without_cr-none c.args.line.now (strip_suffix_is Decides-eqb c.args.line.now (13 ∷ []) None c.in-None.ensures.cases))
