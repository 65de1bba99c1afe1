use Rattle.gc_texts.proofs.Common.{◌≡◌, Some, ap, sym, ◌∙◌, option_copied, pieces_left}
use Rattle.gc_texts.proofs.WordLists.{words_cut}
use Rattle.gc_texts.proofs.words.Words.next.Goals as goal

pub returns : goal.returns
returns c =
    let some : option_copied c.self.inside.left ≡ Some c.in_ok-text.text.now = ap option_copied c.in_ok-text.was in
    sym c.self.view_is ∙ ap (pieces_left c.self.inside.mark) some ∙ words_cut c.self.inside.mark c.in_ok-text.text.now c.cut_at.result.0.now (option_copied c.cut_at.result.1) c.cut_at.ensures
