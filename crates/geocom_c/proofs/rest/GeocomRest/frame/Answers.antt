use Rattle.geocom_c.proofs.Common.{◌≡◌, ◌∙◌, ◌++◌, [], None, ap, take, position, is_line_feed, frame_of}
use Rattle.geocom_c.proofs.LineFeeds.{none_found}
use Rattle.geocom_c.proofs.rest.GeocomRest.frame.Goals as goal

pub returns-clause-frame : goal.returns-clause-frame
returns-clause-frame c = λ rest at is some.
    let bytes = c.args.self.now.bytes in
    let none : position is_line_feed (take c.from.result bytes) ≡ None =
    ap (λ n. position is_line_feed (take n bytes)) c.from.ensures ∙ none_found (take c.args.self.now.length bytes) is.valid.unended in
    let stood = (c.take.ensures.more none).2 [] c.new-assembler.ensures in
    let whole = c.take-2.ensures.frame at some in
    (whole.0, whole.1 (take c.from.result bytes) stood ∙ ap (λ n. frame_of (take n bytes ++ take at c.args.piece.now)) c.from.ensures ∙ is.same (take at c.args.piece.now))
