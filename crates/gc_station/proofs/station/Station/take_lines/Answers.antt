use Rattle.gc_station.proofs.Common.{ap, sym, ◌∙◌, subst, is_none_left, Progress, is_heard, piece_heard, after_piece, Refines, Took, RefinesOrTookPart}
use Rattle.gc_station.proofs.station.Station.take_lines.Goals as goal

pub returns-then-not-is_heard-clause-takes : goal.returns-then-not-is_heard-clause-takes
returns-then-not-is_heard-clause-takes g c s start stands so =
    let self = c.args.self.now in
    let piece = c.args.piece.now in
    let taken = g.B.Book.taken c.args.book.now in
    let heard = sym c.if-not-is_heard.true ∙ c.is_heard.ensures ∙ ap (λ (p : Progress). is_heard p.phase) stands.progress in
    subst (λ b. Refines self (after_piece b s.progress.exchange.word piece s) × Took (g.B.Book.text c.args.book.now) start taken (after_piece b s.progress.exchange.word piece s)) heard (stands, so)

pub returns-clause-takes : goal.returns-clause-takes
returns-clause-takes g c s start stands so =
    let piece = c.args.piece.now in
    let heard = sym c.if-not-is_heard.false ∙ c.is_heard.ensures ∙ ap (λ (p : Progress). is_heard p.phase) stands.progress in
    let begun = c.has_begun-begun.ensures ∙ ap (λ (p : Progress). is_none_left p.exchange.word) stands.progress in
    subst (λ b. RefinesOrTookPart (g.B.Book.text c.args.book.now) s.records c.listen.new.self start (g.B.Book.taken c.listen.new.book) (after_piece b s.progress.exchange.word piece s) c.listen.result) heard
    (subst (λ b. RefinesOrTookPart (g.B.Book.text c.args.book.now) s.records c.listen.new.self start (g.B.Book.taken c.listen.new.book) (piece_heard b piece s) c.listen.result) begun
    (c.listen.ensures.listens s start stands so))
