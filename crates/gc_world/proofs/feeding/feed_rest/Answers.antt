use Rattle.gc_world.proofs.Common.{◌≡◌, ◌∷◌, [], ◌++◌, drop, ap, ◌∙◌, with_end}
use Rattle.gc_world.proofs.Pieces.{fed_rest}
use Rattle.gc_world.proofs.feeding.feed_rest.Goals as goal

pub returns-clause-line : goal.returns-clause-line
returns-clause-line c =
    let line = c.args.line.now in
    let whole : c.append-2.new.to.items ≡ with_end line =
    c.append-2.ensures ∙ ap (λ bs. bs ++ 13 ∷ 10 ∷ []) (c.append.ensures ∙ ap (λ bs. bs ++ line) c.clear.ensures) in
    let piece = c.bytes_from.ensures ∙ ap (drop c.args.gone) (c.as_slice.ensures.value ∙ whole) in
    (fed_rest c.args.assembler.now c.next.new.self line c.args.gone c.bytes_from.result.now c.requires.plain c.requires.within c.requires.some piece
    c.next.ensures.frame c.requires.stands).0

pub returns-clause-start : goal.returns-clause-start
returns-clause-start c =
    let line = c.args.line.now in
    let whole : c.append-2.new.to.items ≡ with_end line =
    c.append-2.ensures ∙ ap (λ bs. bs ++ 13 ∷ 10 ∷ []) (c.append.ensures ∙ ap (λ bs. bs ++ line) c.clear.ensures) in
    let piece = c.bytes_from.ensures ∙ ap (drop c.args.gone) (c.as_slice.ensures.value ∙ whole) in
    (fed_rest c.args.assembler.now c.next.new.self line c.args.gone c.bytes_from.result.now c.requires.plain c.requires.within c.requires.some piece
    c.next.ensures.frame c.requires.stands).1
