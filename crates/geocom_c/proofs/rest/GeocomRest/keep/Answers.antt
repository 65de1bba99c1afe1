use Rattle.geocom_c.proofs.Common.{rules, ◌≡◌, ◌+◌, ◌-◌, ◌++◌, ◌∙◌, ap, ap₂, arith, take, length, length-take, take_all}
use Rattle.geocom_c.proofs.LineFeeds.{clean_if_none_found}
use Rattle.geocom_c.proofs.Keeping.{all_rest, cut_rest}
use Rattle.geocom_c.proofs.rest.GeocomRest.keep.Goals as goal

pub returns-then-fitting-piece : goal.returns-then-fitting-piece
returns-then-fitting-piece c = λ rest is none.
    let bytes = c.args.self.now.bytes in
    let p = c.args.piece.now in
    let t = take c.args.self.now.length bytes in
    let f = c.min-fitting.result in
    let n : c.args.self.now.length ≡ length t = omega (arith, length-take c.args.self.now.length bytes, c.put_text.ensures.fits, c.put_text.ensures.written.length, c.from-length.ensures) in
    let room : f ≡ 514 - c.args.self.now.length = omega (arith, c.min-fitting.ensures, c.from-length.ensures, c.if-fitting-piece.true) in
    let sum : c.args.self.now.length + f ≡ c.from-length.result + length (take f p) = omega (arith, c.from-length.ensures, length-take f p, c.if-fitting-piece.true) in
    let text : take (c.args.self.now.length + f) c.put_text.new.bytes ≡ t ++ take f p =
    ap (λ m. take m c.put_text.new.bytes) sum ∙ c.put_text.ensures.text ∙ ap (λ m. take m bytes ++ take f p) c.from-length.ensures in
    cut_rest c.put_text.new.bytes t p rest c.args.self.now.length f n is.valid.unended (clean_if_none_found p none) is.same
    c.in-Some.last.now is.valid.short room c.if-fitting-piece.true text (search rules) (search rules)

pub returns-else-fitting-piece : goal.returns-else-fitting-piece
returns-else-fitting-piece c = λ rest is none.
    let bytes = c.args.self.now.bytes in
    let p = c.args.piece.now in
    let t = take c.args.self.now.length bytes in
    let f = c.min-fitting.result in
    let n : c.args.self.now.length ≡ length t = omega (arith, length-take c.args.self.now.length bytes, c.put_text.ensures.fits, c.put_text.ensures.written.length, c.from-length.ensures) in
    let all : take f p ≡ p = take_all f p c.if-fitting-piece.false in
    let sum : c.args.self.now.length + f ≡ c.from-length.result + length (take f p) = omega (arith, c.from-length.ensures, ap length all, c.if-fitting-piece.false, c.min-fitting.ensures) in
    let text : take (c.args.self.now.length + f) c.put_text.new.bytes ≡ t ++ p =
    ap (λ m. take m c.put_text.new.bytes) sum ∙ c.put_text.ensures.text ∙ ap₂ (λ m u. take m bytes ++ u) c.from-length.ensures all in
    all_rest c.put_text.new.bytes t p rest c.args.self.now.length f n is.valid.unended (clean_if_none_found p none) is.same
    (omega (arith, c.min-fitting.ensures, c.from-length.ensures, is.valid.short)) text
