use Rattle.geocom_c.proofs.Common.{◌∙◌, ◌++◌, take, refl, sym}
use Rattle.geocom_c.proofs.Frames.{never_more}
use Rattle.geocom_c.proofs.rest.GeocomRest.take.Goals as goal

pub returns-in-More-clause-more : goal.returns-in-More-clause-more
returns-in-More-clause-more c = λ rest is none. ((c.frame-used.ensures.more rest is none).0, (refl, c.keep.ensures rest is none))

pub returns-in-More-clause-frame : goal.returns-in-More-clause-frame
returns-in-More-clause-frame c = λ rest at is some.
    absurd (never_more (rest ++ take at c.args.piece.now) (sym (c.frame-used.ensures.frame rest at is some).1 ∙ c.in-More.is))

pub returns-in_default-clause-more : goal.returns-in_default-clause-more
returns-in_default-clause-more c = λ rest is none. absurd (c.in_default.not-More (c.frame-used.ensures.more rest is none).1)

pub returns-in_default-clause-frame : goal.returns-in_default-clause-frame
returns-in_default-clause-frame c = λ rest at is some. let f = c.frame-used.ensures.frame rest at is some in (f.0, (f.1, c.new.ensures))
