use Rattle.geocom_c.proofs.Common.{◌<◌, ◌∙◌, ℕ, List, length, refl, subst, inl, description_seen, IsNoReply, ReadsLine, answer_effect}
use Rattle.gc_lines.specs.declared.fault.LineFault.TheVariants.{TooLong}
use Rattle.geocom_c.proofs.DescribedReplies.{no_answer_as}
use Rattle.geocom_c.specs.Described as described
use Rattle.geocom_c.proofs.described.read_bytes.Goals as goal

pub returns-then-line-gt-LINE_BYTES : goal.returns-then-line-gt-LINE_BYTES
returns-then-line-gt-LINE_BYTES c =
    let long : 512 < length c.args.line.now = search (c.if-line-gt-LINE_BYTES.true) in
    let none : IsNoReply c.args.line.now TooLong = inl (long, refl) in
    described.no_reply TooLong none (no_answer_as c.unread.result c.from.result _ (c.from.ensures ∙ c.number.ensures) c.unread.ensures, refl)

pub returns : goal.returns
returns c =
    subst (λ (l : List ℕ). ReadsLine (description_seen c.args.description.now) l (answer_effect c.args.room.now c.read_line.new.room c.read_line.result)) c.line_from.ensures
    c.read_line.ensures
