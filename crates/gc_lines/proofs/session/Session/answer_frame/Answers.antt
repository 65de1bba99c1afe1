use Rattle.gc_lines.proofs.Common.{◌≡◌, ℕ, ◌-◌, List, [], ◌∷◌, ◌++◌, length, refl, ap, ◌∙◌, arith, length-append, lent_seen, completed}
use Rattle.gc_lines.specs.declared.frame.Lent.{Lent}
use Rattle.gc_lines.specs.declared.frame.Lent.TheVariants.{Line, Cleared, Overlong, More}
use Rattle.gc_lines.proofs.Gathering.{Joins, gathering_silent, gathering_more, gathering_start, gathering_written, answered_part}
use Rattle.gc_lines.proofs.session.Session.answer_frame.Goals as goal

-- a frame other than `More` is completed
completed_unless_more : (frame : Lent) → (frame ≡ More → ⊥) → completed (lent_seen frame) ≡ lent_seen frame ∷ []
completed_unless_more (Line line) not = refl
completed_unless_more Cleared not = refl
completed_unless_more Overlong not = refl
completed_unless_more More not = absurd (not refl)

-- if `more` was appended to the text `old`, and the text's length from before was subtracted from its length now and pushed to
-- `lengths`, `more` joined the texts that wait
text_joined : (old new more lengths lengths' : List ℕ) (before now : ℕ) → before ≡ length old → now ≡ length new → new ≡ old ++ more
    → lengths' ≡ lengths ++ (now - before) ∷ [] → Joins old lengths more new lengths'
text_joined old new more lengths lengths' before now at to is pushed =
    let same : now - before ≡ length more = omega (arith, at, to, ap (λ (xs : List ℕ). length xs) is, length-append old more) in
    record { longer = is; counted = pushed ∙ ap (λ (k : ℕ). lengths ++ k ∷ []) same }

pub returns-then-not-answer-clause-answered : goal.returns-then-not-answer-clause-answered
returns-then-not-answer-clause-answered g c from seen h =
    let answered = c.if-not-answer.ensures.answered in
    rw (completed_unless_more c.args.frame c.in_default.not-More, answered.1) (gathering_silent _ from _ seen _ _ h _ _ answered.0)

pub returns-then-may_wait-clause-answered : goal.returns-then-may_wait-clause-answered
returns-then-may_wait-clause-answered g c from seen h =
    let answered = c.if-not-answer.ensures.answered in
    rw (completed_unless_more c.args.frame c.in_default.not-More) (gathering_more _ from _ seen _ _ h _ _ answered.0 _ _ answered.1
    (text_joined _ _ _ _ _ _ _ c.len-before.ensures.value c.len.ensures.value answered.2 c.push.ensures))

pub returns-in-Err-clause-answered : goal.returns-in-Err-clause-answered
returns-in-Err-clause-answered g c from seen h =
    let answered = c.if-not-answer.ensures.answered in
    let failed = c.in-Err.ensures.written in
    rw (completed_unless_more c.args.frame c.in_default.not-More) (answered_part _ from _ seen _ _ h _ _ answered.0 _ _ _ c.args.self.now.gathers c.requires.room.alone answered.1
    (text_joined _ _ _ _ _ _ _ c.len-before.ensures.value c.len.ensures.value answered.2 c.push.ensures) failed)

pub returns-clause-answered : goal.returns-clause-answered
returns-clause-answered g c from seen h =
    let answered = c.if-not-answer.ensures.answered in
    let written = c.in_default-write_texts.ensures.written in
    let more = gathering_more _ from _ seen _ _ h _ _ answered.0 _ _ answered.1
    (text_joined _ _ _ _ _ _ _ c.len-before.ensures.value c.len.ensures.value answered.2 c.push.ensures) in
    rw (completed_unless_more c.args.frame c.in_default.not-More, c.in_default-write_texts.ensures.nothing.0, c.in_default-write_texts.ensures.nothing.1)
    (gathering_start _ from _ _ (gathering_written _ from _ _ _ _ more _ _ written.0 written.1))
