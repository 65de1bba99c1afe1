use Rattle.geocom_c.proofs.Common.{rules, ◌≡◌, ◌∙◌, List, ℕ, [], length, sym, subst, nil_from_length, Asked, Course, hearing_lines, StandsForCourse, HeardBut}
use Rattle.geocom_c.proofs.Hearings.{course_past, courses_in_turn, heard_all, heard_on}
use Rattle.geocom_c.proofs.following.feed_all.Goals as goal

pub loop-left-preserved : goal.loop-left-preserved
loop-left-preserved c =
    record {
      fed = λ width x rest s.
          let f = c.loop-left.invariant.fed width x rest s in
          let g = c.feed_line-used.ensures.fed width f.reached f.now f.stands in
          let New : Course Asked → List ℕ → Type 0 = StandsForCourse width c.feed_line-used.new.state in
          subst (λ (e : List ℕ). HeardBut (hearing_lines width) New x rest c.args.bytes.now e) (sym c.bytes_from-left.ensures)
          (heard_on (hearing_lines width) (StandsForCourse width c.loop-left.state) New x rest c.args.bytes.now c.loop-left.left.now _ f g);
      answered = c.feed_line-used.ensures.answered ∙ c.loop-left.invariant.answered;
    }

pub returns : goal.returns
returns c =
    record {
      fed = λ width x rest s.
          let n : length c.loop-left.left.now ≡ 0 = search rules in
          let none : c.loop-left.left.now ≡ [] = nil_from_length c.loop-left.left.now n in
          heard_all (hearing_lines width) (course_past width) (courses_in_turn width) (StandsForCourse width c.loop-left.state) x rest c.args.bytes.now
          c.loop-left.left.now (c.loop-left.invariant.fed width x rest s) none;
      answered = c.loop-left.invariant.answered;
    }
