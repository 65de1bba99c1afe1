use Rattle.geocom_c.proofs.Common.{◌≡◌, subst, Frame, left_past}
use Rattle.geocom_c.proofs.beginning.hear_line.Goals as goal

pub returns : goal.returns
returns c =
    let took = c.take-used.ensures in
    record {
      used = took.used;
      more = λ r is none.
          let t = took.more r is none in
          (t.0, (t.1.1, subst (λ (g : Frame). c.hear_frame.new.beginning ≡ left_past c.args.beginning.now g) t.1.0 c.hear_frame.ensures));
      frame = λ r at is some.
          let t = took.frame r at is some in
          (t.0, (t.1.1, subst (λ (g : Frame). c.hear_frame.new.beginning ≡ left_past c.args.beginning.now g) t.1.0 c.hear_frame.ensures));
    }
