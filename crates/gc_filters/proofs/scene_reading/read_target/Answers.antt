use Rattle.gc_filters.proofs.Common.{inl, Target, second_word, third_word, after_three_words, IsTargetLine}
use Rattle.gc_filters.proofs.SceneFields.{decimal_here, no_decimal}
use Rattle.gc_filters.proofs.scene_reading.read_target.Goals as goal

pub returns-in_default : goal.returns-in_default
returns-in_default c =
    let no = no_decimal (IsTargetLine c.args.line.now) (λ (x : Target). x.hz) _ (second_word c.args.line.now) c.second_word.ensures (λ x h. h.1.hz) c.in_default.ensures in
    (no.0, inl (inl c.requires, no.1))

pub returns-in_default-read_double : goal.returns-in_default-read_double
returns-in_default-read_double c =
    let no = no_decimal (IsTargetLine c.args.line.now) (λ (x : Target). x.v) _ (third_word c.args.line.now) c.third_word.ensures (λ x h. h.1.v) c.in_default-read_double.ensures in
    (no.0, inl (inl c.requires, no.1))

pub returns-in-None : goal.returns-in-None
returns-in-None c =
    let no = no_decimal (IsTargetLine c.args.line.now) (λ (x : Target). x.distance) _ (after_three_words c.args.line.now) c.after_three_words.ensures (λ x h. h.1.distance) c.in-None.ensures in
    (no.0, inl (c.requires, no.1))

pub returns-in-Some-read_double-2 : goal.returns-in-Some-read_double-2
returns-in-Some-read_double-2 c = (
  c.requires,
  record {
    hz = decimal_here _ (second_word c.args.line.now) c.in-Some.hz c.second_word.ensures c.in-Some.ensures;
    v = decimal_here _ (third_word c.args.line.now) c.in-Some-read_double.v c.third_word.ensures c.in-Some-read_double.ensures;
    distance = decimal_here _ (after_three_words c.args.line.now) c.in-Some-read_double-2.distance c.after_three_words.ensures c.in-Some-read_double-2.ensures;
  },
)
