use Rattle.gc_filters.proofs.Common.{inr, second_word, third_word, fourth_word, after_four_words, IsDriftLine, Drift}
use Rattle.gc_filters.proofs.SceneFields.{decimal_here, no_decimal, no_number, number_here}
use Rattle.gc_filters.proofs.scene_reading.read_drift.Goals as goal

pub returns-in_default : goal.returns-in_default
returns-in_default c =
    let no = no_number (IsDriftLine c.args.line.now) (λ (x : Drift). x.target) _ (second_word c.args.line.now) 32 (c.second_word.ensures) (λ x h. h.target) c.in_default.ensures in
    (no.0, (inr c.requires, no.1))

pub returns-in_default-read_double : goal.returns-in_default-read_double
returns-in_default-read_double c =
    let no = no_decimal (IsDriftLine c.args.line.now) (λ (x : Drift). x.by.hz) _ (third_word c.args.line.now) c.third_word.ensures (λ x h. h.by.hz) c.in_default-read_double.ensures in
    (no.0, inr (c.requires, no.1))

pub returns-in_default-read_double-2 : goal.returns-in_default-read_double-2
returns-in_default-read_double-2 c =
    let no = no_decimal (IsDriftLine c.args.line.now) (λ (x : Drift). x.by.v) _ (fourth_word c.args.line.now) c.fourth_word.ensures (λ x h. h.by.v) c.in_default-read_double-2.ensures in
    (no.0, inr (c.requires, no.1))

pub returns-in_default-read_double-3 : goal.returns-in_default-read_double-3
returns-in_default-read_double-3 c =
    let no = no_decimal (IsDriftLine c.args.line.now) (λ (x : Drift). x.by.distance) _ (after_four_words c.args.line.now) c.after_four_words.ensures (λ x h. h.by.distance) c.in_default-read_double-3.ensures in
    (no.0, inr (inr (c.requires, no.1)))

pub returns : goal.returns
returns c = record {
  word = c.requires;
  target = number_here _ (second_word c.args.line.now) c.in-Some.target 32 c.second_word.ensures c.in-Some.ensures;
  by = record {
    hz = decimal_here _ (third_word c.args.line.now) c.in-Some-read_double.hz c.third_word.ensures c.in-Some-read_double.ensures;
    v = decimal_here _ (fourth_word c.args.line.now) c.in-Some-read_double-2.v c.fourth_word.ensures c.in-Some-read_double-2.ensures;
    distance = decimal_here _ (after_four_words c.args.line.now) c.in-Some-read_double-3.distance c.after_four_words.ensures c.in-Some-read_double-3.ensures;
  };
}
