use Rattle.gc_filters.proofs.Common.{inl, inr, Noise, second_word, third_word, fourth_word, after_four_words, IsNoiseLine}
use Rattle.gc_filters.proofs.SceneFields.{decimal_here, no_decimal, no_number, number_here}
use Rattle.gc_filters.proofs.scene_reading.read_noise.Goals as goal

pub returns-in_default : goal.returns-in_default
returns-in_default c =
    let no = no_decimal (IsNoiseLine c.args.line.now) (λ (x : Noise). x.hz) _ (second_word c.args.line.now) c.second_word.ensures (λ x h. h.most.hz) c.in_default.ensures in
    (no.0, inl (inr c.requires, no.1))

pub returns-in_default-read_double : goal.returns-in_default-read_double
returns-in_default-read_double c =
    let no = no_decimal (IsNoiseLine c.args.line.now) (λ (x : Noise). x.v) _ (third_word c.args.line.now) c.third_word.ensures (λ x h. h.most.v) c.in_default-read_double.ensures in
    (no.0, inl (inr c.requires, no.1))

pub returns-in_default-read_double-2 : goal.returns-in_default-read_double-2
returns-in_default-read_double-2 c =
    let no = no_decimal (IsNoiseLine c.args.line.now) (λ (x : Noise). x.distance) _ (fourth_word c.args.line.now) c.fourth_word.ensures (λ x h. h.most.distance) c.in_default-read_double-2.ensures in
    (no.0, inr (inl (c.requires, no.1)))

pub returns-in_default-u32_of : goal.returns-in_default-u32_of
returns-in_default-u32_of c =
    let no = no_number (IsNoiseLine c.args.line.now) (λ (x : Noise). x.seed) _ (after_four_words c.args.line.now) 4294967295 (c.after_four_words.ensures) (λ x h. h.seed) c.in_default-u32_of.ensures in
    (no.0, (c.requires, no.1))

pub returns : goal.returns
returns c = record {
  word = c.requires;
  most = record {
    hz = decimal_here _ (second_word c.args.line.now) c.in-Some.hz c.second_word.ensures c.in-Some.ensures;
    v = decimal_here _ (third_word c.args.line.now) c.in-Some-read_double.v c.third_word.ensures c.in-Some-read_double.ensures;
    distance = decimal_here _ (fourth_word c.args.line.now) c.in-Some-read_double-2.distance c.fourth_word.ensures c.in-Some-read_double-2.ensures;
  };
  seed = number_here _ (after_four_words c.args.line.now) c.in-Some-u32_of.seed 4294967295 c.after_four_words.ensures c.in-Some-u32_of.ensures;
}
