use Rattle.gc_filters.proofs.Common.{inr, codes, second_word, after_two_words, Delay, IsDelayLine}
use Rattle.gc_filters.proofs.SceneFields.{no_number}
use Rattle.gc_filters.proofs.scene_reading.read_delay.Goals as goal

pub returns-in_default : goal.returns-in_default
returns-in_default c =
    let no = no_number (IsDelayLine (codes "delay") c.args.line.now) (λ (x : Delay). x.rpc) _ (second_word c.args.line.now) 65535 (c.second_word.ensures) (λ x h. h.rpc) c.in_default.ensures in
    (no.0, (inr (inr c.requires), no.1))

pub returns-in-None : goal.returns-in-None
returns-in-None c =
    let no = no_number (IsDelayLine (codes "delay") c.args.line.now) (λ (x : Delay). x.ms) _ (after_two_words c.args.line.now) 3600000 (c.after_two_words.ensures) (λ x h. h.ms) c.in-None.ensures in
    (no.0, (c.requires, no.1))
