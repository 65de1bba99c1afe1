use Rattle.gc_filters.proofs.Common.{inl, second_word, third_word, after_three_words, IsBlockedLine, Blocked}
use Rattle.gc_filters.proofs.SceneFields.{no_number}
use Rattle.gc_filters.proofs.scene_reading.read_blocked.Goals as goal

pub returns-in_default : goal.returns-in_default
returns-in_default c =
    let no = no_number (IsBlockedLine c.args.line.now) (λ (x : Blocked). x.target) _ (second_word c.args.line.now) 32 (c.second_word.ensures) (λ x h. h.target) c.in_default.ensures in
    (no.0, (inl c.requires, no.1))

pub returns-in_default-u32_of : goal.returns-in_default-u32_of
returns-in_default-u32_of c =
    let no = no_number (IsBlockedLine c.args.line.now) (λ (x : Blocked). x.from) _ (third_word c.args.line.now) 4294967295 (c.third_word.ensures) (λ x h. h.from) c.in_default-u32_of.ensures in
    (no.0, (c.requires, no.1))

pub returns-in-None : goal.returns-in-None
returns-in-None c =
    let no = no_number (IsBlockedLine c.args.line.now) (λ (x : Blocked). x.to) _ (after_three_words c.args.line.now) 4294967295 (c.after_three_words.ensures) (λ x h. h.to) c.in-None.ensures in
    (no.0, (c.requires, no.1))
