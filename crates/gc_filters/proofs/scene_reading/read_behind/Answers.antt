use Rattle.gc_filters.proofs.Common.{rules, IsSceneLine, SceneLine}
use Rattle.gc_filters.proofs.SceneWords.{says_none_of}
use Rattle.gc_filters.specs.declared.scene_trouble.SceneWord.TheVariants as word
use Rattle.gc_filters.proofs.scene_reading.read_behind.Goals as goal

pub returns-in_err-read_target-in-Target : goal.returns-in_err-read_target-in-Target
returns-in_err-read_target-in-Target c =
    let none : (item : SceneLine) → IsSceneLine c.args.line.now item → ⊥ =
    says_none_of c.args.line.now c.args.word word.Target c.in-Target.is c.requires c.in_err-read_target-in-Target.ensures.0 in
    search rules

pub returns-in_err-read_answer-in-Answer : goal.returns-in_err-read_answer-in-Answer
returns-in_err-read_answer-in-Answer c =
    let none : (item : SceneLine) → IsSceneLine c.args.line.now item → ⊥ =
    says_none_of c.args.line.now c.args.word word.Answer c.in-Answer.is c.requires c.in_err-read_answer-in-Answer.ensures.0 in
    search rules

pub returns-in_err-read_blocked-in-Blocked : goal.returns-in_err-read_blocked-in-Blocked
returns-in_err-read_blocked-in-Blocked c =
    let none : (item : SceneLine) → IsSceneLine c.args.line.now item → ⊥ =
    says_none_of c.args.line.now c.args.word word.Blocked c.in-Blocked.is c.requires c.in_err-read_blocked-in-Blocked.ensures.0 in
    search rules

pub returns-in_err-read_drift-in-Drift : goal.returns-in_err-read_drift-in-Drift
returns-in_err-read_drift-in-Drift c =
    let none : (item : SceneLine) → IsSceneLine c.args.line.now item → ⊥ =
    says_none_of c.args.line.now c.args.word word.Drift c.in-Drift.is c.requires c.in_err-read_drift-in-Drift.ensures.0 in
    search rules

pub returns-in_err-read_noise-in-Noise : goal.returns-in_err-read_noise-in-Noise
returns-in_err-read_noise-in-Noise c =
    let none : (item : SceneLine) → IsSceneLine c.args.line.now item → ⊥ =
    says_none_of c.args.line.now c.args.word word.Noise c.in-Noise.is c.requires c.in_err-read_noise-in-Noise.ensures.0 in
    search rules

pub returns-in_err-read_delay-in-Delay : goal.returns-in_err-read_delay-in-Delay
returns-in_err-read_delay-in-Delay c =
    let none : (item : SceneLine) → IsSceneLine c.args.line.now item → ⊥ =
    says_none_of c.args.line.now c.args.word word.Delay c.in-Delay.is c.requires c.in_err-read_delay-in-Delay.ensures.0 in
    search rules
