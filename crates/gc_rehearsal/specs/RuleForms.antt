-- The rule that a line of a text says: this project's own.
use Rattle.std.specs.Prelude.{◌≡◌, ℕ, ◌≤◌, List, codes}
use Rattle.gc_texts.specs.Prelude.{IsNumber}
use Rattle.gc_rehearsal.specs.Shares.{IsShare, whole_share}
use Rattle.gc_rehearsal.specs.Spaced.{front_word, other_words, IsBlank}
use Rattle.gc_rehearsal.specs.declared.frequency.Frequency.{Frequency}
use Rattle.gc_rehearsal.specs.declared.rule.RuleFault.{RuleFault}
use Rattle.gc_rehearsal.specs.declared.rule.RuleFault.TheVariants.{NoWord, Form, Again}
use Rattle.gc_rehearsal.specs.declared.rule.Rule.{Rule}
use Rattle.gc_rehearsal.specs.declared.rule.Shape.{Shape}
use Rattle.gc_rehearsal.specs.declared.rule.Shape.TheVariants.{Share, Lasting, Span, Times}
use Rattle.gc_rehearsal.specs.declared.rule.Word.{Word}
use Rattle.gc_rehearsal.specs.declared.rule.Word.TheVariants.{Delay, Lose, Repeat, Hold, Close, Refuse, Restart, Alter, Kill}

-- the longest time that a rule may say, in milliseconds: a day. This project's own
abbrev pub millis_max : ℕ
millis_max = 86400000

-- the greatest number of times that a rule may say: this project's own
abbrev pub times_max : ℕ
times_max = 1000

-- a word as it is written
abbrev pub name_of : Word → List ℕ
name_of Delay = codes "delay"
name_of Lose = codes "lose"
name_of Repeat = codes "repeat"
name_of Hold = codes "hold"
name_of Close = codes "close"
name_of Refuse = codes "refuse"
name_of Restart = codes "restart"
name_of Alter = codes "alter"
name_of Kill = codes "kill"

-- the form of what follows a word
abbrev pub shape_of : Word → Shape
shape_of Delay = Span
shape_of Lose = Share
shape_of Repeat = Share
shape_of Hold = Lasting
shape_of Close = Share
shape_of Refuse = Lasting
shape_of Restart = Share
shape_of Alter = Share
shape_of Kill = Times

-- the place of a word among all words, counted from 0
abbrev pub place_of : Word → ℕ
place_of Delay = 0
place_of Lose = 1
place_of Repeat = 2
place_of Hold = 3
place_of Close = 4
place_of Refuse = 5
place_of Restart = 6
place_of Alter = 7
place_of Kill = 8

-- `P`: a percentage; no number is drawn
pub record IsPercentage (text : List ℕ) (frequency : Frequency) : Type 0 where
  pub share : IsShare (front_word text) frequency.share
  pub least : frequency.least ≡ 0
  pub most : frequency.most ≡ 0
  pub nothing_more : IsBlank (other_words text)

-- `P MS`: a percentage, and a time of at most a day (`millis_max`), which is the only number to draw
pub record IsLasting (text : List ℕ) (frequency : Frequency) : Type 0 where
  pub share : IsShare (front_word text) frequency.share
  pub millis : IsNumber (front_word (other_words text)) frequency.least millis_max
  pub same : frequency.most ≡ frequency.least
  pub nothing_more : IsBlank (other_words (other_words text))

-- `FROM TO`: the range of times to draw from, each at most a day, the first at most the second; it applies to each line
pub record IsSpan (text : List ℕ) (frequency : Frequency) : Type 0 where
  pub always : frequency.share ≡ whole_share
  pub least : IsNumber (front_word text) frequency.least millis_max
  pub most : IsNumber (front_word (other_words text)) frequency.most millis_max
  pub ordered : frequency.least ≤ frequency.most
  pub nothing_more : IsBlank (other_words (other_words text))

-- `N`: how many times, at most `times_max`, which is the only number to draw
pub record AreTimes (text : List ℕ) (frequency : Frequency) : Type 0 where
  pub always : frequency.share ≡ whole_share
  pub times : IsNumber (front_word text) frequency.least times_max
  pub same : frequency.most ≡ frequency.least
  pub nothing_more : IsBlank (other_words text)

-- the text has this shape, and gives this frequency
abbrev pub IsFrequency : Shape → List ℕ → Frequency → Type 0
IsFrequency Share text frequency = IsPercentage text frequency
IsFrequency Lasting text frequency = IsLasting text frequency
IsFrequency Span text frequency = IsSpan text frequency
IsFrequency Times text frequency = AreTimes text frequency

-- the text is this rule: a word, and the frequency after it
pub record IsRule (text : List ℕ) (rule : Rule) : Type 0 where
  pub word : name_of rule.word ≡ front_word text
  pub frequency : IsFrequency (shape_of rule.word) (other_words text) rule.frequency

-- why a text is no rule: its first word is none of the words, or what follows the word hasn't the word's form. `Again` is no such
-- reason, as it depends on the lines before
abbrev pub IsNoRule : List ℕ → RuleFault → Type 0
IsNoRule text NoWord = (word : Word) → name_of word ≡ front_word text → ⊥
IsNoRule text (Form word) = (name_of word ≡ front_word text) × ((frequency : Frequency) → IsFrequency (shape_of word) (other_words text) frequency → ⊥)
IsNoRule text (Again word) = ⊥
