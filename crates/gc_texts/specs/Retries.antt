-- Lines `retry` of a station's text: how often a chain is repeated, and after which endings of its commands. This project's
-- own.
use Rattle.std.specs.Prelude.{◌≡◌, ℕ, ◌+◌, ◌≤◌, Bool, true, nat_lt, List, [], ◌∷◌, slice_set, codes}
use Rattle.gc_texts.specs.Again.{no_again}
use Rattle.gc_texts.specs.Codes.{IsCode}
use Rattle.gc_texts.specs.Cuts.{behind}
use Rattle.gc_texts.specs.Judgements.{IsJudgement, with_judgement}
use Rattle.gc_texts.specs.Procedures.{IsNumber}
use Rattle.gc_texts.specs.Words.{AreWords, first_word}
use Rattle.gc_texts.specs.declared.again.Again.{Again}
use Rattle.gc_texts.specs.declared.retry.Reason.{Reason}
use Rattle.gc_texts.specs.declared.retry.Reason.TheVariants.{Code, Unreadable, Judged, Late, Lost, Skipped}
use Rattle.gc_texts.specs.declared.retry.Retry.{Retry}

-- the retry of a chain that isn't repeated
abbrev pub no_retry : Retry
no_retry = record { times = 0; again = no_again }

-- a word is this return code, or this outcome
abbrev pub IsReason : List ℕ → Reason → Type 0
IsReason word (Code code) = IsCode word code
IsReason word Unreadable = word ≡ codes "unreadable"
IsReason word (Judged judgement) = IsJudgement word judgement
IsReason word Late = word ≡ codes "late"
IsReason word Lost = word ≡ codes "lost"
IsReason word Skipped = word ≡ codes "skipped"

-- whether a line with `count` codes may have one more word: a code if these are fewer than 16, and an outcome always
abbrev pub allows_word : (count : ℕ) → Reason → Bool
allows_word count (Code code) = nat_lt count 16
allows_word count _ = true

-- how many codes a line has with one more word, if it had `count` before the word
abbrev pub count_with : (count : ℕ) → Reason → ℕ
count_with count (Code code) = count + 1
count_with count _ = count

-- the rule `again`, which has `count` codes, with one more word: a code goes into the place after these codes, and an outcome sets its
-- flag
abbrev pub again_with : Again → (count : ℕ) → Reason → Again
again_with again count (Code code) = record again { codes = record { codes = slice_set again.codes.codes count code } }
again_with again count Unreadable = record again { unreadable = true }
again_with again count (Judged judgement) = record again { judged = with_judgement again.judged judgement }
again_with again count Late = record again { late = true }
again_with again count Lost = record again { lost = true }
again_with again count Skipped = record again { skipped = true }

-- how many codes a line has with these words, if it had `count` before them
abbrev pub count_with_words : (count : ℕ) → List Reason → ℕ
count_with_words count [] = count
count_with_words count (reason ∷ others) = count_with_words (count_with count reason) others

-- the rule `again`, which has `count` codes, with these words as well
abbrev pub again_with_words : Again → (count : ℕ) → List Reason → Again
again_with_words again count [] = again
again_with_words again count (reason ∷ others) = again_with_words (again_with again count reason) (count_with count reason) others

-- a text is one word or more, with one space between two, and these name this rule: its codes, in order and at most 16, and its
-- outcomes
pub record NamesRule (text : List ℕ) (again : Again) : Type 0 where
  pub reasons : List Reason
  pub are : AreWords IsReason text reasons
  pub few : count_with_words 0 reasons ≤ 16
  pub again_is : again ≡ again_with_words no_again 0 reasons

-- `N WORD WORD ..`: how often a chain is repeated, from 1 to 9 times, and after which endings
pub record IsRetryRule (text : List ℕ) (retry : Retry) : Type 0 where
  pub times_are : IsNumber (first_word text) retry.times 9
  pub some : 1 ≤ retry.times
  pub again_is : NamesRule (behind 32 text) retry.again
