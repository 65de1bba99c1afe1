-- The lines of a station's text, and what each says: this project's own.
use Rattle.gc_texts.specs.Common.{Table, SetDate}
use Rattle.std.specs.Prelude.{◌≡◌, ◌⊎◌, ℕ, ◌≤◌, true, false, List, ◌∷◌, ◌++◌, Option, None, Some, codes}
use Rattle.gc_texts.specs.Agrees.{IsAgreeText}
use Rattle.gc_texts.specs.Codes.{IsCodeList, no_codes}
use Rattle.gc_texts.specs.Descriptions.{IsDescription, description_seen}
use Rattle.gc_texts.specs.Wishes.{IsWorded}
use Rattle.gc_texts.specs.Names.{is_name}
use Rattle.gc_texts.specs.Nears.{IsNearText}
use Rattle.gc_texts.specs.Procedures.{IsNumber, IsTarget}
use Rattle.gc_texts.specs.Cuts.{Lacks, behind}
use Rattle.gc_texts.specs.Expectations.{ends_in_space, expectation_of, items_trouble}
use Rattle.gc_texts.specs.Retries.{IsRetryRule, no_retry}
use Rattle.gc_texts.specs.Words.{first_word, second_word, after_two_words}
use Rattle.gc_texts.specs.declared.agree.Agree.{Agree}
use Rattle.gc_texts.specs.declared.expectation.Expectation.{Expectation}
use Rattle.gc_texts.specs.declared.stamp.TheConstants.{FIRST_MOMENT}
use Rattle.gc_texts.specs.declared.retry.Retry.{Retry}
use Rattle.gc_texts.specs.declared.wish.Wish.{Wish}
use Rattle.gc_texts.specs.declared.codes.Codes.{Codes}
use Rattle.gc_texts.specs.declared.description.Description.{Description}
use Rattle.gc_texts.specs.declared.name.Name.{Name}
use Rattle.gc_texts.specs.declared.near.Near.{Near}
use Rattle.gc_texts.specs.declared.wording.Wording.{Wording}
use Rattle.gc_texts.specs.declared.wording.Wording.TheVariants.{Now}
use Rattle.gc_texts.specs.declared.task_line.TaskLine.{TaskLine}
use Rattle.gc_texts.specs.declared.task_line.TaskLine.TheVariants as says

-- a line is this word, which ends with a space, and then a text of which `Is` is true
pub record IsWordAnd (word : List ℕ) (Is : List ℕ → Type 0) (line : List ℕ) : Type 0 where
  pub rest : List ℕ
  pub line_is : line ≡ word ++ rest
  pub is : Is rest

-- `deadline MS`, from 1 to 86400000 milliseconds
pub record IsDeadlineLine (line : List ℕ) (deadline : ℕ) : Type 0 where
  pub digits : List ℕ
  pub line_is : line ≡ codes "deadline " ++ digits
  pub number : IsNumber digits deadline 86400000
  pub some : 1 ≤ deadline

-- `every N cycles`, from 1 to 65535
pub record IsEveryLine (line : List ℕ) (every : ℕ) : Type 0 where
  pub digits : List ℕ
  pub line_is : line ≡ codes "every " ++ (digits ++ codes " cycles")
  pub number : IsNumber digits every 65535
  pub some : 1 ≤ every

-- `name T TEXT`: a target and its name
pub record IsNameLine (line : List ℕ) (name : Name) : Type 0 where
  pub target_text : List ℕ
  pub line_is : line ≡ codes "name " ++ (target_text ++ 32 ∷ name.text.items)
  pub target_is : IsTarget target_text name.target
  pub text_is : is_name name.text.items ≡ true

-- `near T HZ V TOLERANCE`: where a target is
abbrev pub IsNearLine : List ℕ → Near → Type 0
IsNearLine line near = IsWordAnd (codes "near ") (λ rest. IsNearText rest near) line

-- `unwatched T`: a target whose commands aren't watched
abbrev pub IsUnwatchedLine : List ℕ → (target : ℕ) → Type 0
IsUnwatchedLine line target = IsWordAnd (codes "unwatched ") (λ rest. IsTarget rest target) line

-- `accept C C ..`, with at least one return code and at most 16, or `accept` alone: which return codes are accepted beside 0, or
-- that none is
abbrev pub SetsAccepted : List ℕ → Codes → Type 0
SetsAccepted line accepted = ((line ≡ codes "accept") × (accepted ≡ no_codes)) ⊎ IsWordAnd (codes "accept ") (λ rest. IsCodeList rest accepted) line

-- `busy C C ..`, with at least one return code and at most 16, or `busy` alone: by which return codes the instrument says that it is
-- busy, or that it does so by none
abbrev pub SetsBusy : List ℕ → Codes → Type 0
SetsBusy line busy = ((line ≡ codes "busy") × (busy ≡ no_codes)) ⊎ IsWordAnd (codes "busy ") (λ rest. IsCodeList rest busy) line

-- `retry N WORD WORD ..`: how often the chains after it are repeated, and after what; or `retry 0`, which says that they aren't
abbrev pub SetsRetry : List ℕ → Retry → Type 0
SetsRetry line retry = ((line ≡ codes "retry 0") × (retry ≡ no_retry)) ⊎ IsWordAnd (codes "retry ") (λ rest. IsRetryRule rest retry) line

-- `agree HZ V D`: each chain after it is sent twice, and how far apart the answers may be; or `agree` alone, which says that chains are
-- sent once
abbrev pub SetsAgree : List ℕ → Option Agree → Type 0
SetsAgree line None = line ≡ codes "agree"
SetsAgree line (Some agree) = IsWordAnd (codes "agree ") (λ rest. IsAgreeText rest agree) line

-- `T 5007 now`: a command that sets the clock of target T to the moment at which it is sent. In place of that moment the call of
-- the wish has the first moment of 1970
pub record SetsClock (line : List ℕ) (wish : Wish) : Type 0 where
  pub target_is : IsTarget (first_word line) wish.target
  pub rest_is : behind 32 line ≡ codes "5007 now"
  pub call_is : wish.call ≡ Table (SetDate FIRST_MOMENT)

-- a text is a request without `=`, and its items: `REQUEST = ITEMS`, with one space before the `=`
pub record AreRequestAndItems (text request items : List ℕ) : Type 0 where
  pub are : text ≡ request ++ (codes " = " ++ items)
  pub plain : Lacks 61 request
  pub one_space : ends_in_space request ≡ false

-- `procedure RPC NAME KIND .. -> COLUMN KIND ..`: what is said of a procedure that isn't in the table
abbrev pub IsDescribingLine : List ℕ → Description → Type 0
IsDescribingLine line description = IsWordAnd (codes "procedure ") (λ rest. IsDescription rest (description_seen description)) line

-- `T expect REQUEST = ITEMS`: a command for target T with this request in this wording, and what is expected of the values of its answer
pub record IsExpectLine (line : List ℕ) (wish : Wish) (wording : Wording) (expectation : Expectation) : Type 0 where
  pub request : List ℕ
  pub items : List ℕ
  pub word : second_word line ≡ codes "expect"
  pub parts : AreRequestAndItems (after_two_words line) request items
  pub asks : IsWorded wording (first_word line ++ 32 ∷ request) wish
  pub sound : items_trouble items ≡ None
  pub expects : expectation ≡ expectation_of items

-- the line of a command with this wish in this wording, of whose answer this is expected; nothing is expected of the answer to one that
-- sets the clock to the moment at which it is sent
abbrev pub IsCommandLine : (line : List ℕ) → Wish → Wording → Option Expectation → Type 0
IsCommandLine line wish Now None = SetsClock line wish
IsCommandLine line wish Now (Some expectation) = ⊥
IsCommandLine line wish wording None = IsWorded wording line wish
IsCommandLine line wish wording (Some expectation) = IsExpectLine line wish wording expectation

-- what a line says: a command, a deadline, that commands are chained or that they aren't, a name, where a target is, that a
-- target isn't watched, what a procedure outside the table is, which return codes are accepted, which say that the instrument is busy,
-- how often chains are repeated, whether they are sent twice, or that the commands after it are setup, those of each cycle, or those of
-- every so many cycles
abbrev pub IsTaskLine : List ℕ → TaskLine → Type 0
IsTaskLine line (says.Command wish wording expects) = IsCommandLine line wish wording expects
IsTaskLine line (says.Deadline deadline) = IsDeadlineLine line deadline
IsTaskLine line says.Chained = line ≡ codes "chained"
IsTaskLine line says.Unchained = line ≡ codes "unchained"
IsTaskLine line (says.Naming name) = IsNameLine line name
IsTaskLine line (says.Locating near) = IsNearLine line near
IsTaskLine line (says.Unwatching target) = IsUnwatchedLine line target
IsTaskLine line (says.Describing description) = IsDescribingLine line description
IsTaskLine line (says.Accepting accepted) = SetsAccepted line accepted
IsTaskLine line (says.Busy busy) = SetsBusy line busy
IsTaskLine line (says.Retrying retry) = SetsRetry line retry
IsTaskLine line (says.Agreeing agree) = SetsAgree line agree
IsTaskLine line says.AtStart = line ≡ codes "at start"
IsTaskLine line says.EachCycle = line ≡ codes "each cycle"
IsTaskLine line (says.Every every) = IsEveryLine line every
