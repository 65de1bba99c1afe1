-- The words that lines of scenes begin with: a line begins with one word at most, and says nothing of another word's; and what a line
-- needs is known by its words.
use Rattle.gc_filters.proofs.Common.{◌≡◌, ℕ, ◌==◌, ℤ, Bool, true, false, List, [], ◌∷◌, get_or, if◌then◌else◌, arith, refl, ap, sym, subst, ◌∙◌, codes, ne_eqb, Target, Delay, Fault, Noise, Scripted, IsNumber, first_word, second_word, third_word, IsAnswerLine, IsBlockedLine, IsDelayLine, IsDriftLine, IsFaultLine, IsLateReplyLine, IsLineOf, IsNameLine, IsNoiseLine, IsSceneLine, IsSerialLine, IsStartLine, IsTargetLine, need_of, takes, way_line, BeginsWith, word_text, Blocked, Drift, SceneLine, SceneWord}
use Rattle.gc_scenes.specs.declared.ways.Way.{Way}
use Rattle.gc_filters.specs.declared.scene_line.Need.{Need}
use Rattle.gc_filters.specs.declared.scene_line.SceneKind.{SceneKind}
use Rattle.gc_scenes.specs.declared.ways.Way.TheVariants as way
use Rattle.gc_filters.specs.declared.scene_line.Need.TheVariants as need
use Rattle.gc_filters.specs.declared.scene_line.SceneLine.TheVariants as says
use Rattle.gc_filters.specs.declared.scene_trouble.SceneWord.TheVariants as word

-- the word that a line begins with that says this
abbrev pub word_in : SceneLine → SceneWord
word_in (says.Serial n) = word.Serial
word_in (says.Name bytes) = word.Name
word_in (says.Target target) = word.Target
word_in (says.Fault f) = word.Fault
word_in (says.Answer a) = word.Answer
word_in (says.Blocked b) = word.Blocked
word_in (says.Drift d) = word.Drift
word_in (says.Noise n) = word.Noise
word_in (says.Behave w) = word.Behave
word_in says.NoRepeats = word.Repeats
word_in (says.Delay d) = word.Delay
word_in (says.Start f) = word.Fault
word_in says.Queues = word.Busy
word_in says.Drops = word.Busy
word_in (says.Late d) = word.Behave

-- a line that names a way of real instruments begins with `behave`
way_begins : (line : List ℕ) (w : Way) → line ≡ way_line w → BeginsWith word.Behave line
way_begins line way.Faces h = ap first_word h
way_begins line way.Aims h = ap first_word h
way_begins line way.Takes h = ap first_word h
way_begins line way.Values h = ap first_word h
way_begins line way.Clock h = ap first_word h
way_begins line way.Real h = ap first_word h

-- a line begins with the word of what it says
pub begins : (line : List ℕ) (item : SceneLine) → IsSceneLine line item → BeginsWith (word_in item) line
begins line (says.Serial n) h = h.0
begins line (says.Name bytes) h = ap first_word h.line_is
begins line (says.Target target) h = h.0
begins line (says.Fault f) h = h.word
begins line (says.Answer a) h = h.begins.word
begins line (says.Blocked b) h = h.word
begins line (says.Drift d) h = h.word
begins line (says.Noise n) h = h.word
begins line (says.Behave w) h = way_begins line w h
begins line says.NoRepeats h = ap first_word h
begins line (says.Delay d) h = h.word
begins line (says.Start f) h = h.word
begins line says.Queues h = ap first_word h
begins line says.Drops h = ap first_word h
begins line (says.Late d) h = h.word

-- the word whose first two letters are these; `busy` where there is none
abbrev word_with : (first second : ℕ) → SceneWord
word_with first second =
    if first == 115 then word.Serial
    else if first == 116 then word.Target
    else if first == 102 then word.Fault
    else if first == 114 then word.Repeats
    else if first == 97 then word.Answer
    else if first == 110 then (if second == 97 then word.Name else word.Noise)
    else if first == 98 then (if second == 108 then word.Blocked else if second == 101 then word.Behave else word.Busy)
    else if second == 114 then word.Drift
    else word.Delay

-- a word is the one with its first two letters
known : (w : SceneWord) → word_with (get_or (word_text w) 0 0) (get_or (word_text w) 1 0) ≡ w
known word.Serial = refl
known word.Name = refl
known word.Target = refl
known word.Fault = refl
known word.Answer = refl
known word.Blocked = refl
known word.Drift = refl
known word.Noise = refl
known word.Repeats = refl
known word.Behave = refl
known word.Delay = refl
known word.Busy = refl

-- a line begins with one word at most
pub one_word : (line : List ℕ) (v w : SceneWord) → BeginsWith v line → BeginsWith w line → v ≡ w
one_word line v w h k = sym (known v) ∙ ap (λ t. word_with (get_or t 0 0) (get_or t 1 0)) (sym h ∙ k) ∙ known w

-- the line says nothing of what lines with this word say
abbrev pub SaysNoneOf : SceneWord → List ℕ → Type 0
SaysNoneOf word.Serial line = (n : ℤ) → IsSerialLine line n → ⊥
SaysNoneOf word.Name line = (bytes : List ℕ) → IsNameLine line bytes → ⊥
SaysNoneOf word.Target line = (t : Target) → IsTargetLine line t → ⊥
SaysNoneOf word.Fault line = ((f : Fault) → IsFaultLine line f → ⊥) × ((f : Fault) → IsStartLine line f → ⊥)
SaysNoneOf word.Answer line = (a : Scripted) → IsAnswerLine line a → ⊥
SaysNoneOf word.Blocked line = (b : Blocked) → IsBlockedLine line b → ⊥
SaysNoneOf word.Drift line = (d : Drift) → IsDriftLine line d → ⊥
SaysNoneOf word.Noise line = (n : Noise) → IsNoiseLine line n → ⊥
SaysNoneOf word.Repeats line = line ≡ codes "repeats no" → ⊥
SaysNoneOf word.Behave line = ((w : Way) → line ≡ way_line w → ⊥) × ((d : Delay) → IsLateReplyLine line d → ⊥)
SaysNoneOf word.Delay line = (d : Delay) → IsDelayLine (codes "delay") line d → ⊥
SaysNoneOf word.Busy line = (line ≡ codes "busy queue" → ⊥) × (line ≡ codes "busy drop" → ⊥)

-- a line that says nothing of what lines with this word say, in particular doesn't say this
not_this : (line : List ℕ) (item : SceneLine) → SaysNoneOf (word_in item) line → IsSceneLine line item → ⊥
not_this line (says.Serial n) none h = none n h
not_this line (says.Name bytes) none h = none bytes h
not_this line (says.Target t) none h = none t h
not_this line (says.Fault f) none h = none.0 f h
not_this line (says.Answer a) none h = none a h
not_this line (says.Blocked b) none h = none b h
not_this line (says.Drift d) none h = none d h
not_this line (says.Noise n) none h = none n h
not_this line (says.Behave w) none h = none.0 w h
not_this line says.NoRepeats none h = none h
not_this line (says.Delay d) none h = none d h
not_this line (says.Start f) none h = none.1 f h
not_this line says.Queues none h = none.0 h
not_this line says.Drops none h = none.1 h
not_this line (says.Late d) none h = none.1 d h

-- a line that begins with a word, and says nothing of what lines with this word say, says nothing
pub says_nothing : (line : List ℕ) (w : SceneWord) → BeginsWith w line → SaysNoneOf w line → (item : SceneLine) → IsSceneLine line item → ⊥
says_nothing line w has none item is =
    not_this line item (subst (λ v. SaysNoneOf v line) (one_word line w (word_in item) has (begins line item is)) none) is

-- the same of a line that begins with a word that is known to be this one
pub says_none_of : (line : List ℕ) (v w : SceneWord) → v ≡ w → BeginsWith v line → SaysNoneOf w line → (item : SceneLine) → IsSceneLine line item → ⊥
says_none_of line v w e has none = says_nothing line w (subst (λ (x : SceneWord). BeginsWith x line) e has) none

-- what a line `behave` needs whose second word begins with this letter
abbrev letter_need : ℕ → Need
letter_need c = if c == 98 then need.Rehearsal else if c == 99 then need.Clock else if c == 114 then need.Clock else need.Rules

-- what a line `fault` needs whose third word begins with this letter
abbrev fault_need : ℕ → Need
fault_need c = if c == 114 then need.Serve else need.Rules

-- what a line needs that begins with this word
abbrev need_at : SceneWord → List ℕ → Need
need_at word.Serial line = need.Table
need_at word.Name line = need.Table
need_at word.Target line = need.Table
need_at word.Fault line = fault_need (get_or (third_word line) 0 0)
need_at word.Behave line = letter_need (get_or (second_word line) 0 0)
need_at word.Delay line = need.Serve
need_at word.Busy line = need.Serve
need_at other line = need.Rules

-- a line that names a way of real instruments needs what the way needs
way_need_at : (line : List ℕ) (w : Way) → line ≡ way_line w → need_at word.Behave line ≡ need_of (says.Behave w)
way_need_at line way.Faces h = ap (λ l. need_at word.Behave l) h
way_need_at line way.Aims h = ap (λ l. need_at word.Behave l) h
way_need_at line way.Takes h = ap (λ l. need_at word.Behave l) h
way_need_at line way.Values h = ap (λ l. need_at word.Behave l) h
way_need_at line way.Clock h = ap (λ l. need_at word.Behave l) h
way_need_at line way.Real h = ap (λ l. need_at word.Behave l) h

-- a number doesn't begin with the letter of `restart`
number_need : (text : List ℕ) (n max : ℕ) → IsNumber text n max → fault_need (get_or text 0 0) ≡ need.Rules
number_need [] n max is = refl
number_need (b ∷ bs) n max is = ap (λ (t : Bool). if t then need.Serve else need.Rules) (ne_eqb b 114 (λ e. omega (arith, e, is.names.digits.0.1)))

-- what a line says needs what the line's words tell
need_by_words : (line : List ℕ) (item : SceneLine) → IsSceneLine line item → need_at (word_in item) line ≡ need_of item
need_by_words line (says.Serial n) h = refl
need_by_words line (says.Name bytes) h = refl
need_by_words line (says.Target target) h = refl
need_by_words line (says.Fault f) h = number_need (third_word line) f.rc 65535 h.rc
need_by_words line (says.Answer a) h = refl
need_by_words line (says.Blocked b) h = refl
need_by_words line (says.Drift d) h = refl
need_by_words line (says.Noise n) h = refl
need_by_words line (says.Behave w) h = way_need_at line w h
need_by_words line says.NoRepeats h = refl
need_by_words line (says.Delay d) h = refl
need_by_words line (says.Start f) h = ap (λ t. fault_need (get_or t 0 0)) h.restarts
need_by_words line says.Queues h = refl
need_by_words line says.Drops h = refl
need_by_words line (says.Late d) h = ap (λ t. letter_need (get_or t 0 0)) h.delays.word

-- whatever a line says, it needs the same
one_need : (line : List ℕ) (a b : SceneLine) → IsSceneLine line a → IsSceneLine line b → need_of a ≡ need_of b
one_need line a b h k =
    sym (need_by_words line a h) ∙ ap (λ w. need_at w line) (one_word line (word_in a) (word_in b) (begins line a h) (begins line b k)) ∙ need_by_words line b k

-- a line that says what a scene of this kind may not have is no line of such a scene
pub not_taken : (k : SceneKind) (line : List ℕ) (said other : SceneLine) → IsSceneLine line said → takes k (need_of said) ≡ false → IsLineOf k line other → ⊥
not_taken k line said other is none taken =
    let bad : true ≡ false = sym taken.1 ∙ ap (takes k) (one_need line other said taken.0 is) ∙ none in
    cc
