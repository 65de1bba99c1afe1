-- Which lines have the forms of a station's text.
use Rattle.gc_texts.proofs.Common.{◌≡◌, ◌<◌, ◌≤◌, ◌==◌, inl, inr, ℕ, List, [], ◌∷◌, ◌++◌, get_or, true, false, Option, Some, None, arith, refl, ap, subst, sym, ◌∙◌, codes, if◌then◌else◌, append_cancel_left, Asked, Table, Raw, AreDigits, spells_unique, Cuts, behind, is_name, IsNumber, IsTarget, NoTarget, AreRangeWords, IsRangeOf, AreNearWords, IsNearText, IsDeadlineLine, IsDescribingLine, IsExpectLine, SetsClock, IsNameLine, IsNearLine, IsUnwatchedLine, SetsAccepted, IsCommandLine, IsTaskLine, IsDescription, description_seen, AsksFor, IsWorded, first_word, second_word, third_word, after_three_words, Codes, Description, Wish, Wording, Plain, Described, Now, Expectation, Name, Near, Range, TaskLine, IsReadAs}
use Rattle.std.proofs.Common.{ne_eqb}
use Rattle.gc_texts.proofs.Cutting.{read_alike, holds_of_rest, cut_once, cut_found, one_front, digits_lack_spaces}
use Rattle.gc_texts.proofs.AgreeForms.{one_agreeing, accept_is_no_agree, agree_is_no_start}
use Rattle.gc_texts.proofs.ClockForms.{one_clock, wish_is_no_clock}
use Rattle.gc_texts.proofs.CodeForms.{one_accepting, one_busy}
use Rattle.gc_texts.proofs.EveryForms.{one_every, each_is_no_every}
use Rattle.gc_texts.proofs.DescribedForms.{described_is_no_clock, one_worded}
use Rattle.gc_texts.proofs.DescribedLaws.{one_description, same_described}
use Rattle.gc_texts.proofs.ReasonForms.{one_retrying}
use Rattle.gc_texts.proofs.ExpectForms.{clock_is_no_expect, expects_of_target, one_expectation, wish_is_no_expect}
use Rattle.gc_texts.proofs.RawForms.{digits_begin_low}
use Rattle.gc_texts.proofs.Procedures.{one_number}
use Rattle.gc_texts.specs.declared.task_line.TaskLine.TheVariants as says

-- the digits of a deadline's line are what follows `deadline `
pub deadline_digits : (line rest : List ℕ) (deadline : ℕ) → line ≡ codes "deadline " ++ rest → (is : IsDeadlineLine line deadline) → is.digits ≡ rest
deadline_digits line rest deadline e is = append_cancel_left (codes "deadline ") is.digits rest (sym is.line_is ∙ e)

-- the parts of a line that gives a target a name, and which lines can't give it one
module _ (line rest : List ℕ) (name : Name) (e : line ≡ codes "name " ++ rest) (is : IsNameLine line name) where
  -- what follows `name ` is the target, a space and the name
  rest_is_target_and_name : rest ≡ is.target_text ++ 32 ∷ name.text.items
  rest_is_target_and_name = append_cancel_left (codes "name ") rest (is.target_text ++ 32 ∷ name.text.items) (sym e ∙ is.line_is)

  -- the first space after `name ` follows the target
  cut_after_target : (target : List ℕ) (text : Option (List ℕ)) → Cuts 32 rest target text → (target ≡ is.target_text) × (text ≡ Some name.text.items)
  cut_after_target target text cut = cut_found 32 rest target text is.target_text name.text.items cut rest_is_target_and_name (digits_lack_spaces is.target_text is.target_is.names.digits)

  -- a line gives no name where what follows `name ` has no space
  pub unspaced_is_no_name : (target : List ℕ) → Cuts 32 rest target None → ⊥
  unspaced_is_no_name target cut = let parts = cut_after_target target None cut in let bad : None ≡ Some name.text.items = parts.1 in cc

  -- a line gives no name where what follows `name `, up to the first space, is no target's number
  pub targetless_is_no_name : (target : List ℕ) (text : Option (List ℕ)) → Cuts 32 rest target text → NoTarget target → ⊥
  targetless_is_no_name target text cut none = none name.target (subst (λ (ds : List ℕ). IsTarget ds name.target) (sym (cut_after_target target text cut).0) is.target_is)

  -- a line in which what follows the target isn't the text of a name gives no name
  pub nameless_is_no_name : (target text : List ℕ) → Cuts 32 rest target (Some text) → is_name text ≡ false → ⊥
  nameless_is_no_name target text cut isnt =
      let some : Some text ≡ Some name.text.items = (cut_after_target target (Some text) cut).1 in
      let same : text ≡ name.text.items = cc in
      let both : true ≡ false = sym is.text_is ∙ ap is_name (sym same) ∙ isnt in
      cc

-- the kinds of lines, distinguished by the first byte: 0 a command, 1 `deadline`, 2 `chained`, 3 `unchained` or `unwatched`, which
-- begin alike, 4 `name` or `near`, which begin alike, too, 5 `accept`, `agree` or `at start`, which begin alike, too, 6 `retry`, 7 `each
-- cycle` or `every N cycles`, which begin alike, too, 8 `busy`, 9 `procedure`
abbrev said_kind : TaskLine → ℕ
said_kind (says.Command command wording expects) = 0
said_kind (says.Deadline deadline) = 1
said_kind says.Chained = 2
said_kind says.Unchained = 3
said_kind (says.Naming name) = 4
said_kind (says.Locating near) = 4
said_kind (says.Unwatching target) = 3
said_kind (says.Describing description) = 9
said_kind (says.Accepting accepted) = 5
said_kind (says.Busy busy) = 8
said_kind (says.Retrying retry) = 6
said_kind (says.Agreeing agree) = 5
said_kind says.AtStart = 5
said_kind says.EachCycle = 7
said_kind (says.Every every) = 7

-- the kind of a line with this first byte: 100 is d, 99 c, 117 u, 110 n, 97 a, 114 r, 101 e, 98 b and 112 p; any other byte
-- is of the kind of a command (0)
abbrev kind_by_first_byte : ℕ → ℕ
kind_by_first_byte b =
    if b == 100 then 1
    else if b == 99 then 2
    else if b == 117 then 3
    else if b == 110 then 4
    else if b == 97 then 5
    else if b == 114 then 6
    else if b == 101 then 7
    else if b == 98 then 8
    else if b == 112 then 9
    else 0

-- the kind of a line, by its first byte
abbrev line_kind : List ℕ → ℕ
line_kind line = kind_by_first_byte (get_or line 0 0)

-- a line whose first byte is at most 57, that of 9, is of the kind of a command (0)
low_byte_is_of_command : (b : ℕ) → b ≤ 57 → kind_by_first_byte b ≡ 0
low_byte_is_of_command b low =
    let other : (n : ℕ) → 57 < n → (b == n) ≡ false = λ n high. ne_eqb b n (λ e. omega (arith, e, low, high)) in
    rw (
      other 100 (omega arith),
      other 99 (omega arith),
      other 117 (omega arith),
      other 110 (omega arith),
      other 97 (omega arith),
      other 114 (omega arith),
      other 101 (omega arith),
      other 98 (omega arith),
      other 112 (omega arith),
    ) refl

-- a line that begins with digits and a space is of the kind of a command (0)
digits_are_of_command : (ds rest : List ℕ) → AreDigits ds → kind_by_first_byte (get_or (ds ++ 32 ∷ rest) 0 0) ≡ 0
digits_are_of_command [] rest digits = refl
digits_are_of_command (d ∷ ds) rest digits = low_byte_is_of_command d digits.0.1

-- a line that asks a target for something is of the kind of a command
asking_line_kind : (line : List ℕ) (target : ℕ) (asked : Asked) → AsksFor line target asked → line_kind line ≡ 0
asking_line_kind line target (Table call) is = ap line_kind is.line_is ∙ digits_are_of_command is.target_text is.procedure is.target_is.names.digits
asking_line_kind line target (Raw raw) is = low_byte_is_of_command (get_or line 0 0) (digits_begin_low line is.target_is.names.digits is.target_is.names.some)

-- a line that expects something is of the kind of a command
expecting_line_kind : (line : List ℕ) (wish : Wish) (m : Wording) (e : Expectation) → IsExpectLine line wish m e → line_kind line ≡ 0
expecting_line_kind line wish m e is =
    let target = expects_of_target line wish m e is in low_byte_is_of_command (get_or line 0 0) (digits_begin_low line target.names.digits target.names.some)

-- the first byte of a line shows the kind of what the line says
first_byte_shows_kind : (line : List ℕ) (said : TaskLine) → IsTaskLine line said → line_kind line ≡ said_kind said
first_byte_shows_kind line (says.Command wish Plain None) is = asking_line_kind line wish.target wish.call is
first_byte_shows_kind line (says.Command wish Described None) is = low_byte_is_of_command (get_or line 0 0) (digits_begin_low line is.target_is.names.digits is.target_is.names.some)
first_byte_shows_kind line (says.Command wish Plain (Some e)) is = expecting_line_kind line wish Plain e is
first_byte_shows_kind line (says.Command wish Described (Some e)) is = expecting_line_kind line wish Described e is
first_byte_shows_kind line (says.Command wish Now None) is = low_byte_is_of_command (get_or line 0 0) (digits_begin_low line is.target_is.names.digits is.target_is.names.some)
first_byte_shows_kind line (says.Command wish Now (Some e)) is = absurd is
first_byte_shows_kind line (says.Deadline deadline) is = ap line_kind is.line_is
first_byte_shows_kind line says.Chained is = ap line_kind is
first_byte_shows_kind line says.Unchained is = ap line_kind is
first_byte_shows_kind line (says.Naming name) is = ap line_kind is.line_is
first_byte_shows_kind line (says.Locating near) is = ap line_kind is.line_is
first_byte_shows_kind line (says.Unwatching target) is = ap line_kind is.line_is
first_byte_shows_kind line (says.Describing description) is = ap line_kind is.line_is
first_byte_shows_kind line (says.Accepting accepted) (inl alone) = ap line_kind alone.0
first_byte_shows_kind line (says.Accepting accepted) (inr is) = ap line_kind is.line_is
first_byte_shows_kind line (says.Busy busy) (inl alone) = ap line_kind alone.0
first_byte_shows_kind line (says.Busy busy) (inr is) = ap line_kind is.line_is
first_byte_shows_kind line (says.Retrying retry) (inl alone) = ap line_kind alone.0
first_byte_shows_kind line (says.Retrying retry) (inr is) = ap line_kind is.line_is
first_byte_shows_kind line (says.Agreeing None) is = ap line_kind is
first_byte_shows_kind line (says.Agreeing (Some agree)) is = ap line_kind is.line_is
first_byte_shows_kind line says.AtStart is = ap line_kind is
first_byte_shows_kind line says.EachCycle is = ap line_kind is
first_byte_shows_kind line (says.Every every) is = ap line_kind is.line_is

-- a line gives one deadline at most
one_deadline : (line : List ℕ) (m n : ℕ) → IsDeadlineLine line m → IsDeadlineLine line n → m ≡ n
one_deadline line m n x y =
    one_number y.digits m n 86400000 (subst (λ (ds : List ℕ). IsNumber ds m 86400000) (deadline_digits line y.digits m y.line_is x) x.number) y.number

-- two names with equal targets and equal texts are equal
same_name : (m n : Name) → m.target ≡ n.target → m.text.items ≡ n.text.items → m ≡ n
same_name m n e f = ap (λ t. record { target = t; text = m.text }) e ∙ ap (λ xs. record { target = n.target; text = record { items = xs } }) f

-- a line gives one name at most
one_naming : (line : List ℕ) (m n : Name) → IsNameLine line m → IsNameLine line n → m ≡ n
one_naming line m n x y =
    let parts = one_front 32 x.target_text y.target_text m.text.items n.text.items
    (append_cancel_left (codes "name ") (x.target_text ++ 32 ∷ m.text.items) (y.target_text ++ 32 ∷ n.text.items) (sym x.line_is ∙ y.line_is))
    (digits_lack_spaces x.target_text x.target_is.names.digits) (digits_lack_spaces y.target_text y.target_is.names.digits) in
    same_name m n (one_number y.target_text m.target n.target 4294967295 (subst (λ (t : List ℕ). IsTarget t m.target) parts.0 x.target_is) y.target_is) parts.1

-- two places with equal targets, directions, tolerances and ranges are equal
same_near : (m n : Near) → m.target ≡ n.target → m.place.hz ≡ n.place.hz → m.place.v ≡ n.place.v → m.tolerance ≡ n.tolerance → m.range ≡ n.range → m ≡ n
same_near m n e f g h k =
    ap (λ t. record { target = t; place = m.place; tolerance = m.tolerance; range = m.range }) e
    ∙ ap (λ z. record { target = n.target; place = record { hz = z; v = m.place.v }; tolerance = m.tolerance; range = m.range }) f
    ∙ ap (λ z. record { target = n.target; place = record { hz = n.place.hz; v = z }; tolerance = m.tolerance; range = m.range }) g
    ∙ ap (λ z. record { target = n.target; place = n.place; tolerance = z; range = m.range }) h
    ∙ ap (λ r. record { target = n.target; place = n.place; tolerance = n.tolerance; range = r }) k

-- two words say one range at most
one_range : (distance tolerance : List ℕ) (m n : Range) → AreRangeWords distance tolerance m → AreRangeWords distance tolerance n → m ≡ n
one_range distance tolerance m n x y =
    ap (λ d. record { distance = d; tolerance = m.tolerance }) (spells_unique distance m.distance n.distance x.distance_is y.distance_is)
    ∙ ap (λ t. record { distance = n.distance; tolerance = t }) (spells_unique tolerance m.tolerance n.tolerance x.tolerance_is y.tolerance_is)

-- what follows the tolerance of a target's angles says one thing of its distance at most
one_range_of : (words : Option (List ℕ)) (m n : Option Range) → IsRangeOf words m → IsRangeOf words n → m ≡ n
one_range_of None m n x y = x ∙ sym y
one_range_of (Some words) (Some m) (Some n) x y = ap Some (one_range (first_word words) (behind 32 words) m n x y)
one_range_of (Some words) None n x y = absurd x
one_range_of (Some words) (Some m) None x y = absurd y

-- four words, and what follows them, say one place at most
one_near : (target hz v tolerance : List ℕ) (words : Option (List ℕ)) (m n : Near)
    → AreNearWords target hz v tolerance words m → AreNearWords target hz v tolerance words n → m ≡ n
one_near target hz v tolerance words m n x y =
    same_near m n (one_number target m.target n.target 4294967295 x.target_is y.target_is)
    (spells_unique hz m.place.hz n.place.hz x.hz_is y.hz_is) (spells_unique v m.place.v n.place.v x.v_is y.v_is) (spells_unique tolerance m.tolerance n.tolerance x.tolerance_is y.tolerance_is)
    (one_range_of words m.range n.range x.range_is y.range_is)

-- the words of a text that says a place, cut at its spaces, say it
near_words : (text tolerance : List ℕ) (words : Option (List ℕ)) (near : Near)
    → Cuts 32 (after_three_words text) tolerance words → IsNearText text near
    → AreNearWords (first_word text) (second_word text) (third_word text) tolerance words near
near_words text tolerance words near cut is =
    let same = cut_once 32 (after_three_words text) is.tolerance tolerance is.words words is.cut cut in
    subst (λ ws. AreNearWords (first_word text) (second_word text) (third_word text) tolerance ws near) same.1
    (subst (λ t. AreNearWords (first_word text) (second_word text) (third_word text) t is.words near) same.0 is.are)

-- a text says one place at most
one_place : (text : List ℕ) (m n : Near) → IsNearText text m → IsNearText text n → m ≡ n
one_place text m n x y =
    one_near (first_word text) (second_word text) (third_word text) y.tolerance y.words m n (near_words text y.tolerance y.words m y.cut x) y.are

-- the place that is read of the words of a text, cut at its spaces, or `None`, is also read of the text (`IsReadAs`)
pub place_of_words : (text target hz v tolerance : List ℕ) (words : Option (List ℕ)) (r : Option Near)
    → target ≡ first_word text → hz ≡ second_word text → v ≡ third_word text → Cuts 32 (after_three_words text) tolerance words
    → IsReadAs (AreNearWords target hz v tolerance words) r → IsReadAs (IsNearText text) r
place_of_words text target hz v tolerance words r e f g cut read =
    read_alike (AreNearWords (first_word text) (second_word text) (third_word text) tolerance words) (IsNearText text) r
    (λ near are. record { tolerance = tolerance; words = words; cut = cut; are = are }) (λ near is. near_words text tolerance words near cut is)
    (subst (λ w. IsReadAs (AreNearWords (first_word text) (second_word text) w tolerance words) r) g
    (subst (λ w. IsReadAs (AreNearWords (first_word text) w v tolerance words) r) f
    (subst (λ w. IsReadAs (AreNearWords w hz v tolerance words) r) e read)))

-- a line gives one place at most
one_locating : (line : List ℕ) (m n : Near) → IsNearLine line m → IsNearLine line n → m ≡ n
one_locating line m n x y = one_place y.rest m n (holds_of_rest (codes "near ") (λ r. IsNearText r m) line y.rest y.line_is x) y.is

-- if a line is `near ` and `rest`, the place that is read of `rest`, or `None`, is also read of the line (`IsReadAs`)
pub place_of_rest : (line rest : List ℕ) (r : Option Near) → line ≡ codes "near " ++ rest
    → IsReadAs (IsNearText rest) r → IsReadAs (IsNearLine line) r
place_of_rest line rest r e =
    read_alike (IsNearText rest) (IsNearLine line) r (λ near is. record { rest = rest; line_is = e; is = is })
    (λ near is. holds_of_rest (codes "near ") (λ t. IsNearText t near) line rest e is)

-- no line both gives a target a name (`name `) and says where a target is (`near `)
name_is_no_near : (line : List ℕ) (name : Name) (near : Near) → IsNameLine line name → IsNearLine line near → ⊥
name_is_no_near line name near x y =
    let second : ◌≡◌ {A = ℕ} 97 101 = ap (λ bs. get_or bs 1 0) (sym x.line_is ∙ y.line_is) in
    omega (arith, second)

-- a line describes one procedure at most, in one way
one_describing : (line : List ℕ) (m n : Description) → IsDescribingLine line m → IsDescribingLine line n → m ≡ n
one_describing line m n x y =
    same_described m n
    (one_description y.rest (description_seen m) (description_seen n)
    (holds_of_rest (codes "procedure ") (λ r. IsDescription r (description_seen m)) line y.rest y.line_is x) y.is)

-- if a line is `procedure ` and `rest`, the description that is read of `rest`, or `None`, is also read of the line (`IsReadAs`)
pub description_of_rest : (line rest : List ℕ) (r : Option Description) → line ≡ codes "procedure " ++ rest
    → IsReadAs (λ d. IsDescription rest (description_seen d)) r → IsReadAs (IsDescribingLine line) r
description_of_rest line rest r e =
    read_alike (λ d. IsDescription rest (description_seen d)) (IsDescribingLine line) r (λ d is. record { rest = rest; line_is = e; is = is })
    (λ d is. holds_of_rest (codes "procedure ") (λ t. IsDescription t (description_seen d)) line rest e is)

-- a line leaves one target unwatched at most
one_unwatching : (line : List ℕ) (m n : ℕ) → IsUnwatchedLine line m → IsUnwatchedLine line n → m ≡ n
one_unwatching line m n x y =
    one_number y.rest m n 4294967295 (holds_of_rest (codes "unwatched ") (λ r. IsTarget r m) line y.rest y.line_is x) y.is

-- if a line is `unwatched ` and `rest`, the target that is read of `rest`, or `None`, is also read of the line (`IsReadAs`)
pub unwatched_of_rest : (line rest : List ℕ) (r : Option ℕ) → line ≡ codes "unwatched " ++ rest
    → IsReadAs (IsTarget rest) r → IsReadAs (IsUnwatchedLine line) r
unwatched_of_rest line rest r e =
    read_alike (IsTarget rest) (IsUnwatchedLine line) r (λ target is. record { rest = rest; line_is = e; is = is })
    (λ target is. holds_of_rest (codes "unwatched ") (λ t. IsTarget t target) line rest e is)

-- no line both says that commands aren't chained (`unchained`) and leaves a target unwatched (`unwatched `)
unchained_is_no_unwatched : (line : List ℕ) (target : ℕ) → line ≡ codes "unchained" → IsUnwatchedLine line target → ⊥
unchained_is_no_unwatched line target e x = let third : ◌≡◌ {A = ℕ} 99 119 = ap (λ bs. get_or bs 2 0) (sym e ∙ x.line_is) in omega (arith, third)

-- no line both says which codes are accepted (`accept`) and begins the setup (`at start`)
accept_is_no_start : (line : List ℕ) (accepted : Codes) → SetsAccepted line accepted → line ≡ codes "at start" → ⊥
accept_is_no_start line accepted (inl alone) e = let second : ◌≡◌ {A = ℕ} 99 116 = ap (λ bs. get_or bs 1 0) (sym alone.0 ∙ e) in omega (arith, second)
accept_is_no_start line accepted (inr is) e = let second : ◌≡◌ {A = ℕ} 99 116 = ap (λ bs. get_or bs 1 0) (sym is.line_is ∙ e) in omega (arith, second)

-- a line has the form of this wish in this wording, and expects this of the answer
abbrev IsSaidAs : List ℕ → Wish → Wording → Option Expectation → Type 0
IsSaidAs line wish wording None = IsWorded wording line wish
IsSaidAs line wish wording (Some expectation) = IsExpectLine line wish wording expectation

-- so has the line of a command that doesn't set the clock to its moment
said_plainly : (line : List ℕ) (wish : Wish) (expects : Option Expectation) → IsCommandLine line wish Plain expects → IsSaidAs line wish Plain expects
said_plainly line wish None is = is
said_plainly line wish (Some e) is = is

said_of_described : (line : List ℕ) (wish : Wish) (expects : Option Expectation) → IsCommandLine line wish Described expects → IsSaidAs line wish Described expects
said_of_described line wish None is = is
said_of_described line wish (Some e) is = is

-- of one line these are the same
one_said_as : (line : List ℕ) (v w : Wish) (m n : Wording) (d e : Option Expectation)
    → IsSaidAs line v m d → IsSaidAs line w n e → says.Command v m d ≡ says.Command w n e
one_said_as line v w m n None None x y =
    let same = one_worded line v w m n x y in ap (λ u. says.Command u m None) same.0 ∙ ap (λ k. says.Command w k None) same.1
one_said_as line v w m n (Some d) (Some e) x y =
    let same = one_expectation line v w m n d e x y in
    ap (λ u. says.Command u m (Some d)) same.0 ∙ ap (λ k. says.Command w k (Some d)) same.1 ∙ ap (λ z. says.Command w n (Some z)) same.2
one_said_as line v w m n None (Some e) x y = absurd (wish_is_no_expect line v m x y.word)
one_said_as line v w m n (Some d) None x y = absurd (wish_is_no_expect line w n y x.word)

-- a line that sets the clock to its moment is no other command's
clock_is_not_said : (line : List ℕ) (v w : Wish) (n : Wording) (e : Option Expectation) → SetsClock line v → IsSaidAs line w n e → ⊥
clock_is_not_said line v w n (Some e) x y = clock_is_no_expect line v x y.word
clock_is_not_said line v w Plain None x y = wish_is_no_clock line w v y x
clock_is_not_said line v w Described None x y = described_is_no_clock line w v y x
clock_is_not_said line v w Now None x y = y

-- a line asks for one thing at most, in one wording, and expects one thing at most of the answer
one_asked_for : (line : List ℕ) (v w : Wish) (m n : Wording) (d e : Option Expectation)
    → IsCommandLine line v m d → IsCommandLine line w n e → says.Command v m d ≡ says.Command w n e
one_asked_for line v w Now Now None None x y = ap (λ u. says.Command u Now None) (one_clock line v w x y)
one_asked_for line v w Now n (Some d) e x y = absurd x
one_asked_for line v w m Now d (Some e) x y = absurd y
one_asked_for line v w Now Plain None e x y = absurd (clock_is_not_said line v w Plain e x (said_plainly line w e y))
one_asked_for line v w Now Described None e x y = absurd (clock_is_not_said line v w Described e x (said_of_described line w e y))
one_asked_for line v w Plain Now d None x y = absurd (clock_is_not_said line w v Plain d y (said_plainly line v d x))
one_asked_for line v w Described Now d None x y = absurd (clock_is_not_said line w v Described d y (said_of_described line v d x))
one_asked_for line v w Plain Plain d e x y = one_said_as line v w Plain Plain d e (said_plainly line v d x) (said_plainly line w e y)
one_asked_for line v w Plain Described d e x y = one_said_as line v w Plain Described d e (said_plainly line v d x) (said_of_described line w e y)
one_asked_for line v w Described Plain d e x y = one_said_as line v w Described Plain d e (said_of_described line v d x) (said_plainly line w e y)
one_asked_for line v w Described Described d e x y = one_said_as line v w Described Described d e (said_of_described line v d x) (said_of_described line w e y)

-- where a line says `a` and says `b`, and both are of one kind, they are the same
same_said : (line : List ℕ) (a b : TaskLine) → IsTaskLine line a → IsTaskLine line b → said_kind a ≡ said_kind b → a ≡ b
same_said line (says.Command v m d) (says.Command w n e) x y h = one_asked_for line v w m n d e x y
same_said line (says.Deadline m) (says.Deadline n) x y h = ap says.Deadline (one_deadline line m n x y)
same_said line says.Chained says.Chained x y h = refl
same_said line says.Unchained says.Unchained x y h = refl
same_said line (says.Naming m) (says.Naming n) x y h = ap says.Naming (one_naming line m n x y)
same_said line (says.Locating m) (says.Locating n) x y h = ap says.Locating (one_locating line m n x y)
same_said line (says.Unwatching m) (says.Unwatching n) x y h = ap says.Unwatching (one_unwatching line m n x y)
same_said line (says.Describing m) (says.Describing n) x y h = ap says.Describing (one_describing line m n x y)
same_said line (says.Accepting a) (says.Accepting b) x y h = ap says.Accepting (one_accepting line a b x y)
same_said line (says.Busy a) (says.Busy b) x y h = ap says.Busy (one_busy line a b x y)
same_said line (says.Retrying a) (says.Retrying b) x y h = ap says.Retrying (one_retrying line a b x y)
same_said line (says.Agreeing a) (says.Agreeing b) x y h = ap says.Agreeing (one_agreeing line a b x y)
same_said line says.AtStart says.AtStart x y h = refl
same_said line says.EachCycle says.EachCycle x y h = refl
same_said line (says.Every m) (says.Every n) x y h = ap says.Every (one_every line m n x y)
same_said line (says.Accepting a) says.AtStart x y h = absurd (accept_is_no_start line a x y)
same_said line says.AtStart (says.Accepting a) x y h = absurd (accept_is_no_start line a y x)
same_said line (says.Accepting a) (says.Agreeing b) x y h = absurd (accept_is_no_agree line a b x y)
same_said line (says.Agreeing b) (says.Accepting a) x y h = absurd (accept_is_no_agree line a b y x)
same_said line (says.Agreeing a) says.AtStart x y h = absurd (agree_is_no_start line a x y)
same_said line says.AtStart (says.Agreeing a) x y h = absurd (agree_is_no_start line a y x)
same_said line says.EachCycle (says.Every n) x y h = absurd (each_is_no_every line n x y)
same_said line (says.Every n) says.EachCycle x y h = absurd (each_is_no_every line n y x)
same_said line (says.Naming m) (says.Locating n) x y h = absurd (name_is_no_near line m n x y)
same_said line (says.Locating m) (says.Naming n) x y h = absurd (name_is_no_near line n m y x)
same_said line says.Unchained (says.Unwatching n) x y h = absurd (unchained_is_no_unwatched line n x y)
same_said line (says.Unwatching n) says.Unchained x y h = absurd (unchained_is_no_unwatched line n y x)
same_said line a b x y h = absurd (omega (arith, h))

-- a line says one thing at most
pub one_said : (line : List ℕ) (a b : TaskLine) → IsTaskLine line a → IsTaskLine line b → a ≡ b
one_said line a b x y = same_said line a b x y (sym (first_byte_shows_kind line a x) ∙ first_byte_shows_kind line b y)
