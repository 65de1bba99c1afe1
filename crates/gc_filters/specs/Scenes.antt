-- A scene's text, of whatever kind, and the instrument that it sets up: this project's own.
use Rattle.gc_filters.specs.Common.{State, IsFittingState, opening, simulator_opening, Target, still, SceneState, SlowState, no_ways, with_way, Delay, Fault, Noise, Prism, Scripted, ItemForm, IsTextOf, TextFault, RunFault, SceneFull, TEXT_LIMIT}
use Rattle.std.specs.Prelude.{◌≡◌, ◌⊎◌, ℕ, ℤ, suc, ◌==◌, ◌<◌, ◌≤◌, Bool, true, false, not, List, [], ◌∷◌, length, Option, Some, None, unwrap_or, fold, filter_map, if◌then◌else◌}
use Rattle.gc_scenes.specs.declared.ways.Ways.{Ways}
use Rattle.gc_filters.specs.SceneLines.{IsLineOf}
use Rattle.gc_filters.specs.declared.scene.LateScene.{LateScene}
use Rattle.gc_filters.specs.declared.scene_line.SceneLine.{SceneLine}
use Rattle.gc_filters.specs.declared.scene_parts.TheConstants.{MOST_ANSWERS, MOST_DELAYS, MOST_FAULTS, MOST_STARTS, MOST_TARGETS}
use Rattle.gc_filters.specs.declared.scene_line.SceneKind.TheVariants as kind
use Rattle.gc_filters.specs.declared.scene_line.SceneLine.TheVariants as says

-- What lines say together.

-- the value that the last of these lines gives, or `other` if none gives one; `value_in` says which value a line gives, if any
abbrev pub last_value : {Line Value : Type 0} → (value_in : Line → Option Value) → (other : Value) → List Line → Value
last_value value_in other lines = fold (λ earlier line. unwrap_or (value_in line) earlier) other lines

-- the serial number of a line `serial`; none of any other line
abbrev pub serial_in : SceneLine → Option ℤ
serial_in (says.Serial n) = Some n
serial_in other = None

-- the serial number of the last line `serial`, or `n` if there is none
abbrev pub serial_of : (n : ℤ) → List SceneLine → ℤ
serial_of n lines = last_value serial_in n lines

-- the name of a line `name`; none of any other line
abbrev pub name_in : SceneLine → Option (List ℕ)
name_in (says.Name bytes) = Some bytes
name_in other = None

-- the name of the last line `name`, or `bytes` if there is none
abbrev pub name_of : (bytes : List ℕ) → List SceneLine → List ℕ
name_of bytes lines = last_value name_in bytes lines

-- the target of a line `target`; none of any other line
abbrev pub target_in : SceneLine → Option Target
target_in (says.Target target) = Some target
target_in other = None

-- the targets of the lines `target`, in order
abbrev pub targets_of : List SceneLine → List Target
targets_of lines = filter_map target_in lines

-- the fault of a line `fault` with a return code; none of any other line
abbrev pub fault_in : SceneLine → Option Fault
fault_in (says.Fault f) = Some f
fault_in other = None

-- the faults of the lines, in order
abbrev pub faults_of : List SceneLine → List Fault
faults_of lines = filter_map fault_in lines

-- the reply of a line `answer`; none of any other line
abbrev pub answer_in : SceneLine → Option Scripted
answer_in (says.Answer a) = Some a
answer_in other = None

-- the replies of the lines `answer`, in order
abbrev pub answers_of : List SceneLine → List Scripted
answers_of lines = filter_map answer_in lines

-- the noise of the instrument after a line, where it is `n` before it: that of a line `noise`; any other line leaves it as it is
abbrev pub noise_with : (n : Option Noise) → SceneLine → Option Noise
noise_with n (says.Noise one) = Some one
noise_with n other = n

-- the noise of the last line `noise`, or `n` if there is none
abbrev pub noise_of : (n : Option Noise) → List SceneLine → Option Noise
noise_of n lines = fold noise_with n lines

-- `false` of a line `repeats no`: the instrument doesn't answer a repeated request with the reply that it keeps; nothing of any other line
abbrev pub repeat_in : SceneLine → Option Bool
repeat_in says.NoRepeats = Some false
repeat_in other = None

-- whether the instrument answers a repeated request with the reply that it keeps: no if a line is `repeats no`, else `b`
abbrev pub repeats_of : (b : Bool) → List SceneLine → Bool
repeats_of b lines = last_value repeat_in b lines

-- the ways of real instruments after a line, where they are `w` before it: with the one that the line names, if it names one
abbrev pub ways_with : (w : Ways) → SceneLine → Ways
ways_with w (says.Behave one) = with_way one w
ways_with w other = w

-- the ways `w` of real instruments, with those that the lines name added
abbrev pub ways_of : (w : Ways) → List SceneLine → Ways
ways_of w lines = fold ways_with w lines

-- the target as this line changes it, if the line is about the target with this number: `blocked` sets the looks in which it is
-- hidden, and `drift` how it moves. Any other line leaves it as it is
abbrev pub ruled : ℕ → SceneLine → Prism → Prism
ruled number (says.Blocked b) p = if b.target == number then record p { from = b.from; to = b.to } else p
ruled number (says.Drift d) p = if d.target == number then record p { drift = Some d.by } else p
ruled number other p = p

-- the target as all lines of the target with this number change it; of several of a kind the last counts
abbrev pub prism_of : ℕ → List SceneLine → Prism → Prism
prism_of number lines p = fold (λ earlier line. ruled number line earlier) p lines

-- the targets, of which the first has this number, as the lines change them. A target that no line changes is never hidden and
-- doesn't move, and a line about a number that no target has changes nothing
abbrev pub prisms_of : List SceneLine → ℕ → List Target → List Prism
prisms_of lines number [] = []
prisms_of lines number (t ∷ ts) = prism_of number lines (still t) ∷ prisms_of lines (suc number) ts

-- the delay of a line `delay`; none of any other line
abbrev pub delay_in : SceneLine → Option Delay
delay_in (says.Delay d) = Some d
delay_in other = None

-- the delays of the lines `delay`, in order
abbrev pub delays_of : List SceneLine → List Delay
delays_of lines = filter_map delay_in lines

-- the fault at which the instrument starts anew, of a line `fault RPC restart`; none of any other line
abbrev pub start_in : SceneLine → Option Fault
start_in (says.Start f) = Some f
start_in other = None

-- the faults at which the instrument starts anew, in order
abbrev pub starts_of : List SceneLine → List Fault
starts_of lines = filter_map start_in lines

-- whether the instrument drops what comes while it is busy, as a line `busy` says; nothing of any other line
abbrev pub drops_in : SceneLine → Option Bool
drops_in says.Queues = Some false
drops_in says.Drops = Some true
drops_in other = None

-- whether the instrument drops what comes while it is busy: as the last line `busy` says, or `b` if there is none
abbrev pub drops_from : (b : Bool) → List SceneLine → Bool
drops_from b lines = last_value drops_in b lines

-- the delay of a line that says that replies come late; none of any other line
abbrev pub late_in : SceneLine → Option Delay
late_in (says.Late d) = Some d
late_in other = None

-- the delays of the lines that say so, in order
abbrev pub late_of : List SceneLine → List Delay
late_of lines = filter_map late_in lines

-- What an instrument has room for.

-- the lines have no more of anything than an instrument has room for
pub record FitAnInstrument (lines : List SceneLine) : Type 0 where
  pub targets : length (targets_of lines) ≤ MOST_TARGETS
  pub faults : length (faults_of lines) ≤ MOST_FAULTS
  pub answers : length (answers_of lines) ≤ MOST_ANSWERS
  pub starts : length (starts_of lines) ≤ MOST_STARTS
  pub delays : length (delays_of lines) ≤ MOST_DELAYS
  pub late : length (late_of lines) ≤ MOST_DELAYS

-- the lines have more targets than an instrument has room for
abbrev pub HaveManyTargets : List SceneLine → Type 0
HaveManyTargets lines = MOST_TARGETS < length (targets_of lines)

-- the lines have more faults or more replies than an instrument has room for
abbrev pub HaveManyRules : List SceneLine → Type 0
HaveManyRules lines = (MOST_FAULTS < length (faults_of lines)) ⊎ (MOST_ANSWERS < length (answers_of lines))

-- the lines have more starts, or more delays of either kind, than an instrument has room for
abbrev pub HaveManyDelays : List SceneLine → Type 0
HaveManyDelays lines =
    (MOST_STARTS < length (starts_of lines)) ⊎ ((MOST_DELAYS < length (delays_of lines)) ⊎ (MOST_DELAYS < length (late_of lines)))

-- the lines have more of something than an instrument has room for
abbrev pub OverfillAnInstrument : List SceneLine → Type 0
OverfillAnInstrument lines = HaveManyTargets lines ⊎ (HaveManyRules lines ⊎ HaveManyDelays lines)

-- The instrument that lines set up, in its opening state.

-- the opening state of an instrument with these targets, and with the serial number and the name that the lines say: the
-- simulator's where they say none
abbrev pub opening_by : List SceneLine → (targets : List Target) → State
opening_by lines targets = opening (serial_of simulator_opening.serial lines) (name_of simulator_opening.name lines) targets

-- the opening state of the instrument of the execution table that these lines set up (`opening_by`): the targets are theirs alone
abbrev pub scene_opening : List SceneLine → State
scene_opening lines = opening_by lines (targets_of lines)

-- the opening state of the instrument with rules that these lines set up: its serial number and its name are as `opening_by` has
-- them, and targets, faults, replies and all else are those of the lines alone
abbrev pub rules_opening : List SceneLine → SceneState
rules_opening lines = record {
  base = opening_by lines [];
  prisms = prisms_of lines 1 (targets_of lines);
  faults = faults_of lines;
  answers = answers_of lines;
  noise = noise_of None lines;
  looks = 0;
  repeats = repeats_of true lines;
  ways = ways_of no_ways lines;
  clock = None;
  moment = 0;
}

-- the opening state of the instrument with a clock that these lines set up: the one that their rules set up, their starts and delays,
-- and whether it drops what comes while it is busy, by their last line `busy`: without such a line it doesn't. It isn't busy at first
abbrev pub timed_opening : List SceneLine → SlowState
timed_opening lines = record {
  scene = record { scene = rules_opening lines; starts = starts_of lines };
  delays = delays_of lines;
  drops = drops_from false lines;
  free_from = 0;
}

-- this is the opening state of the instrument of the execution table that the lines set up
abbrev pub OpensPlain : List SceneLine → State → Type 0
OpensPlain lines state = (state ≡ scene_opening lines) × IsFittingState state

-- this is the opening state of the instrument with rules that the lines set up
abbrev pub OpensRuled : List SceneLine → SceneState → Type 0
OpensRuled lines state = state ≡ rules_opening lines

-- this is the opening state of the instrument with a clock that the lines set up
abbrev pub OpensTimed : List SceneLine → SlowState → Type 0
OpensTimed lines state = state ≡ timed_opening lines

-- this is the instrument with rules that the lines set up, in its opening state, which sends the replies to these procedures late
pub record OpensLate (lines : List SceneLine) (scene : LateScene) : Type 0 where
  pub instrument : scene.instrument ≡ rules_opening lines
  pub delays : scene.delays.items ≡ late_of lines

-- whether the instrument sends some replies late
abbrev pub is_late : LateScene → Bool
is_late scene = not (length scene.delays.items == 0)

-- Texts. Each kind of scene has a form of lines, `IsLineOf` that kind.

-- the text is lines in this form, which fit an instrument, and this is the instrument that they set up, as `Opens` says
pub record SetsUp {Opened : Type 0} (form : ItemForm SceneLine) (Opens : List SceneLine → Opened → Type 0) (text : List ℕ) (opened : Opened) : Type 0 where
  pub lines : List SceneLine
  pub are : IsTextOf form text lines
  pub few : FitAnInstrument lines
  pub opens : Opens lines opened

-- the text is lines in this form, with more of something than an instrument has room for
pub record IsOverfull (form : ItemForm SceneLine) (text : List ℕ) : Type 0 where
  pub lines : List SceneLine
  pub are : IsTextOf form text lines
  pub many : OverfillAnInstrument lines

-- why a text sets up no instrument, where its lines should be in this form: it is a scene of more than an instrument has room for
-- (`IsOverfull`); or it is too long, or one of its lines that aren't skipped hasn't the form, or memory was refused (`TextFault`)
abbrev pub SceneFault : ItemForm SceneLine → List ℕ → RunFault → Type 0
SceneFault form text SceneFull = (length text ≤ TEXT_LIMIT) × IsOverfull form text
SceneFault form text fault = TextFault form text fault

-- the text is a scene without rules, of no more targets than an instrument has room for, and this is the opening state of its instrument
abbrev pub IsScene : List ℕ → State → Type 0
IsScene text state = SetsUp (IsLineOf kind.Plain) OpensPlain text state

-- the text is a scene without rules, of more targets than an instrument has room for
abbrev pub IsOverfullScene : List ℕ → Type 0
IsOverfullScene text = IsOverfull (IsLineOf kind.Plain) text

-- the text is a scene for `serve`, which alone has the clock that some lines want, and this is the opening state of its instrument. A
-- scene for `serve` needn't have any of these lines
abbrev pub IsTimedScene : List ℕ → SlowState → Type 0
IsTimedScene text state = SetsUp (IsLineOf kind.Timed) OpensTimed text state
