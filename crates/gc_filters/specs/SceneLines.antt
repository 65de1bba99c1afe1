-- The lines of scenes, of whatever kind: what each says, and for which scenes it is: this project's own.
use Rattle.gc_filters.specs.Common.{list_all, raw_bytes, Target, Delay, Fault, Noise, Scripted, before, behind, IsNumber, IsRpc, first_word, second_word, third_word, fourth_word, after_two_words, after_three_words, after_four_words, SpellsDecimal, NamesWhole, FitsLong}
use Rattle.std.specs.Prelude.{◌≡◌, ◌⊎◌, ℕ, ℤ, Bool, true, false, IsTrue, List, [], ◌∷◌, ◌++◌, Some, codes}
use Rattle.gc_catalogue.specs.declared.raw.RawCall.{RawCall}
use Rattle.gc_scenes.specs.declared.rules.Offset.{Offset}
use Rattle.gc_scenes.specs.declared.ways.Way.{Way}
use Rattle.gc_filters.specs.declared.scene_line.Blocked.{Blocked}
use Rattle.gc_filters.specs.declared.scene_line.Drift.{Drift}
use Rattle.gc_filters.specs.declared.scene_line.Need.{Need}
use Rattle.gc_filters.specs.declared.scene_line.SceneKind.{SceneKind}
use Rattle.gc_filters.specs.declared.scene_line.SceneLine.{SceneLine}
use Rattle.gc_filters.specs.declared.scene_line.Span.{Span}
use Rattle.gc_scenes.specs.declared.ways.Way.TheVariants as way
use Rattle.gc_values.specs.Text as text
use Rattle.gc_filters.specs.declared.scene_line.Need.TheVariants as need
use Rattle.gc_filters.specs.declared.scene_line.SceneKind.TheVariants as kind
use Rattle.gc_filters.specs.declared.scene_line.SceneLine.TheVariants as says

-- the count of requests that a line `fault` without `for` stands for: the greatest number of 32 bits, for "without end". (Where
-- `after` is 0, such a fault does end, after so many.) This project's own
abbrev pub no_end : ℕ
no_end = 4294967295

-- the greatest number of a target that a line may name: an instrument has at most 32 targets, counted from 1. This project's own
abbrev pub scene_target_max : ℕ
scene_target_max = 32

-- the greatest number of a procedure, and the greatest return code: the greatest number of 16 bits, as the manual has them
abbrev pub code_max : ℕ
code_max = 65535

-- the first word of the text is `word`
abbrev pub Begins : (word text : List ℕ) → Type 0
Begins word text = first_word text ≡ word

-- the longest delay of a reply, in milliseconds: an hour. This project's own
abbrev pub delay_max : ℕ
delay_max = 3600000

-- the text is a number of 32 bits
abbrev pub IsCount : (text : List ℕ) → (n : ℕ) → Type 0
IsCount text n = IsNumber text n 4294967295

-- the line is `serial N`: a whole number in the range of a Long
abbrev pub IsSerialLine : List ℕ → ℤ → Type 0
IsSerialLine line n = Begins (codes "serial") line × NamesWhole (behind 32 line) n × FitsLong n

-- the line is `name TEXT`: at most 64 bytes, none of them a double quote, CR or LF
pub record IsNameLine (line bytes : List ℕ) : Type 0 where
  pub line_is : line ≡ codes "name " ++ bytes
  pub text : text.IsText bytes

-- these three words are two angles in radians and a distance in metres, as decimals, and the offset has these
pub record AreOffsetWords (first second third : List ℕ) (o : Offset) : Type 0 where
  pub hz : SpellsDecimal first o.hz
  pub v : SpellsDecimal second o.v
  pub distance : SpellsDecimal third o.distance

-- the words are `HZ V D`: two angles in radians and a distance in metres, as decimals
abbrev pub IsOffset : (words : List ℕ) → Offset → Type 0
IsOffset words o = AreOffsetWords (first_word words) (second_word words) (after_two_words words) o

-- the line is `target HZ V DISTANCE`: a target's angles in radians and its slope distance in metres
abbrev pub IsTargetLine : List ℕ → Target → Type 0
IsTargetLine line target =
    Begins (codes "target") line × IsOffset (behind 32 line) (record { hz = target.hz; v = target.v; distance = target.distance })

-- how many requests a fault meets: the words are empty, and it meets requests without end (`no_end`); or they are `for COUNT`
abbrev pub IsTimes : (words : List ℕ) → (times : ℕ) → Type 0
IsTimes [] times = times ≡ no_end
IsTimes (b ∷ bs) times = Begins (codes "for") (b ∷ bs) × IsCount (behind 32 (b ∷ bs)) times

-- which requests a fault meets, by the words behind `after`: they are `COUNT`, or `COUNT for COUNT`
abbrev pub IsAfter : (words : List ℕ) → Span → Type 0
IsAfter words span = IsCount (first_word words) span.after × IsTimes (behind 32 words) span.times

-- which requests a fault meets: the words are empty, `after COUNT`, `for COUNT`, or both in this order
abbrev pub IsSpan : (words : List ℕ) → Span → Type 0
IsSpan words span =
    (Begins (codes "after") words × IsAfter (behind 32 words) span)
    ⊎ ((Begins (codes "after") words → ⊥) × (span.after ≡ 0) × IsTimes words span.times)

-- the line is `fault RPC RC [after COUNT] [for COUNT]`: a procedure is answered with a return code. Where the
-- line has no `for`, it may end in a space. No request has met the fault yet
pub record IsFaultLine (line : List ℕ) (f : Fault) : Type 0 where
  pub word : Begins (codes "fault") line
  pub rpc : IsRpc (second_word line) f.rpc
  pub rc : IsNumber (third_word line) f.rc code_max
  pub span : IsSpan (after_three_words line) (record { after = f.after; times = f.times })
  pub met : f.met ≡ 0

-- the third word of the line is `restart`
abbrev pub SaysRestart : List ℕ → Type 0
SaysRestart line = Begins (codes "restart") (after_two_words line)

-- the line is `fault RPC restart [after COUNT] [for COUNT]`: the instrument starts anew at requests of a procedure. Where the line
-- has no `for`, it may end in a space. No request has met the fault yet, and its return code, which isn't used, is 0
pub record IsStartLine (line : List ℕ) (f : Fault) : Type 0 where
  pub word : Begins (codes "fault") line
  pub rpc : IsRpc (second_word line) f.rpc
  pub restarts : SaysRestart line
  pub span : IsSpan (after_three_words line) (record { after = f.after; times = f.times })
  pub unused : f.rc ≡ 0
  pub met : f.met ≡ 0

-- this reply is to this procedure, which isn't in the table, with this return code and these parameters
pub record Scripts (rpc rc : ℕ) (params : List ℕ) (a : Scripted) : Type 0 where
  pub rpc_is : a.rpc ≡ rpc
  pub rc_is : a.rc ≡ rc
  pub call : RawCall
  pub with_is : a.with ≡ Some call
  pub number : call.rpc ≡ rpc
  pub params_are : raw_bytes call.params ≡ params

-- the return code of a line `answer`: what stands before the first comma (byte 44) after the procedure
abbrev pub rc_in_answer : List ℕ → List ℕ
rc_in_answer line = before 44 (after_two_words line)

-- the parameters of a line `answer`: what follows that comma; empty where there is none
abbrev pub params_in_answer : List ℕ → List ℕ
params_in_answer line = behind 44 (after_two_words line)

-- the line is `answer` with this procedure and this return code, whatever parameters follow
pub record BeginsAnswer (line : List ℕ) (rpc rc : ℕ) : Type 0 where
  pub word : Begins (codes "answer") line
  pub rpc_is : IsRpc (second_word line) rpc
  pub rc_is : IsNumber (rc_in_answer line) rc code_max

-- the line is `answer RPC RC[,PARAMS]`: a procedure that isn't in the table, and its reply. The comma may also stand without parameters
pub record IsAnswerLine (line : List ℕ) (a : Scripted) : Type 0 where
  pub begins : BeginsAnswer line a.rpc a.rc
  pub reply : Scripts a.rpc a.rc (params_in_answer line) a

-- the line is `blocked TARGET FROM TO`: a target is hidden from look FROM through look TO, where looks are counted from 1
pub record IsBlockedLine (line : List ℕ) (b : Blocked) : Type 0 where
  pub word : Begins (codes "blocked") line
  pub target : IsNumber (second_word line) b.target scene_target_max
  pub from : IsCount (third_word line) b.from
  pub to : IsCount (after_three_words line) b.to

-- the line is `drift TARGET HZ V D`: a target moves by an offset with each measurement of it
pub record IsDriftLine (line : List ℕ) (d : Drift) : Type 0 where
  pub word : Begins (codes "drift") line
  pub target : IsNumber (second_word line) d.target scene_target_max
  pub by : IsOffset (after_two_words line) d.by

-- the line is `noise HZ V D SEED`: the most by which measurements deviate, in radians and metres, and the seed of the deviations
pub record IsNoiseLine (line : List ℕ) (n : Noise) : Type 0 where
  pub word : Begins (codes "noise") line
  pub most : AreOffsetWords (second_word line) (third_word line) (fourth_word line)
      (record { hz = n.hz; v = n.v; distance = n.distance })
  pub seed : IsCount (after_four_words line) n.seed

-- the line that gives the instrument a way of real instruments, or all of them (`Real`)
abbrev pub way_line : Way → List ℕ
way_line way.Faces = codes "behave faces"
way_line way.Aims = codes "behave aims"
way_line way.Takes = codes "behave takes"
way_line way.Values = codes "behave values"
way_line way.Clock = codes "behave clock"
way_line way.Real = codes "behave real"

-- the line is `delay RPC MS`, with this word in place of `delay`: a procedure, and a delay in milliseconds of at most an hour
pub record IsDelayLine (first line : List ℕ) (d : Delay) : Type 0 where
  pub word : Begins first line
  pub rpc : IsRpc (second_word line) d.rpc
  pub ms : IsNumber (after_two_words line) d.ms delay_max

-- the line is `behave busy-then-late RPC MS`: a procedure, and after how many milliseconds its reply comes, at most an hour
pub record IsLateReplyLine (line : List ℕ) (d : Delay) : Type 0 where
  pub word : Begins (codes "behave") line
  pub delays : IsDelayLine (codes "busy-then-late") (behind 32 line) d

-- the line is written in the form of this item of a scene
abbrev pub IsSceneLine : List ℕ → SceneLine → Type 0
IsSceneLine line (says.Serial n) = IsSerialLine line n
IsSceneLine line (says.Name bytes) = IsNameLine line bytes
IsSceneLine line (says.Target target) = IsTargetLine line target
IsSceneLine line (says.Fault f) = IsFaultLine line f
IsSceneLine line (says.Answer a) = IsAnswerLine line a
IsSceneLine line (says.Blocked b) = IsBlockedLine line b
IsSceneLine line (says.Drift d) = IsDriftLine line d
IsSceneLine line (says.Noise n) = IsNoiseLine line n
IsSceneLine line (says.Behave w) = line ≡ way_line w
IsSceneLine line says.NoRepeats = line ≡ codes "repeats no"
IsSceneLine line (says.Delay d) = IsDelayLine (codes "delay") line d
IsSceneLine line (says.Start f) = IsStartLine line f
IsSceneLine line says.Queues = line ≡ codes "busy queue"
IsSceneLine line says.Drops = line ≡ codes "busy drop"
IsSceneLine line (says.Late d) = IsLateReplyLine line d

-- what a way of real instruments needs: the ways with a clock need one that runs
abbrev pub way_need : Way → Need
way_need way.Clock = need.Clock
way_need way.Real = need.Clock
way_need other = need.Rules

-- what a line needs that says this
abbrev pub need_of : SceneLine → Need
need_of (says.Serial n) = need.Table
need_of (says.Name bytes) = need.Table
need_of (says.Target target) = need.Table
need_of (says.Behave w) = way_need w
need_of (says.Delay d) = need.Serve
need_of (says.Start f) = need.Serve
need_of says.Queues = need.Serve
need_of says.Drops = need.Serve
need_of (says.Late d) = need.Rehearsal
need_of other = need.Rules

-- whether a scene of this kind may have a line with this need
abbrev pub takes : SceneKind → Need → Bool
takes k need.Table = true
takes kind.Plain n = false
takes k need.Rules = true
takes kind.Still n = false
takes k need.Clock = true
takes kind.Timed need.Serve = true
takes kind.Late need.Rehearsal = true
takes k n = false

-- whether a scene of this kind may have all of these lines
abbrev pub takes_all : SceneKind → List SceneLine → Bool
takes_all k lines = list_all (λ line. takes k (need_of line)) lines

-- the line is written in the form of this item, which a scene of this kind may have
abbrev pub IsLineOf : SceneKind → List ℕ → SceneLine → Type 0
IsLineOf k line item = IsSceneLine line item × IsTrue (takes k (need_of item))
