-- Any sequence of calls, this project's own: what a client does over the calls that a caller makes on a state.
use Rattle.geocom_c.specs.Common.{rest_behind, Asked, the_word, Course, begun, course}
use Rattle.std.specs.Prelude.{◌≡◌, ◌⊎◌, ℕ, List, [], ◌∷◌, map}
use Rattle.geocom_c.specs.Beginning.{left_by_restart, left_by_bytes}
use Rattle.geocom_c.specs.Rest.{lines_completed, HeardBut}
use Rattle.geocom_c.specs.Sending.{RequestRule, raw_rule, table_rule}
use Rattle.geocom_c.specs.State.{StandsForClient, left_of}
use Rattle.geocom_c.specs.declared.state.GeocomClient.{GeocomClient}
use Rattle.geocom_c.specs.declared.following.StateCall.{StateCall}
use Rattle.geocom_c.specs.declared.following.StateCall.TheVariants.{Send, SendRaw, Begin, Feed, Expire, Restart}
use Rattle.gc_client.specs.OneForOne as one

-- the course of a client that was of the course `x`, and then hears these lines, in order
abbrev pub hearing_lines : (width : ℕ) → Course Asked → (lines : List (List ℕ)) → Course Asked
hearing_lines width x lines = course width x (map one.Hear lines)

-- the course of a client that was of the course `x`, and then hears, in order, each line that these bytes end, where `rest` came
-- before them since the last line feed
abbrev pub hearing : (width : ℕ) → Course Asked → (rest bytes : List ℕ) → Course Asked
hearing width x rest bytes = hearing_lines width x (lines_completed rest bytes)

-- the state stands for the client of the course `x`, with the bytes `rest` since the last line feed
abbrev pub StandsForCourse : (width : ℕ) → GeocomClient → (x : Course Asked) → (rest : List ℕ) → Type 0
StandsForCourse width state x rest = StandsForClient state (record { width = width; ids = x.client }) rest

-- how far calls have brought a client: its course, the bytes since the last line feed, and the ids of the synchronization that
-- aren't answered
pub record CallStage : Type 0 where
  pub reached : Course Asked
  pub rest : List ℕ
  pub left : List ℕ

-- a client that was just made: no null procedure is answered
abbrev pub first_stage : CallStage
first_stage = record { reached = begun; rest = []; left = the_word }

-- the state stands for a client at this stage
pub record IsAtStage (width : ℕ) (s : CallStage) (state : GeocomClient) : Type 0 where
  pub stands : StandsForCourse width state s.reached s.rest
  pub left : left_of state ≡ s.left

-- `Then` holds of the steps of the client that a send makes, where `left` are the ids that aren't answered: of one step if the client
-- has synchronized and `rule` asks for something, and else of none
abbrev pub SendMakes : {X E : Type 0} → (left : List ℕ) → RequestRule X E → (target deadline : ℕ) → (Then : List (one.Step Asked) → Type 0) → Type 0
SendMakes {X = X} left rule target deadline Then =
    ((x : X) × (left ≡ []) × rule.is x × Then (one.Send target (rule.to x) deadline ∷ []))
    ⊎ ((left ≡ [] → (x : X) → rule.is x → ⊥) × Then [])

-- `Then` holds of the steps of the client that a call makes, where `left` are the ids that aren't answered, and `rest` the bytes
-- since the last line feed. A send makes one for a call of the table with its number and parameters, whether the window has room or
-- not, and a raw send for a raw call with these (`SendMakes`). Each line that a feed ends is a step, and so are a moment and a
-- restart, also before the client has synchronized. A begin makes none: its lines are heard by the synchronization alone
abbrev pub CallMakes : (left rest : List ℕ) → StateCall → (Then : List (one.Step Asked) → Type 0) → Type 0
CallMakes left rest (Send target deadline procedure params) Then = SendMakes left (table_rule procedure params.now) target deadline Then
CallMakes left rest (SendRaw target deadline procedure params) Then = SendMakes left (raw_rule procedure params.now) target deadline Then
CallMakes left rest (Begin bytes) Then = Then []
CallMakes left rest (Feed bytes) Then = Then (map one.Hear (lines_completed rest bytes.now))
CallMakes left rest (Expire now) Then = Then (one.Expire now ∷ [])
CallMakes left rest Restart Then = Then (one.Restart ∷ [])

-- the ids that aren't answered after a call, where `left` weren't before it
abbrev pub left_by_call : (left rest : List ℕ) → StateCall → List ℕ
left_by_call left rest (Begin bytes) = left_by_bytes left rest bytes.now
left_by_call left rest Restart = left_by_restart left
left_by_call left rest other = left

-- the bytes since the last line feed after a call, where they were `rest` before it: a restart discards them
abbrev pub rest_by_call : (rest : List ℕ) → StateCall → List ℕ
rest_by_call rest (Begin bytes) = rest_behind rest bytes.now
rest_by_call rest (Feed bytes) = rest_behind rest bytes.now
rest_by_call rest Restart = []
rest_by_call rest other = rest

-- the stage after a call that makes these steps
abbrev pub stage_after : (width : ℕ) → CallStage → StateCall → List (one.Step Asked) → CallStage
stage_after width s call steps = record {
  reached = course width s.reached steps;
  rest = rest_by_call s.rest call;
  left = left_by_call s.left s.rest call;
}

-- over these calls, in order, the client comes from the stage s to the stage t, by the steps that each call makes (`CallMakes`)
abbrev pub CallsReach : (width : ℕ) → (s : CallStage) → List StateCall → (t : CallStage) → Type 0
CallsReach width s [] t = t ≡ s
CallsReach width s (call ∷ calls) t = CallMakes s.left s.rest call (λ steps. CallsReach width (stage_after width s call steps) calls t)

-- no part of a promise: all these calls but the last ones, `later`, were made on a client at the stage s, which is at some stage
-- (`stage`) since then. What `later` come to from there, `calls` come to from s
pub record MadeBut (width : ℕ) (s : CallStage) (calls : List StateCall) (state : GeocomClient) (later : List StateCall) : Type 0 where
  pub stage : CallStage
  pub at : IsAtStage width stage state
  pub on : (t : CallStage) → CallsReach width stage later t → CallsReach width s calls t

-- no part of a promise: all these bytes but the last ones, `unfed`, were fed to a client, whatever its course, which has heard the
-- lines that they end (`HeardBut`), and changed its state from `old` to `new`
abbrev pub FeedsBut : (bytes unfed : List ℕ) → (old new : GeocomClient) → Type 0
FeedsBut bytes unfed old new =
    (width : ℕ) (x : Course Asked) (rest : List ℕ) → StandsForCourse width old x rest
    → HeardBut (hearing_lines width) (StandsForCourse width new) x rest bytes unfed

-- no part of a promise: all these bytes were fed to a client, whatever its course, which has heard each line that they end, and
-- changed its state from `old` to `new`
abbrev pub FeedsBytes : (bytes : List ℕ) → (old new : GeocomClient) → Type 0
FeedsBytes bytes old new =
    (width : ℕ) (x : Course Asked) (rest : List ℕ) → StandsForCourse width old x rest
    → StandsForCourse width new (hearing width x rest bytes) (rest_behind rest bytes)
