-- An instrument whose replies take time: this project's own. Moments are milliseconds on one clock; only their differences count.
-- `rpc` is a procedure's number.
use Rattle.gc_scenes.specs.Common.{AnswersLines, RequestFields, IsRequest, Frame, later}
use Rattle.std.specs.Prelude.{◌≡◌, ℕ, ◌<◌, ◌≤◌, ◌==◌, Bool, true, List, Option, Some, None, if◌then◌else◌, max, fold}
use Rattle.gc_scenes.specs.Starting.{StartingState, StartsOrPlays, starting_restarted, starting_at}
use Rattle.gc_scenes.specs.declared.delay.Delay.{Delay}

-- how long the reply to a request of this procedure takes with this delay, in milliseconds, if it takes `ms` without it
abbrev pub delayed : (rpc ms : ℕ) → Delay → ℕ
delayed rpc ms d = if d.rpc == rpc then d.ms else ms

-- how long the reply to a request of this procedure takes, in milliseconds, by the last delay for the procedure; 0 without one
abbrev pub delay_of : (rpc : ℕ) → List Delay → ℕ
delay_of rpc delays = fold (delayed rpc) 0 delays

-- if the line is a request, its reply takes `ms` milliseconds by these delays
abbrev pub IsDelay : (delays : List Delay) → (line : List ℕ) → (ms : ℕ) → Type 0
IsDelay delays line ms = (q : RequestFields) → IsRequest line q → ms ≡ delay_of q.rpc delays

-- the state of a scene's instrument whose replies take time
pub record SlowState : Type 0 where
  pub scene : StartingState
  pub delays : List Delay
  -- whether lines that come while the instrument is busy are discarded
  pub drops : Bool
  -- the moment at which the last reply goes out, 0 before the first: the instrument is busy until then
  pub free_from : ℕ

-- the state after a restart of the instrument, which is as busy as before
abbrev pub slow_restarted : SlowState → SlowState
slow_restarted s = record s { scene = starting_restarted s.scene }

-- the instrument takes up a line that comes at this moment, and doesn't discard it: it isn't busy then, or discards no lines
abbrev pub TakesUp : SlowState → (at : ℕ) → Type 0
TakesUp s at = s.drops ≡ true → s.free_from ≤ at

-- the moment at which the instrument starts on a line that came at the moment `at`, unless it discards the line: `at`, or
-- `free_from` if it is busy until then
abbrev pub taken_up : SlowState → (at : ℕ) → ℕ
taken_up s at = max at s.free_from

-- the state of the scene's instrument when it starts on a line that came at the moment `came`
abbrev pub scene_then : SlowState → (came : ℕ) → StartingState
scene_then s came = starting_at (taken_up s came) s.scene

-- what the instrument does with a line whose last byte came at the moment `at`, and its reply, if there is one. The reply goes
-- out at `after.free_from`
pub data HearsLine (before : SlowState) (line : List ℕ) (at : ℕ) (after : SlowState) (reply : Option (List ℕ)) : Type 0 where
  -- the instrument is busy, and discards the line: nothing is executed
  drops_it : before.drops ≡ true → at < before.free_from → after ≡ before → reply ≡ None → HearsLine before line at after reply
  -- the line gets no reply: it is no request
  silent : TakesUp before at → (scene : StartingState) → StartsOrPlays (scene_then before at) line scene None
      → after ≡ record before { scene = scene } → reply ≡ None
      → HearsLine before line at after reply
  -- the line is a request: its reply, or the sign-on line in its place, goes out `ms` milliseconds after the instrument started on it
  replies : TakesUp before at → (scene : StartingState) → (text : List ℕ) → StartsOrPlays (scene_then before at) line scene (Some text) → (ms : ℕ)
      → IsDelay before.delays line ms
      → after ≡ record before { scene = scene; free_from = later (taken_up before at) ms } → reply ≡ Some text
      → HearsLine before line at after reply

-- what the slow instrument does with a frame that came at the moment `at`, where `text` is what it sends: the reply to a line
-- with its CR LF, and nothing for a frame that is no line
abbrev pub HearsFrame : (before : SlowState) → Frame → (at : ℕ) → (after : SlowState) → (text : Option (List ℕ)) → Type 0
HearsFrame before frame at after text = AnswersLines (λ s line t reply. HearsLine s line at t reply) before frame after text

-- what the slow instrument does with a frame that came at some moment
abbrev pub HearsSometime : (before : SlowState) → Frame → (after : SlowState) → (text : Option (List ℕ)) → Type 0
HearsSometime before frame after text = (at : ℕ) × HearsFrame before frame at after text
