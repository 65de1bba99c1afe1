-- Runs in which damage spreads, this project's own: an undamaged line answers a request that it wasn't made for. And a run without damage
-- in which a client that holds back stops. They are computed.
use Rattle.gc_theorems.specs.Common.{WINDOW, IDS}
use Rattle.std.specs.Prelude.{◌≡◌, ℕ, zero, suc, ◌+◌, ◌%◌, List, [], ◌∷◌, ◌++◌, Option, Some, None, replicate, slice_get}
use Rattle.gc_theorems.specs.Damage.{Of, Damaged}
use Rattle.gc_theorems.specs.OneQueue.{Step, Send, Deliver, Damage, Lose, Repeat, ArePossible, account_at_end}
use Rattle.gc_theorems.specs.Slack.{HasNoDamage}
use Rattle.gc_theorems.specs.ClientHoldingBack.{holding, holding_nothing, outstanding}

-- how lines are read in these runs: the id is the first byte
abbrev pub first_byte : List ℕ → Option ℕ
first_byte [] = None
first_byte (x ∷ xs) = Some x

-- a line with this id, as these runs read it
abbrev pub with_id : (id : ℕ) → List ℕ
with_id id = id ∷ []

-- a send
abbrev pub a_send : Step ℕ
a_send = Send 0 0 0

-- that many sends
abbrev pub some_sends : (count : ℕ) → List (Step ℕ)
some_sends count = replicate count a_send

-- One damaged line spreads: by the rule of gc_client, with the window of seven. The reply to request 0 comes twice, and the first copy is
-- damaged: its id becomes 1. That answers request 1 falsely, and loses request 0. The client sends seven more, up to request 8, which has
-- the id of request 0. The second copy, which is as the instrument made it, answers request 8. From then on each true reply answers the
-- request eight after its own, as long as the window is full.
abbrev pub spreading : List (Step ℕ)
spreading =
    some_sends 2 ++ Repeat 0 ∷ Lose 0 ∷ Damage (with_id 1) ∷ some_sends 7
    ++ Deliver (with_id 0) ∷ a_send ∷ Deliver (with_id 1) ∷ a_send ∷ Deliver (with_id 2) ∷ a_send ∷ Deliver (with_id 3) ∷ []

-- that run is possible, one damaged line comes, and five requests are answered falsely: one by that line, and requests 8 to 11
pub record OneDamagedLineSpreads : Type 0 where
  pub possible : ArePossible first_byte WINDOW spreading
  pub one : (account_at_end first_byte WINDOW spreading).damaged ≡ 1
  pub false_ends :
      (account_at_end first_byte WINDOW spreading).settled
      ≡ None ∷ Some Damaged ∷ None ∷ None ∷ None ∷ None ∷ None ∷ None ∷ Some (Of 0) ∷ Some (Of 1) ∷ Some (Of 2) ∷ Some (Of 3) ∷ []

-- this many times (`times`), the window of this width is filled, and a damaged line comes with the id of the last request, which is
-- request `last` at first; then the window is filled once more
abbrev pub filling : (width times last : ℕ) → List (Step ℕ)
filling width zero last = some_sends width
filling width (suc times) last = some_sends width ++ Damage (with_id (last % IDS)) ∷ filling width times (last + width)

-- the reply to request 0 comes, and a second copy of it stays in flight, until the window was filled as `filling` says
abbrev pub overdue : (width times : ℕ) → List (Step ℕ)
overdue width times = a_send ∷ Repeat 0 ∷ Deliver (with_id 0) ∷ filling width times width ++ Deliver (with_id 0) ∷ []

-- with a window of this width, that run is possible with so many damaged lines (`times`), and the second copy answers request 8
pub record IsTooMuch (width times : ℕ) : Type 0 where
  pub possible : ArePossible first_byte width (overdue width times)
  pub damaged : (account_at_end first_byte width (overdue width times)).damaged ≡ times
  pub false_end : slice_get (account_at_end first_byte width (overdue width times)).settled 8 ≡ Some (Some (Of 0))

-- The bound of `RareDamageIsLocal`, (k + 1) * width ≤ 7, is sharp for each window: one damaged line more than it allows is too much.
pub record RareBoundIsSharp : Type 0 where
  pub seven : IsTooMuch 7 1
  pub six : IsTooMuch 6 1
  pub five : IsTooMuch 5 1
  pub four : IsTooMuch 4 1
  pub three : IsTooMuch 3 2
  pub two : IsTooMuch 2 3
  pub one : IsTooMuch 1 7

-- Two damaged lines in a row spread, also if the client holds back, with a window of six. The reply to request 0 comes twice, and the
-- first copy is damaged: its id becomes 1. The client sends as many more as it has room for, up to request 6, and a damaged line answers
-- that one. Then it sends two more, up to request 8, and the second copy answers that one.
abbrev pub two_in_a_row : List (Step ℕ)
two_in_a_row =
    some_sends 2 ++ Repeat 0 ∷ Lose 0 ∷ Damage (with_id 1) ∷ some_sends 5 ++ Damage (with_id 6) ∷ some_sends 2 ++ Deliver (with_id 0) ∷ []

-- that run is possible, and the client that holds back refuses none of its sends; two damaged lines come; and request 8 is answered falsely
pub record TwoInARowSpread : Type 0 where
  pub possible : ArePossible first_byte 6 two_in_a_row
  pub held_back : (holding first_byte 6 holding_nothing two_in_a_row).queue.account ≡ account_at_end first_byte 6 two_in_a_row
  pub two : (account_at_end first_byte 6 two_in_a_row).damaged ≡ 2
  pub false_end : slice_get (account_at_end first_byte 6 two_in_a_row).settled 8 ≡ Some (Some (Of 0))

-- Holding back may stop a client, with a window of six and without damage. It sends six requests, and the replies to the first five are lost.
-- That to the sixth settles all six. The next request is lost, too.
abbrev pub stopping : List (Step ℕ)
stopping = some_sends 6 ++ replicate 5 (Lose 0) ++ Deliver (with_id 5) ∷ a_send ∷ Lose 0 ∷ []

-- that run is possible, it has no damage, and the client that holds back refuses none of its sends; then one request is outstanding, nothing is
-- in flight, and a further send is refused
pub record HoldingBackMayStop : Type 0 where
  pub possible : ArePossible first_byte 6 stopping
  pub undamaged : HasNoDamage stopping
  pub held_back : (holding first_byte 6 holding_nothing stopping).queue.account ≡ account_at_end first_byte 6 stopping
  pub one : outstanding (holding first_byte 6 holding_nothing stopping).queue ≡ 1
  pub none : (holding first_byte 6 holding_nothing stopping).queue.lines ≡ []
  pub refused : holding first_byte 6 holding_nothing (stopping ++ a_send ∷ []) ≡ holding first_byte 6 holding_nothing stopping
