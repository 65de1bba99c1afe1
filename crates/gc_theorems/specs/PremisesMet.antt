-- Runs that meet the premises of the laws, this project's own. They are computed.
use Rattle.gc_theorems.specs.Common.{WINDOW}
use Rattle.std.specs.Prelude.{◌≡◌, ℕ, true, List, [], ◌∷◌, ◌++◌, length, replicate, Some, None}
use Rattle.gc_theorems.specs.Damage.{Event, Of, Damaged, AllComeFresh, account, account_heard, opened}
use Rattle.gc_theorems.specs.OneQueue.{Step, Deliver, Damage, Lose, Repeat, ArePossible, account_at_end, newly_settled, nothing_in_flight, queue}
use Rattle.gc_theorems.specs.Slack.{HaveSlack, AreRare, HasNoDamage}
use Rattle.gc_theorems.specs.ClientHoldingBack.{AreApart, holding, holding_nothing}
use Rattle.gc_theorems.specs.TwoQueues.{Act, ArePossibleWithSlack, Execute, Answer_again, Up_lose, Up_repeat, Up_noise, Down_lose, Down_repeat, Down_noise, acted, empty_line}
use Rattle.gc_theorems.specs.Spreading.{a_send, first_byte, some_sends, with_id}
use Rattle.gc_theorems.specs.Damage as client
use Rattle.gc_theorems.specs.TwoQueues as line

-- Three requests are sent. The reply to request 0 comes twice, and the first copy is damaged: its id becomes 1. One more request is sent
-- while the second copy is in flight, and each true reply answers its own request, or is a stray. Then request 4 is answered by a damaged
-- line, before its own reply comes, and request 5 by its own.
abbrev pub two_damaged : List (Step ℕ)
two_damaged =
    some_sends 3 ++ Repeat 0 ∷ Lose 0 ∷ Damage (with_id 1)
    ∷ a_send ∷ Deliver (with_id 0) ∷ Deliver (with_id 1) ∷ Deliver (with_id 2)
    ∷ a_send ∷ Deliver (with_id 3) ∷ Damage (with_id 4)
    ∷ a_send ∷ Deliver (with_id 4) ∷ Deliver (with_id 5) ∷ []

-- the same as a client sees it
abbrev pub two_damaged_events : List (Event ℕ)
two_damaged_events =
    client.Send 0 0 0 ∷ client.Send 0 0 0 ∷ client.Send 0 0 0 ∷ client.Hear Damaged (with_id 1)
    ∷ client.Send 0 0 0 ∷ client.Hear (Of 0) (with_id 0) ∷ client.Hear (Of 1) (with_id 1) ∷ client.Hear (Of 2) (with_id 2)
    ∷ client.Send 0 0 0 ∷ client.Hear (Of 3) (with_id 3) ∷ client.Hear Damaged (with_id 4)
    ∷ client.Send 0 0 0 ∷ client.Hear (Of 4) (with_id 4) ∷ client.Hear (Of 5) (with_id 5) ∷ []

-- a run over both queues: the reply to request 0 is repeated and altered as above; request 1 is repeated, executed, and answered again;
-- request 2 is altered on its way, and what the instrument makes of it answers request 2
abbrev pub two_damaged_acts : List (Act ℕ)
two_damaged_acts =
    line.Send 0 0 0 ∷ line.Send 0 0 0 ∷ line.Send 0 0 0
    ∷ Execute true ∷ Down_repeat 0 ∷ Down_lose 0 ∷ Down_noise 0 ∷ line.Deliver (with_id 1)
    ∷ line.Send 0 0 0
    ∷ Up_repeat 0 ∷ Execute true ∷ Answer_again ∷ line.Deliver (with_id 0) ∷ line.Deliver (with_id 1) ∷ line.Deliver (with_id 1)
    ∷ Up_lose 0 ∷ Up_noise 0 ∷ Execute true ∷ line.Deliver (with_id 2)
    ∷ Execute true ∷ line.Deliver (with_id 3) ∷ []

-- what a client sees of the run `spreading` until the second copy comes: request 8 is outstanding then, which has the id of request 0
abbrev pub until_stale : List (Event ℕ)
until_stale = client.Send 0 0 0 ∷ client.Send 0 0 0 ∷ client.Hear Damaged (with_id 1) ∷ replicate 7 (client.Send 0 0 0)

-- one request is sent, and its reply comes, of which a second copy is in flight
abbrev pub repeated_reply : List (Step ℕ)
repeated_reply = a_send ∷ Repeat 0 ∷ Deliver (with_id 0) ∷ []

-- the runs meet the premises: the first with a window of three, and in each of its forms two damaged lines come
pub record PremisesAreMet : Type 0 where
  -- `two_damaged`: what holds of it, and how its requests were answered
  pub possible : ArePossible first_byte 3 two_damaged
  pub slack : HaveSlack first_byte 3 two_damaged
  -- k is 1 here, and (1 + 1) * 3 is at most 7
  pub rare : AreRare first_byte 3 1 two_damaged
  pub apart : AreApart first_byte 3 holding_nothing two_damaged
  pub came : (account_at_end first_byte 3 two_damaged).damaged ≡ 2
  pub ended : (account_at_end first_byte 3 two_damaged).settled ≡ None ∷ Some Damaged ∷ Some (Of 2) ∷ Some (Of 3) ∷ Some Damaged ∷ Some (Of 5) ∷ []
  -- it is the same run by each definition
  pub fresh : AllComeFresh first_byte 3 opened two_damaged_events
  pub as_events : account first_byte 3 opened two_damaged_events ≡ account_at_end first_byte 3 two_damaged
  pub held_back : (holding first_byte 3 holding_nothing two_damaged).queue.account ≡ account_at_end first_byte 3 two_damaged
  -- `two_damaged_acts`
  pub over_the_line : ArePossibleWithSlack first_byte 3 empty_line two_damaged_acts
  pub line_came : (acted first_byte 3 empty_line two_damaged_acts).account.damaged ≡ 2
  pub line_ended : (acted first_byte 3 empty_line two_damaged_acts).account.settled ≡ None ∷ Some Damaged ∷ Some Damaged ∷ Some (Of 3) ∷ []
  -- `FreshnessIsNeeded`: request 8 is sent and not settled
  pub stale : AllComeFresh first_byte WINDOW opened until_stale
  pub stale_settled : length (account first_byte WINDOW opened until_stale).settled ≡ 2
  pub stale_sent : (account first_byte WINDOW opened until_stale).sent ≡ 9
  -- `WithoutDamageEachAnswerIsOwn` and `StraysAreOfTheLast`: the second copy is a stray
  pub undamaged : HasNoDamage repeated_reply
  pub undamaged_possible : ArePossible first_byte WINDOW repeated_reply
  pub stray_next : (queue first_byte WINDOW nothing_in_flight repeated_reply).lines ≡ record { number = 0; settled_by_damage = 0; damaged = 0 } ∷ []
  pub stray :
      newly_settled (account_at_end first_byte WINDOW repeated_reply)
      (account_heard first_byte WINDOW (account_at_end first_byte WINDOW repeated_reply) (Of 0) (with_id 0)) ≡ 0
