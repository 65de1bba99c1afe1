-- The line as two queues, this project's own: requests in flight to an instrument, the reply that it keeps, and replies in flight to the
-- client. Each queue keeps order, loses lines, and repeats one directly after itself. A line in it is whole, or noise: a line that is
-- altered is lost, with any noise in its place. What the instrument makes of noise is noise, and so is what it keeps of it. The instrument
-- executes a request, and keeps its reply or nothing; or it sends again what it keeps. It isn't asked that it does so only for a request
-- with the kept id: more may happen here than can. One thing isn't expressible: that an instrument executes a raw request, and goes on
-- keeping an older reply.
use Rattle.gc_theorems.specs.Common.{AllByRecursion, WINDOW, IDS, ById, Sending, sends}
use Rattle.std.specs.Prelude.{◌≡◌, ℕ, ◌+◌, ◌%◌, ◌≤◌, Bool, List, [], ◌∷◌, ◌++◌, take, drop, Option, Some, None, IfSome, if◌then◌else◌, ⊤}
use Rattle.gc_theorems.specs.Damage.{Account, IsLocal, Of, Damaged, account_sent, account_expired, account_heard, opened}
use Rattle.gc_theorems.specs.OneQueue.{InFlight, OneQueue, without, doubled, newly_settled, next_line}
use Rattle.gc_theorems.specs.Slack.{HasSlack}

-- a line in flight, or kept: whole, with its request; or noise
pub data Mark : Type 0 where
  Whole : (line : InFlight) → Mark
  Noise : Mark

-- the whole lines of a queue, in order
abbrev pub whole_in : List Mark → List InFlight
whole_in [] = []
whole_in (Whole x ∷ marks) = x ∷ whole_in marks
whole_in (Noise ∷ marks) = whole_in marks

-- what the instrument keeps, as a queue
abbrev pub as_queue : Option Mark → List Mark
as_queue None = []
as_queue (Some mark) = mark ∷ []

-- a client; how many requests damaged lines have settled (`settled_by_damage`); the lines in flight to the client and to the instrument, the
-- front of each queue first; and the reply that the instrument keeps
pub record TwoQueues (Q : Type 0) : Type 0 where
  pub account : Account Q
  pub settled_by_damage : ℕ
  pub down : List Mark
  pub kept : Option Mark
  pub up : List Mark

-- what happens
pub data Act (Q : Type 0) : Type 0 where
  -- the client is handed a request, or a moment is read; the front reply comes, as these bytes
  Send : (target : ℕ) (call : Q) (deadline : ℕ) → Act Q
  Expire : (now : ℕ) → Act Q
  Deliver : (line : List ℕ) → Act Q
  -- the front request reaches the instrument, which executes it, and keeps its reply or nothing; or which sends again what it keeps
  Execute : (keeps : Bool) → Act Q
  Answer_again : Act Q
  -- the instrument restarts, and keeps nothing
  Restart : Act Q
  -- of a queue, the line at this place is lost, or repeated; or noise is put there, before the line that was at this place
  Up_lose : (place : ℕ) → Act Q
  Up_repeat : (place : ℕ) → Act Q
  Up_noise : (place : ℕ) → Act Q
  Down_lose : (place : ℕ) → Act Q
  Down_repeat : (place : ℕ) → Act Q
  Down_noise : (place : ℕ) → Act Q

-- a queue with noise at this place
abbrev pub with_noise : (place : ℕ) → List Mark → List Mark
with_noise place marks = take place marks ++ (Noise ∷ drop place marks)

-- the front reply, if it is whole, may come as these bytes: they read as a reply with its request's id
abbrev pub IsOfFrontReply : (heard : List ℕ → Option ℕ) → List Mark → (line : List ℕ) → Type 0
IsOfFrontReply heard [] line = ⊤
IsOfFrontReply heard (Whole x ∷ rest) line = heard line ≡ Some (x.number % IDS)
IsOfFrontReply heard (Noise ∷ rest) line = ⊤

module _ {Q : Type 0} where
  -- a new client, with nothing in flight and nothing kept
  abbrev pub empty_line : TwoQueues Q
  empty_line = record { account = opened; settled_by_damage = 0; down = []; kept = None; up = [] }

  -- the whole lines, in flight or kept, as one queue
  abbrev pub as_one : TwoQueues Q → OneQueue Q
  as_one l = record { account = l.account; settled_by_damage = l.settled_by_damage; lines = whole_in l.down ++ (whole_in (as_queue l.kept) ++ whole_in l.up) }

  -- once a request was handed to the client, by what its rule gave
  abbrev pub line_sent : TwoQueues Q → Option (Sending (ById Q)) → TwoQueues Q
  line_sent l None = l
  line_sent l (Some x) = record l { account = account_sent l.account (Some x); up = l.up ++ Whole (next_line l.account l.settled_by_damage) ∷ [] }

  -- once the front request, if there is one, was executed; the last argument is the requests in flight
  abbrev pub line_executed : TwoQueues Q → (keeps : Bool) → List Mark → TwoQueues Q
  line_executed l keeps [] = l
  line_executed l keeps (x ∷ rest) = record l { down = l.down ++ x ∷ []; kept = if keeps then Some x else None; up = rest }

  -- once the front request was answered by what the instrument keeps; nothing happens if it keeps nothing, or no request is in flight
  abbrev pub line_answered : TwoQueues Q → (kept : Option Mark) → List Mark → TwoQueues Q
  line_answered l None up = l
  line_answered l (Some reply) [] = l
  line_answered l (Some reply) (x ∷ rest) = record l { down = l.down ++ reply ∷ []; up = rest }

module _ {Q : Type 0} (heard : List ℕ → Option ℕ) (width : ℕ) where
  -- once the front reply, if there is one, came as these bytes; the second argument is the replies in flight
  abbrev pub line_delivered : TwoQueues Q → List Mark → (line : List ℕ) → TwoQueues Q
  line_delivered l [] line = l
  line_delivered l (Whole x ∷ rest) line = record l { account = account_heard heard width l.account (Of x.number) line; down = rest }
  line_delivered l (Noise ∷ rest) line =
      record l {
        account = account_heard heard width l.account Damaged line;
        settled_by_damage = l.settled_by_damage + newly_settled l.account (account_heard heard width l.account Damaged line);
        down = rest;
      }

  -- the line after an act
  abbrev pub line_after : TwoQueues Q → Act Q → TwoQueues Q
  line_after l (Send target call deadline) = line_sent l (sends width l.account.client target call deadline)
  line_after l (Expire now) = record l { account = account_expired l.account now }
  line_after l (Deliver line) = line_delivered l l.down line
  line_after l (Execute keeps) = line_executed l keeps l.up
  line_after l Answer_again = line_answered l l.kept l.up
  line_after l Restart = record l { kept = None }
  line_after l (Up_lose place) = record l { up = without place l.up }
  line_after l (Up_repeat place) = record l { up = doubled place l.up }
  line_after l (Up_noise place) = record l { up = with_noise place l.up }
  line_after l (Down_lose place) = record l { down = without place l.down }
  line_after l (Down_repeat place) = record l { down = doubled place l.down }
  line_after l (Down_noise place) = record l { down = with_noise place l.down }

  -- the line after these acts, in order
  abbrev pub acted : TwoQueues Q → List (Act Q) → TwoQueues Q
  acted l [] = l
  acted l (a ∷ acts) = acted (line_after l a) acts

  -- an act is possible; and if the client sends, each whole line in flight or kept has slack for it (`HasSlack`)
  abbrev pub IsPossibleWithSlack : TwoQueues Q → Act Q → Type 0
  IsPossibleWithSlack l (Send target call deadline) =
      IfSome (sends width l.account.client target call deadline) (λ _. AllByRecursion (HasSlack width (as_one l)) (as_one l).lines)
  IsPossibleWithSlack l (Deliver line) = IsOfFrontReply heard l.down line
  IsPossibleWithSlack l _ = ⊤

  -- each of these acts is so
  abbrev pub ArePossibleWithSlack : TwoQueues Q → List (Act Q) → Type 0
  ArePossibleWithSlack l [] = ⊤
  ArePossibleWithSlack l (a ∷ acts) = IsPossibleWithSlack l a × ArePossibleWithSlack (line_after l a) acts

-- over both queues, with an instrument that keeps its last reply or doesn't, damage is local if each whole line that is in flight or kept at
-- a send has slack for it
abbrev pub DamageIsLocalOverTheLine : Type 0 → Type 0
DamageIsLocalOverTheLine Q =
    (heard : List ℕ → Option ℕ) (width : ℕ) → width ≤ WINDOW → (acts : List (Act Q)) → ArePossibleWithSlack heard width empty_line acts →
    IsLocal (acted heard width empty_line acts).account
