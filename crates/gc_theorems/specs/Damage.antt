-- Damage at a client, this project's own: what a client books if some of the lines that come are damaged. Requests are numbered from 0
-- on, in the order of sending, and request n has the id n modulo 8. A line is undamaged if the instrument made it on executing an
-- undamaged request, and it arrived as it was made. Any other line that comes is damaged: one that was altered; one that the
-- instrument made on executing an altered request, or kept of such a request and sent again; an echo; noise.
use Rattle.gc_theorems.specs.Common.{WINDOW, IDS, ById, Outcome, Answered, Late, Lost, Settled, Sending, fresh, sends, hears, expires}
use Rattle.std.specs.Prelude.{◌≡◌, ℕ, ◌+◌, ◌%◌, ◌<◌, ◌≤◌, List, [], ◌∷◌, ◌++◌, length, map, Option, Some, None, slice_get, ⊤}

-- where a line that comes is from: it is undamaged, and was made for the request of this number; or it is damaged
pub data Origin : Type 0 where
  Of : (number : ℕ) → Origin
  Damaged : Origin

-- the origin of the line that answered a request with this outcome, in time or late, when a line of the origin `origin` came: a lost request
-- has none
abbrev pub ended_by : (origin : Origin) → Outcome → Option Origin
ended_by origin (Answered line) = Some origin
ended_by origin Late = Some origin
ended_by origin Lost = None

-- a client, and what it doesn't know itself: how many requests it has sent; how many damaged lines have come; and for each request
-- that is settled the origin of the line that answered it, or none if it was lost. Requests are settled in order (`settles_one_for_one` of
-- gc_client), so place m of `settled` is request m
pub record Account (Q : Type 0) : Type 0 where
  pub sent : ℕ
  pub damaged : ℕ
  pub settled : List (Option Origin)
  pub client : ById Q

-- what happens at a client: it is handed a request, which it sends or refuses; a moment is read; a line comes
pub data Event (Q : Type 0) : Type 0 where
  Send : (target : ℕ) (call : Q) (deadline : ℕ) → Event Q
  Expire : (now : ℕ) → Event Q
  Hear : (origin : Origin) (line : List ℕ) → Event Q

-- the count of damaged lines once a line of this origin came
abbrev pub counted : Origin → (damaged : ℕ) → ℕ
counted (Of number) damaged = damaged
counted Damaged damaged = damaged + 1

module _ {Q : Type 0} where
  -- the account of a new client
  abbrev pub opened : Account Q
  opened = record { sent = 0; damaged = 0; settled = []; client = fresh }

  -- the account once a request was handed to the client, by what its rule gave; a refusal (`None`) changes nothing
  abbrev pub account_sent : Account Q → Option (Sending (ById Q)) → Account Q
  account_sent a None = a
  account_sent a (Some x) = record a { sent = a.sent + 1; client = x.client }

  -- the account once a moment was read
  abbrev pub account_expired : Account Q → (now : ℕ) → Account Q
  account_expired a now = record a { client = expires a.client now }

  -- the account once a line of this origin came, by what it settled
  abbrev pub account_settled : Account Q → Origin → Settled Q (ById Q) → Account Q
  account_settled a origin x =
      record {
        sent = a.sent;
        damaged = counted origin a.damaged;
        settled = a.settled ++ map (λ s. ended_by origin s.outcome) x.settlements;
        client = x.client;
      }

-- an undamaged line that was made for request `number` is fresh, where `sent` requests were sent: its request was sent, it reads as a
-- reply with that request's id, and at most eight requests were sent from its own on, so that none of the others has its id
pub record IsFresh (heard : List ℕ → Option ℕ) (sent number : ℕ) (line : List ℕ) : Type 0 where
  pub was_sent : number < sent
  pub id : heard line ≡ Some (number % IDS)
  pub near : sent ≤ number + IDS

-- a client with a window of this width, which reads a line's id by `heard`: gc_client's own does by its `heard`, and any other reading
-- will do
module _ {Q : Type 0} (heard : List ℕ → Option ℕ) (width : ℕ) where
  -- the account once a line of this origin came
  abbrev pub account_heard : Account Q → Origin → (line : List ℕ) → Account Q
  account_heard a origin line = account_settled a origin (hears a.client line (heard line))

  -- the account after an event
  abbrev pub account_after : Account Q → Event Q → Account Q
  account_after a (Send target call deadline) = account_sent a (sends width a.client target call deadline)
  account_after a (Expire now) = account_expired a now
  account_after a (Hear origin line) = account_heard a origin line

  -- the account after these events, in order
  abbrev pub account : Account Q → List (Event Q) → Account Q
  account a [] = a
  account a (e ∷ events) = account (account_after a e) events

  -- if a line comes that is undamaged, it is fresh; a damaged line may be any
  abbrev pub ComesFresh : Account Q → Event Q → Type 0
  ComesFresh a (Hear (Of number) line) = IsFresh heard a.sent number line
  ComesFresh a _ = ⊤

  -- each undamaged line that comes in these events is fresh when it comes
  abbrev pub AllComeFresh : Account Q → List (Event Q) → Type 0
  AllComeFresh a [] = ⊤
  AllComeFresh a (e ∷ events) = ComesFresh a e × AllComeFresh (account_after a e) events

-- 1 if a request was answered by a damaged line, in time or late, else 0
abbrev pub one_if_damaged : Option Origin → ℕ
one_if_damaged None = 0
one_if_damaged (Some (Of number)) = 0
one_if_damaged (Some Damaged) = 1

-- how many of these requests were answered by damaged lines, in time or late; those that are lost by such a line aren't counted
abbrev pub ended_by_damage : List (Option Origin) → ℕ
ended_by_damage [] = 0
ended_by_damage (o ∷ os) = one_if_damaged o + ended_by_damage os

-- Damage is local: a request that an undamaged line answered, in time or late, was answered by a line made for that very request; and no more
-- requests were answered by damaged lines than damaged lines came. Those that were lost by a damaged line aren't counted.
pub record IsLocal {Q : Type 0} (a : Account Q) : Type 0 where
  pub own : (m number : ℕ) → slice_get a.settled m ≡ Some (Some (Of number)) → number ≡ m
  pub few : ended_by_damage a.settled ≤ a.damaged

-- damage is local if each undamaged line is fresh when it comes, whatever the damaged lines are, and whenever they come
abbrev pub DamageIsLocalWhileFresh : Type 0 → Type 0
DamageIsLocalWhileFresh Q =
    (heard : List ℕ → Option ℕ) (width : ℕ) → width ≤ WINDOW → (events : List (Event Q)) → AllComeFresh heard width opened events →
    IsLocal (account heard width opened events)

-- after such events, an undamaged line of request n that comes while request n + 8 is outstanding answers request n + 8
abbrev pub FreshnessIsNeeded : Type 0 → Type 0
FreshnessIsNeeded Q =
    (heard : List ℕ → Option ℕ) (width : ℕ) → width ≤ WINDOW → (events : List (Event Q)) → AllComeFresh heard width opened events →
    (n : ℕ) (line : List ℕ) → heard line ≡ Some (n % IDS) → length (account heard width opened events).settled ≤ n + IDS →
    n + IDS < (account heard width opened events).sent →
    slice_get (account_heard heard width (account heard width opened events) (Of n) line).settled (n + IDS) ≡ Some (Some (Of n))
