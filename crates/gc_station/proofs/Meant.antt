-- What each act of a run puts: a line feed, or a request's line, by the part (`Parts`) that the act has. An act is one call on
-- the link, with its result.
use Rattle.gc_station.proofs.Common.{◌≡◌, ◌⊎◌, inl, inr, ℕ, ◌-◌, ◌<◌, true, false, List, [], ◌∷◌, length, drop, Option, Some, None, refl, arith, both_ways, Asked, Table, NullProc, WINDOW, Task, Mark, Plan, Action, Outgoing, Act, Put, Cut, Closed, later, has_begun, occasion_of, Asks, Part, only_sync_steps, idle_part, request_part, first_request_part, put_part, sync_part, HoldsBefore, Puts, ReadsClock, IsOpening, ReadsLink, Model, action_at, waiting_of, next_request_text, null_text, first_text, Performs, text_or_null, request_for, null_request, request_or_null, mark_sent, mark_setup_sent, occasion_at, place_next}
use Rattle.std.proofs.Common.{length-drop}
use Rattle.gc_client.specs.Prelude.{Send}
use Rattle.gc_station.proofs.InCycle.{within_window}
use Rattle.gc_station.proofs.Facts.{action_for}
use Rattle.gc_station.proofs.Invariant.{Invariant}
use Rattle.gc_station.specs.declared.progress.Action.TheVariants as action

-- the part p is that of a request that is sent, these bytes are its line, and fewer than seven requests wait before it
pub record IsSent (s : Model) (bytes : List ℕ) (p : Part) : Type 0 where
  pub target : ℕ
  pub call : Asked
  pub deadline : ℕ
  pub mark : Option Mark
  pub part : p ≡ record { sync_steps = []; steps = Send target call deadline ∷ []; marks = mark ∷ [] }
  pub text : bytes ≡ next_request_text s.client call
  pub room : length s.client.waiting < WINDOW

-- these bytes are a line feed, and nothing happens in the part p
abbrev pub IsLineFeed : List ℕ → (p : Part) → Type 0
IsLineFeed bytes p = (bytes ≡ 10 ∷ []) × (p ≡ idle_part)

-- once the station has synchronized: these bytes are a line feed, or the line of a request whose part is p
abbrev pub IsPutByClient : Model → List ℕ → (p : Part) → Type 0
IsPutByClient s bytes p = IsLineFeed bytes p ⊎ IsSent s bytes p

-- the bytes that an act puts, whole or in part; none by any other act
abbrev pub put_by : Act → Option (List ℕ)
put_by (Put bytes) = Some bytes
put_by (Cut bytes count) = Some bytes
put_by _ = None

-- the bytes that an act puts, whole or in part, are `want`, if `Puts` says so of it
puts_same : (want bytes : List ℕ) (act : Act) → put_by act ≡ Some bytes → Puts want act → bytes ≡ want
puts_same want bytes (Put out) e puts = cc
puts_same want bytes (Cut out count) e puts = let same = puts.0 in cc
puts_same want bytes act e puts = absurd puts

-- an act that reads the clock, connects, reads or closes puts no bytes
never_puts : (act : Act) (bytes : List ℕ) → put_by act ≡ Some bytes → (ReadsClock act ⊎ (IsOpening act ⊎ (ReadsLink act ⊎ (act ≡ Closed)))) → ⊥
never_puts (Put out) bytes e h = elim h [ inl a ↦ a | inr b ↦ elim b [ inl c ↦ c | inr d ↦ elim d [ inl f ↦ f | inr g ↦ cc ] ] ]
never_puts (Cut out count) bytes e h = elim h [ inl a ↦ a | inr b ↦ elim b [ inl c ↦ c | inr d ↦ elim d [ inl f ↦ f | inr g ↦ cc ] ] ]
never_puts act bytes e h = cc

-- while the station synchronizes: these bytes are a line feed; or they are the null procedure of the first id that isn't
-- answered, and the part p is one step, `Asks`
abbrev pub IsPutBySync : Model → List ℕ → (p : Part) → Type 0
IsPutBySync s bytes p = IsLineFeed bytes p ⊎ ((bytes ≡ null_text s.progress.exchange.word) × (p ≡ only_sync_steps (Asks ∷ [])))

-- the part of an act of the action `Ask` that puts bytes is one step, `Asks`
asked_step : (s : Model) (act : Act) (bytes : List ℕ) → put_by act ≡ Some bytes → sync_part s action.Ask act ≡ only_sync_steps (Asks ∷ [])
asked_step s (Put out) bytes e = refl
asked_step s (Cut out count) bytes e = refl
asked_step s act bytes e = cc

-- if fewer than seven requests wait, the bytes of a request that is sent are its line (`IsSent`)
request_put : (s : Model) (x : Outgoing) (bytes : List ℕ) → length s.client.waiting < WINDOW → bytes ≡ next_request_text s.client x.command.call
    → IsSent s bytes (request_part s.progress.moment.elapsed x)
request_put s x bytes room e = record {
  target = x.command.target;
  call = x.command.call;
  deadline = later s.progress.moment.elapsed x.wait;
  mark = x.mark;
  part = refl;
  text = e;
  room = room;
}

module _ (plan : Plan) (commands : List Task) where
  -- if fewer than seven requests wait, and there is a command, the bytes of the first of these commands with this mark are the
  -- line of the request of its part (`IsSent`)
  first_put : (s : Model) (mark : Mark) (left : List Task) (bytes : List ℕ) → 0 < length left → length s.client.waiting < WINDOW → bytes ≡ first_text (occasion_of mark) s.client left
      → IsSent s bytes (first_request_part s.progress.moment.elapsed mark left)
  first_put s mark [] bytes some room e = absurd (omega (arith, some))
  first_put s mark (task ∷ others) bytes some room e = request_put s (request_for mark task) bytes room e

  -- if fewer than seven requests wait, the bytes of the first of these commands of the setup, or of a null procedure if there is
  -- none, are the line of the request of its part (`IsSent`)
  setup_put : (s : Model) (left : List Task) (bytes : List ℕ) → length s.client.waiting < WINDOW → bytes ≡ text_or_null (occasion_at s.progress.moment) s.client left
      → IsSent s bytes (request_part s.progress.moment.elapsed (request_or_null plan (mark_setup_sent commands s) left))
  setup_put s [] bytes room e = request_put s (null_request plan) bytes room e
  setup_put s (task ∷ others) bytes room e = request_put s (request_for (mark_setup_sent commands s) task) bytes room e

  -- once the station has synchronized, the bytes that an act of this action puts are as `IsPutByClient` says of the action's part
  put_by_action : (s : Model) (o : Action) (act : Act) (bytes : List ℕ) → Invariant plan commands s → (needs : HoldsBefore plan s.progress (waiting_of s) o)
      → (performs : Performs commands s o act) → (puts : put_by act ≡ Some bytes) → (begun : has_begun s.progress ≡ true) → IsPutByClient s bytes (put_part plan commands s o)
  put_by_action s action.Clear act bytes fine is obeys e begun = inl (puts_same (10 ∷ []) bytes act e obeys, refl)
  put_by_action s action.Ask act bytes fine is obeys e begun = absurd (both_ways (has_begun s.progress) is.1 begun)
  put_by_action s action.Renew act bytes fine is obeys e begun = absurd (never_puts act bytes e (inl obeys))
  put_by_action s action.Flush act bytes fine is obeys e begun = inr (request_put s (null_request plan) bytes (within_window _ _ is.4.1) (puts_same (next_request_text s.client (Table NullProc)) bytes act e obeys))
  put_by_action s action.Prepare act bytes fine is obeys e begun =
      let left = drop s.progress.prepared commands in inr (setup_put s left bytes (within_window _ _ is.3.1) (puts_same (text_or_null (occasion_at s.progress.moment) s.client left) bytes act e obeys))
  put_by_action s action.Send act bytes fine is obeys e begun =
      let left = drop (place_next commands s.progress) commands in
      let many : length left ≡ length commands - place_next commands s.progress = length-drop (place_next commands s.progress) commands in
      inr (first_put s (mark_sent plan commands s) left bytes (omega (arith, many, is.2, fine.unsent)) (within_window _ _ is.3.1) (puts_same (first_text (occasion_at s.progress.moment) s.client left) bytes act e obeys))
  put_by_action s action.ReadClock act bytes fine is obeys e begun = absurd (never_puts act bytes e (inl obeys))
  put_by_action s action.Skip act bytes fine is obeys e begun = absurd (never_puts act bytes e (inl obeys))
  put_by_action s action.Pass act bytes fine is obeys e begun = absurd (never_puts act bytes e (inl obeys))
  put_by_action s action.Begin act bytes fine is obeys e begun = absurd (never_puts act bytes e (inl obeys))
  put_by_action s action.Open act bytes fine is obeys e begun = absurd (never_puts act bytes e (inr (inl obeys)))
  put_by_action s (action.Read until) act bytes fine is obeys e begun = absurd (never_puts act bytes e (inr (inr (inl obeys))))
  put_by_action s (action.Close why) act bytes fine is obeys e begun = absurd (never_puts act bytes e (inr (inr (inr obeys))))
  put_by_action s (action.Stop why) act bytes fine is obeys e begun = absurd obeys

  -- once the station has synchronized, the bytes that an act of a run puts are as `IsPutByClient` says of its part
  pub put_by_client : (s : Model) (act : Act) (bytes : List ℕ) → Invariant plan commands s → Performs commands s (action_at plan s) act → put_by act ≡ Some bytes
      → has_begun s.progress ≡ true → IsPutByClient s bytes (put_part plan commands s (action_at plan s))
  put_by_client s act bytes fine obeys e begun = put_by_action s (action_at plan s) act bytes fine (action_for plan s.progress (waiting_of s)) obeys e begun

  -- while the station synchronizes, the bytes that an act of this action puts are as `IsPutBySync` says of its part
  asked_by_action : (s : Model) (o : Action) (act : Act) (bytes : List ℕ) → HoldsBefore plan s.progress (waiting_of s) o → Performs commands s o act
      → put_by act ≡ Some bytes → has_begun s.progress ≡ false → IsPutBySync s bytes (sync_part s o act)
  asked_by_action s action.Clear act bytes is obeys e begins = inl (puts_same (10 ∷ []) bytes act e obeys, refl)
  asked_by_action s action.Ask act bytes is obeys e begins = inr (puts_same (null_text s.progress.exchange.word) bytes act e obeys, asked_step s act bytes e)
  asked_by_action s action.Flush act bytes is obeys e begins = absurd (both_ways (has_begun s.progress) begins is.1)
  asked_by_action s action.Prepare act bytes is obeys e begins = absurd (both_ways (has_begun s.progress) begins is.1)
  asked_by_action s action.Send act bytes is obeys e begins = absurd (both_ways (has_begun s.progress) begins is.1)
  asked_by_action s action.Renew act bytes is obeys e begins = absurd (never_puts act bytes e (inl obeys))
  asked_by_action s action.ReadClock act bytes is obeys e begins = absurd (never_puts act bytes e (inl obeys))
  asked_by_action s action.Skip act bytes is obeys e begins = absurd (never_puts act bytes e (inl obeys))
  asked_by_action s action.Pass act bytes is obeys e begins = absurd (never_puts act bytes e (inl obeys))
  asked_by_action s action.Begin act bytes is obeys e begins = absurd (never_puts act bytes e (inl obeys))
  asked_by_action s action.Open act bytes is obeys e begins = absurd (never_puts act bytes e (inr (inl obeys)))
  asked_by_action s (action.Read until) act bytes is obeys e begins = absurd (never_puts act bytes e (inr (inr (inl obeys))))
  asked_by_action s (action.Close why) act bytes is obeys e begins = absurd (never_puts act bytes e (inr (inr (inr obeys))))
  asked_by_action s (action.Stop why) act bytes is obeys e begins = absurd obeys

  -- while the station synchronizes, the bytes that an act of a run puts are as `IsPutBySync` says of its part
  pub put_by_sync : (s : Model) (act : Act) (bytes : List ℕ) → Performs commands s (action_at plan s) act → put_by act ≡ Some bytes
      → has_begun s.progress ≡ false → IsPutBySync s bytes (sync_part s (action_at plan s) act)
  put_by_sync s act bytes obeys e begins = asked_by_action s (action_at plan s) act bytes (action_for plan s.progress (waiting_of s)) obeys e begins
