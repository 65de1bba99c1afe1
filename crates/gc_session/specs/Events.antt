-- What happens to a client over any number of synchronizations, this project's own: a list of events, of which those of a synchronization
-- are told apart from the client's steps.
use Rattle.gc_session.specs.Common.{Asked, the_word, left_by, heard}
use Rattle.std.specs.Prelude.{◌≡◌, ℕ, List, [], ◌∷◌, ◌++◌}
use Rattle.gc_client.specs.OneForOne as one

-- what happens to a client: while it synchronizes, a null procedure is sent, or a line comes; once it has synchronized, it
-- makes a step
pub data ClientEvent : Type 0 where
  Null : ClientEvent
  Came : (line : List ℕ) → ClientEvent
  Stepped : (step : one.Step Asked) → ClientEvent

-- the steps of the client among events
abbrev pub steps_among : List ClientEvent → List (one.Step Asked)
steps_among [] = []
steps_among (Stepped step ∷ events) = step ∷ steps_among events
steps_among (other ∷ events) = steps_among events

-- the ids that aren't answered after a step: all of them if it is a restart, and else none
abbrev pub left_by_step : one.Step Asked → List ℕ
left_by_step one.Restart = the_word
left_by_step other = []

-- the ids that aren't answered after an event, where `left` weren't before
abbrev pub left_by_event : (left : List ℕ) → ClientEvent → List ℕ
left_by_event left Null = left
left_by_event left (Came line) = left_by left (heard line)
left_by_event left (Stepped step) = left_by_step step

-- the ids that aren't answered after these events, where `left` weren't before
abbrev pub left_among : (left : List ℕ) → List ClientEvent → List ℕ
left_among left [] = left
left_among left (event ∷ events) = left_among (left_by_event left event) events

-- no step of the client comes before all ids of the word are answered; at first `left` aren't, and after each restart none is
abbrev pub AreInTurn : (left : List ℕ) → List ClientEvent → Type 0
AreInTurn left [] = Unit {0}
AreInTurn left (Stepped step ∷ events) = (left ≡ []) × AreInTurn (left_by_event left (Stepped step)) events
AreInTurn left (other ∷ events) = AreInTurn (left_by_event left other) events

-- the client's steps among events since its last restart, if `since` were those before the first of these events
abbrev pub steps_since : (since : List (one.Step Asked)) → List ClientEvent → List (one.Step Asked)
steps_since since [] = since
steps_since since (Stepped one.Restart ∷ events) = steps_since [] events
steps_since since (Stepped step ∷ events) = steps_since (since ++ step ∷ []) events
steps_since since (other ∷ events) = steps_since since events
