-- What functions of the code leave, by their contracts: variables such as `executed` and `made` are the values that they left.
use Rattle.gc_world.proofs.Common.{◌≡◌, ℕ, Bool, cond, List, [], ◌∷◌, ◌++◌, length, Some, slice_get, Call, IsFitting, request_line, Windowed, heard, hears, sends, restarts, AreSettlements, OfItsCall, Made, Report, Sent, Behaviour, IsHandedOver}
use Rattle.gc_client.specs.declared.settlement.Settlement.{Settlement}

-- What a function did to a report r, the queues `up` and `down` of its stage, and a client c. The first fields of these records
-- are the values that it left, and what these depend on; the others say how they come of what was there before.

-- the client sent this request: the report has it at its end, and its number is at the back of the upward queue
pub record Sends {State : Type 0} (r : Report State) (up : List ℕ) (c : Windowed Call) (entry : Sent) (deadline : ℕ) : Type 0 where
  pub client : Windowed Call
  pub sent : List Sent
  pub queue : List ℕ
  pub sends_is : sends c.width c.ids entry.target entry.call deadline ≡ Some (record { id = c.ids.next; client = client.ids })
  pub wide : client.width ≡ c.width
  pub line_is : entry.line.items ≡ request_line (Some c.ids.next) entry.call
  pub fits : IsFitting entry.call
  pub sent_is : sent ≡ r.sent ++ entry ∷ []
  pub queue_is : queue ≡ up ++ length r.sent ∷ []

-- the front request was handed to the instrument: `rest` is the upward queue then. The report has the reply at its end, and the
-- reply's place is at the back of the downward queue
pub record HandsToInstrument {State : Type 0} (acts : Behaviour State) (r : Report State) (up down rest : List ℕ) : Type 0 where
  pub number : ℕ
  pub request : Sent
  pub is_executed : Bool
  pub entry : Made
  pub executed : List ℕ
  pub made : List Made
  pub state : State
  pub queue : List ℕ
  pub front : up ≡ number ∷ rest
  pub found : slice_get r.sent number ≡ Some request
  pub replied : OfItsCall request.line.items (λ id call. IsHandedOver (acts.handed r.instrument id call) state entry.line.items is_executed)
  pub same : entry.number ≡ number
  pub executed_is : executed ≡ cond is_executed (r.executed ++ number ∷ []) r.executed
  pub made_is : made ≡ r.made ++ entry ∷ []
  pub queue_is : queue ≡ down ++ length r.made ∷ []

-- the front reply was handed to the client: `rest` is the downward queue then. The report has at its end what the client settled
pub record HandsToClient {State : Type 0} (r : Report State) (down rest : List ℕ) (c : Windowed Call) : Type 0 where
  pub place : ℕ
  pub reply : Made
  pub line : List ℕ
  pub more : List (Settlement Call)
  pub settled : List (Settlement Call)
  pub client : Windowed Call
  pub front : down ≡ place ∷ rest
  pub found : slice_get r.made place ≡ Some reply
  pub line_is : line ≡ reply.line.items
  pub more_are : AreSettlements more (hears c.ids line (heard line)).settlements
  pub client_is : client ≡ record c { ids = (hears c.ids line (heard line)).client }
  pub settled_is : settled ≡ r.settled ++ more

-- the client was restarted, and the instrument with it, while no line was in flight. The report has at its end what the client
-- settled
pub record RestartsBoth {State : Type 0} (acts : Behaviour State) (r : Report State) (up down : List ℕ) (c : Windowed Call) : Type 0 where
  pub more : List (Settlement Call)
  pub settled : List (Settlement Call)
  pub client : Windowed Call
  pub starts : List ℕ
  pub state : State
  pub up_empty : up ≡ []
  pub down_empty : down ≡ []
  pub more_are : AreSettlements more (restarts c.ids).settlements
  pub client_is : client ≡ record c { ids = (restarts c.ids).client }
  pub settled_is : settled ≡ r.settled ++ more
  pub starts_is : starts ≡ r.starts ++ length r.executed ∷ []
  pub state_is : state ≡ acts.restarted r.instrument
