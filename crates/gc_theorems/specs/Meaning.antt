-- What the acts of a link are to a station's client, this project's own. Nothing is said of when a station sends: only that it
-- follows the client's rule, with the window of seven, and hears each line that comes or discards what came. Connections may be
-- closed and made at any time, and that is nothing to the client.
use Rattle.gc_theorems.specs.Common.{rest_behind, with_end, Asked, asked_line, WINDOW, Step, Send, Hear, Expire, ById, Sending, sends, Act, Told, Untold, Put, Cut, Gave, Silent, Ended, Broke, Closed, Opened, Unopened, client_after, lines_completed}
use Rattle.std.specs.Prelude.{◌≡◌, ◌⊎◌, ℕ, List, [], ◌∷◌, ◌++◌, map, Some}
use Rattle.gc_links.specs.declared.link.Moment.{Moment}

-- these bytes are the line of a request that the client sends by this step
pub record IsSentRequest (client : ById Asked) (bytes : List ℕ) (steps : List (Step Asked)) : Type 0 where
  pub target : ℕ
  pub call : Asked
  pub deadline : ℕ
  pub sending : Sending (ById Asked)
  pub taken : sends WINDOW client target call deadline ≡ Some sending
  pub text : bytes ≡ with_end (asked_line (Some sending.id) call)
  pub step : steps ≡ Send target call deadline ∷ []

-- what bytes that are put mean to the client: a request that it sends; or a line feed, which clears the receiver and is no
-- request
abbrev pub IsPut : ById Asked → List ℕ → List (Step Asked) → Type 0
IsPut client bytes steps = ((bytes ≡ 10 ∷ []) × (steps ≡ [])) ⊎ IsSentRequest client bytes steps

-- what a piece that is heard means to a client: first the moment `m` is read, and a request times out whose deadline is at most
-- this moment; then each line that the piece completes is heard. `before` and `behind` are the bytes since the last line feed,
-- before the piece and after it
pub record IsHeard (before piece : List ℕ) (m : Moment) (steps : List (Step Asked)) (behind : List ℕ) : Type 0 where
  pub lines : steps ≡ Expire m.elapsed ∷ map Hear (lines_completed before piece)
  pub rest : behind ≡ rest_behind before piece

-- what a piece that is discarded means, as while a connection is drained: the moment is read, and it is as if the piece had
-- been lost
pub record IsDiscarded (before : List ℕ) (m : Moment) (steps : List (Step Asked)) (behind : List ℕ) : Type 0 where
  pub lines : steps ≡ Expire m.elapsed ∷ []
  pub rest : behind ≡ before

-- what an act of the link means to a client: its steps. `before` and `behind` are the bytes since the last line feed, before
-- and after the act; a close forgets them. A request of which only a part was sent (`Cut`) is sent, too: it may be lost whole
-- on the way to the instrument
abbrev pub Means : ById Asked → List ℕ → Act → List (Step Asked) → List ℕ → Type 0
Means client before (Told m) steps behind = (steps ≡ Expire m.elapsed ∷ []) × (behind ≡ before)
Means client before Untold steps behind = (steps ≡ []) × (behind ≡ before)
Means client before (Put bytes) steps behind = IsPut client bytes steps × (behind ≡ before)
Means client before (Cut bytes count) steps behind = IsPut client bytes steps × (behind ≡ before)
Means client before (Gave piece m) steps behind = IsHeard before piece m steps behind ⊎ IsDiscarded before m steps behind
Means client before (Silent m) steps behind = (steps ≡ Expire m.elapsed ∷ []) × (behind ≡ before)
Means client before Ended steps behind = (steps ≡ []) × (behind ≡ before)
Means client before Broke steps behind = (steps ≡ []) × (behind ≡ before)
Means client before Closed steps behind = (steps ≡ []) × (behind ≡ [])
Means client before Opened steps behind = (steps ≡ []) × (behind ≡ before)
Means client before Unopened steps behind = (steps ≡ []) × (behind ≡ before)

-- these acts, in order, mean these steps, in order: for a client that begins in this state, with these bytes since the last
-- line feed
abbrev pub AllMean : ById Asked → List ℕ → List Act → List (Step Asked) → Type 0
AllMean client before [] steps = steps ≡ []
AllMean client before (act ∷ acts) steps =
    (first : List (Step Asked)) × (later : List (Step Asked)) × (behind : List ℕ) × (steps ≡ first ++ later) × Means client before act first behind
    × AllMean (client_after client first) behind acts later
