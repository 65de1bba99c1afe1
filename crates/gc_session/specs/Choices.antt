-- What is next of a client on a connection that is ready, this project's own, as one of what may be next (`choices`): requests are outstanding
-- as `load` says, and the exchange is as far as `x`.
use Rattle.std.specs.Prelude.{ℕ, ◌&&◌, Bool, not, if◌then◌else◌, nat_eq, min, max}
use Rattle.gc_session.specs.declared.choices.Choices.{Choices}
use Rattle.gc_session.specs.declared.load.Load.{Load}
use Rattle.gc_session.specs.declared.exchange.Exchange.{Exchange}
use Rattle.gc_session.specs.Exchange.{has_room, is_dead, is_near, later, may_ask}

-- the width that counts for one that was chosen: a number outside of 1 to 7 counts as the nearest of these
abbrev pub width_within : (width : ℕ) → ℕ
width_within width = min (max width 1) 7

-- whether the line is dead: it is after twice the longest wait without a reply line
abbrev pub is_line_dead : Load → Exchange → Bool
is_line_dead load x = is_dead (later load.patience load.patience) load.now load.all load.current x

module _ {A : Type 0} (choices : Choices A) (load : Load) (x : Exchange) where
  -- if nothing may be sent: to close a dead line; to synchronize anew, if all outstanding requests have timed out; and else to read, as a
  -- reply may still come
  abbrev pub next_waiting : A
  next_waiting = if is_line_dead load x then choices.close else if nat_eq load.current 0 then choices.renew else choices.read

  -- `send`, which sends a request, if there is room for one and the line isn't dead; else what is next if nothing may be sent
  abbrev pub next_room : (send : A) → A
  next_room send = if has_room load.width load.all load.current x && not (is_line_dead load x) then send else next_waiting

  -- if nothing but a null procedure may be sent: to send one, if all outstanding requests have timed out or none is outstanding, and there
  -- is room; its reply settles them
  abbrev pub next_flush : A
  next_flush = if nat_eq load.current 0 then next_room choices.flush else next_waiting

  -- if a request is to be sent, by `send`: it is, if one of the seven before it is a call of the table that a reply ended; else a null
  -- procedure is, as after each synchronization
  abbrev pub next_to_send : (send : A) → A
  next_to_send send = if is_near x then next_room send else next_flush

  -- while the client synchronizes: to read until the null procedure that was sent last has timed out, and the wait after a busy answer is
  -- over; then to close a dead line, and else to send the null procedure of the first id that isn't answered
  abbrev pub next_synchronizing : A
  next_synchronizing = if may_ask load.now x then (if is_line_dead load x then choices.close else choices.null) else choices.read
