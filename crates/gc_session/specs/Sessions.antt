-- A session with an instrument over any number of connections, this project's own: what is next, and what each call of its caller makes
-- of it. A session has neither a port nor a clock: its caller makes connections, writes and reads, and says when.
use Rattle.gc_session.specs.Common.{Asked, Table, NullProc, asked_line, request_line, the_word, ById, Settlement, Settled, Sending, fresh, sends, hears_line, expires, restarts, deadlines, IsEarliest, WINDOW, is_sign_on}
use Rattle.std.specs.Prelude.{◌≡◌, ℕ, ◌-◌, ◌&&◌, Bool, true, false, not, if◌then◌else◌, nat_lt, nat_eq, max, is_some, List, [], ◌∷◌, length, Option, Some, None}
use Rattle.gc_session.specs.declared.exchange.Exchange.{Exchange}
use Rattle.gc_session.specs.declared.settings.Act.{Act}
use Rattle.gc_session.specs.declared.settings.Settings.{Settings}
use Rattle.gc_session.specs.declared.settings.Want.{Want}
use Rattle.gc_session.specs.declared.settings.Want.TheVariants.{Nothing, Answers, Send}
use Rattle.gc_session.specs.declared.standing.Phase.{Phase}
use Rattle.gc_session.specs.declared.standing.Standing.{Standing}
use Rattle.gc_session.specs.declared.session.TheConstants.{OWN}
use Rattle.gc_session.specs.declared.next.Next.{Next}
use Rattle.gc_session.specs.declared.choices.Choices.{Choices}
use Rattle.gc_session.specs.declared.load.Load.{Load}
use Rattle.gc_session.specs.Choices.{width_within, next_flush, next_to_send, next_synchronizing}
use Rattle.gc_session.specs.Exchange.{later}
use Rattle.gc_session.specs.Lines.{is_reply, calls_for_renewal}
use Rattle.gc_session.specs.declared.settings.Act.TheVariants as act
use Rattle.gc_session.specs.declared.standing.Phase.TheVariants as phase
use Rattle.gc_session.specs.declared.next.Next.TheVariants as next
use Rattle.gc_session.specs.Exchange as exchange

-- a session as its caller sees it: what was chosen, how far it is, and its client, by the client's rule
pub record Session : Type 0 where
  pub settings : Settings
  pub standing : Standing
  pub client : ById Asked

-- Standings.

-- the standing at a session's start
abbrev pub new_standing : Settings → Standing
new_standing settings = record {
  phase = phase.Down;
  moment = 0;
  patience = settings.timeout;
  stretch = 0;
  sign_ons = 0;
  has_asked = false;
  rests = None;
  listened = false;
  exchange = exchange.new_exchange;
}

-- whether there is a connection in this phase
abbrev pub is_up : Phase → Bool
is_up phase.Down = false
is_up phase.Pausing = false
is_up phase.Clearing = true
is_up phase.Draining = true
is_up phase.Ready = true

-- a standing whose time without a want ends at the moment `now`, if there was one (`rests`): that time counts for no dead line
abbrev pub alive_after : (rests : Option ℕ) → (now alive : ℕ) → ℕ
alive_after None now alive = alive
alive_after (Some since) now alive = later alive (now - since)

-- the moment since which nothing is wanted, if nothing is from `now` on
abbrev pub rests_from : (rests : Option ℕ) → (now : ℕ) → Option ℕ
rests_from None now = Some now
rests_from (Some since) now = Some since

-- the standing once this is wanted at the moment `now`
abbrev pub attended : Want → (now : ℕ) → Standing → Standing
attended Nothing now t = record t { rests = rests_from t.rests now }
attended _ now t = record t {
  rests = None;
  listened = not (is_some t.rests) && t.listened;
  exchange = record t.exchange { alive = alive_after t.rests now t.exchange.alive };
}

-- the standing at the moment `now`, by which nothing came: a pause and the quiet time go on
abbrev pub timed : (now : ℕ) → Standing → Standing
timed now t = record t { moment = now; exchange = exchange.moment_passed now t.exchange }

-- the standing at the moment `now`, at which something came, or a connection ended: a pause and the quiet time count from then
abbrev pub met : (now : ℕ) → Standing → Standing
met now t = record t { moment = now; listened = false; exchange = exchange.moment_read now t.exchange }

-- the standing in this phase: a pause that was long enough ends, and so does a draining in which nothing came for the quiet time, if the
-- caller was to read since what came last (`listened`)
abbrev pub quieted_in : Phase → Settings → Standing → Standing
quieted_in phase.Pausing settings t = record t { phase = if exchange.is_past t.exchange.pause t.moment t.exchange then phase.Down else phase.Pausing }
quieted_in phase.Draining settings t =
    if t.listened && exchange.is_past settings.quiet t.moment t.exchange then record t { phase = phase.Ready; exchange = exchange.drained t.moment t.exchange } else t
quieted_in _ settings t = t

-- the same in the phase of `t`
abbrev pub quieted : Settings → Standing → Standing
quieted settings t = quieted_in t.phase settings t

-- the standing once the line feed of a new connection is sent: the connection is drained next, unless a synchronization goes on with it, and
-- the quiet time counts from now
abbrev pub phase_cleared : Standing → Standing
phase_cleared t = record t {
  phase = if exchange.has_begun t.exchange then phase.Draining else phase.Ready;
  listened = false;
  exchange = record (exchange.cleared t.exchange) { since = t.moment };
}

-- the standing once a request of the caller's is sent that waits for `wait` milliseconds
abbrev pub requested : (wait : ℕ) → Standing → Standing
requested wait t = record t { patience = max t.patience wait; has_asked = true; exchange = exchange.request_noted t.moment t.exchange }

-- the standing once a connection was made at the moment `now`: its line feed comes next
abbrev pub connected : (now : ℕ) → Standing → Standing
connected now t = record (timed now t) { phase = phase.Clearing }

-- the standing once a connection ended, or couldn't be made, at the moment `now`: a pause comes next, of a millisecond at least
abbrev pub unconnected : Settings → (now : ℕ) → Standing → Standing
unconnected settings now t =
    let u = met now t in record u { phase = phase.Pausing; stretch = later t.stretch 1; exchange = exchange.pause_doubled (max settings.quiet 1) u.exchange }

-- the standing once the session synchronizes anew, with nothing outstanding: the time after which the line is dead goes on
abbrev pub restarted : Settings → Standing → Standing
restarted settings t = record t { patience = settings.timeout; stretch = later t.stretch 1; exchange = exchange.renewed t.exchange.asked t.exchange }

-- the standing once a line came, with a sign-on in it or not: it calls for a synchronization, unless one goes on; and sign-ons count once a
-- request was asked
abbrev pub sign_on_noted : (is_sign_on : Bool) → Standing → Standing
sign_on_noted is_sign_on t = record t {
  sign_ons = if is_sign_on && t.has_asked then later t.sign_ons 1 else t.sign_ons;
  exchange = exchange.doubt_noted (is_sign_on && exchange.has_begun t.exchange) t.exchange;
}

-- What is next.

-- how many requests are outstanding, and how many of these haven't timed out
abbrev pub all_of : Session → ℕ
all_of s = length s.client.waiting

abbrev pub current_of : Session → ℕ
current_of s = length (deadlines s.client.waiting)

-- what may be next on a connection that is ready
abbrev pub the_choices : Choices Next
the_choices = record { close = next.Close; renew = next.Renew; read = next.Read; flush = next.Flush; null = next.Null }

-- what counts of a session's requests
abbrev pub load_of : Session → Load
load_of s = record {
  width = s.settings.width;
  patience = s.standing.patience;
  now = s.standing.moment;
  all = all_of s;
  current = current_of s;
}

-- what is next on a connection that is ready, if this is wanted
abbrev pub next_ready : Want → Session → Next
next_ready Nothing s = next.Read
next_ready Answers s =
    if exchange.has_begun s.standing.exchange then next_flush the_choices (load_of s) s.standing.exchange else next_synchronizing the_choices (load_of s) s.standing.exchange
next_ready Send s =
    if exchange.has_begun s.standing.exchange then next_to_send the_choices (load_of s) s.standing.exchange next.Ask else next_synchronizing the_choices (load_of s) s.standing.exchange

-- what is next in this phase, if this is wanted: if nothing is, nothing is written and no connection is made
abbrev pub next_in : Phase → Want → Session → Next
next_in phase.Down Nothing s = next.Wait
next_in phase.Down want s = next.Open
next_in phase.Pausing want s = next.Wait
next_in phase.Clearing Nothing s = next.Read
next_in phase.Clearing want s = next.Clear
next_in phase.Draining want s = next.Read
next_in phase.Ready want s = next_ready want s

-- what counts as wanted if so many requests are outstanding: without one no answers are
abbrev pub wanted_of : Want → (outstanding : ℕ) → Want
wanted_of Answers outstanding = if nat_lt 0 outstanding then Answers else Nothing
wanted_of want outstanding = want

-- what is next, if this is wanted
abbrev pub next_of : Want → Session → Next
next_of want s = next_in s.standing.phase (wanted_of want (all_of s)) s

-- What calls make of a session.

-- the settings that count for those chosen: a width outside of 1 to 7 counts as the nearest of these, and a timeout of 0 as 1
abbrev pub sound : Settings → Settings
sound settings = record settings { width = width_within settings.width; timeout = max settings.timeout 1 }

-- a session at its start
abbrev pub opening : Settings → Session
opening settings = record { settings = sound settings; standing = new_standing (sound settings); client = fresh }

-- the session with its standing changed by `f`
abbrev pub with_standing : (Standing → Standing) → Session → Session
with_standing f s = record s { standing = f s.standing }

-- the session at the moment `now`, by which nothing came: requests whose deadline has come have timed out, and a pause or a draining may
-- be over
abbrev pub passed : (now : ℕ) → Session → Session
passed now s = record s { standing = quieted s.settings (timed now s.standing); client = expires s.client now }

-- the client once it sent a request that waits for `wait` milliseconds from the moment `now` on; `client` as it was if it refused that
abbrev pub client_sent : ById Asked → Option (Sending (ById Asked)) → ById Asked
client_sent client None = client
client_sent client (Some x) = x.client

-- the session once its client sent a request for `call`, by which its standing changes as `f` says
abbrev pub sent : (target : ℕ) (call : Asked) (wait : ℕ) (f : Standing → Standing) → Session → Session
sent target call wait f s =
    record s { standing = f s.standing; client = client_sent s.client (sends WINDOW s.client target call (later s.standing.moment wait)) }

-- the session once it sent the null procedure of the first id that isn't answered
abbrev pub null_asked : Session → Session
null_asked s = with_standing (λ t. record t { exchange = exchange.null_noted t.moment s.settings.timeout t.exchange }) s

-- the session once its client sent a null procedure
abbrev pub flushed : Session → Session
flushed s = sent OWN (Table NullProc) s.settings.timeout (λ t. record t { exchange = exchange.request_noted t.moment t.exchange }) s

-- the session with all that is outstanding lost, which synchronizes anew
abbrev pub renewed : Session → Session
renewed s = record s { standing = restarted s.settings s.standing; client = (restarts s.client).client }

-- the session once this was done
abbrev pub done : Next → Session → Session
done next.Clear s = with_standing phase_cleared s
done next.Null s = null_asked s
done next.Flush s = flushed s
done next.Renew s = null_asked (renewed s)
done next.Read s = with_standing (λ t. record t { listened = true }) s
done _ s = s

-- the session at the moment `now`, if this is wanted, before what is next is done
abbrev pub at_step : Want → (now : ℕ) → Session → Session
at_step want now s = passed now (with_standing (attended want now) s)

-- the session after a step at the moment `now`, if this is wanted
abbrev pub stepped : Want → (now : ℕ) → Session → Session
stepped want now s = let t = at_step want now s in done (next_of want t) t

-- what a step settles: all that is outstanding, if it resynchronizes
abbrev pub settled_by : Next → Session → List (Settlement Asked)
settled_by next.Renew s = (restarts s.client).settlements
settled_by _ s = []

-- the line of the null procedure of the first of these ids, which aren't answered; no bytes if all are
abbrev pub null_line : List ℕ → List ℕ
null_line [] = []
null_line (asked ∷ others) = request_line (Some asked) NullProc

-- the line that a step writes, without CR LF; no bytes if it writes none, or a lone line feed
abbrev pub line_of : Next → Session → List ℕ
line_of next.Null s = null_line s.standing.exchange.word
line_of next.Flush s = asked_line (Some s.client.next) (Table NullProc)
line_of next.Renew s = null_line the_word
line_of _ s = []

-- the earliest deadline of the outstanding requests that haven't timed out, if there is one; else the greatest `u64`
abbrev pub until_deadline : Option ℕ → ℕ
until_deadline None = 18446744073709551615
until_deadline (Some deadline) = deadline

-- until when a read waits on a connection that is ready: until the null procedure that was sent last times out, or the first of the
-- outstanding requests does
abbrev pub until_ready : Want → (earliest : Option ℕ) → Exchange → ℕ
until_ready Nothing earliest x = until_deadline earliest
until_ready want earliest x = if exchange.has_begun x then until_deadline earliest else exchange.asks_at x

-- until when a wait or a read of the session lasts at most in this phase
abbrev pub until_in : Phase → Want → (earliest : Option ℕ) → Session → ℕ
until_in phase.Down want earliest s = 18446744073709551615
until_in phase.Pausing want earliest s = exchange.past_at s.standing.exchange.pause s.standing.exchange
until_in phase.Draining want earliest s = exchange.past_at s.settings.quiet s.standing.exchange
until_in _ want earliest s = until_ready want earliest s.standing.exchange

-- what the caller does for what is next, which lasts until this moment at most
abbrev pub act_for : Next → (until : ℕ) → Act
act_for next.Open until = act.Open
act_for next.Wait until = act.Wait until
act_for next.Clear until = act.Clear
act_for next.Null until = act.Put
act_for next.Flush until = act.Put
act_for next.Renew until = act.Put
act_for next.Ask until = act.Ask
act_for next.Read until = act.Read until
act_for next.Close until = act.Close

-- whether a request may be asked now
abbrev pub may_send : Next → Bool
may_send next.Ask = true
may_send _ = false

-- the session once the caller's request was sent, where `may` says whether it was its turn
abbrev pub asked_if : (may : Bool) (target : ℕ) (call : Asked) (wait : ℕ) → Session → Session
asked_if true target call wait s = sent target call wait (requested wait) s
asked_if false target call wait s = s

-- whether a request of the caller's for this target is taken: it is its turn, and the target isn't that of the session's own requests
abbrev pub takes : (target : ℕ) → Session → Bool
takes target s = not (nat_eq target OWN) && may_send (next_of Send s)

-- the session once the caller asked: the request is sent if it is taken, and else nothing changes
abbrev pub asked : (target : ℕ) (call : Asked) (wait : ℕ) → Session → Session
asked target call wait s = asked_if (takes target s) target call wait s

-- the standing once bytes came at the moment `now`: without a connection they count for nothing
abbrev pub met_in : (up : Bool) (now : ℕ) → Standing → Standing
met_in true now t = met now t
met_in false now t = timed now t

-- the session once bytes came at the moment `now`, before their lines are heard
abbrev pub came : (now : ℕ) → Session → Session
came now s = record s { standing = met_in (is_up s.standing.phase) now s.standing; client = expires s.client now }

-- what a line notes in the exchange of a client that has synchronized: `x` is what it settles
abbrev pub exchange_heard : (now : ℕ) → ById Asked → List ℕ → Settled Asked (ById Asked) → Exchange → Exchange
exchange_heard now client line x y =
    exchange.heard_noted now (is_reply line) x.settlements (length x.client.waiting) (exchange.doubt_noted (calls_for_renewal client line) y)

-- the exchange once a line settled so many requests: the next pause is as long as the quiet time if it settled any
abbrev pub pause_reset : (settled : ℕ) → Exchange → Exchange
pause_reset settled x = record x { pause = if nat_lt 0 settled then 0 else x.pause }

-- the session once its client heard this line. Once nothing is outstanding, the longest wait so far counts no more
abbrev pub line_heard : List ℕ → Session → Session
line_heard line s =
    let x = hears_line s.client line in
    record s {
      standing = record s.standing {
        patience = if nat_eq (length x.client.waiting) 0 then s.settings.timeout else s.standing.patience;
        exchange = pause_reset (length x.settlements) (exchange_heard s.standing.moment s.client line x s.standing.exchange);
      };
      client = x.client;
    }

-- the session once its synchronization heard this line
abbrev pub line_synchronized : List ℕ → Session → Session
line_synchronized line s = with_standing (λ t. record t { exchange = exchange.line_synchronizing t.moment t.exchange line }) s

-- the session once its client heard this line, or discarded it because it has a sign-on in it (`is_cut`), which may have cut off a reply
abbrev pub line_heard_if : (is_cut : Bool) → List ℕ → Session → Session
line_heard_if true line s = s
line_heard_if false line s = line_heard line s

-- the session once this line came in this phase, where `begun` says whether it has synchronized: it is heard if the connection is ready
abbrev pub line_came_in : Phase → (begun : Bool) → List ℕ → Session → Session
line_came_in phase.Ready true line s = line_heard_if (is_sign_on line) line s
line_came_in phase.Ready false line s = line_synchronized line s
line_came_in _ begun line s = s

-- the session once this line came; a sign-on in it is noted in every phase
abbrev pub line_came : List ℕ → Session → Session
line_came line s =
    line_came_in s.standing.phase (exchange.has_begun s.standing.exchange) line (with_standing (sign_on_noted (is_sign_on line)) s)

-- what this line settles in this phase
abbrev pub settled_in : Phase → (begun : Bool) → List ℕ → Session → List (Settlement Asked)
settled_in phase.Ready true line s = if is_sign_on line then [] else (hears_line s.client line).settlements
settled_in _ begun line s = []

-- what this line settles
abbrev pub line_settles : List ℕ → Session → List (Settlement Asked)
line_settles line s = settled_in s.standing.phase (exchange.has_begun s.standing.exchange) line s

-- the session once its connection was made at the moment `now`
abbrev pub opened : (now : ℕ) → Session → Session
opened now s = record s { standing = connected now s.standing; client = expires s.client now }

-- the session once its connection ended, or couldn't be made, at the moment `now`
abbrev pub closed : (now : ℕ) → Session → Session
closed now s = record s { standing = unconnected s.settings now s.standing; client = expires s.client now }

-- the phase of a session that begins anew: a line feed comes first, if there is a connection
abbrev pub phase_anew : Phase → Phase
phase_anew p = if is_up p then phase.Clearing else p

-- the session once it begins anew at its caller's wish, with all that is outstanding lost, where `begun` says whether it had synchronized:
-- if it hadn't, it goes on with the null procedure that it was at
abbrev pub begun_anew : (begun : Bool) → Session → Session
begun_anew true s = renewed s
begun_anew false s = with_standing (λ t. record t { stretch = later t.stretch 1; exchange = record t.exchange { again = 0 } }) s

-- the session once it begins anew
abbrev pub anew : Session → Session
anew s = with_standing (λ t. record t { phase = phase_anew t.phase }) (begun_anew (exchange.has_begun s.standing.exchange) s)

-- what a session settles that begins anew
abbrev pub anew_settles : (begun : Bool) → Session → List (Settlement Asked)
anew_settles true s = (restarts s.client).settlements
anew_settles false s = []

-- What a session reports.

-- the act is that for what is next in the session, with the earliest deadline of what is outstanding
pub record IsActFor (want : Want) (s : Session) (act : Act) : Type 0 where
  pub earliest : Option ℕ
  pub is : IsEarliest (deadlines s.client.waiting) earliest
  pub done_by : act ≡ act_for (next_of want s) (until_in s.standing.phase (wanted_of want (all_of s)) earliest s)

-- whether a connection is ready in this phase
abbrev pub is_ready_in : Phase → Bool
is_ready_in phase.Ready = true
is_ready_in _ = false

-- whether a request's turn comes as soon as there is room: the session has synchronized, its connection is quiet, and nothing called for
-- another synchronization
abbrev pub is_ready : Session → Bool
is_ready s = is_ready_in s.standing.phase && (exchange.has_begun s.standing.exchange && not s.standing.exchange.doubtful)
