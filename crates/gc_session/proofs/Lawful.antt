-- The laws of any calls on a new session, from where their events bring its client.
use Rattle.gc_session.proofs.Common.{◌≡◌, ℕ, ◌+◌, ◌<◌, List, ◌∷◌, ◌++◌, length, map, filter, refl, sym, ap, ◌∙◌, subst, AllByRecursion, Asked, Course, Step, Send, Wanted, begun, course, of_settled, of_pending, ById, fresh, WINDOW, accounts_for_sends, Settings, OWN, Call, after_all, events_all, ClientEvent, Stepped, steps_among, SessionsAreTheirClients, RequestsAreSentNearTheTable, IsNearTheTable, RequestsAreHeldBack, NothingIsSentInDoubt, OwnRequestsAreNullProcedures, AccountsForAsks, IsNullIfOwn, is_of_caller, last_ended, settled_and_outstanding, opening}
use Rattle.gc_session.proofs.Brings.{IsCalm, calm_at, MayCome, MaySend}
use Rattle.gc_session.proofs.Calls.{from_the_start}
use Rattle.gc_session.proofs.Places.{the_start, moved_all, left_moved, reached_moved, since_moved, Along, along_at, in_turn}

-- any calls are events of a session's client
pub theirs : SessionsAreTheirClients
theirs settings calls =
    let events = events_all calls (opening settings) in
    let it = from_the_start settings calls in
    let reached = reached_moved events the_start in
    record {
      turns = in_turn MayCome (λ p step may. may.0) events the_start it.along;
      client = it.fits.client ∙ ap (λ (x : Course Asked). x.client) reached;
      settled = sym it.settled ∙ ap (λ (x : Course Asked). x.settlements) reached;
      left = it.fits.left ∙ left_moved events the_start;
    }

-- a request that is sent among the events may be sent there
sent_where_it_may : (settings : Settings) (calls : List Call) (front later : List ClientEvent) (target : ℕ) (call : Asked) (deadline : ℕ)
    → events_all calls (opening settings) ≡ front ++ Stepped (Send target call deadline) ∷ later → MaySend (moved_all front the_start) target call
sent_where_it_may settings calls front later target call deadline e =
    let it = from_the_start settings calls in
    (along_at MayCome front later (Stepped (Send target call deadline)) the_start
    (subst (λ (l : List ClientEvent). Along MayCome the_start l) e it.along)).1

-- requests are sent near the table
pub near : RequestsAreSentNearTheTable
near settings calls front later target call deadline e other =
    subst (λ (l : List (Step Asked)). IsNearTheTable (course WINDOW begun l)) (since_moved front the_start)
    ((sent_where_it_may settings calls front later target call deadline e).near other)

-- they are held back
pub held_back : RequestsAreHeldBack
held_back settings calls front later target call deadline e =
    subst (λ (l : List (Step Asked)). length (course WINDOW begun l).client.waiting + last_ended fresh 1 l < WINDOW) (since_moved front the_start)
    (sent_where_it_may settings calls front later target call deadline e).back

-- nothing is sent in doubt
pub none_in_doubt : NothingIsSentInDoubt
none_in_doubt settings calls front later target call deadline before between line e since =
    calm_at before between line begun
    (subst (λ (l : List (Step Asked)). IsCalm fresh l) (since_moved front the_start ∙ since) (sent_where_it_may settings calls front later target call deadline e).calm)

-- a session's own requests are null procedures
pub own_are_null : OwnRequestsAreNullProcedures
own_are_null settings calls front later call deadline e = (sent_where_it_may settings calls front later OWN call deadline e).own refl

-- what is settled, and what is outstanding then, is what the caller asked, and null procedures
pub asks_accounted : AccountsForAsks
asks_accounted settings calls =
    let events = events_all calls (opening settings) in
    let it = from_the_start settings calls in
    let x = (moved_all events the_start).reached in
    let one : map of_settled x.settlements ++ map of_pending x.client.waiting ≡ x.sent =
    subst (λ (y : Course Asked). map of_settled y.settlements ++ map of_pending y.client.waiting ≡ y.sent) (sym (reached_moved events the_start))
    (accounts_for_sends WINDOW (steps_among events)) in
    let same : settled_and_outstanding settings calls ≡ x.sent =
    ap (λ l. map of_settled l ++ map of_pending (after_all calls (opening settings)).client.waiting) (sym it.settled)
    ∙ ap (λ (c : ById Asked). map of_settled x.settlements ++ map of_pending c.waiting) it.fits.client ∙ one in
    record {
      asks = ap (filter is_of_caller) same ∙ it.taken;
      own = subst (λ (l : List (Wanted Asked)). AllByRecursion IsNullIfOwn l) (sym same) it.fits.own;
    }
