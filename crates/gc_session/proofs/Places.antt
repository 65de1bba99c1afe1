-- Where events bring a client, one after the other. A course is what a client has sent and settled so far, and the client after that.
use Rattle.gc_session.proofs.Common.{◌≡◌, ℕ, List, [], ◌∷◌, ◌++◌, refl, Asked, the_word, left_by, Course, Step, Send, Hear, Expire, Restart, begun, course_after, course, heard, WINDOW, ClientEvent, Null, Came, Stepped, AreInTurn, left_by_step, left_among, steps_among, steps_since}

-- where a client is: the ids of its synchronization's null procedures that aren't answered, its course, and its steps since its last restart
pub record Place : Type 0 where
  pub left : List ℕ
  pub reached : Course Asked
  pub since : List (Step Asked)

-- where a new client is
abbrev pub the_start : Place
the_start = record { left = the_word; reached = begun; since = [] }

-- the steps since the last restart, after one more step
abbrev pub since_after : (since : List (Step Asked)) → Step Asked → List (Step Asked)
since_after since Restart = []
since_after since step = since ++ step ∷ []

-- where an event brings a client
abbrev pub moved : ClientEvent → Place → Place
moved Null p = p
moved (Came line) p = record { left = left_by p.left (heard line); reached = p.reached; since = p.since }
moved (Stepped step) p = record { left = left_by_step step; reached = course_after WINDOW p.reached step; since = since_after p.since step }

-- where these events bring it, in order
abbrev pub moved_all : List ClientEvent → Place → Place
moved_all [] p = p
moved_all (event ∷ events) p = moved_all events (moved event p)

-- where it is after events and then others
pub moved_append : (front later : List ClientEvent) (p : Place) → moved_all (front ++ later) p ≡ moved_all later (moved_all front p)
moved_append [] later p = refl
moved_append (event ∷ front) later p = moved_append front later (moved event p)

-- the ids that aren't answered
pub left_moved : (events : List ClientEvent) (p : Place) → (moved_all events p).left ≡ left_among p.left events
left_moved [] p = refl
left_moved (Null ∷ events) p = left_moved events p
left_moved (Came line ∷ events) p = left_moved events (moved (Came line) p)
left_moved (Stepped step ∷ events) p = left_moved events (moved (Stepped step) p)

-- the course
pub reached_moved : (events : List ClientEvent) (p : Place) → (moved_all events p).reached ≡ course WINDOW p.reached (steps_among events)
reached_moved [] p = refl
reached_moved (Null ∷ events) p = reached_moved events p
reached_moved (Came line ∷ events) p = reached_moved events (moved (Came line) p)
reached_moved (Stepped step ∷ events) p = reached_moved events (moved (Stepped step) p)

-- the steps since the last restart
pub since_moved : (events : List ClientEvent) (p : Place) → (moved_all events p).since ≡ steps_since p.since events
since_moved [] p = refl
since_moved (Null ∷ events) p = since_moved events p
since_moved (Came line ∷ events) p = since_moved events (moved (Came line) p)
since_moved (Stepped Restart ∷ events) p = since_moved events (moved (Stepped Restart) p)
since_moved (Stepped (Send target call deadline) ∷ events) p = since_moved events (moved (Stepped (Send target call deadline)) p)
since_moved (Stepped (Hear line) ∷ events) p = since_moved events (moved (Stepped (Hear line)) p)
since_moved (Stepped (Expire now) ∷ events) p = since_moved events (moved (Stepped (Expire now)) p)

-- What holds of events.

-- this holds of each event, at the place before it
abbrev pub Along : (Holds : Place → ClientEvent → Type 0) → Place → List ClientEvent → Type 0
Along Holds p [] = Unit {0}
Along Holds p (event ∷ events) = Holds p event × Along Holds (moved event p) events

-- of events and then of others
pub along_both : (Holds : Place → ClientEvent → Type 0) (front later : List ClientEvent) (p : Place) → Along Holds p front → Along Holds (moved_all front p) later → Along Holds p (front ++ later)
along_both Holds [] later p first more = more
along_both Holds (event ∷ front) later p first more = (first.0, along_both Holds front later (moved event p) first.1 more)

-- of one among them
pub along_at : (Holds : Place → ClientEvent → Type 0) (front later : List ClientEvent) (event : ClientEvent) (p : Place) → Along Holds p (front ++ event ∷ later) → Holds (moved_all front p) event
along_at Holds [] later event p all = all.0
along_at Holds (first ∷ front) later event p all = along_at Holds front later event (moved first p) all.1

-- events are in their turn if that holds of each
pub in_turn : (Holds : Place → ClientEvent → Type 0) → ((p : Place) (step : Step Asked) → Holds p (Stepped step) → p.left ≡ []) → (events : List ClientEvent) (p : Place) → Along Holds p events → AreInTurn p.left events
in_turn Holds is [] p all = tt
in_turn Holds is (Null ∷ events) p all = in_turn Holds is events p all.1
in_turn Holds is (Came line ∷ events) p all = in_turn Holds is events (moved (Came line) p) all.1
in_turn Holds is (Stepped step ∷ events) p all = (is p step all.0, in_turn Holds is events (moved (Stepped step) p) all.1)
