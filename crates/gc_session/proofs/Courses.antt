-- Courses: what a client has sent and settled so far, and the client after that.
use Rattle.gc_session.proofs.Common.{◌≡◌, ℕ, List, [], ◌∷◌, ◌++◌, Option, Some, None, refl, sym, ap, ◌∙◌, Asked, Course, Step, Send, Hear, Expire, Restart, begun, course_at, course_after, course, sent_on, ById, Sending, sends, WINDOW, client_stepped, client_after, client_sent}

-- the course of a new client over these steps
abbrev pub course_of : List (Step Asked) → Course Asked
course_of steps = course WINDOW begun steps

-- the course over steps and then others is that over the others, from where the first bring it on
pub course_append : (width : ℕ) (first later : List (Step Asked)) (x : Course Asked) → course width x (first ++ later) ≡ course width (course width x first) later
course_append width [] later x = refl
course_append width (step ∷ first) later x = course_append width first later (course_after width x step)

-- the client of a course after a send
pub sent_client : (x : Course Asked) (target : ℕ) (call : Asked) (o : Option (Sending (ById Asked))) → (sent_on x target call o).client ≡ client_sent x.client o
sent_client x target call None = refl
sent_client x target call (Some s) = refl

-- the client of a course after a step is that of its client, whatever was sent and settled before
pub client_of : (x : Course Asked) (step : Step Asked) → (course_after WINDOW x step).client ≡ client_stepped x.client step
client_of x (Send target call deadline) =
    let o = sends WINDOW x.client target call deadline in sent_client x target call o ∙ sym (sent_client (course_at x.client) target call o)
client_of x (Hear line) = refl
client_of x (Expire now) = refl
client_of x Restart = refl

-- so it is after steps
pub course_client : (steps : List (Step Asked)) (x : Course Asked) → (course WINDOW x steps).client ≡ client_after x.client steps
course_client [] x = refl
course_client (step ∷ steps) x = course_client steps (course_after WINDOW x step) ∙ ap (λ c. client_after c steps) (client_of x step)
