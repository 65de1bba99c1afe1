-- Where steps bring a client whose requests are commands, by its rule with the window of seven.
use Rattle.gc_session.specs.Common.{Asked, Step, course_at, course_after, ById, WINDOW}
use Rattle.std.specs.Prelude.{List, [], ◌∷◌}

-- this client after one step
abbrev pub client_stepped : ById Asked → Step Asked → ById Asked
client_stepped c step = (course_after WINDOW (course_at c) step).client

-- this client after these steps, in order
abbrev pub client_after : ById Asked → List (Step Asked) → ById Asked
client_after c [] = c
client_after c (step ∷ steps) = client_after (client_stepped c step) steps
