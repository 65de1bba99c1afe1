-- The coding of a link's acts as numbers and bytes, from which the acts come back: a field for proofs alone has to have a coding
-- (`Coded`) of what it holds.
use Rattle.std.specs.Prelude.{◌≡◌, ℕ, Bool, false, List, [], cond, ◌==◌, refl}
use Rattle.std.specs.Coded.{Coded, code_by, coded×, coded_ℕ, coded_bool, coded_list}
use Rattle.gc_links.specs.declared.link.Moment.{Moment}
use Rattle.gc_links.specs.Acts.{Act, Told, Untold, Put, Cut, Gave, Silent, Ended, Broke, Closed, Opened, Unopened}

-- the parts of an act: a number for its kind, its bytes, its count, and its moment, which is a time on each of two clocks and
-- whether the end of the run was asked for by then, when the file was changed by which a cycle is asked for, and values of files
abbrev ActParts : Type 0
ActParts = ℕ × (List ℕ × (ℕ × (ℕ × (ℕ × (Bool × (ℕ × List (List ℕ)))))))

-- the moment that is stored with an act that has none
abbrev no_moment : Moment
no_moment = record { elapsed = 0; utc = 0; stops = false; touched = 0; values = [] }

-- the parts of an act of this kind, with these bytes, this count and this moment
abbrev parts : (kind : ℕ) (bytes : List ℕ) (count : ℕ) → Moment → ActParts
parts kind bytes count m = (kind, (bytes, (count, (m.elapsed, (m.utc, (m.stops, (m.touched, m.values)))))))

-- an act as its parts
abbrev to_parts : Act → ActParts
to_parts (Told m) = parts 0 [] 0 m
to_parts Untold = parts 1 [] 0 no_moment
to_parts (Put bytes) = parts 2 bytes 0 no_moment
to_parts (Cut bytes count) = parts 3 bytes count no_moment
to_parts (Gave bytes m) = parts 4 bytes 0 m
to_parts (Silent m) = parts 5 [] 0 m
to_parts Ended = parts 6 [] 0 no_moment
to_parts Broke = parts 7 [] 0 no_moment
to_parts Closed = parts 8 [] 0 no_moment
to_parts Opened = parts 9 [] 0 no_moment
to_parts Unopened = parts 10 [] 0 no_moment

-- the moment among the parts of an act
abbrev moment_of_parts : ActParts → Moment
moment_of_parts p = record { elapsed = p.1.1.1.0; utc = p.1.1.1.1.0; stops = p.1.1.1.1.1.0; touched = p.1.1.1.1.1.1.0; values = p.1.1.1.1.1.1.1 }

-- the act of these parts; a kind above 10, which no act has, counts as 10
abbrev from_parts : ActParts → Act
from_parts p =
    cond (p.0 == 0) (Told (moment_of_parts p))
    (cond (p.0 == 1) Untold
    (cond (p.0 == 2) (Put p.1.0)
    (cond (p.0 == 3) (Cut p.1.0 p.1.1.0)
    (cond (p.0 == 4) (Gave p.1.0 (moment_of_parts p))
    (cond (p.0 == 5) (Silent (moment_of_parts p))
    (cond (p.0 == 6) Ended
    (cond (p.0 == 7) Broke
    (cond (p.0 == 8) Closed
    (cond (p.0 == 9) Opened Unopened)))))))))

-- an act comes back from its parts
pub from_parts-to_parts : (act : Act) → from_parts (to_parts act) ≡ act
from_parts-to_parts (Told m) = refl
from_parts-to_parts Untold = refl
from_parts-to_parts (Put bytes) = refl
from_parts-to_parts (Cut bytes count) = refl
from_parts-to_parts (Gave bytes m) = refl
from_parts-to_parts (Silent m) = refl
from_parts-to_parts Ended = refl
from_parts-to_parts Broke = refl
from_parts-to_parts Closed = refl
from_parts-to_parts Opened = refl
from_parts-to_parts Unopened = refl

-- the coding of a list of acts, for the field `acts` of `history.rt`
abbrev pub acts_code : Coded (List Act)
acts_code =
    coded_list
    (code_by ActParts
    (coded× coded_ℕ (coded× (coded_list coded_ℕ) (coded× coded_ℕ (coded× coded_ℕ (coded× coded_ℕ (coded× coded_bool (coded× coded_ℕ (coded_list (coded_list coded_ℕ)))))))))
    to_parts from_parts from_parts-to_parts)
