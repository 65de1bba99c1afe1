-- What a reply says of a command: what its codes and its parameters say of the call, or, where its text describes the procedure, its
-- parameters by the form of the description. This project's own.
use Rattle.gc_station.specs.Common.{ReplyFields, IsAskedReading, IsReadingBy, Reading, Asked, IsFormAnswer, IsFormFault, Form}
use Rattle.std.specs.Prelude.{ℕ, List, Option, Some, None}

-- what the line of a reply says of a call, for each call and each line
abbrev pub Says : Type 0
Says = Asked → List ℕ → Reading

-- the reply has this reading by the form (`IsReadingBy`): its parameters are read as an answer of the form, whatever was asked
abbrev pub IsSaidInForm : Form → ReplyFields → Reading → Type 0
IsSaidInForm form r reading = IsReadingBy (IsFormAnswer form r.params) (IsFormFault form r.params) r reading

-- the reply has this reading for what was asked, by the form if there is one
abbrev pub IsSaid : Option Form → Asked → ReplyFields → Reading → Type 0
IsSaid None call r reading = IsAskedReading call r reading
IsSaid (Some form) call r reading = IsSaidInForm form r reading
