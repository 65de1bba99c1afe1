-- Files of rows, each ended by a line feed: what is whole of such a file, and what an opening makes of it. A head is what a new
-- file gets first: a line, or nothing. `old` and `new` are a file's life before and after, where it is known. This project's own.
use Rattle.std.specs.Prelude.{◌≡◌, ◌⊎◌, ℕ, ◌+◌, ◌==◌, ◌&&◌, Bool, true, false, List, [], ◌∷◌, ◌++◌, length, take, if◌then◌else◌, Option, Some}
use Rattle.gc_files.specs.Files.{Step, Append, Cut, Sync, Life, IfKnown, Adds, content, later_by}

-- whether a line feed is among these bytes
abbrev pub has_feed : List ℕ → Bool
has_feed [] = false
has_feed (b ∷ bs) = if b == 10 then true else has_feed bs

-- the whole rows among these bytes: all through the last line feed, and nothing where there is none
abbrev pub whole : List ℕ → List ℕ
whole [] = []
whole (b ∷ bs) = if has_feed (b ∷ bs) then b ∷ whole bs else []

-- a row with its line feed
abbrev pub row_line : List ℕ → List ℕ
row_line row = row ++ 10 ∷ []

-- whether a file that holds `held` begins with the sign, or holds a front of the sign and nothing else
abbrev pub fits : (sign held : List ℕ) → Bool
fits [] held = true
fits (a ∷ sign) [] = true
fits (a ∷ sign) (b ∷ held) = (a == b) && fits sign held

-- whether a list is empty
abbrev pub is_empty : List ℕ → Bool
is_empty [] = true
is_empty (b ∷ bs) = false

-- what an opening writes into a file that held `held`: the head, where no whole row is there, and else nothing
abbrev pub head_written : (head held : List ℕ) → List ℕ
head_written head held = if is_empty (whole held) then head else []

-- the table of a file that held `held`, once it is opened: its whole rows, or the head where there are none
abbrev pub opened_table : (head held : List ℕ) → List ℕ
opened_table head held = whole held ++ head_written head held

-- the steps by which an opening mends a file: where bytes follow its whole rows, a cut that takes them off, and a sync of it;
-- else none
abbrev pub mended : List ℕ → List Step
mended held = if length (whole held) == length held then [] else Cut (length (whole held)) ∷ Sync ∷ []

-- whether none of these steps is a cut
abbrev pub cuts_none : List Step → Bool
cuts_none [] = true
cuts_none (Append bytes ∷ steps) = cuts_none steps
cuts_none (Sync ∷ steps) = cuts_none steps
cuts_none (Cut size ∷ steps) = false

-- the bytes that these steps append
abbrev pub appended : List Step → List ℕ
appended [] = []
appended (Append bytes ∷ steps) = bytes ++ appended steps
appended (Sync ∷ steps) = appended steps
appended (Cut size ∷ steps) = appended steps

-- these steps append these bytes, and do nothing else but syncs
pub record Puts (steps : List Step) (bytes : List ℕ) : Type 0 where
  pub none_cut : cuts_none steps ≡ true
  pub all : appended steps ≡ bytes

-- the steps mended a file that held `held`, and then appended these bytes
pub record MendedAndPut (held : List ℕ) (steps : List Step) (bytes : List ℕ) : Type 0 where
  pub later : List Step
  pub split : steps ≡ mended held ++ later
  pub puts : Puts later bytes

-- the steps are the first of those that mend a file that held `held`, some, all or none of them, and nothing else
pub record Mending (held : List ℕ) (steps : List Step) : Type 0 where
  pub count : ℕ
  pub is : steps ≡ take count (mended held)

-- the bytes `front` are a front of `all`
pub record IsFront (front all : List ℕ) : Type 0 where
  pub rest : List ℕ
  pub split : all ≡ front ++ rest

-- what a run did, as far as it came, to a file that held `held`: it mended the file, whole, in part or not at all, and did
-- nothing else; or it mended the file whole, and then appended a front of `all`
abbrev pub ComesTo : (held all : List ℕ) → List Step → Type 0
ComesTo held all steps = Mending held steps ⊎ ((bytes : List ℕ) × MendedAndPut held steps bytes × IsFront bytes all)

-- if a file's life was known, some steps were done to it, and `claim` holds of what the file held before and of these steps
abbrev pub Did : (old new : Option Life) (claim : (held : List ℕ) → List Step → Type 0) → Type 0
Did old new claim = (life : Life) → old ≡ Some life → (steps : List Step) × (new ≡ Some (later_by steps life)) × claim (content life) steps

-- the steps of an opening of a file that held `held`: they mended it, and then the head was written where no whole row was there
abbrev pub OpensFile : (head held : List ℕ) → List Step → Type 0
OpensFile head held steps = MendedAndPut held steps (head_written head held)

-- an opening mended the file, and wrote the head where no whole row was there
abbrev pub Opens : (head : List ℕ) (old new : Option Life) → Type 0
Opens head old new = Did old new (OpensFile head)

-- an opening did, as far as it came (`ComesTo`), what an opening does: it mends the file, and writes the head where no whole row
-- is there
abbrev pub OpensInPart : (head : List ℕ) (old new : Option Life) → Type 0
OpensInPart head old new = Did old new (λ held. ComesTo held (head_written head held))

-- these bytes were appended, in some pieces, and nothing else was done but syncs
abbrev pub PutsAll : (old new : Option Life) (bytes : List ℕ) → Type 0
PutsAll old new bytes = Did old new (λ held steps. Puts steps bytes)

-- a front of these bytes was appended, in some pieces, and nothing else was done but syncs
abbrev pub PutsFront : (old new : Option Life) (bytes : List ℕ) → Type 0
PutsFront old new bytes = (front : List ℕ) × IsFront front bytes × PutsAll old new front

-- The file with this life, if that is known.

-- `len` is how many bytes the file holds
abbrev pub IsLengthOf : Option Life → (len : ℕ) → Type 0
IsLengthOf life len = IfKnown life (λ known. len ≡ length (content known))

-- `end` is how many bytes the whole rows of the file have
abbrev pub IsEndOfRows : Option Life → (end : ℕ) → Type 0
IsEndOfRows life end = IfKnown life (λ known. end ≡ length (whole (content known)))

-- `torn` is how many bytes follow the whole rows of the file
abbrev pub IsTornLength : Option Life → (torn : ℕ) → Type 0
IsTornLength life torn = IfKnown life (λ known. length (content known) ≡ length (whole (content known)) + torn)

-- the file begins with the sign, or holds a front of it and nothing else (true), or neither (false)
abbrev pub Fits : (sign : List ℕ) → Option Life → (is : Bool) → Type 0
Fits sign life is = IfKnown life (λ known. fits sign (content known) ≡ is)

-- What was done to a file.

-- the file was mended, by the steps of `mended`
abbrev pub IsMended : (old new : Option Life) → Type 0
IsMended old new = IfKnown old (λ known. Adds old new (mended (content known)))

-- the file was mended, whole, in part or not at all: the first of the steps of `mended` were done to it
abbrev pub IsMendedInPart : (old new : Option Life) → Type 0
IsMendedInPart old new = IfKnown old (λ known. (count : ℕ) × Adds old new (take count (mended (content known))))

-- the file was not touched, if it neither begins with the sign nor is a front of it
abbrev pub LeavesForeign : (sign : List ℕ) (old new : Option Life) → Type 0
LeavesForeign sign old new = IfKnown old (λ known. fits sign (content known) ≡ false → new ≡ old)

-- all that the file with the life `from` holds was appended to the file whose life was `old`, and is `new`
abbrev pub CopiesAll : (from old new : Option Life) → Type 0
CopiesAll from old new = IfKnown from (λ known. PutsAll old new (content known))
