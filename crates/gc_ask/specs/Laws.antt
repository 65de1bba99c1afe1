-- Laws of what is asked: this project's own.
use Rattle.gc_ask.specs.Common.{AllByRecursion, IDS, heard, settled_by_line, Command}
use Rattle.std.specs.Prelude.{◌≡◌, ◌≢◌, ℕ, ◌+◌, ◌%◌, List, [], ◌∷◌, ◌++◌, Some}
use Rattle.gc_ask.specs.Asking.{awaited, asked_from}

-- no line of these is a reply with the id of request k
abbrev pub HasNoReply : (k : ℕ) → List (List ℕ) → Type 0
HasNoReply k lines = AllByRecursion (λ line. heard line ≢ Some (k % IDS)) lines

-- request k is settled by the first line that is a reply with its id, which is k modulo 8, and the requests after it by the lines after
-- that one; where no line is such a reply, neither request k nor any after it is settled
pub record AsksById (k : ℕ) (command : Command) (later : List Command) : Type 0 where
  pub settled : (front : List (List ℕ)) (line : List ℕ) (rest : List (List ℕ)) → HasNoReply k front → heard line ≡ Some (k % IDS)
      → asked_from k (command ∷ later) (front ++ line ∷ rest) ≡ settled_by_line (awaited command) line ∷ asked_from (k + 1) later rest
  pub unsettled : (came : List (List ℕ)) → HasNoReply k came → asked_from k (command ∷ later) came ≡ []
