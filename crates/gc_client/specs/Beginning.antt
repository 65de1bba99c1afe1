-- A beginning, this project's own: null procedures, one after the other, whose ids are those of a fixed list, the word. Once all
-- are answered, no line from before is to be in flight. It uses ids alone, and no clock. The theorem about this, with its
-- premises, is in `gc_theorems`.
use Rattle.std.specs.Prelude.{◌≡◌, ◌⊎◌, ℕ, Bool, true, false, List, [], ◌∷◌, Option, Some, None, nat_eq}
use Rattle.gc_catalogue.specs.declared.call.Call.TheVariants.{NullProc}
use Rattle.gc_catalogue.specs.Prelude.{request_line}
use Rattle.gc_client.specs.Rule.{heard}

-- The word: the ids of the null procedures, in order. Each is one less than the id before it, and 7 comes after 0, because in a
-- run that measures each id is one more than the id before it, and 0 comes after 7. The word's last id is the one before that of
-- the first command.
abbrev pub the_word : List ℕ
the_word = 6 ∷ 5 ∷ 4 ∷ 3 ∷ 2 ∷ 1 ∷ 0 ∷ 7 ∷ []

-- `word` is a subsequence of `ids`: its ids are in `ids` in the same order, with any others before, between and after them
abbrev pub IsSubsequence : (word ids : List ℕ) → Type 0
IsSubsequence [] ids = Unit {0}
IsSubsequence (w ∷ word) [] = ⊥
IsSubsequence (w ∷ word) (i ∷ ids) = ((w ≡ i) × IsSubsequence word ids) ⊎ IsSubsequence (w ∷ word) ids

-- Below, a beginning is the list of the ids of the word that aren't answered yet: the whole word at first, and empty once it
-- has begun.

-- the line of the null procedure with the first id that isn't answered; none if all are answered
abbrev pub asks : (left : List ℕ) → Option (List ℕ)
asks [] = None
asks (asked ∷ rest) = Some (request_line (Some asked) NullProc)

-- whether a reply with this id, or a line without one (`None`), answers the null procedure with the first id that isn't answered:
-- it does if it has that id. If all are answered, no line answers one
abbrev pub is_answered : (left : List ℕ) → (id : Option ℕ) → Bool
is_answered [] id = false
is_answered (asked ∷ rest) None = false
is_answered (asked ∷ rest) (Some id) = nat_eq id asked

-- the ids that aren't answered yet, of `asked` and `rest`: `rest` alone if `asked` was answered (true), else both
abbrev pub left_when : (answered : Bool) → (asked : ℕ) → (rest : List ℕ) → List ℕ
left_when true asked rest = rest
left_when false asked rest = asked ∷ rest

-- the ids that aren't answered yet after a reply with this id, or a line without one: a line that doesn't answer changes nothing
abbrev pub left_by : (left : List ℕ) → (id : Option ℕ) → List ℕ
left_by [] id = []
left_by (asked ∷ rest) id = left_when (is_answered (asked ∷ rest) id) asked rest

-- which of the ids `word` aren't answered yet after these lines came, one after the other: a line answers the first id that is
-- left then, if the line has that id, and otherwise none
abbrev pub unanswered_after : (word : List ℕ) → (lines : List (List ℕ)) → List ℕ
unanswered_after word [] = word
unanswered_after word (line ∷ others) = unanswered_after (left_by word (heard line)) others
