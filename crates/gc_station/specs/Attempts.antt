-- Further attempts of a chain, this project's own: whether a command of an attempt ended as its rule names, so that the chain is
-- sent again. An attempt begins with a command whose link, its place in the chain, is 0. A command of the setup has link 1, and
-- its rule names no ending: so it begins no attempt, and changes nothing in the current one.
use Rattle.gc_station.specs.Common.{Reading, Asked, Settlement, Outcome, Lost, repeats_after, End, Expected}
use Rattle.std.specs.Prelude.{ℕ, ◌||◌, Bool, false, List, fold, Option, Some, None, if◌then◌else◌, nat_eq}
use Rattle.gc_client.specs.Prelude.{Answered, Late}
use Rattle.gc_station.specs.Marks.{end_of, with_marks}
use Rattle.gc_station.specs.Scopes.{Reads}
use Rattle.gc_station.specs.declared.mark.Mark.{Mark}
use Rattle.gc_catalogue.specs.declared.answer.Reading.TheVariants as reading

-- the return code other than 0 that a reading has, with communication code 0; `None` for any other reading
abbrev pub code_in : Reading → Option ℕ
code_in (reading.Refused code) = Some code
code_in _ = None

-- the return code other than 0 of the reply that ended a request for `call` with this outcome; `None` if no reply in time did,
-- or it has no such code with communication code 0
abbrev pub code_of : Reads → Asked → Outcome → Option ℕ
code_of reads call (Answered line) = code_in (reads None call line)
code_of reads call Late = None
code_of reads call Lost = None

-- whether a command of the current attempt has ended as the chain's rule names, once one more command ended as `end`. `code` is
-- the return code other than 0 of its reply, if any, and `expected` is what the text says of it: the chain's rule, and its link.
-- `listed` says whether a command before it had; that doesn't count if the link is 0, as then the attempt begins with it
abbrev pub listed_after : (listed : Bool) → Expected → (code : Option ℕ) → End → Bool
listed_after listed expected code end = (if nat_eq expected.turn.link 0 then false else listed) || repeats_after expected.again code end

-- whether a command of the current attempt has ended as its rule names, once this settlement of the request with `mark` is
-- recorded; `listed` says whether one had before
abbrev pub listed_after_settlement : Reads → (listed : Bool) → Mark → Settlement Asked → Bool
listed_after_settlement reads listed mark x = listed_after listed mark.expected (code_of reads x.call x.outcome) (end_of reads mark.expected x.call x.outcome)

-- whether a command of the current attempt has ended as its rule names, once these settlements are recorded, by the marks of all
-- outstanding requests (`with_marks`); `listed` says whether one had before
abbrev pub listed_after_settlements : Reads → (listed : Bool) → List (Option Mark) → List (Settlement Asked) → Bool
listed_after_settlements reads listed marks settlements =
    fold (λ (so : Bool) (x : Mark × Settlement Asked). listed_after_settlement reads so x.0 x.1) listed (with_marks marks settlements)
