-- The items of a reply's values: what lies between the commas, if these aren't within double quotes, without the spaces round
-- it. Commas and strings in double quotes are those of the GeoCOM manual's chapter on the ASCII protocol; the spaces and the
-- limit of 16 are this project's own.
use Rattle.gc_rows.specs.Common.{list_all, onto_first, quotes, quoted_after, without_front_spaces, without_end_spaces}
use Rattle.std.specs.Prelude.{ℕ, ◌%◌, ◌==◌, ◌&&◌, Bool, false, not, nat_lt, List, [], ◌∷◌, length, map, Option, Some, None, if◌then◌else◌}

-- a text without the spaces at both ends
abbrev pub trimmed : List ℕ → List ℕ
trimmed text = without_end_spaces (without_front_spaces text)

-- the pieces of a text, which is cut at each comma outside double quotes; `quoted` says whether a double quote is open before
-- the text. (`onto_first` puts a byte before the bytes of the first piece.)
abbrev pub comma_pieces : (quoted : Bool) → List ℕ → List (List ℕ)
comma_pieces quoted [] = [] ∷ []
comma_pieces quoted (b ∷ bs) = if (b == 44) && not quoted then [] ∷ comma_pieces false bs else onto_first b (comma_pieces (quoted_after b quoted) bs)

-- whether a text has no byte but spaces
abbrev pub is_blank : List ℕ → Bool
is_blank text = list_all (λ b. b == 32) text

-- the items of a text; there is none if it is blank
abbrev pub items_of : List ℕ → List (List ℕ)
items_of text = if is_blank text then [] else map trimmed (comma_pieces false text)

-- these items of a text; `None` if the text's double quotes aren't in pairs (`paired`), or there are more than 16 items
abbrev pub items_if : (paired : Bool) → List (List ℕ) → Option (List (List ℕ))
items_if paired items = if paired && not (nat_lt 16 (length items)) then Some items else None

-- the items of a text, if it splits into these (`items_if`)
abbrev pub split_items : List ℕ → Option (List (List ℕ))
split_items text = items_if (quotes text % 2 == 0) (items_of text)
