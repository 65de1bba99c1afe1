-- Which lines are replies, and which lines call for a synchronization before anything more is sent, this project's own.
use Rattle.gc_session.specs.Common.{is_of_table, Asked, ById, Settlement, heard, is_sign_on, is_impossible}
use Rattle.std.specs.Prelude.{ℕ, Bool, false, ◌||◌, List, length, is_ok, Option, Some, None, slice_get, ◌-◌}
use Rattle.gc_lines.specs.Prelude.{reply_at}

-- whether `line` reads as a reply
abbrev pub is_reply : List ℕ → Bool
is_reply line = is_ok (reply_at line)

-- whether `line`, as this client hears it, raises a doubt: it is a stray that can't repeat the reply that settled last
-- (`is_impossible`), so that it was altered, or the line that settled last was
abbrev pub raises_doubt : ById Asked → List ℕ → Bool
raises_doubt c line = is_impossible c.next (length c.waiting) (heard line)

-- whether nothing may be sent any more before the next synchronization once this client heard `line`: the line raises a doubt, or it has
-- a sign-on in it, so that the instrument was switched on or off, and may no longer be as the setup left it
abbrev pub calls_for_renewal : ById Asked → List ℕ → Bool
calls_for_renewal c line = raises_doubt c line || is_sign_on line

-- whether there is a settlement, and its call is one of the table
abbrev pub is_some_of_table : Option (Settlement Asked) → Bool
is_some_of_table None = false
is_some_of_table (Some x) = is_of_table x.call

-- whether the last of these settlements is of a call of the table; false if there is none
abbrev pub ends_with_table : List (Settlement Asked) → Bool
ends_with_table settlements = is_some_of_table (slice_get settlements (length settlements - 1))
