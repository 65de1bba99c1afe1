-- Strays, this project's own: which reply shows that a line was altered. A stray is a reply for which no request is outstanding. If
-- nothing was altered it repeats the reply that settled last, so its id is the one before that of the oldest outstanding request, or
-- before the next id if none is outstanding. Any other stray shows that it was altered, or the line that settled last. A reply without
-- an id shows nothing: such replies may come from elsewhere.
use Rattle.gc_texts.specs.Common.{place}
use Rattle.std.specs.Prelude.{ℕ, Bool, false, ◌&&◌, not, Option, Some, None, nat_lt, nat_eq}
use Rattle.gc_client.specs.declared.window.TheConstants.{WINDOW}

-- whether a reply is a stray that can't repeat the reply that settled last: no request is outstanding with its id, which isn't the one
-- before that of the oldest either. `next` is the client's next id, and `outstanding` how many requests are. A reply without an id is none
abbrev pub is_impossible : (next outstanding : ℕ) → (id : Option ℕ) → Bool
is_impossible next outstanding None = false
is_impossible next outstanding (Some id) = not (nat_lt (place next outstanding id) outstanding) && not (nat_eq (place next outstanding id) WINDOW)
