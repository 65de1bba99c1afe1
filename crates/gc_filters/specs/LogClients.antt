-- The client whose log is checked, as far as the log shows it: this project's own. What is outstanding is known once a beginning was seen
-- whole: its null procedures were sent alone, in order, each once the one before it was answered. From then on each request has to have
-- the next id; at any other nothing is known until the next beginning. After a line about the connection the log may lack requests that
-- were sent: their writes were cut. Then no reply counts as impossible until the next request shows by its id how many these were; if that
-- is a null procedure, it may be one of a beginning, and nothing is known.
use Rattle.gc_filters.specs.Common.{LineFault, reply_at, request_at, ReplyFields, RequestFields, is_answered, left_by, the_word, place, is_impossible, LogMark}
use Rattle.std.specs.Prelude.{ℕ, ◌+◌, ◌-◌, ◌%◌, ◌==◌, ◌&&◌, ◌||◌, Bool, true, false, not, nat_lt, nat_le, nat_eq, List, [], ◌∷◌, length, Option, Some, None, Result, Ok, Err, if◌then◌else◌}
use Rattle.gc_client.specs.declared.window.TheConstants.{WINDOW, IDS}
use Rattle.gc_filters.specs.declared.log_client.Known.{Known}
use Rattle.gc_filters.specs.declared.log_client.LogClient.{LogClient}
use Rattle.gc_texts.specs.declared.log_line.LogMark.TheVariants as mark

-- a client of which nothing is known, and no beginning was seen in part
abbrev pub nothing_known : LogClient
nothing_known = record { beginning = the_word; is_asked = false; known = None }

-- what is known at the end of a beginning: the first id is 0, and no request is outstanding
abbrev pub known_begun : Known
known_begun = record { next = 0; outstanding = 0; is_whole = true }

-- Requests.

-- whether a request is the null procedure with the first of the ids `left` of a beginning
abbrev pub is_null_of : (left : List ℕ) → RequestFields → Bool
is_null_of left q = (q.rpc == 0) && is_answered left q.id

-- whether a request with the id at this place may follow what is known: its id is the next one, or, if the log may lack requests, any that
-- isn't outstanding, unless the request is a null procedure, which may be one of a beginning
abbrev pub may_follow : Known → (at : ℕ) → (is_null : Bool) → Bool
may_follow k at is_null = nat_lt at WINDOW && (if k.is_whole then nat_eq at k.outstanding else (nat_le k.outstanding at && not is_null))

-- what is known after a request with this id, at this place. It is outstanding then, and so are all requests before it that no reply has
-- ended, those included that the log lacks
abbrev pub known_sent_at : Known → (id at : ℕ) → (is_null : Bool) → Option Known
known_sent_at k id at is_null =
    if may_follow k at is_null then Some (record { next = (id + 1) % IDS; outstanding = at + 1; is_whole = true }) else None

-- what is known after a request with this id, or without one
abbrev pub known_sent : Option Known → (id : Option ℕ) → (is_null : Bool) → Option Known
known_sent None id is_null = None
known_sent (Some k) None is_null = None
known_sent (Some k) (Some id) is_null = known_sent_at k id (place k.next k.outstanding id) is_null

-- the client after this request. A beginning goes on if this is the null procedure of its first id that isn't answered
abbrev pub after_request : LogClient → RequestFields → LogClient
after_request c q = record {
  beginning = if is_null_of c.beginning q then c.beginning else the_word;
  is_asked = is_null_of c.beginning q || is_null_of the_word q;
  known = known_sent c.known q.id (q.rpc == 0);
}

-- the client after a line that was sent; of one that is no request nothing is known afterwards
abbrev pub after_sent : LogClient → Result RequestFields LineFault → LogClient
after_sent c (Ok q) = after_request c q
after_sent c (Err fault) = nothing_known

-- Replies.

-- what is known after a reply with the id at this place: it ends the request with that id, and those before it. If the log may lack
-- requests, it may also end one of these
abbrev pub known_heard_at : Known → (id at : ℕ) → Known
known_heard_at k id at =
    if nat_lt at k.outstanding then record { next = k.next; outstanding = k.outstanding - (at + 1); is_whole = k.is_whole }
    else (if k.is_whole || nat_eq at WINDOW then k else record { next = (id + 1) % IDS; outstanding = 0; is_whole = false })

-- what is known after a reply with this id, or without one
abbrev pub known_heard : Option Known → (id : Option ℕ) → Option Known
known_heard None id = None
known_heard (Some k) None = Some k
known_heard (Some k) (Some id) = Some (known_heard_at k id (place k.next k.outstanding id))

-- the client after a null procedure of a beginning was answered: `left` are the ids that aren't answered yet
abbrev pub after_answer : (left : List ℕ) → Option Known → LogClient
after_answer [] known = record { beginning = the_word; is_asked = false; known = Some known_begun }
after_answer (id ∷ left) known = record { beginning = id ∷ left; is_asked = false; known = known }

-- the client after a reply with this id, or without one
abbrev pub after_reply : LogClient → (id : Option ℕ) → LogClient
after_reply c id =
    if c.is_asked && is_answered c.beginning id then after_answer (left_by c.beginning id) (known_heard c.known id)
    else record { beginning = c.beginning; is_asked = c.is_asked; known = known_heard c.known id }

-- the client after a line that came, by what it reads as; one that is no reply changes nothing
abbrev pub after_came : LogClient → Result ReplyFields LineFault → LogClient
after_came c (Ok reply) = after_reply c reply.id
after_came c (Err fault) = c

-- whether a line that came shows that it was altered, or the line that ended requests last: it is a reply that no request is outstanding
-- for, and that doesn't repeat the reply that ended requests last
abbrev pub is_impossible_reply : Option Known → Result ReplyFields LineFault → Bool
is_impossible_reply None reply = false
is_impossible_reply (Some k) (Err fault) = false
is_impossible_reply (Some k) (Ok reply) = k.is_whole && is_impossible k.next k.outstanding reply.id

-- Lines of the log.

-- what is known after a line about the connection: the log may lack requests
abbrev pub known_broken : Option Known → Option Known
known_broken None = None
known_broken (Some k) = Some (record { next = k.next; outstanding = k.outstanding; is_whole = false })

-- the client after a line of the log with this mark and these bytes. Parts of lines change nothing, nor does a line of more than 512 bytes
-- that came
abbrev pub after_entry : LogClient → LogMark → (bytes : List ℕ) → LogClient
after_entry c mark.Went bytes = after_sent c (request_at bytes)
after_entry c mark.WentPart bytes = c
after_entry c mark.Came bytes = if nat_lt 512 (length bytes) then c else after_came c (reply_at bytes)
after_entry c mark.CamePart bytes = c
after_entry c mark.Link bytes = record { beginning = c.beginning; is_asked = c.is_asked; known = known_broken c.known }

-- whether a line of the log with this mark and these bytes is an impossible reply, by what is known before it
abbrev pub is_impossible_entry : LogClient → LogMark → (bytes : List ℕ) → Bool
is_impossible_entry c mark.Came bytes = not (nat_lt 512 (length bytes)) && is_impossible_reply c.known (reply_at bytes)
is_impossible_entry c mark.Went bytes = false
is_impossible_entry c mark.WentPart bytes = false
is_impossible_entry c mark.CamePart bytes = false
is_impossible_entry c mark.Link bytes = false
