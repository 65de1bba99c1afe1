-- The calls of reads that are made again and again while nothing comes.
use Rattle.gc_links.proofs.Common.{ℕ, List, [], ◌∷◌, ◌++◌, sym, subst, refl, All, All-append, All-cons, All-nil, Came, Moment, read_act, Silent, End, Call, CameNone, Makes, IsIdle, DoesConnected}
use Rattle.gc_links.proofs.Making.{makes_then}
use Rattle.gc_links.proofs.Reading.{idle_before, reads_idle}

-- the calls of a silence are idle
silence_idle : (start : ℕ) (end : End) (quiet : Moment) (calls : List Call) → DoesConnected start end (Silent quiet) calls → All (IsIdle end) calls
silence_idle start end quiet calls d = subst (λ xs. All (IsIdle end) xs) (sym d.calls_are)
    (All-append (IsIdle end) (d.idle ++ d.clocks) (CameNone end ∷ [])
    (All-append (IsIdle end) d.idle d.clocks d.was_idle (reads_idle start end quiet d.clocks d.reads))
    (All-cons (IsIdle end) (CameNone end) [] refl (All-nil (IsIdle end))))

-- a silence, and then a read more
pub silence_then : (start : ℕ) (end : End) (quiet : Moment) (buf : List ℕ) (came : Came) {old mid new : List Call}
    → Makes old mid (DoesConnected start end (Silent quiet)) → Makes mid new (DoesConnected start end (read_act came buf))
    → Makes old new (DoesConnected start end (read_act came buf))
silence_then start end quiet buf came =
    makes_then (DoesConnected start end (Silent quiet)) (DoesConnected start end (read_act came buf)) (DoesConnected start end (read_act came buf))
    (λ xs ys quiet_before does. idle_before start end came buf xs ys (silence_idle start end quiet xs quiet_before) does)
