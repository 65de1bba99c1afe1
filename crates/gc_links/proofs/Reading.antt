-- The calls of a read, by its steps.
use Rattle.gc_links.proofs.Common.{ℕ, ◌<◌, ◌≤◌, List, [], ◌∷◌, ◌++◌, ◌≡◌, length, take, sym, ap, ◌∙◌, subst, refl, append_assoc, All, Option, Result, Ok, Err, Some, None, lt_of_lt_of_le, le_of_eq, length-take-le, All-append, All-cons, All-nil, PortFailed, Came, Moment, read_act, clock_act, Silent, Broke, Untold, End, Call, Makes, ReadsClocks, MissesClocks, ClocksGive, ClocksAfter, IsIdle, without_bytes, with_bytes, DoesConnected, DoesOver}
use Rattle.gc_links.proofs.Making.{makes_one, makes_as, makes_then}
use Rattle.gc_links.specs.declared.link.Came.TheVariants as came
use Rattle.gc_links.specs.Calls as call

-- a reading of the clocks is idle
pub reads_idle : (start : ℕ) (end : End) (moment : Moment) (calls : List Call) → ReadsClocks start moment calls → All (IsIdle end) calls
reads_idle start end moment calls r = subst (λ xs. All (IsIdle end) xs) (sym r.calls_are)
    (All-cons (IsIdle end) (call.Monotonic r.now) (call.Wall r.utc ∷ []) tt
    (All-cons (IsIdle end) (call.Wall r.utc) [] tt (All-nil (IsIdle end))))

-- bytes that a read gave, and the clocks after it, are its outcome
pub after_bytes : (start : ℕ) (end : End) (n : ℕ) (buf : List ℕ) (came : Came) (idle clocks : List Call) → All (IsIdle end) idle
    → n ≤ length buf → ClocksAfter start n came clocks
    → DoesConnected start end (read_act came buf) (idle ++ call.Came end (take n buf) ∷ clocks)
after_bytes start end n buf (came.Bytes m moment) idle clocks was_idle within after = record {
  idle = idle;
  clocks = clocks;
  was_idle = was_idle;
  some = subst (λ k. 0 < length (take k buf)) (sym after.0) (lt_of_lt_of_le after.1 (le_of_eq (sym (length-take-le n buf within))));
  reads = after.2;
  calls_are = ap (λ k. idle ++ call.Came end (take k buf) ∷ clocks) (sym after.0);
}
after_bytes start end n buf (came.Silence moment) idle clocks was_idle within after = absurd after
after_bytes start end n buf came.End idle clocks was_idle within after = record {
  idle = idle;
  was_idle = was_idle;
  calls_are = ap (λ k. idle ++ call.Came end (take k buf) ∷ clocks) after.0 ∙ ap (λ xs. idle ++ call.Came end [] ∷ xs) after.1;
}
after_bytes start end n buf came.Failure idle clocks was_idle within after = absurd after
after_bytes start end n buf came.NoMoment idle clocks was_idle within after =
    with_bytes idle (take n buf) clocks was_idle (lt_of_lt_of_le after.0 (le_of_eq (sym (length-take-le n buf within)))) after.1 refl

-- what came before a read while nothing came belongs to it
pub idle_before : (start : ℕ) (end : End) (came : Came) (buf : List ℕ) (before calls : List Call) → All (IsIdle end) before
    → DoesConnected start end (read_act came buf) calls → DoesConnected start end (read_act came buf) (before ++ calls)
idle_before start end (came.Bytes m moment) buf before calls idle d = record {
  idle = before ++ d.idle;
  clocks = d.clocks;
  some = d.some;
  reads = d.reads;
  was_idle = All-append (IsIdle end) before d.idle idle d.was_idle;
  calls_are = ap (λ xs. before ++ xs) d.calls_are ∙ sym (append_assoc before d.idle (call.Came end (take m buf) ∷ d.clocks));
}
idle_before start end (came.Silence moment) buf before calls idle d = record {
  clocks = d.clocks;
  reads = d.reads;
  idle = before ++ d.idle;
  was_idle = All-append (IsIdle end) before d.idle idle d.was_idle;
  calls_are =
      ap (λ xs. before ++ xs) d.calls_are ∙ sym (append_assoc before (d.idle ++ d.clocks) (call.CameNone end ∷ []))
      ∙ ap (λ xs. xs ++ call.CameNone end ∷ []) (sym (append_assoc before d.idle d.clocks));
}
idle_before start end came.End buf before calls idle d = record {
  idle = before ++ d.idle;
  was_idle = All-append (IsIdle end) before d.idle idle d.was_idle;
  calls_are = ap (λ xs. before ++ xs) d.calls_are ∙ sym (append_assoc before d.idle (call.Came end [] ∷ []));
}
idle_before start end came.Failure buf before calls idle d = record {
  idle = before ++ d.idle;
  was_idle = All-append (IsIdle end) before d.idle idle d.was_idle;
  calls_are = ap (λ xs. before ++ xs) d.calls_are ∙ sym (append_assoc before d.idle (call.NotCome end ∷ []));
}
idle_before start end came.NoMoment buf before calls idle (without_bytes more clocks was_idle misses is) =
    without_bytes (before ++ more) clocks (All-append (IsIdle end) before more idle was_idle) misses
    (ap (λ xs. before ++ xs) is ∙ sym (append_assoc before more clocks))
idle_before start end came.NoMoment buf before calls idle (with_bytes more bytes clocks was_idle some misses is) =
    with_bytes (before ++ more) bytes clocks (All-append (IsIdle end) before more idle was_idle) some misses
    (ap (λ xs. before ++ xs) is ∙ sym (append_assoc before more (call.Came end bytes ∷ clocks)))

-- a read, and then the clocks after the bytes that it gave
pub came_then : (start : ℕ) (end : End) (n : ℕ) (buf : List ℕ) (came : Came) {old mid new : List Call}
    → n ≤ length buf → mid ≡ old ++ call.Came end (take n buf) ∷ [] → Makes mid new (ClocksAfter start n came)
    → Makes old new (DoesConnected start end (read_act came buf))
came_then start end n buf came within read after =
    makes_then (λ xs. xs ≡ call.Came end (take n buf) ∷ []) (ClocksAfter start n came) (DoesConnected start end (read_act came buf))
    (λ xs ys is clocks. subst (λ zs. DoesConnected start end (read_act came buf) (zs ++ ys)) (sym is)
    (after_bytes start end n buf came [] ys (All-nil (IsIdle end)) within clocks))
    (makes_one (λ xs. xs ≡ call.Came end (take n buf) ∷ []) (call.Came end (take n buf)) read refl) after

-- a read that gave nothing, and then another
pub none_then : (start : ℕ) (end : End) (buf : List ℕ) (came : Came) {old mid new : List Call} → mid ≡ old ++ call.CameNone end ∷ []
    → Makes mid new (DoesConnected start end (read_act came buf)) → Makes old new (DoesConnected start end (read_act came buf))
none_then start end buf came read after =
    makes_then (λ xs. xs ≡ call.CameNone end ∷ []) (DoesConnected start end (read_act came buf))
    (DoesConnected start end (read_act came buf))
    (λ xs ys is does. idle_before start end came buf xs ys
    (subst (λ zs. All (IsIdle end) zs) (sym is) (All-cons (IsIdle end) (call.CameNone end) [] refl (All-nil (IsIdle end)))) does)
    (makes_one (λ xs. xs ≡ call.CameNone end ∷ []) (call.CameNone end) read refl) after

-- the clocks, and then a read of which this is known
pub clocks_then : (start : ℕ) (end : End) (moment : Moment) (buf : List ℕ) (came : Came) {old mid new : List Call}
    → Makes old mid (ReadsClocks start moment) → Makes mid new (DoesConnected start end (read_act came buf))
    → Makes old new (DoesConnected start end (read_act came buf))
clocks_then start end moment buf came =
    makes_then (ReadsClocks start moment) (DoesConnected start end (read_act came buf)) (DoesConnected start end (read_act came buf))
    (λ xs ys reads does. idle_before start end came buf xs ys (reads_idle start end moment xs reads) does)

-- the clocks, and then a read that gave nothing
pub quiet_after : (start : ℕ) (end : End) (moment : Moment) {old mid new : List Call} → Makes old mid (ReadsClocks start moment)
    → new ≡ mid ++ call.CameNone end ∷ [] → Makes old new (DoesConnected start end (Silent moment))
quiet_after start end moment clocks read =
    makes_then (ReadsClocks start moment) (λ ys. ys ≡ call.CameNone end ∷ []) (DoesConnected start end (Silent moment))
    (λ xs ys reads is. record {
      idle = [];
      clocks = xs;
      was_idle = All-nil (IsIdle end);
      reads = reads;
      calls_are = ap (λ zs. xs ++ zs) is;
    })
    clocks (makes_one (λ ys. ys ≡ call.CameNone end ∷ []) (call.CameNone end) read refl)

-- a read that failed
pub read_failed : (start : ℕ) (end : End) {old new : List Call} → new ≡ old ++ call.NotCome end ∷ []
    → Makes old new (DoesConnected start end Broke)
read_failed start end read =
    makes_one (DoesConnected start end Broke) (call.NotCome end) read
    (record { idle = []; was_idle = All-nil (IsIdle end); calls_are = refl })

-- a clock couldn't be read
pub clocks_missed : (start : ℕ) (end : End) {old new : List Call} → Makes old new MissesClocks
    → Makes old new (DoesConnected start end Untold)
clocks_missed start end =
    makes_as MissesClocks (DoesConnected start end Untold)
    (λ xs misses. without_bytes [] xs (All-nil (IsIdle end)) misses refl)

-- the clocks alone, over a connection or without one
pub clocks_only : (start : ℕ) (over : Option End) {old new : List Call} (told : Result Moment PortFailed)
    → Makes old new (ClocksGive start told) → Makes old new (DoesOver start over (clock_act told))
clocks_only start None (Ok moment) made = record { calls = made.calls; added = made.added; are = made.are }
clocks_only start None (Err e) made = record { calls = made.calls; added = made.added; are = made.are }
clocks_only start (Some end) (Ok moment) made = record { calls = made.calls; added = made.added; are = made.are }
clocks_only start (Some end) (Err e) made = clocks_missed start end made
