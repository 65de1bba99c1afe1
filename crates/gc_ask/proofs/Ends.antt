-- The ports of a link's two ends, after one step (a call, or several in a row, that uses the link), and after all steps of a run.
-- An end is sound (`Sound`) while no read was the end of its input and neither of its ports failed.
use Rattle.gc_ask.proofs.Common.{◌≡◌, ℕ, ◌<◌, ◌≤◌, Bool, true, false, List, [], Option, Ok, Err, inl, inr, refl, sym, ap, ◌∙◌, subst, arith, Consumes, cases_lt, Consumes-nil, Ports, Taken, SeenAtClient, AskingEnds, LinkResult, NoneEnded, UseEnds, BothStep, CountsReplies, ReadEnds, SeenStep, Sends, StaysOpen, StepEnds, no_ports, BothEnd, SeenAtBoth, seen_at_both, RunFault, Read, Write, TooManyReads, LinkClosed, Output, Input, source_of}

-- Ports, a step later.

-- where nothing happened at an end, that is a step which went well
pub step_none : (old new : Ports) → new.reads ≡ old.reads → new.ended ≡ old.ended → new.source_failed ≡ old.source_failed
    → new.sink_failed ≡ old.sink_failed → StepEnds old new (Ok tt)
step_none old new reads ended source sink = record {
  ends = ((λ some. absurd (omega (arith, some, reads))), source, sink);
  same = λ _. ended;
  grows = omega (arith, reads);
}

-- a write of a request, while nothing was read, is a step of the end with the write's result, whatever came of it
pub step_sent : (place : ℕ) (text : List ℕ) (old new : Ports) (r : LinkResult)
    → Sends place text (record { bytes = old.taken; failed = old.sink_failed }) (record { bytes = new.taken; failed = new.sink_failed }) r
    → new.reads ≡ old.reads → new.ended ≡ old.ended → new.source_failed ≡ old.source_failed → StepEnds old new r
step_sent place text old new (Ok u) s reads ended source = step_none old new reads ended source s.1
step_sent place text old new (Err (Write count bytes)) s reads ended source = record {
  ends = ((λ some. absurd (omega (arith, some, reads))), source, s.1);
  same = λ _. ended;
  grows = omega (arith, reads);
}
step_sent place text old new (Err other) s reads ended source = absurd s.0

-- a write never ends with `TooManyReads`
pub sends_not_too_many : (place : ℕ) (text : List ℕ) (old new : Taken) (r : LinkResult) → Sends place text old new r → r ≡ Err TooManyReads → ⊥
sends_not_too_many place text old new r s is = (subst (λ (e : LinkResult). Sends place text old new e) is s).0

-- waiting for a reply, while nothing was written, is a step of the end with the result of the waiting
pub step_hears : (old new : Ports) (after : ℕ) (r : LinkResult) → ReadEnds (source_of old) (source_of new) after r
    → old.reads ≤ new.reads → new.sink_failed ≡ old.sink_failed → StepEnds old new r
step_hears old new after (Ok u) h grows sink = record { ends = (h.0.0, h.1, sink); same = h.0.1; grows = grows }
step_hears old new after (Err Read) h grows sink = record { ends = (h.0.0, h.2, sink); same = h.0.1; grows = grows }
step_hears old new after (Err TooManyReads) h grows sink = record { ends = (h.0.0, h.2, sink); same = h.0.1; grows = grows }
step_hears old new after (Err LinkClosed) h grows sink = record { ends = (h.0, h.1, h.2, sink); same = λ e. absurd (omega (arith, e, h.0)); grows = grows }
step_hears old new after (Err (Write count part)) h grows sink = absurd h
step_hears old new after (Err other) h grows sink = absurd h

-- a step of both ends that went well went well at each
both_went_well : (a b c d : Ports) → BothStep a b c d (Ok tt) → StepEnds a b (Ok tt) × StepEnds c d (Ok tt)
both_went_well a b c d (inl s) = s
both_went_well a b c d (inr s) = s

-- the sending of a request that went well, and the reading at the client's end after it, are together one step, with the result of the
-- reading, if the sending read nothing of the client's end, and the reading left its sink and the instrument's end as they were. Before,
-- between and after the two the client's end is c, c' and c'', and the instrument's i, i' and i''
pub step_both : (c c' c'' i i' i'' : Ports) (after : ℕ) (r : LinkResult) → (sent : BothStep c c' i i' (Ok tt)) → (unread : source_of c' ≡ source_of c)
    → (sink : c''.sink_failed ≡ c'.sink_failed) → (same : i'' ≡ i') → (grows : c'.reads ≤ c''.reads) → (ends : ReadEnds (source_of c') (source_of c'') after r)
    → BothStep c c'' i i'' r
step_both c c' c'' i i' i'' after r sent unread sink same grows ends =
    let both = both_went_well c c' i i' sent in
    let reads : c'.reads ≡ c.reads = ap (λ (s : Input). s.reads) unread in
    inl (
      step_hears c c'' after r (subst (λ (s : Input). ReadEnds s (source_of c'') after r) unread ends) (omega (arith, reads, grows)) (sink ∙ both.0.ends.2),
      subst (λ (x : Ports). StepEnds i x (Ok tt)) (sym same) both.1,
    )

-- if the source of an end is as it was, nothing was read of it
pub reads_nothing : (old new : Ports) → source_of new ≡ source_of old → Consumes old.remaining new.remaining []
reads_nothing old new same = subst (λ (r : Option (List ℕ)). Consumes old.remaining r []) (ap (λ (s : Input). s.remaining) (sym same)) (Consumes-nil _)

-- where nothing was read in a first step, all that was read in both was read in the second
pub reads_then : (old mid new : Ports) (given : List ℕ) → source_of mid ≡ source_of old → Consumes mid.remaining new.remaining given
    → Consumes old.remaining new.remaining given
reads_then old mid new given same gave = subst (λ (r : Option (List ℕ)). Consumes r new.remaining given) (ap (λ (s : Input). s.remaining) same) gave

-- where from `old` to `mid` no read was the end of the input (`NoneEnded`), and from `mid` to `new` the source stays open, no
-- read from `old` to `new` was the end
none_ended_then : (old mid new : Input) → mid.reads ≤ new.reads → NoneEnded old mid → StaysOpen mid new → NoneEnded old new
none_ended_then old mid new more going on below = elim (cases_lt mid.reads new.reads) [
  | inl further ↦ on.0 further
  | inr still ↦ let stays : new.reads ≡ mid.reads = omega (arith, still, more) in on.1 stays ∙ going (omega (arith, stays, below))
]

-- a source that stays open from `old` to `mid`, and from `mid` to `new`, stays open from `old` to `new`
open_then : (old mid new : Input) → old.reads ≤ mid.reads → mid.reads ≤ new.reads → StaysOpen old mid → StaysOpen mid new → StaysOpen old new
open_then old mid new more on e f = (
  none_ended_then old mid new on e.0 f,
  λ same. f.1 (omega (arith, same, more, on)) ∙ e.1 (omega (arith, same, more, on)),
)

-- where reading ended well from `old` to `mid`, and with the result r from `mid` to `new`, it ended with r from `old` to `new`
pub ends_then : (old mid new : Input) (between after : ℕ) (r : LinkResult) → (more : old.reads ≤ mid.reads) → (on : mid.reads ≤ new.reads)
    → ReadEnds old mid between (Ok tt) → ReadEnds mid new after r → ReadEnds old new after r
ends_then old mid new between after (Ok u) more on e f = (open_then old mid new more on e.0 f.0, f.1 ∙ e.1)
ends_then old mid new between after (Err Read) more on e f = (open_then old mid new more on e.0 f.0, f.1, f.2)
ends_then old mid new between after (Err TooManyReads) more on e f = (open_then old mid new more on e.0 f.0, f.1, f.2 ∙ e.1)
ends_then old mid new between after (Err LinkClosed) more on e f = (omega (arith, f.0, more), f.1, f.2 ∙ e.1)
ends_then old mid new between after (Err (Write count part)) more on e f = absurd f
ends_then old mid new between after (Err other) more on e f = absurd f

-- where reading ended with `TooManyReads`, no read is left
pub ends_too_many : (old new : Input) (after : ℕ) (r : LinkResult) → ReadEnds old new after r → r ≡ Err TooManyReads → after ≡ 0
ends_too_many old new after r e is = (subst (λ (x : LinkResult). ReadEnds old new after x) is e).1

-- `CountsReplies` is true of a fault with which reading ended, whatever the place: reading never ends with `Write`
pub fault_counts_replies : (place : ℕ) (old new : Input) (after : ℕ) (fault : RunFault) → ReadEnds old new after (Err fault) → CountsReplies place (Err fault)
fault_counts_replies place old new after Read e = tt
fault_counts_replies place old new after TooManyReads e = tt
fault_counts_replies place old new after LinkClosed e = tt
fault_counts_replies place old new after (Write count part) e = absurd e
fault_counts_replies place old new after other e = absurd e

-- an end that is sound so far: since `old` no read was the end of its input, and neither of its ports failed
pub record Sound (old new : Ports) : Type 0 where
  pub ends : UseEnds old new (Ok tt)
  pub grows : old.reads ≤ new.reads

-- an end of which nothing was used yet is sound
pub sound_start : (old : Ports) → Sound old old
sound_start old = record { ends = ((λ some. absurd (omega (arith, some))), refl, refl); grows = omega arith }

-- where an end was sound, and no read of the step after that was the end of its input, no read from `old` on was
none_ended : (old mid new : Ports) (r : LinkResult) → Sound old mid → StepEnds mid new r → NoneEnded (source_of mid) (source_of new)
    → NoneEnded (source_of old) (source_of new)
none_ended old mid new r g s more = none_ended_then (source_of old) (source_of mid) (source_of new) s.grows g.ends.0 (more, s.same)

-- where an end was sound, and then made a step with this result, its whole use ended with this result
use_ends : (old mid new : Ports) (r : LinkResult) → Sound old mid → StepEnds mid new r → UseEnds old new r
use_ends old mid new (Ok u) g s = (none_ended old mid new (Ok u) g s s.ends.0, s.ends.1 ∙ g.ends.1, s.ends.2 ∙ g.ends.2)
use_ends old mid new (Err Read) g s = (none_ended old mid new (Err Read) g s s.ends.0, s.ends.1, s.ends.2 ∙ g.ends.2)
use_ends old mid new (Err (Write count part)) g s = (none_ended old mid new (Err (Write count part)) g s s.ends.0, s.ends.1 ∙ g.ends.1, s.ends.2)
use_ends old mid new (Err TooManyReads) g s = (none_ended old mid new (Err TooManyReads) g s s.ends.0, s.ends.1 ∙ g.ends.1, s.ends.2 ∙ g.ends.2)
use_ends old mid new (Err LinkClosed) g s = (omega (arith, g.grows, s.ends.0), s.ends.1, s.ends.2 ∙ g.ends.1, s.ends.3 ∙ g.ends.2)
use_ends old mid new (Err other) g s = absurd s.ends

-- a sound end stays so by a step that went well
sound_step : (old mid new : Ports) → Sound old mid → StepEnds mid new (Ok tt) → Sound old new
sound_step old mid new g s = record { ends = use_ends old mid new (Ok tt) g s; grows = omega (arith, g.grows, s.grows) }

-- both ends of a link are sound so far (`Sound`)
pub record BothSound (first latest : SeenAtBoth) : Type 0 where
  pub client : Sound first.client latest.client
  pub instrument : Sound first.instrument latest.instrument

-- two ends that were sound before a step that went well are sound after it
pub both_sound_step : (first old new : SeenAtBoth) → BothSound first old → AskingEnds (SeenStep old new) old.sink.failed new.sink.failed (Ok tt) → BothSound first new
both_sound_step first old new sound ends =
    let both = both_went_well old.client new.client old.instrument new.instrument ends.0 in
    record {
      client = sound_step first.client old.client new.client sound.client both.0;
      instrument = sound_step first.instrument old.instrument new.instrument sound.instrument both.1;
    }

-- where two ends were sound, and then made a step with this result, their whole use ended with this result
pub both_end : (first old new : SeenAtBoth) (r : LinkResult) → BothSound first old → SeenStep old new r → BothEnd first new r
both_end first old new r sound (inl s) =
    inl (use_ends first.client old.client new.client r sound.client s.0, use_ends first.instrument old.instrument new.instrument (Ok tt) sound.instrument s.1)
both_end first old new r sound (inr s) =
    inr (use_ends first.client old.client new.client (Ok tt) sound.client s.0, use_ends first.instrument old.instrument new.instrument r sound.instrument s.1)

-- where both ends are sound, their whole use ended well, as `BothEnd` has it
pub both_end_well : (first new : SeenAtBoth) → BothSound first new → BothEnd first new (Ok tt)
both_end_well first new sound = inl (sound.client.ends, sound.instrument.ends)

-- a step of the link's ends never ends with `Output`, the fault of the sink of the settlements
pub seen_step_not_output : (old new : SeenAtBoth) → SeenStep old new (Err Output) → ⊥
seen_step_not_output old new (inl s) = s.0.ends
seen_step_not_output old new (inr s) = s.1.ends

-- A remote link: all that ends it comes at the client's end.

-- what is seen of both ends of a remote link: the instrument's end isn't there (`no_ports`)
abbrev pub at_remote : SeenAtClient → SeenAtBoth
at_remote seen = seen_at_both seen.link no_ports seen.sink

-- where a link is remote, the client's end alone has the result that one of the two ends has
pub remote_end : (old new : SeenAtClient) (r : LinkResult) → BothEnd (at_remote old) (at_remote new) r → UseEnds old.link new.link r
remote_end old new r (inl s) = s.0
remote_end old new (Ok u) (inr s) = s.0
remote_end old new (Err Read) (inr s) = let bad : false ≡ true = s.1.1 in cc
remote_end old new (Err (Write count part)) (inr s) = let bad : false ≡ true = s.1.2 in cc
remote_end old new (Err TooManyReads) (inr s) = s.0
remote_end old new (Err LinkClosed) (inr s) = absurd (omega (arith, s.1.0))
remote_end old new (Err other) (inr s) = absurd s.1

-- `AskingEnds over` implies `AskingEnds other`, if `over` implies `other`, and the sink had failed at the beginnings of both or of
-- neither. `mid` says whether it had at the beginning of what `over` speaks of, `first` whether at that of `other`, and `now`
-- whether it has at their common end
pub asking_ends_weaker : (over other : LinkResult → Type 0) → ((r : LinkResult) → over r → other r) → (first mid now : Bool) → mid ≡ first → (r : LinkResult)
    → AskingEnds over mid now r → AskingEnds other first now r
asking_ends_weaker over other so first mid now same (Ok u) ends = (so (Ok u) ends.0, ends.1 ∙ same)
asking_ends_weaker over other so first mid now same (Err Output) ends = (ends.0, (ends.1.0, so ends.1.0 ends.1.1))
asking_ends_weaker over other so first mid now same (Err e) ends = (so (Err e) ends.0, ends.1 ∙ same)
