-- What `loop` and `ask` wrote through an output that may show its bytes on a terminal. Of this output, once it was handed on, it isn't
-- known whether it still does (`at'`), but what the sink inside took is known, so that it makes no difference.
use Rattle.gc_console.proofs.Common.{◌≡◌, ℕ, Bool, true, false, List, Option, Some, Result, Ok, Err, IfOk, inl, inr, ap, refl, AskRunsConnected, AsksOverFresh, AsksWithin, SeenAtClient, Asks, LinkResult, LosesOne, RunsConnected, StopsAt, Written, LoopRunsConnected, LoopsOverFresh, unless_shown, Ports, Taken, Place, end_seen, Input, RunFault, Read, Write, TooManyReads, LinkClosed, Socket, Output}
use Rattle.std.specs.Io.KnownBytes.{Appends}
use Rattle.gc_lines.specs.declared.ports.Sink.{Ghosts as Sink}
use Rattle.gc_lines.specs.declared.ports.Source.{Ghosts as Source}
use Rattle.gc_logs.specs.declared.heard.Heard.{Heard}
use Rattle.gc_logs.specs.declared.told.Told.{Told}
use Rattle.gc_console.specs.Asked.{TellsAskAt, TellsLoop}
use Rattle.gc_texts.specs.declared.commands.Command.{Command}

-- what is known of a sink that had taken `old` and has now taken `new` holds of one that has taken `told` in its place
record Retold (old new told : Option (List ℕ)) : Type 0 where
  appends : (bytes : List ℕ) → Appends old new bytes → Appends old told bytes
  same : new ≡ old → told ≡ old

-- of a sink that took `before` and `after`, seen through an output that may be a terminal
unshown : (at at' : Bool) (before after : List ℕ)
    → Retold (unless_shown at (Some before)) (unless_shown at' (Some after)) (unless_shown at (Some after))
unshown true at' before after = record { appends = λ bytes h. tt; same = λ e. refl }
unshown false true before after = record { appends = λ bytes h. absurd h; same = λ e. cc }
unshown false false before after = record { appends = λ bytes h. h; same = λ e. e }

-- these bytes of a sink, which has failed or not
abbrev taken : Option (List ℕ) → (failed : Bool) → Taken
taken bytes failed = record { bytes = bytes; failed = failed }

-- what a link and a sink took, of which the sink's bytes are named last
abbrev written : (link link' old new : Option (List ℕ)) → Written
written link link' old new = record { link_old = link; link_new = link'; sink_old = old; sink_new = new }

abbrev loses : (commands : List Command) (given : List ℕ) (link link' old new told : Option (List ℕ)) → Retold old new told
    → LosesOne commands given (written link link' old new) → LosesOne commands given (written link link' old told)
loses commands given link link' old new told r l = record { at = l.at; sink_took = r.appends _ l.sink_took }

stops : (is_remote : Bool) (commands : List Command) (given : List ℕ) (link link' old new told : Option (List ℕ)) → Retold old new told
    → StopsAt is_remote commands given (written link link' old new) → StopsAt is_remote commands given (written link link' old told)
stops is_remote commands given link link' old new told r s = record {
  loses = loses commands given link link' old new told r s.loses;
  sent = s.sent;
  no_more = s.no_more;
}

asks : (is_remote : Bool) (commands : List Command) (given : List ℕ) (link link' old new told : Option (List ℕ))
    (over : LinkResult → Type 0) (result : LinkResult) → Retold old new told → Asks is_remote commands given (written link link' old new) over result
    → Asks is_remote commands given (written link link' old told) over result
asks is_remote commands given link link' old new told over (Ok _) r a =
    record { settled = a.settled; sent = a.sent; sink_took = r.appends _ a.sink_took }
asks is_remote commands given link link' old new told over (Err Read) r a = stops is_remote commands given link link' old new told r a
asks is_remote commands given link link' old new told over (Err LinkClosed) r a = stops is_remote commands given link link' old new told r a
asks is_remote commands given link link' old new told over (Err TooManyReads) r a = stops is_remote commands given link link' old new told r a
asks is_remote commands given link link' old new told over (Err (Write count part)) r a = record {
  loses = loses commands given link link' old new told r a.loses;
  count_is = a.count_is;
  bytes = a.bytes;
  sent = a.sent;
  cut = a.cut;
}
asks is_remote commands given link link' old new told over (Err Output) r a = record {
  at = a.at;
  bytes = a.bytes;
  sent = a.sent;
  link = a.link;
  ends = a.ends;
  next = a.next;
  next_is = a.next_is;
  part = a.part;
  not_all = a.not_all;
  sink_took = r.appends _ a.sink_took;
}
asks is_remote commands given link link' old new told over (Err _) r a = absurd a

-- what is seen of a link and of a sink
abbrev seen : Ports → (bytes : Option (List ℕ)) → (failed : Bool) → SeenAtClient
seen link bytes failed = record { link = link; sink = taken bytes failed }

within : (is_remote : Bool) (commands : List Command) (most : ℕ) (link link' : Ports) (old new told : Option (List ℕ))
    (failed failed' : Bool) (before after : ℕ) (over : LinkResult → Type 0) (result : LinkResult) → Retold old new told
    → AsksWithin is_remote commands most (seen link old failed) (seen link' new failed') before after over result
    → AsksWithin is_remote commands most (seen link old failed) (seen link' told failed') before after over result
within is_remote commands most link link' old new told failed failed' before after over result r w = record {
  given = w.given;
  gave = w.gave;
  few = w.few;
  asks = asks is_remote commands w.given link.taken link'.taken old new told over result r w.asks;
  ends = w.ends;
  bound = w.bound;
  too_many = w.too_many;
}

-- a sink that nothing changed is the same by the bytes that are known of it
again : (old new told : Option (List ℕ)) (failed failed' : Bool) → Retold old new told → taken new failed' ≡ taken old failed
    → taken told failed' ≡ taken old failed
again old new told failed failed' r same = rw (r.same (ap (λ (t : Taken). t.bytes) same), ap (λ (t : Taken). t.failed) same) refl

-- runs over a connection that they make, of which `claim` holds once it was had
connected : (unconnected : RunFault → Type 0) (text text' : Input) (old new told : Option (List ℕ))
    (failed failed' : Bool) (result : LinkResult) (claim claim' : List Command → Type 0) → Retold old new told → ((commands : List Command) → claim commands → claim' commands)
    → RunsConnected unconnected text text' (taken old failed) (taken new failed') result claim
    → RunsConnected unconnected text text' (taken old failed) (taken told failed') result claim'
connected unconnected text text' old new told failed failed' result claim claim' r claims
    (given, gave, few, inl (fault, is, refused, same)) =
    (given, gave, few, inl (fault, is, refused, again old new told failed failed' r same))
connected unconnected text text' old new told failed failed' result claim claim' r claims
    (given, gave, few, inr (commands, gives, inl (fault, is, un, same))) =
    (given, gave, few, inr (commands, gives, inl (fault, is, un, again old new told failed failed' r same)))
connected unconnected text text' old new told failed failed' result claim claim' r claims
    (given, gave, few, inr (commands, gives, inr holds)) =
    (given, gave, few, inr (commands, gives, inr (claims commands holds)))

-- the runs of `ask`
ask_runs : (unconnected : RunFault → Type 0) (text text' : Input) (most : ℕ) (old new told : Option (List ℕ)) (failed failed' : Bool)
    (result : LinkResult) → Retold old new told → AskRunsConnected unconnected text text' most (taken old failed) (taken new failed') result
    → AskRunsConnected unconnected text text' most (taken old failed) (taken told failed') result
ask_runs unconnected text text' most old new told failed failed' result r runs =
    connected unconnected text text' old new told failed failed' result
    (λ commands. AsksOverFresh commands most (taken old failed) (taken new failed') result)
    (λ commands. AsksOverFresh commands most (taken old failed) (taken told failed') result) r
    (λ commands a. record {
      before = a.before;
      after = a.after;
      fresh = a.fresh;
      asks = record { within = within true commands most a.before a.after old new told failed failed' _ _ _ result r a.asks.within };
    }) runs

-- the runs of `loop`
loop_runs : (text text' : Input) (most : ℕ) (old new told : Option (List ℕ)) (failed failed' : Bool) (result : LinkResult)
    → Retold old new told → LoopRunsConnected text text' most (taken old failed) (taken new failed') result
    → LoopRunsConnected text text' most (taken old failed) (taken told failed') result
loop_runs text text' most old new told failed failed' result r runs =
    connected (λ fault. fault ≡ Socket) text text' old new told failed failed' result
    (λ commands. LoopsOverFresh commands most (taken old failed) (taken new failed') result)
    (λ commands. LoopsOverFresh commands most (taken old failed) (taken told failed') result) r
    (λ commands a. record {
      client_before = a.client_before;
      client_after = a.client_after;
      instrument_before = a.instrument_before;
      instrument_after = a.instrument_after;
      client = a.client;
      instrument = a.instrument;
      asks = record {
        within = within false commands most a.client_before a.client_after old new told failed failed' _ _ _ result r a.asks.within;
      };
    }) runs

-- the ports over such an input, and over an output that may be a terminal
abbrev pub ports_through : {S K : Type 0} → Source S → Sink K → (at_terminal : Bool) → Heard S → Told K → Ports
ports_through source sink at_terminal input output = record {
  remaining = source.remaining input.source;
  reads = source.reads input.source;
  ended = source.ended input.source;
  source_failed = source.failed input.source;
  taken = unless_shown at_terminal (Some output.told.bytes);
  sink_failed = sink.failed output.sink;
}

-- `ask`, of which it is known that its output is a terminal, or none, at its start alone
pub asks_unshown : {S K T E : Type 0} (r : Result T E) (status_of : T → ℕ) (place : Place) (source : Source S) (sink : Sink K)
    (at at' : Bool) (old new : Heard S) (before after : Told K) (m m' : Option (List ℕ))
    → IfOk r (λ x. TellsAskAt place (end_seen (ports_through source sink at old before) (ports_through source sink at' new after)
    (status_of x) m m'))
    → IfOk r (λ x. TellsAskAt place (end_seen (ports_through source sink at old before) (ports_through source sink at new after)
    (status_of x) m m'))
asks_unshown (Ok x) status_of place source sink at at' old new before after m m' t = record {
  end = t.end;
  asks = ask_runs _ _ _ _ _ _ _ _ _ _ (unshown at at' before.told.bytes after.told.bytes) t.asks;
  tells = t.tells;
}
asks_unshown (Err e) status_of place source sink at at' old new before after m m' t = tt

-- the same of `loop`
pub loops_unshown : {Name S K T E : Type 0} (r : Result T E) (status_of : T → ℕ) (scene : Option Name) (source : Source S) (sink : Sink K)
    (at at' : Bool) (old new : Heard S) (before after : Told K) (m m' : Option (List ℕ))
    → IfOk r (λ x. TellsLoop scene (end_seen (ports_through source sink at old before) (ports_through source sink at' new after)
    (status_of x) m m'))
    → IfOk r (λ x. TellsLoop scene (end_seen (ports_through source sink at old before) (ports_through source sink at new after)
    (status_of x) m m'))
loops_unshown (Ok x) status_of scene source sink at at' old new before after m m' (inl t) = inl (record {
  status = t.status;
  unused = (t.unused.0, (unshown at at' before.told.bytes after.told.bytes).same t.unused.1);
  named = t.named;
})
loops_unshown (Ok x) status_of scene source sink at at' old new before after m m' (inr t) = inr (record {
  end = t.end;
  ends = loop_runs _ _ _ _ _ _ _ _ _ (unshown at at' before.told.bytes after.told.bytes) t.ends;
  tells = t.tells;
})
loops_unshown (Err e) status_of scene source sink at at' old new before after m m' t = tt
