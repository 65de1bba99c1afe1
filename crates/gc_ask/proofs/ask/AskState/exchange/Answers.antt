use Rattle.gc_ask.proofs.Common.{ℕ, List, [], ◌++◌, Option, Err, sym, ap, ◌∙◌, subst, arith, Appends, Ports, Kept, StandsFor, Call, ById, written_request, TakesRequest, Exchanges, ClientHeard, HearsReply, heard_by, Input, source_of}
use Rattle.gc_ask.proofs.Ends.{reads_nothing, reads_then, step_both}
use Rattle.gc_ask.proofs.Exchanging.{exchange_heard, exchange_unsent}
use Rattle.gc_ask.proofs.ask.AskState.exchange.Goals as goal

pub returns-in-Err-clause-exchanges : goal.returns-in-Err-clause-exchanges
returns-in-Err-clause-exchanges g c =
    let asking = c.request-line.new.self in
    let old = g.L.AskedLink.client c.args.link.now in
    let new = g.L.AskedLink.client c.send.new.self in (
      [],
      reads_nothing old new c.in-Err.ensures.unread,
      omega arith,
      λ rest s.
          exchange_unsent g.L.AskedLink.is_remote c.args.place c.args.command.now
          (heard_by asking.end rest (c.args.self.now.ahead ++ []) asking.ahead)
          old.taken new.taken c.in-Err.fault
          (subst (λ (t : List ℕ). TakesRequest g.L.AskedLink.is_remote c.args.place t old.taken new.taken (Err c.in-Err.fault)) c.request-line.ensures.text c.in-Err.ensures.takes)
          c.request-line.ensures.client,
    )

pub returns-in-Err-clause-spends : goal.returns-in-Err-clause-spends
returns-in-Err-clause-spends g c = record {
  grows = omega (arith, ap (λ (s : Input). s.reads) c.in-Err.ensures.unread);
  reads = omega (
    arith,
    ap (λ (s : Input). s.reads) c.in-Err.ensures.unread,
    c.in-Err.ensures.reads,
    c.request-line.ensures.same.2,
  );
  held = c.in-Err.ensures.held;
}

pub returns-clause-exchanges : goal.returns-clause-exchanges
returns-clause-exchanges g c =
    let heard = c.hear_reply.ensures.hears in
    let asking = c.request-line.new.self in
    let end = c.hear_reply.new.self in
    let old = g.L.AskedLink.client c.args.link.now in
    let mid = g.L.AskedLink.client c.send.new.self in
    let new = g.L.AskedLink.client c.hear_reply.new.link in
    let sent = subst (λ (t : Option (List ℕ)). Appends old.taken t (written_request c.args.place c.args.command.now)) (sym c.hear_reply.ensures.only.0.0)
    (subst (λ (t : List ℕ). Appends old.taken mid.taken t) c.request-line.ensures.text c.in_default.ensures.takes) in (
      heard.0,
      reads_then old mid new heard.0 c.in_default.ensures.unread heard.1,
      omega (arith, heard.2, ap (λ (s : Input). s.reads) c.in_default.ensures.unread),
      λ rest s.
          let same = subst (λ (k : Kept). StandsFor k rest) (sym c.request-line.ensures.same.0) s in
          let h : ClientHeard = heard_by end rest (asking.ahead ++ heard.0) c.hear_reply.new.ahead in
          let reply = subst (λ (x : ById Call). HearsReply x h c.hear_reply.result) c.request-line.ensures.client (heard.3 rest same) in
          subst (λ (xs : List ℕ). Exchanges g.L.AskedLink.is_remote c.args.place c.args.command.now (heard_by end rest (xs ++ heard.0) c.hear_reply.new.ahead)
          old.taken new.taken c.hear_reply.result) c.request-line.ensures.same.1
          (exchange_heard g.L.AskedLink.is_remote c.args.place c.args.command.now h old.taken new.taken
          (source_of mid) (source_of new) c.hear_reply.new.reads c.hear_reply.result sent reply c.hear_reply.ensures.ends),
    )

pub returns-clause-ends : goal.returns-clause-ends
returns-clause-ends g c =
    step_both (g.L.AskedLink.client c.args.link.now) (g.L.AskedLink.client c.send.new.self) (g.L.AskedLink.client c.hear_reply.new.link)
    (g.L.AskedLink.instrument c.args.link.now) (g.L.AskedLink.instrument c.send.new.self) (g.L.AskedLink.instrument c.hear_reply.new.link)
    c.hear_reply.new.reads c.hear_reply.result c.in_default.ensures.ends c.in_default.ensures.unread
    c.hear_reply.ensures.only.0.1 c.hear_reply.ensures.only.1 c.hear_reply.ensures.grows c.hear_reply.ensures.ends

pub returns-clause-spends : goal.returns-clause-spends
returns-clause-spends g c = record {
  grows = omega (arith, ap (λ (s : Input). s.reads) c.in_default.ensures.unread, c.hear_reply.ensures.grows);
  reads = omega (
    arith,
    ap (λ (s : Input). s.reads) c.in_default.ensures.unread,
    ap (λ (p : Ports). p.reads) c.hear_reply.ensures.only.1,
    c.in_default.ensures.reads,
    c.hear_reply.ensures.reads,
    c.request-line.ensures.same.2,
  );
  held = c.hear_reply.ensures.only.2 ∙ c.in_default.ensures.held;
}
