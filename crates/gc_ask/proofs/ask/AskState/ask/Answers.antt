use Rattle.gc_ask.proofs.Common.{◌++◌, length, sym, ap, arith, length-map, settlement_seen, ClientHeard, heard_by, seen_through, SeenAtBoth}
use Rattle.gc_ask.proofs.Asked.{settled_is}
use Rattle.gc_ask.proofs.Exchanging.{still_waits, lost_alone, asks_written, asks_lost, asks_sink_failed, ends_written, ends_lost, ends_sink_failed}
use Rattle.gc_ask.proofs.ask.AskState.ask.Goals as goal

pub write_settlements-requires : goal.write_settlements-requires
write_settlements-requires g c =
    let stands = c.requires.stands in
    let ex = c.in-Ok.ensures.exchanges.3 stands.0 stands.1 in
    let one = (settled_is _ _ _ ex.1).0 in
    omega (arith, c.ranges.place.fits, sym (length-map c.exchange.new.self.end.settled.items settlement_seen), ap length one, ap length c.as_slice.ensures.value)

pub write_settlements-requires-in-Err : goal.write_settlements-requires-in-Err
write_settlements-requires-in-Err g c =
    let stands = c.requires.stands in
    let ex = c.in-Err.ensures.exchanges in
    let asking = c.exchange.new.self in
    let end = asking.end in
    let heard : ClientHeard = record { rest = stands.0; bytes = c.args.self.now.ahead ++ ex.0; left = asking.ahead; kept = end.assembler; client = end.client.ids; settled = end.settled.items } in
    let waits = still_waits g.L.AskedLink.is_remote c.args.place c.args.command.now heard (g.L.AskedLink.client c.args.link.now).taken
    (g.L.AskedLink.client c.exchange.new.link).taken c.in-Err.fault (ex.3 stands.0 stands.1) in
    let one = lost_alone c.args.place c.args.command.now end.client.ids c.restart-lost.result.items c.as_slice-in-Err.result.now waits c.restart-lost.ensures.settled c.as_slice-in-Err.ensures.value in
    omega (arith, c.ranges.place.fits, sym (length-map c.as_slice-in-Err.result.now settlement_seen), ap length one)

pub returns-in-Ok-clause-asks : goal.returns-in-Ok-clause-asks
returns-in-Ok-clause-asks g c =
    let ex = c.in-Ok.ensures.exchanges in
    let asking = c.exchange.new.self in (
      ex.0,
      ex.1,
      ex.2,
      λ rest s.
          asks_written g.L.AskedLink.is_remote c.args.place c.args.command.now (heard_by asking.end rest (c.args.self.now.ahead ++ ex.0) asking.ahead) c.as_slice.result.now
          (seen_through g.L.AskedLink c.args.link.now g.K.Sink c.args.sink.now) (seen_through g.L.AskedLink c.exchange.new.link g.K.Sink c.write_settlements.new.sink)
          c.write_settlements.result c.in-Ok.ensures.ends (ex.3 rest s).0 (ex.3 rest s).1 c.as_slice.ensures.value (c.write_settlements.ensures.wrote, c.write_settlements.ensures.failed),
    )

pub returns-in-Ok-clause-ends : goal.returns-in-Ok-clause-ends
returns-in-Ok-clause-ends g c =
    ends_written (seen_through g.L.AskedLink c.args.link.now g.K.Sink c.args.sink.now) (seen_through g.L.AskedLink c.exchange.new.link g.K.Sink c.write_settlements.new.sink)
    c.args.place _ c.write_settlements.result c.in-Ok.ensures.ends (c.write_settlements.ensures.wrote, c.write_settlements.ensures.failed)

pub returns-in-Ok-write_settlements-clause-asks : goal.returns-in-Ok-write_settlements-clause-asks
returns-in-Ok-write_settlements-clause-asks g c =
    let ex = c.in-Err.ensures.exchanges in
    let asking = c.exchange.new.self in
    let old : SeenAtBoth = seen_through g.L.AskedLink c.args.link.now g.K.Sink c.args.sink.now in
    let new : SeenAtBoth = seen_through g.L.AskedLink c.exchange.new.link g.K.Sink c.write_settlements-in-Err.new.sink in (
      ex.0,
      ex.1,
      ex.2,
      λ rest s.
          let heard : ClientHeard = heard_by asking.end rest (c.args.self.now.ahead ++ ex.0) asking.ahead in
          let waits = still_waits g.L.AskedLink.is_remote c.args.place c.args.command.now heard old.client.taken new.client.taken c.in-Err.fault (ex.3 rest s) in
          asks_lost g.L.AskedLink.is_remote c.args.place c.args.command.now heard c.restart-lost.new.self.ids c.as_slice-in-Err.result.now old new c.in-Err.fault
          c.in-Err.ensures.ends (ex.3 rest s)
          (lost_alone c.args.place c.args.command.now asking.end.client.ids c.restart-lost.result.items _ waits c.restart-lost.ensures.settled c.as_slice-in-Err.ensures.value)
          c.in-Ok-write_settlements.ensures.wrote,
    )

pub returns-in-Ok-write_settlements-clause-ends : goal.returns-in-Ok-write_settlements-clause-ends
returns-in-Ok-write_settlements-clause-ends g c =
    ends_lost (seen_through g.L.AskedLink c.args.link.now g.K.Sink c.args.sink.now)
    (seen_through g.L.AskedLink c.exchange.new.link g.K.Sink c.write_settlements-in-Err.new.sink) c.in-Err.fault c.in-Err.ensures.ends c.in-Ok-write_settlements.ensures.failed

pub returns-in-Err-write_settlements-clause-asks : goal.returns-in-Err-write_settlements-clause-asks
returns-in-Err-write_settlements-clause-asks g c =
    let ex = c.in-Err.ensures.exchanges in
    let asking = c.exchange.new.self in
    let old : SeenAtBoth = seen_through g.L.AskedLink c.args.link.now g.K.Sink c.args.sink.now in
    let new : SeenAtBoth = seen_through g.L.AskedLink c.exchange.new.link g.K.Sink c.write_settlements-in-Err.new.sink in (
      ex.0,
      ex.1,
      ex.2,
      λ rest s.
          let heard : ClientHeard = heard_by asking.end rest (c.args.self.now.ahead ++ ex.0) asking.ahead in
          let waits = still_waits g.L.AskedLink.is_remote c.args.place c.args.command.now heard old.client.taken new.client.taken c.in-Err.fault (ex.3 rest s) in
          asks_sink_failed g.L.AskedLink.is_remote c.args.place c.args.command.now heard c.restart-lost.new.self.ids c.as_slice-in-Err.result.now old new
          c.in-Err.fault c.in-Err.ensures.ends (ex.3 rest s)
          (lost_alone c.args.place c.args.command.now asking.end.client.ids c.restart-lost.result.items _ waits c.restart-lost.ensures.settled c.as_slice-in-Err.ensures.value)
          c.in-Err-write_settlements.output (c.in-Err-write_settlements.ensures.wrote, c.in-Err-write_settlements.ensures.failed),
    )

pub returns-in-Err-write_settlements-clause-ends : goal.returns-in-Err-write_settlements-clause-ends
returns-in-Err-write_settlements-clause-ends g c =
    ends_sink_failed (seen_through g.L.AskedLink c.args.link.now g.K.Sink c.args.sink.now)
    (seen_through g.L.AskedLink c.exchange.new.link g.K.Sink c.write_settlements-in-Err.new.sink)
    c.args.place _ c.in-Err.fault c.in-Err-write_settlements.output c.in-Err.ensures.ends (c.in-Err-write_settlements.ensures.wrote, c.in-Err-write_settlements.ensures.failed)

pub returns-in-Ok-clause-spends : goal.returns-in-Ok-clause-spends
returns-in-Ok-clause-spends g c = c.in-Ok.ensures.spends

pub returns-in-Ok-write_settlements-clause-spends : goal.returns-in-Ok-write_settlements-clause-spends
returns-in-Ok-write_settlements-clause-spends g c = c.in-Err.ensures.spends

pub returns-in-Err-write_settlements-clause-spends : goal.returns-in-Err-write_settlements-clause-spends
returns-in-Err-write_settlements-clause-spends g c = c.in-Err.ensures.spends
