use Rattle.gc_station.proofs.Common.{List, ◌++◌, map, subst, Asked, settlement_seen, records_of, WritesBy}
use Rattle.gc_client.specs.declared.settlement.Settlement.{Settlement}
use Rattle.gc_station.proofs.station.Station.write.Goals as goal

pub returns-clause-wrote : goal.returns-clause-wrote
returns-clause-wrote g c reads are start before so =
    let old = c.args.self.now in
    subst (λ (xs : List (Settlement Asked)). WritesBy (g.B.Book.text c.args.book.now) before
    (before ++ records_of reads old.progress.moment.utc old.marks.items (map settlement_seen xs)) start
    (g.B.Book.taken c.write_settlements.new.book) c.write_settlements.result) c.as_slice.ensures.value
    (c.write_settlements.ensures.wrote reads are start before so)
