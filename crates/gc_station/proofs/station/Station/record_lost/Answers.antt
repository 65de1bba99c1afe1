use Rattle.gc_station.proofs.Common.{length, map, ap, sym, ◌∙◌, refl, subst, length-map, restarts, settlement_seen, loses_all, losing, Refines, Took, RefinesOrTookPart}
use Rattle.gc_station.proofs.Hearing.{restarts_paired, settles_either}
use Rattle.gc_station.proofs.station.Station.record_lost.Goals as goal

pub returns-clause-ends : goal.returns-clause-ends
returns-clause-ends g c s start stands so =
    let x = restarts s.client in
    let seen = ap restarts stands.ids in
    let client = c.restart-self.ensures.client in
    let items = c.restart-self.result.items in
    let same = c.restart-self.ensures.settled.seen ∙ ap (λ y. y.settlements) seen in
    let loses = sym c.if-not-loses_all.false ∙ c.loses_all.ensures ∙ ap loses_all stands.progress in
    let t = settles_either (g.B.Book.text c.args.book.now) c.args.self.now _ s x (map settlement_seen items) stands
    (record {
      ids_are = ap (λ w. w.ids) client ∙ ap (λ y. y.client) seen;
      width = ap
          (λ w. w.width) client;
      marks = refl;
      assembler = refl;
      progress = refl;
      recorded = refl;
    })
    same
    c.write.new.self (length items) start (g.B.Book.taken c.write.new.book) c.write.result
    (sym (length-map items settlement_seen) ∙ ap length same)
    (restarts_paired s.marks s.client stands.paired)
    (λ are. c.write.ensures.wrote s.reads are start s.records (so are)) c.write.ensures.after c.write.ensures.notes in
    subst (λ b. RefinesOrTookPart (g.B.Book.text c.args.book.now) s.records c.write.new.self start (g.B.Book.taken c.write.new.book) (losing b s) c.write.result) loses t

pub returns-then-not-loses_all-clause-ends : goal.returns-then-not-loses_all-clause-ends
returns-then-not-loses_all-clause-ends g c s start stands so =
    let self = c.args.self.now in
    let taken = g.B.Book.taken c.args.book.now in
    let loses = sym c.if-not-loses_all.true ∙ c.loses_all.ensures ∙ ap loses_all stands.progress in
    subst (λ b. Refines self (losing b s) × Took (g.B.Book.text c.args.book.now) start taken (losing b s)) loses (stands, so)
