use Rattle.gc_station.proofs.Common.{◌≡◌, ◌≤◌, false, subst, length, map, ap, sym, ◌∙◌, refl, length-map, hears, heard, settlement_seen, line_in, lent_seen, is_reply, Exchange, Progress, Model, settles, line_busy, line_called, line_news, lines_taken, with_progress, any_unexpected, doubt_noted, hold_noted, line_synchronizing, Refines, Took, TookPart, Station, option_to_list}
use Rattle.gc_station.proofs.Hearing.{hears_paired, settles_ok, settles_part, settles_busy, settles_unexpected, refines_called, refines_doubted, refines_held, refines_noted, no_line, taken_none}
use Rattle.gc_station.proofs.Making.{refines_with}
use Rattle.gc_station.proofs.station.Station.hear.Goals as goal

pub returns-clause-hears : goal.returns-clause-hears
returns-clause-hears g c old start stood took =
    let line = c.in-Line.line.now in
    let short : length line ≤ 512 = rw c.in-Line.is at c.requires in
    let s = line_called line old in
    let stands : Refines c.doubt.new.self s = refines_called c.args.self.now c.doubt.new.self line old stood c.doubt.ensures.notes in
    let text = g.B.Book.text c.doubt.new.book in
    let so : Took text start (g.B.Book.taken c.doubt.new.book) s =
    subst (λ f. Took f start (g.B.Book.taken c.doubt.new.book) s) (sym c.doubt.ensures.form) (subst (λ taken. Took (g.B.Book.text c.args.book.now) start taken s) (sym c.doubt.ensures.taken) took) in
    let x = hears s.client line (heard line) in
    let seen = ap (λ ids. hears ids line (heard line)) stands.ids in
    let client = c.hear-hearing.ensures.client short in
    let items = c.hear-hearing.new.settled.items in
    let same = (c.hear-hearing.ensures.settled short).seen ∙ ap (λ y. y.settlements) seen in
    let reply = c.heard_reply-is_reply.ensures _ _ line _ (c.hear-hearing.ensures.heard short) in
    let t = settles_ok text c.doubt.new.self _ s x (map settlement_seen items) stands
    (record {
      ids_are = ap (λ w. w.ids) client ∙ ap (λ y. y.client) seen;
      width = ap
          (λ w. w.width) client;
      marks = refl;
      assembler = refl;
      progress = refl;
      recorded = refl;
    })
    same
    c.write.new.self (length items) start (g.B.Book.taken c.write.new.book)
    (sym (length-map items settlement_seen) ∙ ap length same)
    (hears_paired s.marks s.client line (heard line) stands.paired)
    (λ are. c.in_default-write.ensures.wrote s.reads are start s.records (so are)) c.in_default-write.ensures.after c.in_default-write.ensures.notes in
    let after = c.in_default-write.ensures.after in
    let b = any_unexpected false (line_news line old) in
    let found = settles_unexpected text c.doubt.new.self
    (record c.doubt.new.self { client = c.hear-hearing.new.self; settled = c.hear-hearing.new.settled }) s x (map settlement_seen items) stands
    (record {
      ids_are = ap (λ w. w.ids) client ∙ ap (λ y. y.client) seen;
      width = ap
          (λ w. w.width) client;
      marks = refl;
      assembler = refl;
      progress = refl;
      recorded = refl;
    })
    same
    c.write.new.self (ap (λ (st : Station). st.recorded.unexpected) c.doubt.ensures.notes) c.in_default-write.ensures.notes in
    let noting : Exchange → Progress = λ x. record c.write.new.self.progress { exchange = x } in
    let u = with_progress (doubt_noted b) s in
    let doubted : Refines (record c.write.new.self { progress = (noting c.note_doubt.new.self) }) (settles x u) =
    refines_doubted c.write.new.self (noting c.note_doubt.new.self) c.write.new.self.recorded.unexpected b (settles x s) t.0 found (ap noting c.note_doubt.ensures) in
    let busy = settles_busy text c.doubt.new.self
    (record c.doubt.new.self { client = c.hear-hearing.new.self; settled = c.hear-hearing.new.settled }) s x (map settlement_seen items) stands
    (record {
      ids_are = ap (λ w. w.ids) client ∙ ap (λ y. y.client) seen;
      width = ap
          (λ w. w.width) client;
      marks = refl;
      assembler = refl;
      progress = refl;
      recorded = refl;
    })
    same
    c.write.new.self (ap (λ (st : Station). st.recorded.busy) c.doubt.ensures.notes) c.in_default-write.ensures.notes in
    let v = with_progress (hold_noted (line_busy line old)) u in
    let held : Refines (record c.write.new.self { progress = (noting c.note_busy.new.self) }) (settles x v) =
    refines_held (record c.write.new.self { progress = (noting c.note_doubt.new.self) }) (noting c.note_busy.new.self) c.write.new.self.recorded.busy (line_busy line old) (settles x u) doubted busy (ap noting c.note_busy.ensures) in
    let waits = c.waiting-waiting.ensures.waiting ∙ ap (λ (st : Station). length st.client.ids.waiting) after ∙ ap (λ w. length w.ids.waiting) client ∙ ap (λ y. length y.client.waiting) seen in
    let settled = ap (map settlement_seen) (c.as_slice.ensures.value ∙ ap (λ (st : Station). st.settled.items) after) ∙ same in
    rw c.if-not-begun.false (rw c.in-Line.is (
      refines_noted (record c.write.new.self { progress = (noting c.note_busy.new.self) }) (noting c.note_heard.new.self) c.heard_reply-is_reply.result (is_reply line)
          (map settlement_seen c.as_slice.result.now) x.settlements c.waiting-waiting.result (length x.client.waiting) (settles x v) held reply settled waits (ap noting c.note_heard.ensures),
      subst (λ f. Took f start (g.B.Book.taken c.write.new.book) (settles x s)) c.doubt.ensures.form t.1,
    ))

pub returns-in-Err-clause-hears : goal.returns-in-Err-clause-hears
returns-in-Err-clause-hears g c old start stood took =
    let line = c.in-Line.line.now in
    let short : length line ≤ 512 = rw c.in-Line.is at c.requires in
    let s = line_called line old in
    let stands : Refines c.doubt.new.self s = refines_called c.args.self.now c.doubt.new.self line old stood c.doubt.ensures.notes in
    let text = g.B.Book.text c.doubt.new.book in
    let so : Took text start (g.B.Book.taken c.doubt.new.book) s =
    subst (λ f. Took f start (g.B.Book.taken c.doubt.new.book) s) (sym c.doubt.ensures.form) (subst (λ taken. Took (g.B.Book.text c.args.book.now) start taken s) (sym c.doubt.ensures.taken) took) in
    let x = hears s.client line (heard line) in
    let seen = ap (λ ids. hears ids line (heard line)) stands.ids in
    let client = c.hear-hearing.ensures.client short in
    let items = c.hear-hearing.new.settled.items in
    let same = (c.hear-hearing.ensures.settled short).seen ∙ ap (λ y. y.settlements) seen in
    let t = settles_part text c.doubt.new.self
    (record c.doubt.new.self { client = c.hear-hearing.new.self; settled = c.hear-hearing.new.settled }) s x (map settlement_seen items) stands
    (record {
      ids_are = ap (λ w. w.ids) client ∙ ap (λ y. y.client) seen;
      width = ap
          (λ w. w.width) client;
      marks = refl;
      assembler = refl;
      progress = refl;
      recorded = refl;
    })
    same
    start (g.B.Book.taken c.write.new.book)
    (λ are. c.in-Err.ensures.wrote s.reads are start s.records (so are)) in
    rw c.if-not-begun.false (rw c.in-Line.is (subst (λ f. TookPart f s.records start (g.B.Book.taken c.write.new.book) (settles x s)) c.doubt.ensures.form t))

pub returns-then-not-begun-clause-hears : goal.returns-then-not-begun-clause-hears
returns-then-not-begun-clause-hears g c s start stands so =
    let line = c.in-Line.line.now in
    rw c.if-not-begun.true (rw c.in-Line.is (
      refines_with c.args.self.now c.hear_synchronizing.new.self (λ p. line_synchronizing p line) s stands c.hear_synchronizing.ensures,
      so,
    ))

pub returns-in_default : goal.returns-in_default
returns-in_default g c = record {
  hears = λ s start stands so.
      let same : s ≡ lines_taken c.args.begun (option_to_list (line_in (lent_seen c.args.frame))) s =
      sym (ap (λ l. lines_taken c.args.begun (option_to_list l) s) (no_line c.args.frame c.in_default.not-Line) ∙ taken_none c.args.begun s) in
      subst (λ (x : Model). Refines c.args.self.now x × Took (g.B.Book.text c.args.book.now) start (g.B.Book.taken c.args.book.now) x) same (stands, so);
  kept = record { form = refl; fails = refl };
}
