use Rattle.gc_station.proofs.Common.{ap, ◌∙◌, Waiting, commands_in, moment_noted, early_noted, Model, with_moment, with_progress, waiting_of, after_piece, is_heard}
use Rattle.gc_station.proofs.Hearing.{refines_expired, outstanding_same, outstanding_commands_same, early_noted_same}
use Rattle.gc_station.proofs.station.Station.take_piece.Goals as goal

pub returns-in-Err-clause-takes : goal.returns-in-Err-clause-takes
returns-in-Err-clause-takes g c s start stands so =
    let m = c.args.now in
    c.in-Err.ensures.takes (with_moment m (with_progress (moment_noted m) s)) start
    (refines_expired c.args.self.now c.expire.new.self c.note_moment.new.self (moment_noted m s.progress) m s stands
    (c.note_moment.ensures ∙ ap (moment_noted m) stands.progress) c.expire.ensures) so

pub returns-clause-takes : goal.returns-clause-takes
returns-clause-takes g c s start stands so =
    let m = c.args.now in
    let plan = c.args.plan.now in
    let until = c.args.until in
    let t =
    c.in_default.ensures.takes (with_moment m (with_progress (moment_noted m) s)) start
    (refines_expired c.args.self.now c.expire.new.self c.note_moment.new.self (moment_noted m s.progress) m s stands
    (c.note_moment.ensures ∙ ap (moment_noted m) stands.progress) c.expire.ensures) so in
    let heard : Model = after_piece (is_heard s.progress.phase) s.progress.exchange.word c.args.piece.now (with_moment m (with_progress (moment_noted m) s)) in
    let before = c.commands_waiting-before.ensures ∙ ap commands_in stands.marks in
    let all = ap (λ (w : Waiting). w.all) c.waiting-after.ensures ∙ outstanding_same c.take_lines.new.self heard t.0 in
    let commands = ap (λ (w : Waiting). w.commands) c.waiting-after.ensures ∙ outstanding_commands_same c.take_lines.new.self heard t.0 in (
      record {
        progress = c.note_early.ensures ∙ ap (early_noted plan c.waiting-after.result.commands) c.note_bytes.ensures
            ∙ early_noted_same plan until c.commands_waiting-before.result (commands_in s.marks) c.waiting-after.result
            (waiting_of heard) c.take_lines.new.self.progress heard.progress before all commands t.0.progress;
        ids = t.0.ids;
        width = t.0.width;
        marks = t.0.marks;
        paired = t.0.paired;
        assembles = t.0.assembles;
        tally = t.0.tally;
        well = t.0.well;
        listed = t.0.listed;
        fresh = t.0.fresh;
        reads = t.0.reads;
        firsts = t.0.firsts;
        counts = t.0.counts;
      },
      t.1,
    )
