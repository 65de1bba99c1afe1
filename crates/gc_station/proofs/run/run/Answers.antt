use Rattle.gc_station.proofs.Common.{◌≡◌, inl, inr, refl, ap, sym, ◌∙◌, arith, total, Progress, reads_clock_alone, state_after, Scope, Reads, opening, places_of}
use Rattle.gc_station.proofs.Readings.{reads_as_in_scope, same_readings, some_readings}
use Rattle.gc_station.proofs.Going.{on_call, went_nothing, kept_same, went_kept, fails_at_sync, went_on, fails_at_record, went_nearer, has_model_on}
use Rattle.gc_station.proofs.Noting.{noted_nothing, noted_kept, noted_on, noted_end, noted_closed, noted_refused}
use Rattle.gc_station.proofs.run.run.Goals as goal

pub returns-in-Err : goal.returns-in-Err
returns-in-Err g c =
    let plan = c.args.plan.now in
    let commands = c.args.commands.now in
    let text = g.B.Book.text c.args.book.now in
    let told = g.L.Link.acts c.args.link.now in
    let taken = g.B.Book.taken c.args.book.now in
    record {
      ran = λ reads are.
          let scope : Scope = record { turns = c.args.max_turns; watched = places_of c.args.watches; reads = reads } in
          let w = went_kept plan commands scope text told (g.L.Link.acts c.loop-unsynced.link) taken (g.B.Book.taken c.loop-unsynced.book)
          (g.B.Book.taken c.sync_before.new.book) c.loop-unsynced.station c.sync_before.ensures.same (c.loop-unsynced.invariant.went reads are) in
          inr (fails_at_sync plan commands scope text told (g.L.Link.acts c.loop-unsynced.link) (g.L.Link.acts c.close.new.self) taken
          (g.B.Book.taken c.sync_before.new.book) c.loop-unsynced.station w c.close.ensures);
      keeps = λ reads are.
          let scope : Scope = record { turns = c.args.max_turns; watched = places_of c.args.watches; reads = reads } in
          let n = noted_kept plan commands scope text told taken (g.L.Link.acts c.loop-unsynced.link) (g.B.Book.taken c.loop-unsynced.book)
          (g.B.Book.taken c.sync_before.new.book) c.loop-unsynced.station c.args.kept.now.turns c.loop-unsynced.kept.turns c.sync_before.ensures.same (c.loop-unsynced.invariant.noted reads are) in
          noted_closed plan commands scope text told taken (g.L.Link.acts c.loop-unsynced.link) (g.L.Link.acts c.close.new.self) (g.B.Book.taken c.sync_before.new.book)
          c.loop-unsynced.station c.args.kept.now.turns c.loop-unsynced.kept.turns n c.close.ensures;
      is_durable = tt;
      kept = record { form = c.sync_before.ensures.kept.form ∙ c.loop-unsynced.invariant.form; fails = c.in-Err.ensures.kept.fails };
    }

pub returns-in-Err-step : goal.returns-in-Err-step
returns-in-Err-step g c =
    let plan = c.args.plan.now in
    let commands = c.args.commands.now in
    let told = g.L.Link.acts c.args.link.now in
    let taken = g.B.Book.taken c.args.book.now in
    record {
      ran = λ reads are.
          let scope : Scope = record { turns = c.args.max_turns; watched = places_of c.args.watches; reads = reads } in
          let kept = went_kept plan commands scope (g.B.Book.text c.args.book.now) told (g.L.Link.acts c.loop-unsynced.link) taken
          (g.B.Book.taken c.loop-unsynced.book) (g.B.Book.taken c.sync_before.new.book) c.loop-unsynced.station c.sync_before.ensures.same
          (c.loop-unsynced.invariant.went reads are) in
          let w = went_kept plan commands scope (g.B.Book.text c.args.book.now) told (g.L.Link.acts c.loop-unsynced.link) taken (g.B.Book.taken c.sync_before.new.book)
          (g.B.Book.taken c.report_to-reported.new.book) c.loop-unsynced.station
          (kept_same (g.B.Book.taken c.sync_before.new.book) (g.B.Book.taken c.report_to-reported.new.book) c.report_to-reported.ensures.taken) kept in
          let s = state_after plan commands scope w.acts in
          let same = same_readings s.reads reads (reads_as_in_scope plan commands scope w.acts) are in
          inl (fails_at_record plan commands scope (g.B.Book.text c.args.book.now) told (g.L.Link.acts c.loop-unsynced.link) (g.L.Link.acts c.step.new.link)
          (g.L.Link.acts c.close-in-Err-step.new.self) taken (g.B.Book.taken c.report_to-reported.new.book)
          (g.B.Book.taken c.step.new.book) c.loop-unsynced.station c.action-action.result w
          (c.action-action.ensures.action s w.stands same)
          (on_call c.action-action.result _ c.in_default-action.not-Stop
          (rw (c.report_to-reported.ensures.form ∙ c.sync_before.ensures.kept.form ∙ c.loop-unsynced.invariant.form) at c.in-Err-step.ensures.does))
          c.close-in-Err-step.ensures are);
      keeps = λ reads are.
          let scope : Scope = record { turns = c.args.max_turns; watched = places_of c.args.watches; reads = reads } in
          let text = g.B.Book.text c.args.book.now in
          let m = noted_kept plan commands scope text told taken (g.L.Link.acts c.loop-unsynced.link) (g.B.Book.taken c.loop-unsynced.book)
          (g.B.Book.taken c.sync_before.new.book) c.loop-unsynced.station c.args.kept.now.turns c.loop-unsynced.kept.turns c.sync_before.ensures.same (c.loop-unsynced.invariant.noted reads are) in
          let n = noted_kept plan commands scope text told taken (g.L.Link.acts c.loop-unsynced.link) (g.B.Book.taken c.sync_before.new.book)
          (g.B.Book.taken c.report_to-reported.new.book) c.loop-unsynced.station c.args.kept.now.turns c.loop-unsynced.kept.turns
          (kept_same (g.B.Book.taken c.sync_before.new.book) (g.B.Book.taken c.report_to-reported.new.book) c.report_to-reported.ensures.taken) m in
          let s = state_after plan commands scope n.went.acts in
          let same = same_readings s.reads reads (reads_as_in_scope plan commands scope n.went.acts) are in
          noted_refused plan commands scope text told taken (g.L.Link.acts c.loop-unsynced.link) (g.L.Link.acts c.step.new.link)
          (g.L.Link.acts c.close-in-Err-step.new.self) (g.B.Book.taken c.report_to-reported.new.book)
          (g.B.Book.taken c.step.new.book) (g.B.Book.is_durable c.report_to-reported.new.book) c.loop-unsynced.station c.action-action.result
          c.args.kept.now.turns c.loop-unsynced.kept.turns c.with_snapshot.result.turns n
          (c.action-action.ensures.action s n.went.stands same)
          (on_call c.action-action.result _ c.in_default-action.not-Stop
          (rw (c.report_to-reported.ensures.form ∙ c.sync_before.ensures.kept.form ∙ c.loop-unsynced.invariant.form) at c.in-Err-step.ensures.does))
          c.close-in-Err-step.ensures c.with_snapshot.ensures (λ more. c.report_to-reported.ensures.is_durable ∙ c.in_default.ensures.is_durable more);
      is_durable = tt;
      kept = record {
        form = c.in-Err-step.ensures.kept.form ∙ c.report_to-reported.ensures.form ∙ c.sync_before.ensures.kept.form ∙ c.loop-unsynced.invariant.form;
        fails = c.in-Err-step.ensures.kept.fails;
      };
    }

pub loop-unsynced-smaller : goal.loop-unsynced-smaller
loop-unsynced-smaller g c =
    let plan = c.args.plan.now in
    let commands = c.args.commands.now in
    (went_nearer plan commands (g.B.Book.text c.args.book.now) (g.L.Link.acts c.loop-unsynced.link) (g.L.Link.acts c.step.new.link)
    (g.B.Book.taken c.report_to-reported.new.book) (g.B.Book.taken c.step.new.book) c.loop-unsynced.station c.step.new.self c.action-action.result
    c.action-action.ensures.is c.loop-unsynced.invariant.some
    (on_call c.action-action.result _ c.in_default-action.not-Stop
    (rw (c.report_to-reported.ensures.form ∙ c.sync_before.ensures.kept.form ∙ c.loop-unsynced.invariant.form) at c.in_default-step.ensures.does))
    c.loop-unsynced.invariant.below).less

pub loop-unsynced-preserved : goal.loop-unsynced-preserved
loop-unsynced-preserved g c =
    let plan = c.args.plan.now in
    let commands = c.args.commands.now in
    let told = g.L.Link.acts c.args.link.now in
    let taken = g.B.Book.taken c.args.book.now in
    let makes = on_call c.action-action.result _ c.in_default-action.not-Stop
    (rw (c.report_to-reported.ensures.form ∙ c.sync_before.ensures.kept.form ∙ c.loop-unsynced.invariant.form) at c.in_default-step.ensures.does) in
    let nearer = went_nearer plan commands (g.B.Book.text c.args.book.now) (g.L.Link.acts c.loop-unsynced.link) (g.L.Link.acts c.step.new.link)
    (g.B.Book.taken c.report_to-reported.new.book) (g.B.Book.taken c.step.new.book) c.loop-unsynced.station c.step.new.self c.action-action.result
    c.action-action.ensures.is c.loop-unsynced.invariant.some
    (on_call c.action-action.result _ c.in_default-action.not-Stop
    (rw (c.report_to-reported.ensures.form ∙ c.sync_before.ensures.kept.form ∙ c.loop-unsynced.invariant.form) at c.in_default-step.ensures.does))
    c.loop-unsynced.invariant.below in
    record {
      within = omega (arith, nearer.within);
      below = nearer.within;
      some = has_model_on plan commands (g.B.Book.text c.args.book.now) (g.L.Link.acts c.loop-unsynced.link) (g.L.Link.acts c.step.new.link)
          (g.B.Book.taken c.report_to-reported.new.book) (g.B.Book.taken c.step.new.book) c.loop-unsynced.station c.step.new.self c.action-action.result makes
          c.loop-unsynced.invariant.some;
      went = λ reads are.
          let scope : Scope = record { turns = c.args.max_turns; watched = places_of c.args.watches; reads = reads } in
          let kept = went_kept plan commands scope (g.B.Book.text c.args.book.now) told (g.L.Link.acts c.loop-unsynced.link) taken
          (g.B.Book.taken c.loop-unsynced.book) (g.B.Book.taken c.sync_before.new.book) c.loop-unsynced.station c.sync_before.ensures.same
          (c.loop-unsynced.invariant.went reads are) in
          let w = went_kept plan commands scope (g.B.Book.text c.args.book.now) told (g.L.Link.acts c.loop-unsynced.link) taken (g.B.Book.taken c.sync_before.new.book)
          (g.B.Book.taken c.report_to-reported.new.book) c.loop-unsynced.station
          (kept_same (g.B.Book.taken c.sync_before.new.book) (g.B.Book.taken c.report_to-reported.new.book) c.report_to-reported.ensures.taken) kept in
          let s = state_after plan commands scope w.acts in
          let same = same_readings s.reads reads (reads_as_in_scope plan commands scope w.acts) are in
          went_on plan commands scope (g.B.Book.text c.args.book.now) told (g.L.Link.acts c.loop-unsynced.link) (g.L.Link.acts c.step.new.link) taken
          (g.B.Book.taken c.report_to-reported.new.book) (g.B.Book.taken c.step.new.book) c.loop-unsynced.station c.step.new.self c.action-action.result w
          (c.action-action.ensures.action s w.stands same) makes are;
      noted = λ reads are.
          let scope : Scope = record { turns = c.args.max_turns; watched = places_of c.args.watches; reads = reads } in
          let text = g.B.Book.text c.args.book.now in
          let m = noted_kept plan commands scope text told taken (g.L.Link.acts c.loop-unsynced.link) (g.B.Book.taken c.loop-unsynced.book)
          (g.B.Book.taken c.sync_before.new.book) c.loop-unsynced.station c.args.kept.now.turns c.loop-unsynced.kept.turns c.sync_before.ensures.same (c.loop-unsynced.invariant.noted reads are) in
          let n = noted_kept plan commands scope text told taken (g.L.Link.acts c.loop-unsynced.link) (g.B.Book.taken c.sync_before.new.book)
          (g.B.Book.taken c.report_to-reported.new.book) c.loop-unsynced.station c.args.kept.now.turns c.loop-unsynced.kept.turns
          (kept_same (g.B.Book.taken c.sync_before.new.book) (g.B.Book.taken c.report_to-reported.new.book) c.report_to-reported.ensures.taken) m in
          let s = state_after plan commands scope n.went.acts in
          let same = same_readings s.reads reads (reads_as_in_scope plan commands scope n.went.acts) are in
          noted_on plan commands scope text told taken (g.L.Link.acts c.loop-unsynced.link) (g.L.Link.acts c.step.new.link)
          (g.B.Book.taken c.report_to-reported.new.book) (g.B.Book.taken c.step.new.book) (g.B.Book.is_durable c.report_to-reported.new.book)
          c.loop-unsynced.station c.step.new.self c.action-action.result
          c.args.kept.now.turns c.loop-unsynced.kept.turns c.with_snapshot.result.turns n
          (c.action-action.ensures.action s n.went.stands same) makes are c.with_snapshot.ensures (λ more. c.report_to-reported.ensures.is_durable ∙ c.in_default.ensures.is_durable more);
      form = c.in_default-step.ensures.kept.form ∙ c.report_to-reported.ensures.form ∙ c.sync_before.ensures.kept.form ∙ c.loop-unsynced.invariant.form;
      failed = c.in_default-step.ensures.kept.fails ∙ c.report_to-reported.ensures.failed ∙ c.in_default.ensures.kept.fails ∙ c.loop-unsynced.invariant.failed;
    }

pub loop-unsynced-init : goal.loop-unsynced-init
loop-unsynced-init g c =
    let plan = c.args.plan.now in
    let commands = c.args.commands.now in
    let any : Reads = some_readings.0 in
    let start : Scope = record { turns = c.args.max_turns; watched = places_of c.args.watches; reads = any } in
    let stands = c.new-station.ensures any some_readings.1 in
    let none : c.new-station.result.progress.unsent ≡ 0 = ap (λ (p : Progress). p.unsent) stands.progress in
    record {
      within = omega (arith, none);
      below = omega (arith, none);
      some = (opening plan start, stands);
      went = λ reads are. went_nothing plan commands (record { turns = c.args.max_turns; watched = places_of c.args.watches; reads = reads }) (g.B.Book.text c.args.book.now)
          (g.L.Link.acts c.args.link.now) (g.B.Book.taken c.args.book.now) c.new-station.result (c.new-station.ensures reads are);
      noted = λ reads are. noted_nothing plan commands (record { turns = c.args.max_turns; watched = places_of c.args.watches; reads = reads }) (g.B.Book.text c.args.book.now)
          (g.L.Link.acts c.args.link.now) (g.B.Book.taken c.args.book.now) c.new-station.result c.args.kept.now.turns (c.new-station.ensures reads are);
      form = refl;
      failed = refl;
    }

pub returns-in-Stop-clause-ran : goal.returns-in-Stop-clause-ran
returns-in-Stop-clause-ran g c reads are =
    let plan = c.args.plan.now in
    let commands = c.args.commands.now in
    let scope : Scope = record { turns = c.args.max_turns; watched = places_of c.args.watches; reads = reads } in
    let w = went_kept plan commands scope (g.B.Book.text c.args.book.now) (g.L.Link.acts c.args.link.now) (g.L.Link.acts c.loop-unsynced.link)
    (g.B.Book.taken c.args.book.now) (g.B.Book.taken c.loop-unsynced.book) (g.B.Book.taken c.sync_before.new.book) c.loop-unsynced.station c.sync_before.ensures.same
    (c.loop-unsynced.invariant.went reads are) in
    let s = state_after plan commands scope w.acts in
    let same = same_readings s.reads reads (reads_as_in_scope plan commands scope w.acts) are in
    record {
      acts = w.acts;
      tells = w.tells;
      runs = w.runs;
      stops = sym (c.action-action.ensures.action s w.stands same) ∙ c.in-Stop.is;
      took = w.took;
      counts = c.total.ensures ∙ ap total (w.stands.tally same);
    }

pub returns-in-Stop-clause-keeps : goal.returns-in-Stop-clause-keeps
returns-in-Stop-clause-keeps g c reads are =
    let plan = c.args.plan.now in
    let commands = c.args.commands.now in
    let scope : Scope = record { turns = c.args.max_turns; watched = places_of c.args.watches; reads = reads } in
    let n = noted_kept plan commands scope (g.B.Book.text c.args.book.now) (g.L.Link.acts c.args.link.now) (g.B.Book.taken c.args.book.now) (g.L.Link.acts c.loop-unsynced.link)
    (g.B.Book.taken c.loop-unsynced.book) (g.B.Book.taken c.sync_before.new.book) c.loop-unsynced.station c.args.kept.now.turns c.loop-unsynced.kept.turns c.sync_before.ensures.same
    (c.loop-unsynced.invariant.noted reads are) in
    noted_end plan commands scope (g.B.Book.text c.args.book.now) (g.L.Link.acts c.args.link.now) (g.B.Book.taken c.args.book.now) (g.L.Link.acts c.loop-unsynced.link)
    (g.B.Book.taken c.sync_before.new.book) c.loop-unsynced.station c.args.kept.now.turns c.loop-unsynced.kept.turns n

pub returns-in-Stop-clause-is_durable : goal.returns-in-Stop-clause-is_durable
returns-in-Stop-clause-is_durable g c = c.in_default.ensures.is_durable (ap reads_clock_alone c.in-Stop.is)
