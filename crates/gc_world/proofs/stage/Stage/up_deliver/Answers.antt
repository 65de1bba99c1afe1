use Rattle.gc_world.proofs.Common.{◌≡◌, [], ◌∷◌, ◌++◌, Some, refl, sym, ◌∙◌, ap, option_map, slice_get, slice_get_within, on_ok_weaker, Up, Made, Sent, stage_parts, up_texts}
use Rattle.gc_world.proofs.Shown.{carries, front_request, streams_up_deliver}
use Rattle.gc_world.proofs.Sides.{front_flow}
use Rattle.gc_world.proofs.stage.Stage.up_deliver.Goals as goal

pub at-requires : goal.at-requires
at-requires g c =
    let s = stage_parts c.args.self.now in
    let shown = c.requires.shown in
    let front = front_request g.I.Executes.acts shown.0 s shown.1 shown.2 c.in-Some.number c.take_front.new.self c.in-Some.ensures in
    slice_get_within s.report.sent c.in-Some.number front.0 front.1

pub finish-request-requires-clause-flow : goal.finish-request-requires-clause-flow
finish-request-requires-clause-flow g c =
    let s = stage_parts c.args.self.now in
    let shown = c.requires.shown in
    let texts = up_texts shown.1.world.wire in
    let text : option_map (λ (q : Sent). q.line.items) (slice_get s.report.sent c.in-Some.number) ≡ Some c.as_slice-line.result.now =
    ap (option_map (λ (q : Sent). q.line.items)) c.at.ensures ∙ ap Some (sym c.as_slice-line.ensures.value) in
    front_flow Up s.report s.up texts (carries g.I.Executes.acts shown.0 s shown.1 shown.2 Up) c.in-Some.number c.take_front.new.self c.as_slice-line.result.now c.in-Some.ensures text

pub returns-clause-follows : goal.returns-clause-follows
returns-clause-follows g c =
    let s = stage_parts c.args.self.now in
    let request = c.finish-request.result.now in
    let out : request ≡ c.at.result.now.line.items = c.finish-request.ensures.line ∙ c.as_slice-line.ensures.value in
    let entry : Made = record { number = c.in-Some.number; line = c.execute-is_executed.new.reply } in
    on_ok_weaker c.push_made.result
    (λ pushed width v h. streams_up_deliver g.I.Executes.acts width s v h c.finish-request.new.self (record {
      number = c.in-Some.number;
      request = c.at.result.now;
      is_executed = c.execute-is_executed.result;
      entry = entry;
      executed = c.note_execution.new.executed;
      made = c.push_made.new.self;
      state = c.execute-is_executed.new.self;
      queue = c.push.new.self;
      front = c.in-Some.ensures ∙ ap (λ q. c.in-Some.number ∷ q) (sym c.finish-request.ensures.queue);
      found = c.at.ensures;
      replied = λ id call small fits is. c.execute-is_executed.ensures id call small fits (out ∙ is);
      same = refl;
      executed_is = c.in_ok-note_execution.ensures;
      made_is = pushed;
      queue_is = c.in_ok-push.ensures ∙ ap (λ n. s.down.queue ++ n ∷ []) c.len.ensures;
    }) c.finish-request.ensures.start c.finish-request.ensures.gone)
    c.push_made.ensures
