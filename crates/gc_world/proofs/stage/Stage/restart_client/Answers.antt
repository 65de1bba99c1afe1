use Rattle.gc_world.proofs.Common.{[], ◌∷◌, ◌++◌, ◌∙◌, ap, iff_false, stage_parts}
use Rattle.gc_world.proofs.Shown.{streams_restart_client_idle, streams_restart_client}
use Rattle.gc_world.proofs.stage.Stage.restart_client.Goals as goal

pub returns-then-not-is_quiet-clause-follows : goal.returns-then-not-is_quiet-clause-follows
returns-then-not-is_quiet-clause-follows g c =
    λ width v h. streams_restart_client_idle g.I.Executes.acts width (stage_parts c.args.self.now) v h (iff_false c.is_quiet.ensures c.if-not-is_quiet.true)

pub returns-clause-follows : goal.returns-clause-follows
returns-clause-follows g c =
    let s = c.args.self.now in
    let quiet = c.is_quiet.ensures.0 c.if-not-is_quiet.false in
    λ width v h. streams_restart_client g.I.Executes.acts width (stage_parts s) v h (record {
      more = c.restart.result.items;
      settled = c.append_all.new.self;
      client = c.restart.new.self;
      starts = c.push.new.self;
      state = c.restart-2.new.self;
      up_empty = quiet.0;
      down_empty = quiet.1;
      more_are = c.restart.ensures.settled;
      client_is = c.restart.ensures.client;
      settled_is = c.in_ok-append_all.ensures ∙ ap (λ l. s.report.settled ++ l) c.as_slice.ensures.value;
      starts_is = c.in_ok-push.ensures ∙ ap (λ n. s.report.starts ++ n ∷ []) c.len.ensures;
      state_is = c.restart-2.ensures;
    })
