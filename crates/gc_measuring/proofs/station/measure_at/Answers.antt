use Rattle.gc_measuring.proofs.Common.{inl, inr, refl, false, Err, Some, sym, ap, ◌∙◌, false≢true, IfOk-weaker, Run, acts_of, stage}
use Rattle.std.specs.Option.{is_some}
use Rattle.gc_measuring.proofs.AtLink.{measures_at_link, measures_all_at_link}
use Rattle.gc_measuring.proofs.HandingBack.{measures_handed_back, reports_handed_back}
use Rattle.gc_measuring.proofs.Unbegun.{sink_is_as_it_was}
use Rattle.gc_measuring.proofs.station.measure_at.Goals as goal

pub returns-in-Err-clause-told : goal.returns-in-Err-clause-told
returns-in-Err-clause-told g c =
    IfOk-weaker c.report_end_of_run-ended.result _ _
    (λ status told. record {
      end = Err (Run c.in-Err.fault);
      between = c.args.streams.messages;
      is_lost = false;
      logged = λ lost. absurd (false≢true lost);
      ran = inr (record {
        fault = c.in-Err.fault;
        is = refl;
        cannot = c.in-Err.ensures.fault;
        input = refl;
        output = refl;
        messages = refl;
        acts = refl;
        turns = refl;
      });
      fails = sink_is_as_it_was _ _ _ c.in-Err.ensures.fault;
      tells = record { behind = _; loss = refl; counts = told };
    })
    c.report_end_of_run-ended.ensures.told

pub returns-in-None-clause-told : goal.returns-in-None-clause-told
returns-in-None-clause-told g c =
    let new = stage c.measure_over-streams.result.0 (Some c.began-moment.result.utc) (acts_of (Some c.into_link.result)) c.measure_over-streams.new.kept.turns in
    reports_handed_back _ _ _ _ _ _ _ c.measure_over-streams.result.1 c.hand_back-ended.result.0
    c.into_link.result c.hand_back-ended.result.1 c.hand_back-ended.ensures.same
    (IfOk-weaker c.measure_over-streams.result.1 _ _
    (λ status t. record {
      end = t.end;
      between = t.between;
      is_lost = false;
      logged = λ lost. absurd (false≢true lost);
      ran =
          inl (measures_at_link _ c.args.spot.station _ new c.measure_over-streams.new.link.link.history.acts c.began-moment.result.utc _ _ refl (ap (λ l. Some l.history.acts) c.into_link.ensures) t);
      fails = t.fails;
      tells = t.tells;
    })
    (rw (c.new-link.ensures, c.in-Ok.ensures.fresh, c.begun-station.ensures) at c.measure_over-streams.ensures.told))

pub returns-in-None-clause-done : goal.returns-in-None-clause-done
returns-in-None-clause-done g c =
    let new = stage c.measure_over-streams.result.0 (Some c.began-moment.result.utc) (acts_of (Some c.into_link.result)) c.measure_over-streams.new.kept.turns in
    measures_handed_back _ _ _ _ _ _ c.measure_over-streams.result.1
    c.hand_back-ended.result.0 c.into_link.result c.hand_back-ended.result.1 c.hand_back-ended.ensures.same
    (IfOk-weaker c.measure_over-streams.result.1 _ _
    (λ status d zero. measures_all_at_link _ c.args.spot.station _ new c.measure_over-streams.new.link.link.history.acts c.began-moment.result.utc refl
    (ap (λ l. Some l.history.acts) c.into_link.ensures) (d zero))
    (rw (c.new-link.ensures, c.in-Ok.ensures.fresh, c.begun-station.ensures) at c.measure_over-streams.ensures.done))

pub returns-in-Some-clause-told : goal.returns-in-Some-clause-told
returns-in-Some-clause-told g c =
    let new = stage c.measure_logged-streams.result.0 (Some c.began-moment.result.utc) (acts_of (Some c.into_link-in-Some-2.result)) c.measure_logged-streams.new.kept.turns in
    reports_handed_back _ _ _ _ _ _ _ c.measure_logged-streams.result.1
    c.hand_back-ended-in-Some.result.0 c.into_link-in-Some-2.result c.hand_back-ended-in-Some.result.1 c.hand_back-ended-in-Some.ensures.same
    (IfOk-weaker c.measure_logged-streams.result.1 _ _
    (λ status t. record {
      end = t.end;
      between = t.between;
      is_lost = _;
      logged = λ _. sym c.in-Ok.ensures.logged ∙ ap is_some c.in-Some.is;
      ran = inl (measures_at_link _ c.args.spot.station _ new c.measure_logged-streams.new.logged.link.link.history.acts c.began-moment.result.utc _ _ refl
          (ap (λ l. Some l.history.acts) (c.into_link-in-Some-2.ensures ∙ ap (λ n. n.link) c.into_link-in-Some.ensures)) t);
      fails = t.fails;
      tells = t.tells;
    })
    (rw (c.new-logged.ensures, c.new-link.ensures, c.in-Ok.ensures.fresh, c.begun-station.ensures) at c.measure_logged-streams.ensures.told))

pub returns-in-Some-clause-done : goal.returns-in-Some-clause-done
returns-in-Some-clause-done g c =
    let new = stage c.measure_logged-streams.result.0 (Some c.began-moment.result.utc) (acts_of (Some c.into_link-in-Some-2.result)) c.measure_logged-streams.new.kept.turns in
    measures_handed_back _ _ _ _ _ _ c.measure_logged-streams.result.1
    c.hand_back-ended-in-Some.result.0 c.into_link-in-Some-2.result c.hand_back-ended-in-Some.result.1 c.hand_back-ended-in-Some.ensures.same
    (IfOk-weaker c.measure_logged-streams.result.1 _ _
    (λ status d zero. measures_all_at_link _ c.args.spot.station _ new c.measure_logged-streams.new.logged.link.link.history.acts c.began-moment.result.utc refl
    (ap (λ l. Some l.history.acts) (c.into_link-in-Some-2.ensures ∙ ap (λ n. n.link) c.into_link-in-Some.ensures)) (d zero))
    (rw (c.new-logged.ensures, c.new-link.ensures, c.in-Ok.ensures.fresh, c.begun-station.ensures) at c.measure_logged-streams.ensures.done))
