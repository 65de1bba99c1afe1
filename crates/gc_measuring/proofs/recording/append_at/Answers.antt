use Rattle.gc_measuring.proofs.Common.{inl, inr, refl, Some, map, ap, subst, sym, ◌∙◌, IfOk-weaker, IfSome, IsMeantAt, place_seen, signals_at, bytes_in}
use Rattle.std.proofs.lemmas.Option.{IfSome_then}
use Rattle.gc_measuring.specs.Recording.{IsBegunAt}
use Rattle.gc_measuring.proofs.Both.{if_ok_both}
use Rattle.gc_measuring.proofs.HandingBack.{appends_left_back, files_left_back, reports_left_back}
use Rattle.gc_measuring.proofs.recording.append_at.Goals as goal

pub returns-in-Ok-clause-told : goal.returns-in-Ok-clause-told
returns-in-Ok-clause-told g c =
    reports_left_back _ _ c.args.spot.station _ _ _ _ c.measure_at-filed.result.1 c.hand_back-ended.result.0
    (record { file = c.with_output-streams.result.1; link = c.measure_at-filed.result.2 }) c.hand_back-ended.result.1 c.hand_back-ended.ensures.same
    (IfOk-weaker c.measure_at-filed.result.1 _ _
    (λ status t. inr (record {
      begun = c.with_output-filed.result.0;
      ended = c.measure_at-filed.result.0;
      filed = record {
        fresh = ap (λ f. Some (bytes_in f)) c.with_output-filed.ensures.output ∙ ap Some c.in-Ok.ensures.begun.fresh;
        left = ap Some c.with_output-streams.ensures.before;
        input = c.with_output-filed.ensures.input;
        read = c.with_output-streams.ensures.input;
        messages = c.with_output-streams.ensures.messages;
      };
      holds = t;
    }))
    (rw (c.for_file-station.ensures) at c.measure_at-filed.ensures.told))

pub returns-in-Ok-clause-done : goal.returns-in-Ok-clause-done
returns-in-Ok-clause-done g c =
    appends_left_back _ c.args.spot.station _ _ _ _ c.measure_at-filed.result.1 c.hand_back-ended.result.0
    (record { file = c.with_output-streams.result.1; link = c.measure_at-filed.result.2 }) c.hand_back-ended.result.1 c.hand_back-ended.ensures.same
    (IfOk-weaker c.measure_at-filed.result.1 _ _
    (λ status d zero. record {
      begun = c.with_output-filed.result.0;
      ended = c.measure_at-filed.result.0;
      filed = record {
        fresh = ap (λ f. Some (bytes_in f)) c.with_output-filed.ensures.output ∙ ap Some c.in-Ok.ensures.begun.fresh;
        left = ap Some c.with_output-streams.ensures.before;
        input = c.with_output-filed.ensures.input;
        read = c.with_output-streams.ensures.input;
        messages = c.with_output-streams.ensures.messages;
      };
      holds = d zero;
    })
    (rw (c.for_file-station.ensures) at c.measure_at-filed.ensures.done))

pub returns-in-Ok-clause-begun : goal.returns-in-Ok-clause-begun
returns-in-Ok-clause-begun g c =
    files_left_back _ _ _ c.args.spot.station _ _ _ _ c.measure_at-filed.result.1 c.hand_back-ended.result.0
    (record { file = c.with_output-streams.result.1; link = c.measure_at-filed.result.2 }) c.hand_back-ended.result.1 c.hand_back-ended.ensures.same
    (IfOk-weaker c.measure_at-filed.result.1 _ _
    (λ status both. inr (record {
      begun = c.with_output-filed.result.0;
      ended = c.measure_at-filed.result.0;
      filed = record {
        fresh = ap (λ f. Some (bytes_in f)) c.with_output-filed.ensures.output ∙ ap Some c.in-Ok.ensures.begun.fresh;
        left = ap Some c.with_output-streams.ensures.before;
        input = c.with_output-filed.ensures.input;
        read = c.with_output-streams.ensures.input;
        messages = c.with_output-streams.ensures.messages;
      };
      holds = record {
        begun = subst (IsBegunAt c.args.recording c.args.spot.station (map (λ n. n.items) c.args.columns.now)) (sym c.with_output-filed.ensures.output) c.in-Ok.ensures.begun;
        told = both.0;
        done = both.1;
      };
    }))
    (if_ok_both c.measure_at-filed.result.1 _ _
    (rw (c.for_file-station.ensures) at c.measure_at-filed.ensures.told)
    (rw (c.for_file-station.ensures) at c.measure_at-filed.ensures.done)))

pub returns-in-Ok-clause-place : goal.returns-in-Ok-clause-place
returns-in-Ok-clause-place g c =
    IfSome_then c.hand_back-ended.result.1 c.hand_back-ended.ensures.given
    (λ kept is.
    subst (λ left. IfSome left.link (λ link. ∥ IsMeantAt (place_seen c.args.spot.site.place) (signals_at c.args.spot.site.signals) link ∥₁)) (sym is)
    c.measure_at-filed.ensures.place)

pub returns-in-Err-clause-told : goal.returns-in-Err-clause-told
returns-in-Err-clause-told g c =
    IfOk-weaker c.refuse_file-ended.result _ _
    (λ status told. inl (record { why = c.in-Err.why; is = told.0; tells = rw (c.in-Err.ensures.untold) at told.1; unread = refl }))
    c.refuse_file-ended.ensures.told

pub returns-in-Err-clause-begun : goal.returns-in-Err-clause-begun
returns-in-Err-clause-begun g c =
    IfOk-weaker c.refuse_file-ended.result _ _
    (λ status told. inl (record {
      refuses = record { why = c.in-Err.why; is = told.0; tells = rw (c.in-Err.ensures.untold) at told.1; unread = refl };
      acts = refl;
      turns = refl;
      file = refl;
    }))
    c.refuse_file-ended.ensures.told
