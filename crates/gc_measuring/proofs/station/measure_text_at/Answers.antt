use Rattle.gc_measuring.proofs.Common.{inl, inr, refl, Some, map, ap, ◌∙◌, IfOk-weaker}
use Rattle.gc_measuring.proofs.Both.{if_ok_both}
use Rattle.gc_measuring.proofs.station.measure_text_at.Goals as goal

pub returns-clause-told : goal.returns-clause-told
returns-clause-told g c =
    IfOk-weaker c.measure_at-left.result.1 _ _
    (λ status both. inr (record {
      text = c.in-Ok.read.text.items;
      columns = map (λ n. n.items) c.in-Ok.read.columns.items;
      read = c.in-Ok.ensures.read;
      begun = record { input = c.new.result; output = c.text_at.new.streams.output; messages = c.text_at.new.streams.messages };
      ended = c.measure_at-left.result.0;
      over_text = record { gives = c.new.ensures.bytes ∙ ap Some c.as_slice.ensures.value; unread = c.new.ensures.reads; output = c.in-Ok.ensures.output; messages = c.in-Ok.ensures.untold };
      output = refl;
      holds = record { told = both.0; done = both.1; messages = refl };
    }))
    (if_ok_both c.measure_at-left.result.1 _ _ c.measure_at-left.ensures.told c.measure_at-left.ensures.done)

pub returns-in-Err-clause-told : goal.returns-in-Err-clause-told
returns-in-Err-clause-told g c =
    IfOk-weaker c.in-Err.ended _ _
    (λ status refused. inl (record { refuses = refused; acts = refl; turns = refl }))
    c.in-Err.ensures.refused
