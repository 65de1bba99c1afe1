use Rattle.gc_measuring.proofs.Common.{inl, inr, refl, Some, map, ap, sym, ◌∙◌, IfOk-weaker}
use Rattle.gc_measuring.proofs.recording.append_text_at.Goals as goal

pub returns-clause-told : goal.returns-clause-told
returns-clause-told g c =
    IfOk-weaker c.append_at-left.result.1 _ _
    (λ status ended. inr (record {
      text = c.in-Ok.read.text.items;
      columns = map (λ n. n.items) c.as_slice-2.result.now;
      read = rw (sym c.as_slice-2.ensures.value) at c.in-Ok.ensures.read;
      begun = record { input = c.new.result; output = c.text_at.new.streams.output; messages = c.text_at.new.streams.messages };
      ended = c.append_at-left.result.0;
      over_text = record { gives = c.new.ensures.bytes ∙ ap Some c.as_slice.ensures.value; unread = c.new.ensures.reads; output = c.in-Ok.ensures.output; messages = c.in-Ok.ensures.untold };
      output = refl;
      holds = record { ended = ended; output = c.append_at-left.ensures.output };
    }))
    c.append_at-left.ensures.begun
