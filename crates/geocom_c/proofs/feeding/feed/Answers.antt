use Rattle.geocom_c.proofs.Common.{◌∙◌, ◌++◌, ℕ, [], take, arith, refl, sym, ap, subst, frame_of, Frame, StandsForClient, WritesSettled, client_past, frame_kind, GeocomHeard}
use Rattle.geocom_c.specs.Feeding.{settled_by}
use Rattle.geocom_c.proofs.Frames.{stands_with_rest, fed_unended, fed_used}
use Rattle.geocom_c.proofs.feeding.feed.Goals as goal

pub returns : goal.returns
returns c =
    let took = c.take-used.ensures in
    let client = c.args.client in
    let used = c.take-used.result.0 in
    let frame = c.take-used.result.1 in
    let rest_now = c.take-used.new.self in
    let fed = c.feed_frame.ensures.fed in
    let same = c.using.ensures in
    record {
      more = λ rest s none.
          let t = took.more rest s.incomplete none in (
            fed_unended (frame_kind client) (settled_by client) frame c.feed_frame.result c.using.result _ _ used same fed _ refl refl t.1.0 t.0,
            subst (λ (g : Frame). StandsForClient c.feed_frame.new.state (client_past client g) (rest ++ c.args.bytes.now)) t.1.0
                (c.feed_frame.ensures.state (rest ++ c.args.bytes.now) (stands_with_rest c.args.state.now rest_now client rest (rest ++ c.args.bytes.now) s t.1.1)),
          );
      frame = λ rest at s some.
          let t = took.frame rest at s.incomplete some in
          record {
            used_is = ap (λ (x : GeocomHeard). x.used) same ∙ t.0;
            fed = fed_used (frame_kind client) (settled_by client) frame c.feed_frame.result c.using.result _ _ used same fed (frame_of (rest ++ take at c.args.bytes.now)) t.1.0;
            stands = subst (λ (g : Frame). StandsForClient c.feed_frame.new.state (client_past client g) []) t.1.0
                (c.feed_frame.ensures.state [] (stands_with_rest c.args.state.now rest_now client rest [] s t.1.1));
          };
      fault = ap (λ (x : GeocomHeard). x.fault) same ∙ fed.fault;
      used = (
        omega (arith, ap (λ (x : GeocomHeard). x.used) same, took.used.0),
        λ some. omega (arith, ap (λ (x : GeocomHeard). x.used) same, took.used.1 some),
      );
      answered = c.feed_frame.ensures.answered;
      written = subst (λ (n : ℕ). WritesSettled n c.args.settlements.now c.feed_frame.new.settlements c.args.text.now c.feed_frame.new.text)
          (sym (ap (λ (x : GeocomHeard). x.count) same)) c.feed_frame.ensures.written;
    }
