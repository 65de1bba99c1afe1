use Rattle.gc_world.proofs.Common.{◌≡◌, ◌≤◌, ◌∷◌, ◌++◌, length, Some, sym, ◌∙◌, ap, subst, option_map, slice_get, false≢true, slice_get_within, Down, Made, stage_parts, down_texts}
use Rattle.gc_world.proofs.Showing.{none_settled}
use Rattle.gc_world.proofs.Shown.{carries, front_reply, streams_down_deliver}
use Rattle.gc_world.proofs.Sides.{front_flow}
use Rattle.gc_world.proofs.Sparing.{stray}
use Rattle.gc_world.proofs.stage.Stage.down_deliver.Goals as goal

pub at-requires : goal.at-requires
at-requires g c =
    let s = stage_parts c.args.self.now in
    let shown = c.requires.shown in
    let front = front_reply g.I.Executes.acts shown.0 s shown.1 shown.2 c.in-Some.place c.take_front.new.self c.in-Some.ensures in
    slice_get_within s.report.made c.in-Some.place front.0 front.1

pub finish-reply-requires-clause-flow : goal.finish-reply-requires-clause-flow
finish-reply-requires-clause-flow g c =
    let s = stage_parts c.args.self.now in
    let shown = c.requires.shown in
    let texts = down_texts shown.1.world.wire in
    let text : option_map (λ (m : Made). m.line.items) (slice_get s.report.made c.in-Some.place) ≡ Some c.as_slice-line.result.now =
    ap (option_map (λ (m : Made). m.line.items)) c.at.ensures ∙ ap Some (sym c.as_slice-line.ensures.value) in
    front_flow Down s.report s.down texts (carries g.I.Executes.acts shown.0 s shown.1 shown.2 Down) c.in-Some.place c.take_front.new.self c.as_slice-line.result.now c.in-Some.ensures text

pub returns-in_err-append_all-clause-spare : goal.returns-in_err-append_all-clause-spare
returns-in_err-append_all-clause-spare g c =
    let s = stage_parts c.args.self.now in
    let shown = c.requires.shown in
    let line = c.at.result.now.line in
    let reply = c.finish-reply.result.now in
    let came : reply ≡ c.as_slice-line.result.now = c.finish-reply.ensures.line in
    let out : reply ≡ line.items = came ∙ c.as_slice-line.ensures.value in
    let fits : length reply ≤ 512 = subst (λ l. length l ≤ 512) (sym came) c.as_slice-line.ensures.fits in
    λ width v h t. absurd (false≢true (sym (stray g.I.Executes.acts width s.report s.up.queue s.down.queue s.client v.world h.lines c.in-Some.place c.take_front.new.self
    c.at.result.now reply c.in-Some.ensures c.at.ensures out t) ∙ c.in-Settled.ensures.heard fits))

pub returns-in_ok-append_all-clause-follows : goal.returns-in_ok-append_all-clause-follows
returns-in_ok-append_all-clause-follows g c =
    let s = stage_parts c.args.self.now in
    let shown = c.requires.shown in
    let line = c.at.result.now.line in
    let reply = c.finish-reply.result.now in
    let came : reply ≡ c.as_slice-line.result.now = c.finish-reply.ensures.line in
    let out : reply ≡ line.items = came ∙ c.as_slice-line.ensures.value in
    let fits : length reply ≤ 512 = subst (λ l. length l ≤ 512) (sym came) c.as_slice-line.ensures.fits in
    λ width v h. streams_down_deliver g.I.Executes.acts width s v h c.finish-reply.new.self (record {
      place = c.in-Some.place;
      reply = c.at.result.now;
      line = reply;
      more = c.hear.new.settled.items;
      settled = c.append_all.new.self;
      client = c.hear.new.self;
      front = c.in-Some.ensures ∙ ap (λ q. c.in-Some.place ∷ q) (sym c.finish-reply.ensures.queue);
      found = c.at.ensures;
      line_is = out;
      more_are = c.hear.ensures.settled fits;
      client_is = c.hear.ensures.client fits;
      settled_is = c.in_ok-append_all.ensures ∙ ap (λ l. s.report.settled ++ l) c.as_slice.ensures.value;
    }) c.finish-reply.ensures.start c.finish-reply.ensures.gone

pub returns-in_default-hear-clause-follows : goal.returns-in_default-hear-clause-follows
returns-in_default-hear-clause-follows g c =
    let s = stage_parts c.args.self.now in
    let shown = c.requires.shown in
    let line = c.at.result.now.line in
    let reply = c.finish-reply.result.now in
    let came : reply ≡ c.as_slice-line.result.now = c.finish-reply.ensures.line in
    let out : reply ≡ line.items = came ∙ c.as_slice-line.ensures.value in
    let fits : length reply ≤ 512 = subst (λ l. length l ≤ 512) (sym came) c.as_slice-line.ensures.fits in
    λ width v h. streams_down_deliver g.I.Executes.acts width s v h c.finish-reply.new.self (record {
      place = c.in-Some.place;
      reply = c.at.result.now;
      line = reply;
      more = c.hear.new.settled.items;
      settled = s.report.settled;
      client = c.hear.new.self;
      front = c.in-Some.ensures ∙ ap (λ q. c.in-Some.place ∷ q) (sym c.finish-reply.ensures.queue);
      found = c.at.ensures;
      line_is = out;
      more_are = c.hear.ensures.settled fits;
      client_is = c.hear.ensures.client fits;
      settled_is = none_settled s.client.ids c.hear.new.self.ids reply c.hear.result c.hear.new.settled.items s.report.settled (c.hear.ensures.heard fits) c.in_default-hear.not-Settled;
    }) c.finish-reply.ensures.start c.finish-reply.ensures.gone
