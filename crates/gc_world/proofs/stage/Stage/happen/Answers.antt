use Rattle.gc_world.proofs.Common.{sym, subst, false≢true, TakesNoMemory, stage_parts, staging, Follows}
use Rattle.gc_world.proofs.Shown.{up_lost, up_repeated, down_lost, down_repeated}
use Rattle.gc_world.proofs.Sparing.{full, none_up, no_repeat_up, no_repeat_down, some_in_flight}
use Rattle.gc_world.proofs.stage.Stage.happen.Goals as goal

-- What the event's own method says of it. The search finds some of these, at its limits.

pub returns-in_ok-send-in-Send-clause-follows : goal.returns-in_ok-send-in-Send-clause-follows
returns-in_ok-send-in-Send-clause-follows g c =
    subst (λ event. Follows (staging g.I.Executes.acts) c.args.self.now event c.send.new.self) (sym c.in-Send.is) c.in_ok-send-in-Send.ensures.follows

pub returns-in_ok-up_deliver-in-UpDeliver-clause-follows : goal.returns-in_ok-up_deliver-in-UpDeliver-clause-follows
returns-in_ok-up_deliver-in-UpDeliver-clause-follows g c =
    subst (λ event. Follows (staging g.I.Executes.acts) c.args.self.now event c.up_deliver.new.self) (sym c.in-UpDeliver.is) c.in_ok-up_deliver-in-UpDeliver.ensures.follows

pub returns-in_ok-deliver_bytes-in-UpBytes-clause-follows : goal.returns-in_ok-deliver_bytes-in-UpBytes-clause-follows
returns-in_ok-deliver_bytes-in-UpBytes-clause-follows g c =
    subst (λ event. Follows (staging g.I.Executes.acts) c.args.self.now event c.deliver_bytes.new.self) (sym c.in-UpBytes.is) c.in_ok-deliver_bytes-in-UpBytes.ensures.follows

pub returns-in_ok-down_deliver-in-DownDeliver-clause-follows : goal.returns-in_ok-down_deliver-in-DownDeliver-clause-follows
returns-in_ok-down_deliver-in-DownDeliver-clause-follows g c =
    subst (λ event. Follows (staging g.I.Executes.acts) c.args.self.now event c.down_deliver.new.self) (sym c.in-DownDeliver.is) c.in_ok-down_deliver-in-DownDeliver.ensures.follows

pub returns-in_ok-deliver_bytes-in-DownBytes-clause-follows : goal.returns-in_ok-deliver_bytes-in-DownBytes-clause-follows
returns-in_ok-deliver_bytes-in-DownBytes-clause-follows g c =
    subst (λ event. Follows (staging g.I.Executes.acts) c.args.self.now event c.deliver_bytes-in-DownBytes.new.self) (sym c.in-DownBytes.is) c.in_ok-deliver_bytes-in-DownBytes.ensures.follows

pub returns-in_ok-restart_client-in-RestartClient-clause-follows : goal.returns-in_ok-restart_client-in-RestartClient-clause-follows
returns-in_ok-restart_client-in-RestartClient-clause-follows g c =
    subst (λ event. Follows (staging g.I.Executes.acts) c.args.self.now event c.restart_client.new.self) (sym c.in-RestartClient.is) c.in_ok-restart_client-in-RestartClient.ensures.follows

pub returns-in_ok-restart_instrument-in-RestartInstrument-clause-follows : goal.returns-in_ok-restart_instrument-in-RestartInstrument-clause-follows
returns-in_ok-restart_instrument-in-RestartInstrument-clause-follows g c =
    subst (λ event. Follows (staging g.I.Executes.acts) c.args.self.now event c.restart_instrument.new.self) (sym c.in-RestartInstrument.is) c.in_ok-restart_instrument-in-RestartInstrument.ensures.follows

pub returns-in-Expire-clause-follows : goal.returns-in-Expire-clause-follows
returns-in-Expire-clause-follows g c =
    subst (λ event. Follows (staging g.I.Executes.acts) c.args.self.now event c.expire.new.self) (sym c.in-Expire.is) c.expire.ensures

pub returns-in-UpLose-clause-follows : goal.returns-in-UpLose-clause-follows
returns-in-UpLose-clause-follows g c =
    let s = c.args.self.now in
    subst (λ event. Follows (staging g.I.Executes.acts) s event (record s { report = record s.report { idle_events = c.lose.new.idle }; up = c.lose.new.self })) (sym c.in-UpLose.is)
    (λ width v h. up_lost g.I.Executes.acts width (stage_parts s) v h c.in-UpLose.k c.lose.new.self c.lose.new.idle c.lose.ensures)

pub returns-in_ok-repeat-in-UpRepeat-clause-follows : goal.returns-in_ok-repeat-in-UpRepeat-clause-follows
returns-in_ok-repeat-in-UpRepeat-clause-follows g c =
    let s = c.args.self.now in
    subst (λ event. Follows (staging g.I.Executes.acts) s event (record s { report = record s.report { idle_events = c.repeat.new.idle }; up = c.repeat.new.self })) (sym c.in-UpRepeat.is)
    (λ width v h. up_repeated g.I.Executes.acts width (stage_parts s) v h c.in-UpRepeat.k c.repeat.new.self c.repeat.new.idle c.in_ok-repeat-in-UpRepeat.ensures.changes)

pub returns-in-DownLose-clause-follows : goal.returns-in-DownLose-clause-follows
returns-in-DownLose-clause-follows g c =
    let s = c.args.self.now in
    subst (λ event. Follows (staging g.I.Executes.acts) s event (record s { report = record s.report { idle_events = c.lose-in-DownLose.new.idle }; down = c.lose-in-DownLose.new.self })) (sym c.in-DownLose.is)
    (λ width v h. down_lost g.I.Executes.acts width (stage_parts s) v h c.in-DownLose.k c.lose-in-DownLose.new.self c.lose-in-DownLose.new.idle c.lose-in-DownLose.ensures)

pub returns-in_ok-repeat-in-DownRepeat-clause-follows : goal.returns-in_ok-repeat-in-DownRepeat-clause-follows
returns-in_ok-repeat-in-DownRepeat-clause-follows g c =
    let s = c.args.self.now in
    subst (λ event. Follows (staging g.I.Executes.acts) s event (record s { report = record s.report { idle_events = c.repeat-in-DownRepeat.new.idle }; down = c.repeat-in-DownRepeat.new.self })) (sym c.in-DownRepeat.is)
    (λ width v h. down_repeated g.I.Executes.acts width (stage_parts s) v h c.in-DownRepeat.k c.repeat-in-DownRepeat.new.self c.repeat-in-DownRepeat.new.idle c.in_ok-repeat-in-DownRepeat.ensures.changes)

-- An event that takes no memory doesn't fail for memory.

pub returns-in_err-send-in-Send-clause-spare : goal.returns-in_err-send-in-Send-clause-spare
returns-in_err-send-in-Send-clause-spare g c =
    let s = c.args.self.now in
    λ width v h none. absurd (false≢true (c.in_err-send-in-Send.ensures.spare
    (full g.I.Executes.acts width s.report s.up.queue s.down.queue s.client v.world h.lines (subst (λ event. TakesNoMemory width v event) c.in-Send.is none))))

pub returns-in_err-up_deliver-in-UpDeliver-clause-spare : goal.returns-in_err-up_deliver-in-UpDeliver-clause-spare
returns-in_err-up_deliver-in-UpDeliver-clause-spare g c =
    let s = c.args.self.now in
    λ width v h none. absurd (false≢true (c.in_err-up_deliver-in-UpDeliver.ensures.spare
    (none_up g.I.Executes.acts width s.report s.up.queue s.down.queue s.client v.world h.lines (subst (λ event. TakesNoMemory width v event) c.in-UpDeliver.is none))))

pub returns-in_err-deliver_bytes-in-UpBytes-clause-spare : goal.returns-in_err-deliver_bytes-in-UpBytes-clause-spare
returns-in_err-deliver_bytes-in-UpBytes-clause-spare g c =
    λ width v h none. absurd (false≢true (c.in_err-deliver_bytes-in-UpBytes.ensures.spare width v h (subst (λ event. TakesNoMemory width v event) c.in-UpBytes.is none)))

pub returns-in_err-repeat-in-UpRepeat-clause-spare : goal.returns-in_err-repeat-in-UpRepeat-clause-spare
returns-in_err-repeat-in-UpRepeat-clause-spare g c =
    let s = c.args.self.now in
    λ width v h none. absurd (false≢true (c.in_err-repeat-in-UpRepeat.ensures.spare
    (no_repeat_up g.I.Executes.acts width s.report s.up.queue s.down.queue s.client v.world h.lines c.in-UpRepeat.k s.up.gone v.up_gone h.up_is
    (subst (λ event. TakesNoMemory width v event) c.in-UpRepeat.is none))))

pub returns-in_err-down_deliver-in-DownDeliver-clause-spare : goal.returns-in_err-down_deliver-in-DownDeliver-clause-spare
returns-in_err-down_deliver-in-DownDeliver-clause-spare g c =
    λ width v h none. absurd (false≢true (c.in_err-down_deliver-in-DownDeliver.ensures.spare width v h (subst (λ event. TakesNoMemory width v event) c.in-DownDeliver.is none)))

pub returns-in_err-deliver_bytes-in-DownBytes-clause-spare : goal.returns-in_err-deliver_bytes-in-DownBytes-clause-spare
returns-in_err-deliver_bytes-in-DownBytes-clause-spare g c =
    λ width v h none. absurd (false≢true (c.in_err-deliver_bytes-in-DownBytes.ensures.spare width v h (subst (λ event. TakesNoMemory width v event) c.in-DownBytes.is none)))

pub returns-in_err-repeat-in-DownRepeat-clause-spare : goal.returns-in_err-repeat-in-DownRepeat-clause-spare
returns-in_err-repeat-in-DownRepeat-clause-spare g c =
    let s = c.args.self.now in
    λ width v h none. absurd (false≢true (c.in_err-repeat-in-DownRepeat.ensures.spare
    (no_repeat_down g.I.Executes.acts width s.report s.up.queue s.down.queue s.client v.world h.lines c.in-DownRepeat.k s.down.gone v.down_gone h.down_is
    (subst (λ event. TakesNoMemory width v event) c.in-DownRepeat.is none))))

pub returns-in_err-restart_client-in-RestartClient-clause-spare : goal.returns-in_err-restart_client-in-RestartClient-clause-spare
returns-in_err-restart_client-in-RestartClient-clause-spare g c =
    let s = c.args.self.now in
    λ width v h none. absurd (false≢true (c.in_err-restart_client-in-RestartClient.ensures.spare
    (some_in_flight g.I.Executes.acts width s.report s.up.queue s.down.queue s.client v.world h.lines (subst (λ event. TakesNoMemory width v event) c.in-RestartClient.is none))))

pub returns-in_err-restart_instrument-in-RestartInstrument-clause-spare : goal.returns-in_err-restart_instrument-in-RestartInstrument-clause-spare
returns-in_err-restart_instrument-in-RestartInstrument-clause-spare g c =
    let s = c.args.self.now in
    λ width v h none. absurd (false≢true (c.in_err-restart_instrument-in-RestartInstrument.ensures.spare
    (some_in_flight g.I.Executes.acts width s.report s.up.queue s.down.queue s.client v.world h.lines (subst (λ event. TakesNoMemory width v event) c.in-RestartInstrument.is none))))
