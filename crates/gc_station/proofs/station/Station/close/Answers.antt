use Rattle.gc_station.proofs.Common.{refl, ap, ◌∙◌, Waiting, Closed, waiting_of}
use Rattle.gc_station.proofs.Hearing.{outstanding_commands_same, closed_same}
use Rattle.gc_station.proofs.station.Station.close.Goals as goal

pub returns : goal.returns
returns g c commands text known =
    let old = c.args.self.now in
    let plan = c.args.plan.now in
    let w = c.waiting-waiting.result in
    let is = c.waiting-waiting.ensures in
    record {
      act = Closed;
      tells = c.close.ensures;
      goes = λ s start stands so. (
        refl,
        record {
          progress = c.close-2.ensures
              ∙ closed_same plan w (waiting_of s) c.args.cause old.progress s.progress (ap (λ (x : Waiting). x.commands) is ∙ outstanding_commands_same old s stands) stands.progress;
          ids = stands.ids;
          width = stands.width;
          marks = stands.marks;
          paired = stands.paired;
          assembles = c.new-self.ensures;
          tally = stands.tally;
          well = stands.well;
          listed = stands.listed;
          fresh = stands.fresh;
          reads = stands.reads;
          firsts = stands.firsts;
          counts = stands.counts;
        },
        so,
      );
    }
