use Rattle.gc_station.proofs.Common.{ap, ◌∙◌, Unopened, commands_in, after_failure}
use Rattle.gc_station.specs.declared.cause.Cause.TheVariants as cause
use Rattle.gc_station.proofs.station.Station.open.Goals as goal

pub returns-in-Err : goal.returns-in-Err
returns-in-Err g c commands text known =
    let old = c.args.self.now in
    let plan = c.args.plan.now in
    record {
      act = Unopened;
      tells = c.in-Err.ensures;
      goes = λ s start stands so. (
        tt,
        record {
          progress = c.note_unconnected.ensures ∙ ap (λ n. after_failure plan n cause.Open old.progress) (c.commands_waiting-commands.ensures ∙ ap commands_in stands.marks)
              ∙ ap (after_failure plan (commands_in s.marks) cause.Open) stands.progress;
          ids = stands.ids;
          width = stands.width;
          marks = stands.marks;
          paired = stands.paired;
          assembles = stands.assembles;
          tally = stands.tally;
          well = stands.well;
          listed = stands.listed;
          fresh = stands.fresh;
          reads = stands.reads;
          firsts = stands.firsts;
          counts = stands.counts;
        },
        so,
      );
    }
