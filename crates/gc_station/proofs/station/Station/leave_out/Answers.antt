use Rattle.gc_station.proofs.Common.{refl, sym, ap, subst, Told, Pass, Progress, Station, commands_in, next_left_out, with_more_passes, with_moment, moved, upcoming_after, early_noted, attempts_left_out, Refines}
use Rattle.gc_station.proofs.Hearing.{refines_timed_out, untold_does}
use Rattle.gc_station.proofs.Making.{refines_with}
use Rattle.gc_station.proofs.station.Station.leave_out.Goals as goal

pub returns-in-Some : goal.returns-in-Some
returns-in-Some g c text known =
    let old = c.args.self.now in
    let mid = c.read_moment.new.self in
    let plan = c.args.plan.now in
    let commands = c.args.commands.now in
    let m = c.in-Some.moment in
    let goes_on : Progress → Progress = λ p. attempts_left_out (upcoming_after plan p.next_others commands p) m p in
    record {
      act = Told m;
      tells = c.in-Some.ensures.0;
      goes = λ s start stands so.
          let there : Refines old (with_more_passes (next_left_out plan commands s.progress) s) = record {
            progress = stands.progress;
            ids = stands.ids;
            width = stands.width;
            marks = stands.marks;
            paired = stands.paired;
            assembles = stands.assembles;
            tally = stands.tally;
            well = stands.well;
            listed = stands.listed;
            fresh = stands.fresh;
            reads = stands.reads;
            firsts = stands.firsts;
            counts = stands.counts;
          } in
          let here = refines_timed_out old mid m (with_more_passes (next_left_out plan commands s.progress) s) there c.in-Some.ensures.1 in
          let noted = ap (λ k. early_noted plan k (goes_on mid.progress)) (ap commands_in here.marks) in (
            tt,
            subst (λ (x : Station). Refines x (moved plan commands Pass s (Told m))) (sym c.advance_unsent.ensures)
                (refines_with mid (early_noted plan (commands_in mid.marks.items) (goes_on mid.progress)) (λ p. early_noted plan (commands_in s.marks) (goes_on p))
                (with_moment m (with_more_passes (next_left_out plan commands s.progress) s)) here noted),
            so,
          );
    }

pub returns-in_default : goal.returns-in_default
returns-in_default g c text known = untold_does (λ s. tt) (λ s. refl) c.in_default.ensures text known
