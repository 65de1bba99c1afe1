use Rattle.gc_station.proofs.Common.{refl, ap, ◌∙◌, Told, cycle_length, with_moment, first_upcoming, Progress, cycle_begun}
use Rattle.gc_station.proofs.Hearing.{refines_timed_out, untold_does}
use Rattle.gc_station.proofs.Making.{refines_with}
use Rattle.gc_station.proofs.station.Station.begin.Goals as goal

pub returns-in-Some : goal.returns-in-Some
returns-in-Some g c text known =
    let m = c.in-Some.moment in
    let plan = c.args.plan.now in
    let mid = c.read_moment.new.self in
    record {
      act = Told m;
      tells = c.in-Some.ensures.0;
      goes = λ s start stands so. (
        tt,
        refines_with mid c.begin_cycle.new.self (cycle_begun plan (cycle_length plan c.args.commands.now) (first_upcoming plan c.args.commands.now s.progress) m) (with_moment m s)
            (refines_timed_out c.args.self.now mid m s stands c.in-Some.ensures.1)
            (c.begin_cycle.ensures ∙ ap (λ n. cycle_begun plan n c.first_upcoming-next.result m mid.progress) c.saturating_sub-count.ensures
            ∙ ap (λ next. cycle_begun plan (cycle_length plan c.args.commands.now) next m mid.progress) c.first_upcoming-next.ensures
            ∙ ap (λ (p : Progress). cycle_begun plan (cycle_length plan c.args.commands.now) (first_upcoming plan c.args.commands.now p) m mid.progress)
            (refines_timed_out c.args.self.now mid m s stands c.in-Some.ensures.1).progress),
        so,
      );
    }

pub returns-in_default : goal.returns-in_default
returns-in_default g c text known = untold_does (λ s. tt) (λ s. refl) c.in_default.ensures text known
