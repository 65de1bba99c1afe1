use Rattle.gc_station.proofs.Common.{refl, ap, ◌∙◌, Told, Progress, commands_in, with_moment, moment_noted, early_noted}
use Rattle.gc_station.proofs.Hearing.{refines_timed_out, untold_does}
use Rattle.gc_station.proofs.Making.{refines_with}
use Rattle.gc_station.proofs.station.Station.read_clock.Goals as goal

pub returns-in-Some : goal.returns-in-Some
returns-in-Some g c commands text known =
    let m = c.in-Some.moment in
    let plan = c.args.plan.now in
    let mid = c.read_moment.new.self in
    record {
      act = Told m;
      tells = c.in-Some.ensures.0;
      goes = λ s start stands so.
          let here = refines_timed_out c.args.self.now mid m s stands c.in-Some.ensures.1 in
          let count = c.commands_waiting-commands.ensures ∙ ap commands_in here.marks in (
            tt,
            refines_with mid c.note_early.new.self (λ (p : Progress). early_noted plan (commands_in s.marks) (moment_noted m p)) (with_moment m s) here
                (c.note_early.ensures ∙ ap (λ n. early_noted plan n c.note_moment.new.self) count ∙ ap (early_noted plan (commands_in s.marks)) c.note_moment.ensures),
            so,
          );
    }

pub returns-in_default : goal.returns-in_default
returns-in_default g c commands text known = untold_does (λ s. tt) (λ s. refl) c.in_default.ensures text known
