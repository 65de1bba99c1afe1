use Rattle.gc_station.proofs.Common.{◌≡◌, ◌<◌, ◌≤◌, List, ◌++◌, length, drop, ap, sym, ◌∙◌, arith, subst, Appends, Clock, Progress, Station, Told, commands_in, failing, skipped, early_noted, Record, WritesPart, texts_of, listed_after_skip, unsent_record, with_moment, with_progress, with_listed, with_more_records, listed_unsent, place_next, mark_next, upcoming_after, Refines, station_expiring, station_advancing}
use Rattle.std.proofs.Common.{length-drop}
use Rattle.gc_station.proofs.Hearing.{refines_timed_out, untold_does}
use Rattle.gc_station.proofs.Making.{refines_with, skips_unwell, skips_no_first, skipped_refines, with_no_records}
use Rattle.gc_station.proofs.station.Station.skip.Goals as goal

pub returns-in_default-clause-does : goal.returns-in_default-clause-does
returns-in_default-clause-does g c =
    let old = c.args.self.now in
    let timed = c.read_moment.new.self in
    let mid = c.write_unsent.new.self in
    let plan = c.args.plan.now in
    let commands = c.args.commands.now in
    let m = c.in-Some.moment in
    let read : timed ≡ station_expiring m.elapsed old = c.in-Some.ensures.1 in
    let p = timed.progress in
    let rs = unsent_record plan commands p (Told m) in
    let unsent = subst (λ (x : Station). 0 < x.progress.unsent) (sym read) c.requires.unsent in
    let within = subst (λ (x : Station). x.progress.unsent ≤ length commands) (sym read) c.requires.within in
    let below : place_next commands p < length commands = omega (arith, unsent, within) in
    let some : 0 < length (drop (place_next commands p) commands) =
    omega (arith, length-drop (place_next commands p) commands, below) in
    let goes_on : Progress → Progress = λ x. skipped (upcoming_after plan 1 commands x) m x in
    record {
      act = Told m;
      tells = c.in-Some.ensures.0;
      goes = λ s start stands so.
          let q = s.progress in
          let listed = listed_after_skip plan commands s (Told m) in
          let here = refines_timed_out old timed m s stands read in
          let is = here.progress in
          let same = ap (λ (x : Station). x.progress) c.in_default.ensures.after ∙ is in
          let here_stands : Refines mid (with_listed listed (with_more_records rs (with_moment m s))) = skipped_refines timed mid (with_moment m s) rs
          (listed_unsent plan commands p timed.recorded.listed) listed here
          (λ b. skips_unwell b p m (mark_next plan commands p) (drop (place_next commands p) commands) some)
          (λ fs. skips_no_first p m (mark_next plan commands p) (drop (place_next commands p) commands) fs)
          (λ are. ap (λ b. listed_unsent plan commands p b) (here.listed are) ∙ ap (λ (x : Progress). listed_unsent plan commands x s.listed) is)
          c.in_default.ensures.after in
          let rs' = ap (λ (x : Progress). unsent_record plan commands x (Told m)) is in
          let there : Refines mid (with_listed listed (with_more_records (unsent_record plan commands q (Told m)) (with_moment m s))) = subst
          (λ (xs : List Record). Refines mid (with_listed listed (with_more_records xs (with_moment m s)))) rs' here_stands in
          let ends : Progress → Progress = λ x. early_noted plan (commands_in s.marks) (skipped (upcoming_after plan 1 commands q) m x) in
          let progress : early_noted plan (commands_in mid.marks.items) (goes_on mid.progress) ≡ ends mid.progress =
          ap (λ n. early_noted plan n (goes_on mid.progress)) (ap commands_in there.marks)
          ∙ ap (λ (x : Progress). early_noted plan (commands_in s.marks) (skipped (upcoming_after plan 1 commands x) m mid.progress)) same in (
            tt,
            subst (λ (x : Station). Refines x (with_progress ends (with_listed listed (with_more_records (unsent_record plan commands q (Told m)) (with_moment m s)))))
                (sym {b = station_advancing plan commands 1 m mid} c.advance_unsent.ensures)
                (refines_with mid (early_noted plan (commands_in mid.marks.items) (goes_on mid.progress)) ends
                (with_listed listed (with_more_records (unsent_record plan commands q (Told m)) (with_moment m s))) there progress),
            λ are. subst (λ (xs : List Record). Appends start (g.B.Book.taken c.write_unsent.new.book)
                (texts_of (g.B.Book.text c.args.book.now) (s.records ++ xs))) rs' (c.in_default.ensures.wrote start s.records (so are)),
          );
    }

pub returns-in-Err-clause-does : goal.returns-in-Err-clause-does
returns-in-Err-clause-does g c =
    let old = c.args.self.now in
    let timed = c.read_moment.new.self in
    let plan = c.args.plan.now in
    let commands = c.args.commands.now in
    let m = c.in-Some.moment in
    record {
      act = Told m;
      tells = c.in-Some.ensures.0;
      goes = λ s start stands so.
          let rs' = ap (λ (x : Progress). unsent_record plan commands x (Told m)) (refines_timed_out old timed m s stands c.in-Some.ensures.1).progress in (
            tt,
            λ are. subst (λ (xs : List Record). WritesPart (g.B.Book.text c.args.book.now) s.records (s.records ++ xs) start (g.B.Book.taken c.write_unsent.new.book)) rs'
                (c.in-Err.ensures.wrote start s.records (so are)),
          );
    }

pub returns-in-None-clause-does : goal.returns-in-None-clause-does
returns-in-None-clause-does g c =
    untold_does (λ s. tt) (λ s. ap (with_progress (failing Clock)) (sym (with_no_records s))) c.in-None.ensures
    (g.B.Book.text c.args.book.now) (g.B.Book.taken c.args.book.now)
