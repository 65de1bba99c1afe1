-- What a run over a link measured, once it is known when the link was made, and which acts it recorded.
use Rattle.gc_measuring.proofs.Common.{◌≡◌, ℕ, Bool, List, Some, None, sym, subst, Act, IsMeasured, MeasuresGiven, MeasuresAll, MeasuresAllAtLink, MeasuresAtLink, ReportsMeasuring, Stage, Views, seen_at, with_messages, Settings}
use Rattle.gc_options.specs.Prelude.{begun_at}

-- a run that measured, as it reports, and whose link was made at the moment `run` and recorded the acts `told`, measured over that link
pub measures_at_link : {S K E : Type 0} (views : Views S K E) (station : Settings) (old new : Stage S K E) (told : List Act) (run : ℕ) (is_lost : Bool) (status : ℕ)
    → new.began ≡ Some run → new.acts ≡ Some told
    → (reports : ReportsMeasuring views (begun_at run station) old (record new { began = None; acts = Some told }) is_lost status)
    → MeasuresAtLink views station old (with_messages new reports.between) reports.end
measures_at_link views station old new told run is_lost status began is reports = record {
  told = told;
  is = is;
  run = run;
  began = began;
  measured =
      subst (λ acts. MeasuresGiven (begun_at run station) (seen_at views old) (seen_at views (with_messages (record new { acts = acts }) reports.between)) reports.end) (sym is)
      reports.measured;
  all_last = reports.all_last;
}

-- a run that is done, and whose link was made at the moment `run` and recorded the acts `told`, is done over that link
pub measures_all_at_link : {S K E : Type 0} (views : Views S K E) (station : Settings) (old new : Stage S K E) (told : List Act) (run : ℕ)
    → new.began ≡ Some run → new.acts ≡ Some told → MeasuresAll views (begun_at run station) old (record new { began = None; acts = Some told })
    → MeasuresAllAtLink views station old new
measures_all_at_link views station old new told run began is all = record {
  told = told;
  is = is;
  run = run;
  began = began;
  all = record {
    between = all.between;
    is = subst (λ acts. IsMeasured (begun_at run station) (seen_at views old) (seen_at views (with_messages (record new { acts = acts }) all.between))) (sym is) all.is;
  };
}
