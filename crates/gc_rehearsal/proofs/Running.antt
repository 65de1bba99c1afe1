-- Runs of a station, one after the other.
use Rattle.gc_rehearsal.proofs.Common.{◌≡◌, ℕ, Bool, true, false, List, [], ◌∷◌, ◌++◌, Option, None, Some, Result, Ok, Err, inl, inr, refl, sym, ap, subst, ◌∙◌, append_assoc, append-nil, AllByRecursion, IfSome, Act, Closed, IsOfLine, CarriesNothing, told, Task, AreAskable, RehearsedStation, IsRunOf, AreRuns, AddRuns, AreRunsUnlessAltered, acts_of_all}
use Rattle.gc_station.proofs.Lists.{all_append}
use Rattle.gc_station.specs.Prelude.{Runs, opening, Record, Ran, Scope}
use Rattle.gc_station.specs.declared.plan.Plan.{Plan}
use Rattle.gc_station.specs.declared.tally.Tally.{Tally}
use Rattle.gc_texts.specs.declared.fault.RunFault.{RunFault}
use Rattle.gc_texts.specs.declared.fault.RunFault.TheVariants.{Output}

-- where the acts before and after are the same, they are those of no run at all (`AddRuns`)
pub no_runs : (commands : List Task) (acts : Option (List Act)) → AddRuns commands acts acts
no_runs commands None = tt
no_runs commands (Some acts) = record { stations = []; each = tt; told = sym (append-nil acts) }

-- the acts of some runs and then of others are the acts of all of them in order
acts_of_all_append : (xs ys : List RehearsedStation) → acts_of_all (xs ++ ys) ≡ acts_of_all xs ++ acts_of_all ys
acts_of_all_append [] ys = refl
acts_of_all_append (x ∷ xs) ys =
    ap (λ acts. x.acts ++ (x.after_run ++ acts)) (acts_of_all_append xs ys)
    ∙ ap (λ acts. x.acts ++ acts) (sym (append_assoc x.after_run (acts_of_all xs) (acts_of_all ys)))
    ∙ sym (append_assoc x.acts (x.after_run ++ acts_of_all xs) (acts_of_all ys))

-- runs that made the acts from `old` to `mid`, and then others from `mid` to `new`, made those from `old` to `new`
pub runs_then : (commands : List Task) (old mid new : Option (List Act)) → AddRuns commands old mid → AddRuns commands mid new → AddRuns commands old new
runs_then commands None mid new first second = tt
runs_then commands (Some old) None new first second = absurd first
runs_then commands (Some old) (Some mid) None first second = absurd second
runs_then commands (Some old) (Some mid) (Some new) first second = record {
  stations = first.stations ++ second.stations;
  each = all_append (IsRunOf commands) first.stations second.stations first.each second.each;
  told = second.told ∙ ap (λ acts. acts ++ acts_of_all second.stations) first.told ∙ append_assoc old (acts_of_all first.stations) (acts_of_all second.stations)
      ∙ ap (λ acts. old ++ acts) (sym (acts_of_all_append first.stations second.stations));
}

module _ (plan : Plan) (commands : List Task) (scope : Scope) (text : Record → List ℕ) (askable : AreAskable commands) (taken taken' : Option (List ℕ)) where
  -- where `new` has, after the acts `old`, the acts of a run and then quiet ones, these are those of one run (`AreRuns`)
  run_then_quiet : (old new acts behind : List Act) → Runs plan commands (opening plan scope) acts → AllByRecursion CarriesNothing behind
      → new ≡ old ++ (acts ++ behind) → AreRuns commands old new
  run_then_quiet old new acts behind runs quiet told = record {
    stations = record { plan = plan; commands = commands; scope = scope; acts = acts; after_run = behind } ∷ [];
    each = ((refl, record { askable = askable; runs = runs; quiet = quiet }), tt);
    told = told ∙ ap (λ xs. old ++ (acts ++ xs)) (sym (append-nil behind));
  }

  -- what a run over these commands (`Ran`) added to the acts is that of one run (`AreRuns`), however it ended
  one_run_seen : (old new : List Act) (end : Result Tally RunFault) → Ran plan commands scope text (Some old) (Some new) taken taken' end → AreRuns commands old new
  one_run_seen old new (Ok tally) r = run_then_quiet old new r.1.acts [] r.1.runs tt (r.1.tells ∙ ap (λ xs. old ++ xs) (sym (append-nil r.1.acts)))
  one_run_seen old new (Err Output) (inl r) = run_then_quiet old new (r.acts ++ r.last ∷ []) (Closed ∷ []) r.runs (tt, tt) (r.tells ∙ ap (λ xs. old ++ xs) (sym (append_assoc r.acts (r.last ∷ []) (Closed ∷ []))))
  one_run_seen old new (Err Output) (inr r) = run_then_quiet old new r.acts (Closed ∷ []) r.runs (tt, tt) r.tells
  one_run_seen old new (Err fault) r = run_then_quiet old new r.2.acts [] r.2.runs tt (r.2.tells ∙ ap (λ xs. old ++ xs) (sym (append-nil r.2.acts)))

  -- a run over these commands leaves the acts seen that were seen before it
  stays_seen : (old : List Act) (end : Result Tally RunFault) → Ran plan commands scope text (Some old) None taken taken' end → ⊥
  stays_seen old (Ok tally) r = r.1.tells
  stays_seen old (Err Output) (inl r) = r.tells
  stays_seen old (Err Output) (inr r) = r.tells
  stays_seen old (Err fault) r = r.2.tells

  -- what a run over these commands (`Ran`) added to the acts, if they are seen, is that of one run (`AddRuns`), however it ended
  pub run_is_one : (old new : Option (List Act)) (end : Result Tally RunFault) → Ran plan commands scope text old new taken taken' end → AddRuns commands old new
  run_is_one None new end r = tt
  run_is_one (Some old) None end r = absurd (stays_seen old end r)
  run_is_one (Some old) (Some new) end r = one_run_seen old new end r

-- runs over the link of a rehearsal, new before them, are as `AreRunsUnlessAltered` says
pub runs_unless_altered : (alters : Bool) (commands : List Task) (old new : Option (List Act)) → IfSome new IsOfLine → old ≡ told alters [] → AddRuns commands old new
    → AreRunsUnlessAltered alters commands new
runs_unless_altered true commands old new line is runs sure = let wrong : ◌≡◌ {A = Bool} true false = sure in cc
runs_unless_altered false commands old None line is runs sure = absurd (subst (λ x. AddRuns commands x None) is runs)
runs_unless_altered false commands old (Some acts) line is runs sure =
    (acts, refl, record { runs = subst (λ x. AddRuns commands x (Some acts)) is runs; line = line })
