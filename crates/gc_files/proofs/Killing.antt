-- Runs that a kill ends, and what the calls of a run do.
use Rattle.gc_files.proofs.Common.{◌≡◌, inl, inr, ℕ, List, [], ◌∷◌, ◌++◌, take, refl, sym, ◌∙◌, ap, subst, arith, append_assoc, Option, append-nil, Step, Sync, Life, held_after, content, later_by, opened_table, head_written, mended, appended, MendedAndPut, IsFront, ComesTo, synced, Run, run_bytes, IsHead, IsRun, life_after, life_once_ended, HasRows, IsUncrashedRun, AreUncrashedRuns, KillsLoseNothing, OpeningsAreRuns, FailedOpeningsAreRuns}
use Rattle.gc_files.proofs.Adding.{cuts_two, appended_two, synced_all}
use Rattle.gc_files.proofs.Lasting.{RunHas, run_moments, has_rows_more}
use Rattle.gc_files.proofs.Moments.{may_stay, held_after_two, mended_by_two_steps, mend_synced}

-- where steps mended a file, and then appended `bytes`, what they and a sync after them have synced is `bytes`
pub synced_after_mending : (held : List ℕ) (steps : List Step) (bytes : List ℕ) → MendedAndPut held steps bytes → synced (steps ++ Sync ∷ []) ≡ bytes
synced_after_mending held steps bytes ran =
    let at : steps ++ Sync ∷ [] ≡ take 2 (mended held) ++ (ran.later ++ Sync ∷ []) =
    ap (λ (xs : List Step). xs ++ Sync ∷ []) ran.split ∙ append_assoc (mended held) ran.later (Sync ∷ []) ∙ ap (λ (xs : List Step). xs ++ (ran.later ++ Sync ∷ [])) (sym (mended_by_two_steps held)) in
    ap synced at ∙ mend_synced held 2 (ran.later ++ Sync ∷ []) ∙ synced_all ran.later ∙ ran.puts.all

-- an opening, and what is written after it, are a run, as `OpeningsAreRuns` has it
pub openings_are_runs : OpeningsAreRuns
openings_are_runs head held run did are few were =
    let ran = did.opened in
    let later = did.later in
    let puts = did.puts in
    let is_front = did.is_front in
    record {
      rows = are;
      steps = inr (
        head_written head held ++ did.front,
        record {
          later = ran.later ++ later;
          split = did.split ∙ ap (λ (xs : List Step). xs ++ later) ran.split ∙ append_assoc (mended held) ran.later later;
          puts = record {
            none_cut = cuts_two ran.later later ran.puts.none_cut puts.none_cut;
            all = appended_two ran.later later ∙ ap (λ (xs : List ℕ). xs ++ appended later) ran.puts.all ∙ ap (λ (xs : List ℕ). head_written head held ++ xs) puts.all;
          };
        },
        record {
          rest = is_front.rest;
          split = ap (λ (xs : List ℕ). head_written head held ++ xs) is_front.split ∙ sym (append_assoc (head_written head held) did.front is_front.rest);
        },
      );
      few = few;
      kept = were;
    }

-- an opening that failed is a run, as `FailedOpeningsAreRuns` has it
pub failed_openings_are_runs : FailedOpeningsAreRuns
failed_openings_are_runs head held steps left comes = record {
  rows = tt;
  steps = subst (λ (all : List ℕ). ComesTo held all steps) (sym (append-nil (head_written head held))) comes;
  few = omega arith;
  kept = inl refl;
}

-- a run with a sync after its steps
abbrev synced_run : Run → Run
synced_run run = record run { steps = run.steps ++ Sync ∷ [] }

-- a file after a run that ended by itself or by a kill has first rows of the run, at least those that count as kept (`RunHas`)
killed_has_rows : (head held : List ℕ) (run : Run) → IsHead head → IsUncrashedRun head held run → RunHas head held run (held_after held run.steps)
killed_has_rows head held run heads one = elim one.is.kept [
  | inl none ↦ run_moments head held run (held_after held run.steps) heads (record { rows = one.is.rows; steps = one.is.steps; few = one.is.few; kept = inl none }) (may_stay held run.steps)
  | inr whole ↦
      let bytes = whole.0 in
      let ran = whole.1 in
      let with : Run = synced_run run in
      let is : IsRun head held with = record {
        rows = one.is.rows;
        steps = inr (
          bytes,
          record {
            later = ran.later ++ Sync ∷ [];
            split = ap (λ (xs : List Step). xs ++ Sync ∷ []) ran.split ∙ append_assoc (mended held) ran.later (Sync ∷ []);
            puts = record {
              none_cut = cuts_two ran.later (Sync ∷ []) ran.puts.none_cut refl;
              all = appended_two ran.later (Sync ∷ []) ∙ append-nil (appended ran.later) ∙ ran.puts.all;
            };
          },
          whole.2,
        );
        few = one.is.few;
        kept = inr (subst (λ (all : List ℕ). IsFront (run_bytes head held (take run.kept run.rows)) all) (sym (synced_after_mending held run.steps bytes ran)) whole.3);
      } in
      let same : held_after held with.steps ≡ held_after held run.steps = held_after_two held run.steps (Sync ∷ []) in
      let has = run_moments head held with (held_after held with.steps) heads is (may_stay held with.steps) in
      record {
        count = has.count;
        least = has.least;
        few = has.few;
        is = ap (opened_table head) (sym same) ∙ has.is;
      }
]

-- where a file has the rows of the runs `done`, and `runs` follow, each ended by itself or by a kill (`AreUncrashedRuns`), then
-- after `runs` the file has the rows of all of them
killed_runs_add_rows : (head before : List ℕ) → IsHead head → (done runs : List Run) (life : Life)
    → HasRows head before done (content life) → AreUncrashedRuns head life runs
    → HasRows head before (done ++ runs) (content (life_after life runs))
killed_runs_add_rows head before heads done [] life has killed = subst (λ (rs : List Run). HasRows head before rs (content life)) (sym (append-nil done)) has
killed_runs_add_rows head before heads done (run ∷ runs) life has killed =
    let one = killed_has_rows head (content life) run heads killed.0 in
    let left = subst (λ (held : List ℕ). RunHas head (content life) run held) (sym (held_after_two life.start life.steps run.steps)) one in
    let more = has_rows_more head before done run (content life) (content (later_by run.steps life)) has left in
    let all = killed_runs_add_rows head before heads (done ++ run ∷ []) runs (later_by run.steps life) more killed.1 in
    subst (λ (rs : List Run). HasRows head before rs (content (life_after life (run ∷ runs)))) (append_assoc done (run ∷ []) runs)
    (subst (λ (o : Option (List ℕ)). HasRows head before ((done ++ run ∷ []) ++ runs) (content (life_after (life_once_ended life run o) runs))) (sym killed.0.uncrashed) all)

-- the law: while the machine goes on no row is lost that went out whole
pub kills_lose_nothing : KillsLoseNothing
kills_lose_nothing head heads life runs killed =
    killed_runs_add_rows head (opened_table head (content life)) heads [] runs life ([], tt, sym (append-nil (opened_table head (content life)))) killed
