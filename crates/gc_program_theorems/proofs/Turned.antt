-- What is seen at each act of the eventful run: it is the same whatever function says what replies say.
use Rattle.gc_program_theorems.proofs.Common.{◌≡◌, ℕ, List, [], ◌∷◌, ◌++◌, Some, true, refl, sym, ◌∙◌, ap, subst, header_at, reply_at, rounded, is_near, ComFault, is_off_target, Act, AreKept, KeepsUp, Snapshot, Model, after, opening, Record, texts_of, state_after, AreReadings, Reads, after_all-append, acts, commands, plan, scope}
use Rattle.std.specs.Fmt.{digits}
use Rattle.gc_program_theorems.proofs.Eventful.{all_run}
use Rattle.gc_program_theorems.proofs.TrueReadings.{patched, patched_same}

module _ (text : Record → List ℕ) where
  -- what is seen at each of these acts, from this model on, after the acts that were done
  abbrev turns_from : Model → (done acts : List Act) → List Snapshot
  turns_from s done [] = []
  turns_from s done (act ∷ acts) =
      record { acts = Some done; taken = Some (texts_of text s.records); lasts = true } ∷ turns_from (after plan commands s act) (done ++ act ∷ []) acts

  -- where s is the model after the acts `done`, `AreKept` holds of the turns from s on: at each act, all that the acts before
  -- it settled is kept
  kept_from : (reads : Reads) (s : Model) (done acts : List Act) → s ≡ state_after plan commands (scope reads) done
      → AreKept plan commands (scope reads) text (Some []) (Some []) done acts (turns_from s done acts)
  kept_from reads s done [] is = tt
  kept_from reads s done (act ∷ acts) is = (
    record { tells = refl; took = ap (λ (m : Model). texts_of text m.records) is; lasts = λ more. refl },
    kept_from reads (after plan commands s act) (done ++ act ∷ []) acts
        (ap (λ (m : Model). after plan commands m act) is ∙ sym (after_all-append plan commands (opening plan (scope reads)) done (act ∷ []))),
  )

  -- what is seen at the acts of the run, with `reads` as `patched` makes it
  abbrev turns_by : Reads → List Snapshot
  turns_by reads = turns_from (opening plan (scope (patched reads))) [] acts

  -- a function that says nothing true of any reply. It may stand for every other one, because `patched` itself gives what the
  -- run's replies say
  abbrev placeholder : Reads
  placeholder form call line = ComFault 0

  -- what is seen at the acts of the run, whatever function says what replies say
  abbrev pub turns : List Snapshot
  turns = turns_by placeholder

  -- what is seen at the acts is the same with each function that says what replies say
  same_turns : (reads : Reads) → turns_by reads ≡ turns
  unfolding is_off_target is_near header_at reply_at digits rounded
  same_turns reads = refl

  -- with the patched readings the run keeps up: at each act all that the acts before it settled is kept
  keeps : (reads : Reads) → KeepsUp plan commands (scope (patched reads)) text (Some []) (Some acts) (Some []) [] turns []
  keeps reads =
      record {
        acts = acts;
        tells = refl;
        runs = all_run reads;
        turns = turns;
        saw = refl;
        kept =
            subst (AreKept plan commands (scope (patched reads)) text (Some []) (Some []) [] acts) (same_turns reads)
            (kept_from (patched reads) (opening plan (scope (patched reads))) [] acts refl);
      }

  -- with each function that says what replies say the run keeps up
  pub keeps_whole : (reads : Reads) → AreReadings reads → KeepsUp plan commands (scope reads) text (Some []) (Some acts) (Some []) [] turns []
  keeps_whole reads are = subst (λ r. KeepsUp plan commands (scope r) text (Some []) (Some acts) (Some []) [] turns []) (patched_same reads are) (keeps reads)
