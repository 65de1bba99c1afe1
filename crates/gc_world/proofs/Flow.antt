-- What holds of the steps of a run holds of its events: each event is some steps.
use Rattle.gc_world.proofs.Common.{◌≡◌, ℕ, ◌+◌, ◌<◌, ◌≤◌, List, [], ◌∷◌, ◌++◌, length, take, get_or, refl, sym, ◌∙◌, ap, subst, take_more, ap₂, Call, ById, Event, ByNumber, by_ids, by_numbers, ids_open, numbers_open, run_by_ids, run_by_numbers, streams_by_ids, streams_by_numbers, IsExchange, Streams, Effect, untouched, up_lines, down_lines, effect, effect_on, flows, flow, Ends, Rule, Step, Wire, World, happens, run}
use Rattle.gc_world.proofs.Agree.{same_wire}

module _ {Client State : Type 0} (ends : Ends State) (rule : Rule Client) where
  -- running steps, and then others, is running all of them
  pub run_append : (xs ys : List Step) (w : World Client State) → run ends rule (xs ++ ys) w ≡ run ends rule ys (run ends rule xs w)
  run_append [] ys w = refl
  run_append (x ∷ xs) ys w = run_append xs ys (happens ends rule w x)

  -- the steps that these events make on these streams
  abbrev pub taken : List Event → Streams Client State → List Step
  taken [] v = []
  taken (e ∷ es) v = (effect_on v e).steps ++ taken es (flows ends rule v e)

  -- the world after events is that after their steps
  pub flow_run : (es : List Event) (v : Streams Client State) → (flow ends rule es v).world ≡ run ends rule (taken es v) v.world
  flow_run [] v = refl
  flow_run (e ∷ es) v = flow_run es (flows ends rule v e) ∙ sym (run_append (effect_on v e).steps (taken es (flows ends rule v e)) v.world)

  -- running events, and then others, is running all of them
  pub flow_append : (xs ys : List Event) (v : Streams Client State) → flow ends rule (xs ++ ys) v ≡ flow ends rule ys (flow ends rule xs v)
  flow_append [] ys v = refl
  flow_append (x ∷ xs) ys v = flow_append xs ys (flows ends rule v x)

  -- running the first i + 1 events is running the first i, and then event i
  pub flow_more : (events : List Event) (i : ℕ) (e : Event) (v : Streams Client State) → i < length events → e ≡ get_or events i e
      → flow ends rule (take (i + 1) events) v ≡ flows ends rule (flow ends rule (take i events) v) e
  flow_more events i e v lt is =
      ap (λ (es : List Event). flow ends rule es v) (take_more events i e lt ∙ ap (λ x. take i events ++ x ∷ []) (sym is))
      ∙ flow_append (take i events) (e ∷ []) v

-- Both runs take the same steps.

module _ {State : Type 0} (width : ℕ) (narrow : width ≤ 7) (ends : Ends State) (Good : State → Type 0) (ex : IsExchange ends Good) (state : State) (good : Good state) where
  -- the two streams come of the same steps from `state` on, by ids and by numbers, and as much has gone of each front line
  pub record AreLevel (a : Streams (ById Call) State) (b : Streams (ByNumber Call) State) : Type 0 where
    pub steps : List Step
    pub ids : a.world ≡ run_by_ids width ends steps state
    pub numbers : b.world ≡ run_by_numbers width ends steps state
    pub up_gone : a.up_gone ≡ b.up_gone
    pub down_gone : a.down_gone ≡ b.down_gone

  -- level streams have the same wire
  pub level_wire : (a : Streams (ById Call) State) (b : Streams (ByNumber Call) State) → AreLevel a b → a.world.wire ≡ b.world.wire
  level_wire a b h =
      ap (λ (w : World (ById Call) State). w.wire) h.ids ∙ same_wire width narrow ends Good ex h.steps state good
      ∙ sym (ap (λ (w : World (ByNumber Call) State). w.wire) h.numbers)

  -- on level streams an event has the same effect: it makes the same steps on both, and leaves as many bytes of each front line
  -- gone in one as in the other
  same_effect : (a : Streams (ById Call) State) (b : Streams (ByNumber Call) State) (e : Event) → AreLevel a b → effect_on a e ≡ effect_on b e
  same_effect a b e h =
      ap (λ (w : Wire State). effect (up_lines w) (down_lines w) a.up_gone a.down_gone e) (level_wire a b h)
      ∙ ap₂ (λ n m. effect (up_lines b.world.wire) (down_lines b.world.wire) n m e) h.up_gone h.down_gone

  -- each event keeps streams level
  level : (a : Streams (ById Call) State) (b : Streams (ByNumber Call) State) (e : Event) → AreLevel a b
      → AreLevel (flows ends (by_ids width ends) a e) (flows ends (by_numbers width) b e)
  level a b e h =
      let c = effect_on b e in
      subst (λ (d : Effect). AreLevel (record { world = run ends (by_ids width ends) d.steps a.world; up_gone = d.up_gone; down_gone = d.down_gone })
      (flows ends (by_numbers width) b e)) (sym (same_effect a b e h))
      (record {
        steps = h.steps ++ c.steps;
        ids = ap (run ends (by_ids width ends) c.steps) h.ids ∙ sym (run_append ends (by_ids width ends) h.steps c.steps (ids_open state));
        numbers = ap (run ends (by_numbers width) c.steps) h.numbers ∙ sym (run_append ends (by_numbers width) h.steps c.steps (numbers_open state));
        up_gone = refl;
        down_gone = refl;
      })

  -- events keep streams level
  all_level : (es : List Event) (a : Streams (ById Call) State) (b : Streams (ByNumber Call) State) → AreLevel a b
      → AreLevel (flow ends (by_ids width ends) es a) (flow ends (by_numbers width) es b)
  all_level [] a b h = h
  all_level (e ∷ es) a b h = all_level es (flows ends (by_ids width ends) a e) (flows ends (by_numbers width) b e) (level a b e h)

  -- the two runs of the same events are level
  pub level_at : (es : List Event) → AreLevel (streams_by_ids width ends es state) (streams_by_numbers width ends es state)
  level_at es = all_level es (untouched (ids_open state)) (untouched (numbers_open state)) (record { steps = []; ids = refl; numbers = refl; up_gone = refl; down_gone = refl })
