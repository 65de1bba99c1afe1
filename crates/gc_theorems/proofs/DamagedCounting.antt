-- No more requests are settled by lines that come damaged than such lines come.
use Rattle.gc_theorems.proofs.Common.{◌≡◌, ℕ, ◌+◌, ◌≤◌, ◌⊎◌, inl, inr, List, [], ◌∷◌, ◌++◌, length, ◌∙◌, ap, subst, arith, AllByRecursion, cons_tail, Ends, Harm, Damages, Harmed, IsByDamage, AreRising, damaged_lines, harms, harmed, one_if_damages}

module _ {State : Type 0} (width : ℕ) (ends : Ends State) where
  -- at one of these steps a damaged line comes, and request m is the last one that it settles
  record CameDamaged (start : Harmed State) (ms : List (Harm State)) (m : ℕ) : Type 0 where
    pub front : List (Harm State)
    pub line : List ℕ
    pub later : List (Harm State)
    pub split : ms ≡ front ++ Damages line ∷ later
    pub size : length (harms width ends (harmed width ends front start) (Damages line)).world.wire.settled ≡ m + 1

  -- it came at the first of these steps, or later
  first_or_later : (start : Harmed State) (s : Harm State) (ms : List (Harm State)) (m : ℕ) (front : List (Harm State)) (line : List ℕ) (later : List (Harm State))
      → s ∷ ms ≡ front ++ Damages line ∷ later → length (harms width ends (harmed width ends front start) (Damages line)).world.wire.settled ≡ m + 1
      → ((one_if_damages s ≡ 1) × (length (harms width ends start s).world.wire.settled ≡ m + 1)) ⊎ CameDamaged (harms width ends start s) ms m
  first_or_later start s ms m [] line later split size =
      let same : s ≡ Damages line = cc in
      inl (ap (λ x. one_if_damages x) same, ap (λ x. length (harms width ends start x).world.wire.settled) same ∙ size)
  first_or_later start s ms m (x ∷ front) line later split size =
      let same : x ≡ s = cc in
      inr (record {
        front = front;
        line = line;
        later = later;
        split = cons_tail s x ms (front ++ Damages line ∷ later) split;
        size = subst (λ y. length (harms width ends (harmed width ends front (harms width ends start y)) (Damages line)).world.wire.settled ≡ m + 1) same size;
      })

  module _ (start : Harmed State) (s : Harm State) (ms : List (Harm State)) where
    -- how many requests are settled after the first step
    abbrev size : ℕ
    size = length (harms width ends start s).world.wire.settled

    -- of requests none of which is the last one that the first step settled, each was settled later
    all_later : (low : ℕ) (rows : List ℕ) → size ≤ low → AreRising low rows → AllByRecursion (λ m. CameDamaged start (s ∷ ms) m) rows
        → AllByRecursion (λ m. CameDamaged (harms width ends start s) ms m) rows
    all_later low [] le rising all = tt
    all_later low (m ∷ rows) le rising all = elim (first_or_later start s ms m all.0.front all.0.line all.0.later all.0.split all.0.size) [
      | inl here ↦ let z = here.1 in let g = rising.0 in absurd (omega (arith, z, g, le))
      | inr after ↦ let g = rising.0 in (after, all_later (m + 1) rows (omega (arith, g, le)) rising.1 all.1)
    ]

    -- the requests that were settled later, and how many they are
    record Later (low : ℕ) (count : ℕ) : Type 0 where
      pub rest : List ℕ
      pub rising : AreRising low rest
      pub all : AllByRecursion (λ m. CameDamaged (harms width ends start s) ms m) rest
      pub enough : count ≤ one_if_damages s + length rest

    -- all but one at most were settled later, and all if no damaged line comes first
    but_one : (low : ℕ) (rows : List ℕ) → AreRising low rows → AllByRecursion (λ m. CameDamaged start (s ∷ ms) m) rows → Later low (length rows)
    but_one low [] rising all = record { rest = []; rising = tt; all = tt; enough = omega arith }
    but_one low (m ∷ rows) rising all = elim (first_or_later start s ms m all.0.front all.0.line all.0.later all.0.split all.0.size) [
      | inl here ↦
          let z = here.0 in
          let size_is = here.1 in
          let g = rising.0 in
          record {
            rest = rows;
            rising = lower low (m + 1) rows (omega (arith, g)) rising.1;
            all = all_later (m + 1) rows (omega (arith, size_is)) rising.1 all.1;
            enough = omega (arith, z);
          }
      | inr after ↦
          let t = but_one (m + 1) rows rising.1 all.1 in
          let e = t.enough in
          record { rest = m ∷ t.rest; rising = (rising.0, t.rising); all = (after, t.all); enough = omega (arith, e) }
    ] where
      lower : (low high : ℕ) (rows : List ℕ) → low ≤ high → AreRising high rows → AreRising low rows
      lower low high [] le rising = tt
      lower low high (m ∷ rows) le rising = let g = rising.0 in (omega (arith, g, le), rising.1)

  -- it came at none of no steps
  never_came : (front : List (Harm State)) (line : List ℕ) (later : List (Harm State)) → [] ≡ front ++ Damages line ∷ later → ⊥
  never_came [] line later e = cc
  never_came (x ∷ front) line later e = cc

  -- requests that were settled so are no more than damaged lines that came
  few_came : (start : Harmed State) (ms : List (Harm State)) (low : ℕ) (rows : List ℕ) → AreRising low rows → AllByRecursion (λ m. CameDamaged start ms m) rows
      → length rows ≤ damaged_lines ms
  few_came start [] low [] rising all = omega arith
  few_came start [] low (m ∷ rows) rising all = absurd (never_came all.0.front all.0.line all.0.later all.0.split)
  few_came start (s ∷ ms) low rows rising all =
      let t = but_one start s ms low rows rising all in
      let e = t.enough in
      let more = few_came (harms width ends start s) ms low t.rest t.rising t.all in
      omega (arith, e, more)

  -- the same of requests that were settled by damage (`IsByDamage`), by lines that came so
  pub few_by_damage : (Old : List ℕ → Type 0) (start : Harmed State) (ms : List (Harm State)) (rows : List ℕ) → AreRising 0 rows
      → AllByRecursion (λ m. (line : List ℕ) × ((b : IsByDamage width ends start ms Old m line) × (b.step ≡ Damages line))) rows → length rows ≤ damaged_lines ms
  few_by_damage Old start ms rows rising all = few_came start ms 0 rows rising (each rows all) where
    each : (rows : List ℕ) → AllByRecursion (λ m. (line : List ℕ) × ((b : IsByDamage width ends start ms Old m line) × (b.step ≡ Damages line))) rows
        → AllByRecursion (λ m. CameDamaged start ms m) rows
    each [] all = tt
    each (m ∷ rows) all =
        let line = all.0.0 in
        let b = all.0.1.0 in
        let same = all.0.1.1 in (
          record {
            front = b.front;
            line = line;
            later = b.later;
            split = b.split ∙ ap (λ x. b.front ++ x ∷ b.later) same;
            size = subst (λ x. length (harms width ends (harmed width ends b.front start) x).world.wire.settled ≡ m + 1) same b.after;
          },
          each rows all.1,
        )
