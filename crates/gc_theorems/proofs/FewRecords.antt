-- No more records are of requests that were settled by lines that come damaged than such lines come: two records are of two requests, as
-- before these so many commands were sent as the records before them are of.
use Rattle.gc_theorems.proofs.Common.{◌≡◌, ◌⊎◌, inl, inr, ℕ, zero, suc, ◌+◌, ◌<◌, ◌≤◌, Bool, true, false, List, [], ◌∷◌, length, map, Option, Some, None, refl, sym, ◌∙◌, ap, subst, arith, if◌then◌else◌, slice_get, AllByRecursion, length-map, none-some, same_Some, Task, commands_in, Part, sent_of, went_out, Record, Ends, Damages, AreRising, damaged_lines, AreFewRecordsByDamagedLines, IsByDamagedLine, WasSettledByDamage, damaged_lines_in, sent_before, sent_until, HarmedStretch, once_synchronized, WasStruck}
use Rattle.std.proofs.Common.{take}
use Rattle.std.proofs.lemmas.Bool.Decides.{leb_tells}
use Rattle.gc_theorems.proofs.DamagedCounting.{few_by_damage}
use Rattle.gc_theorems.proofs.Recorded.{Mark}

-- Commands.

-- no more of the first marks are of commands than of more of them
more_commands : (marks : List (Option Mark)) (i j : ℕ) → i ≤ j → commands_in (take i marks) ≤ commands_in (take j marks)
more_commands marks zero j le = omega arith
more_commands marks (suc i) zero le = absurd (omega (arith, le))
more_commands [] (suc i) (suc j) le = omega arith
more_commands (None ∷ marks) (suc i) (suc j) le = more_commands marks i j (omega (arith, le))
more_commands (Some mark ∷ marks) (suc i) (suc j) le = let h = more_commands marks i j (omega (arith, le)) in omega (arith, h)

-- nor than of all
all_commands : (marks : List (Option Mark)) (i : ℕ) → commands_in (take i marks) ≤ commands_in marks
all_commands marks zero = omega arith
all_commands [] (suc i) = omega arith
all_commands (None ∷ marks) (suc i) = all_commands marks i
all_commands (Some mark ∷ marks) (suc i) = let h = all_commands marks i in omega (arith, h)

-- a record of a command that was sent counts for each later one
pub more_sent : (rs : List Record) (i j : ℕ) (r : Record) → slice_get rs i ≡ Some r → went_out r.end ≡ true → i < j → sent_until rs i < sent_until rs j
more_sent [] i j r got out lt = absurd (none-some r got)
more_sent (x ∷ rs) i zero r got out lt = absurd (omega (arith, lt))
more_sent (x ∷ rs) zero (suc j) r got out lt =
    let sent : went_out x.end ≡ true = ap (λ (y : Record). went_out y.end) (same_Some x r got) ∙ out in
    subst (λ (b : Bool). 0 < length (if b then x ∷ sent_of (take j rs) else sent_of (take j rs))) (sym sent) (omega arith)
more_sent (x ∷ rs) (suc i) (suc j) r got out lt = both (went_out x.end) (more_sent rs i j r got out (omega (arith, lt))) where
  -- the lemma above, by whether the command of the first record was sent (`b`)
  both : (b : Bool) → sent_until rs i < sent_until rs j
      → length (if b then x ∷ sent_of (take i rs) else sent_of (take i rs)) < length (if b then x ∷ sent_of (take j rs) else sent_of (take j rs))
  both true h = omega (arith, h)
  both false h = h

-- rising numbers rise from a smaller one on
rising_lower : (low high : ℕ) (ns : List ℕ) → low ≤ high → AreRising high ns → AreRising low ns
rising_lower low high [] le h = tt
rising_lower low high (n ∷ ns) le h = let first = h.0 in (omega (arith, first, le), h.1)

module _ {State : Type 0} (ends : Ends State) where
  -- request m of a stretch was settled by a line that came damaged
  abbrev CameDamaged : HarmedStretch State → ℕ → Type 0
  CameDamaged s m = (line : List ℕ) × ((b : WasSettledByDamage ends s m line) × (b.step ≡ Damages line))

  -- request m of stretch k, before which `number` commands were sent, was settled by a line that came damaged
  record IsHit (ps : List Part) (ss : List (HarmedStretch State)) (number : ℕ) : Type 0 where
    k : ℕ
    m : ℕ
    stretch : HarmedStretch State
    of_stretches : slice_get ss k ≡ Some stretch
    counted : sent_before ps k m ≡ number
    came : CameDamaged stretch (8 + m)

  module _ (p : Part) (s : HarmedStretch State) (ps : List Part) (ss : List (HarmedStretch State)) where
    -- it is a request of the first stretch
    record IsHere (number : ℕ) : Type 0 where
      m : ℕ
      counted : commands_in (take m p.marks) ≡ number
      came : CameDamaged s (8 + m)

    -- it is one of a later stretch
    record IsLater (number : ℕ) : Type 0 where
      after : ℕ
      hit : IsHit ps ss after
      is : commands_in p.marks + after ≡ number

    -- it is one of these
    here_or_later : (number : ℕ) → IsHit (p ∷ ps) (s ∷ ss) number → IsHere number ⊎ IsLater number
    here_or_later number h = by_stretch h.k h.of_stretches h.counted where
      -- the lemma above, by the stretch
      by_stretch : (k : ℕ) → slice_get (s ∷ ss) k ≡ Some h.stretch → sent_before (p ∷ ps) k h.m ≡ number → IsHere number ⊎ IsLater number
      by_stretch zero got counted = inl (record { m = h.m; counted = counted; came = subst (λ t. CameDamaged t (8 + h.m)) (sym (same_Some s h.stretch got)) h.came })
      by_stretch (suc k) got counted =
          inr (record { after = sent_before ps k h.m; hit = record { k = k; m = h.m; stretch = h.stretch; of_stretches = got; counted = refl; came = h.came }; is = counted })

    -- requests of later stretches: as many as `count`, with numbers from `low` on
    record AreLater (low count : ℕ) : Type 0 where
      rest : List ℕ
      many : count ≡ length rest
      rising : AreRising low rest
      hits : AllByRecursion (IsHit ps ss) rest

    -- past the commands of the first part, all are of later stretches
    all_later : (low : ℕ) (ns : List ℕ) → 0 < low → AreRising (commands_in p.marks + low) ns → AllByRecursion (IsHit (p ∷ ps) (s ∷ ss)) ns → AreLater low (length ns)
    all_later low [] some rising all = record { rest = []; many = refl; rising = tt; hits = tt }
    all_later low (n ∷ ns) some rising all = elim (here_or_later n all.0) [
      | inl here ↦
          let first = rising.0 in
          let few = all_commands p.marks here.m in
          let at = here.counted in
          absurd (omega (arith, first, few, at, some))
      | inr later ↦
          let first = rising.0 in
          let at = later.is in
          let next : n + 1 ≡ commands_in p.marks + (later.after + 1) = omega (arith, at) in
          let t = all_later (later.after + 1) ns (omega arith) (subst (λ i. AreRising i ns) next rising.1) all.1 in
          let many = t.many in
          record { rest = later.after ∷ t.rest; many = omega (arith, many); rising = (omega (arith, first, at), t.rising); hits = (later.hit, t.hits) }
    ]

    -- requests of the first stretch, from `low` on, and requests of later ones: together as many as `count`
    record AreSplit (low count : ℕ) : Type 0 where
      requests : List ℕ
      rest : List ℕ
      many : count ≡ length requests + length rest
      rising : AreRising (8 + low) requests
      came : AllByRecursion (CameDamaged s) requests
      rest_rising : AreRising 0 rest
      hits : AllByRecursion (IsHit ps ss) rest

    -- requests are those of the first stretch, and then those of later ones; before those below `low` fewer than `from` commands were sent
    all_split : (low from : ℕ) (ns : List ℕ) → ((i : ℕ) → i < low → commands_in (take i p.marks) < from) → AreRising from ns → AllByRecursion (IsHit (p ∷ ps) (s ∷ ss)) ns
        → AreSplit low (length ns)
    all_split low from [] below rising all = record { requests = []; rest = []; many = refl; rising = tt; came = tt; rest_rising = tt; hits = tt }
    all_split low from (n ∷ ns) below rising all = elim (here_or_later n all.0) [
      | inl here ↦
          let first = rising.0 in
          let at = here.counted in
          let least : low ≤ here.m = elim (leb_tells low here.m) [
            | inl le ↦ le.1
            | inr lt ↦ let fewer = below here.m lt.1 in absurd (omega (arith, fewer, first, at))
          ] in
          let t = all_split (here.m + 1) (n + 1) ns (λ i lt. let few = more_commands p.marks i here.m (omega (arith, lt)) in omega (arith, few, at)) rising.1 all.1 in
          let many = t.many in
          let next : 8 + (here.m + 1) ≡ (8 + here.m) + 1 = omega arith in
          record {
            requests = (8 + here.m) ∷ t.requests;
            rest = t.rest;
            many = omega (arith, many);
            rising = (omega (arith, least), subst (λ i. AreRising i t.requests) next t.rising);
            came = (here.came, t.came);
            rest_rising = t.rest_rising;
            hits = t.hits;
          }
      | inr later ↦
          let at = later.is in
          let next : n + 1 ≡ commands_in p.marks + (later.after + 1) = omega (arith, at) in
          let t = all_later (later.after + 1) ns (omega arith) (subst (λ i. AreRising i ns) next rising.1) all.1 in
          let many = t.many in
          record { requests = []; rest = later.after ∷ t.rest; many = omega (arith, many); rising = tt; came = tt; rest_rising = (omega arith, t.rising); hits = (later.hit, t.hits) }
    ]

  -- no more requests were settled by lines that came damaged than such lines came
  few_hits : (ps : List Part) (ss : List (HarmedStretch State)) (ns : List ℕ) → length ps ≡ length ss → AreRising 0 ns → AllByRecursion (IsHit ps ss) ns → length ns ≤ damaged_lines_in ss
  few_hits ps [] [] same rising all = omega arith
  few_hits ps [] (n ∷ ns) same rising all = absurd (none-some all.0.stretch all.0.of_stretches)
  few_hits [] (s ∷ ss) ns same rising all = absurd (omega (arith, same))
  few_hits (p ∷ ps) (s ∷ ss) ns same rising all =
      let t = all_split p s ps ss 0 0 ns (λ i lt. absurd (omega (arith, lt))) rising all in
      let first : length t.requests ≤ damaged_lines s.steps =
      few_by_damage 7 ends (λ made. WasStruck ends s.over s.turns made) (once_synchronized ends s) s.steps t.requests (rising_lower 0 8 t.requests (omega arith) t.rising) t.came in
      let others = few_hits ps ss t.rest (omega (arith, same)) t.rest_rising t.hits in
      let many = t.many in
      omega (arith, first, others, many)

  module _ (commands : List Task) (ps : List Part) (ss : List (HarmedStretch State)) (records : List Record) where
    -- such records are of such requests
    all_hit : (ns : List ℕ) → AllByRecursion (IsByDamagedLine ends commands ps ss records) ns → AllByRecursion (IsHit ps ss) (map (sent_until records) ns)
    all_hit [] all = tt
    all_hit (n ∷ ns) all =
        let d = all.0 in
        (record { k = d.of.k; m = d.of.m; stretch = d.of.stretch; of_stretches = d.of.of_stretches; counted = d.of.counted; came = (d.line, (d.damaged, d.came)) }, all_hit ns all.1)

    -- where the numbers of such records rise, so do the numbers of commands that were sent before them
    rising_sent : (low from : ℕ) (ns : List ℕ) → ((i : ℕ) → low ≤ i → from ≤ sent_until records i) → AreRising low ns → AllByRecursion (IsByDamagedLine ends commands ps ss records) ns
        → AreRising from (map (sent_until records) ns)
    rising_sent low from [] least rising all = tt
    rising_sent low from (n ∷ ns) least rising all =
        let d = all.0 in (
          least n rising.0,
          rising_sent (n + 1) (sent_until records n + 1) ns (λ i le. let more = more_sent records n i d.r d.is d.out (omega (arith, le)) in omega (arith, more)) rising.1 all.1,
        )

    -- no more records are of requests that were settled by lines that came damaged than such lines came, where each part has a stretch
    pub few_records : length ps ≡ length ss → AreFewRecordsByDamagedLines ends commands ps ss records
    few_records same ns rising all =
        let few = few_hits ps ss (map (sent_until records) ns) same (rising_sent 0 0 ns (λ i le. omega arith) rising all) (all_hit ns all) in
        let many = length-map ns (sent_until records) in
        omega (arith, few, many)
