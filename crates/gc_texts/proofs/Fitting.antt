-- Whether a request for a procedure that has to be described fits its description.
use Rattle.gc_texts.proofs.Common.{◌≡◌, ◌<◌, ℕ, true, false, nat_lt, inl, inr, ◌⊎◌, List, Some, arith, refl, ap, sym, subst, ◌∙◌, nat_tests, same_Some, raw_bytes, Asked, Raw, RawCall, Value, described_as, kinds_asked, AreOfKinds, IsFitting, IsTaken, AreValueFiles, sampled, value_items, values_in, Description}

-- what is asked for in two ways
same_raw : (r s : RawCall) → ◌≡◌ {A = Asked} (Raw r) (Raw s) → r ≡ s
same_raw r s e = cc

-- `number` is that of `raw`, and `d` is the description of this number
module _
    (described : List Description) (asked : Asked) (raw : RawCall) (number : ℕ) (d : Description)
    (is : asked ≡ Raw raw) (numbered : number ≡ raw.rpc) (found : described_as number described ≡ Some d) where
  -- where it may be asked for so, the request fits
  pub fits_so : IsTaken d raw → IsFitting described asked
  fits_so taken =
      record {
        raw = raw;
        asked_is = is;
        description = d;
        found = ap (λ n. described_as n described) (sym numbered) ∙ found;
        taken = taken;
      }

  -- where it may not, it doesn't
  pub fits_not : (IsTaken d raw → ⊥) → IsFitting described asked → ⊥
  fits_not none fits =
      let same : fits.raw ≡ raw = same_raw fits.raw raw (sym fits.asked_is ∙ is) in
      let one : fits.description ≡ d =
      same_Some fits.description d (sym fits.found ∙ ap (λ (r : RawCall). described_as r.rpc described) same ∙ ap (λ n. described_as n described) (sym numbered) ∙ found) in
      none (subst (λ (r : RawCall). IsTaken d r) same (subst (λ (e : Description). IsTaken e fits.raw) one fits.taken))

-- parameters are of a description's kinds
abbrev pub OfKinds : Description → List ℕ → Type 0
OfKinds d params = (values : List Value) × AreOfKinds (kinds_asked d) params values

-- a description and a request
module _ (d : Description) (raw : RawCall) where
  -- the parameters are of the description's kinds
  abbrev Has : RawCall → Type 0
  Has sample = OfKinds d (raw_bytes sample.params)

  -- no number is 0 where it is above 0
  not_none : (n : ℕ) → nat_lt 0 n ≡ true → 0 < n
  not_none n e = grind (arith, nat_tests)

  is_none : (n : ℕ) → nat_lt 0 n ≡ false → n ≡ 0
  is_none n e = grind (arith, nat_tests)

  -- without values it may be asked for exactly with parameters of these kinds
  pub taken_plain : nat_lt 0 (values_in (raw_bytes raw.params)) ≡ false → Has raw → IsTaken d raw
  taken_plain none has = record { sample = raw; values = has.0; are = has.1; is = inl (is_none (values_in (raw_bytes raw.params)) none, refl) }

  pub not_taken_plain : nat_lt 0 (values_in (raw_bytes raw.params)) ≡ false → (Has raw → ⊥) → IsTaken d raw → ⊥
  not_taken_plain none has_not taken = by_sort taken.is where
    by_sort : ((values_in (raw_bytes raw.params) ≡ 0) × (taken.sample ≡ raw))
        ⊎ ((0 < values_in (raw_bytes raw.params)) × AreValueFiles (value_items (raw_bytes raw.params)) × (sampled raw ≡ Some taken.sample)) → ⊥
    by_sort (inl same) = has_not (subst Has same.1 (taken.values, taken.are))
    by_sort (inr some) = let zeros = is_none (values_in (raw_bytes raw.params)) none in absurd (omega (arith, zeros, some.0))

  -- with values, it may be with these in their forms, if with numbers in their places it may be
  pub taken_sampled : (sample : RawCall) → nat_lt 0 (values_in (raw_bytes raw.params)) ≡ true → AreValueFiles (value_items (raw_bytes raw.params))
      → sampled raw ≡ Some sample → Has sample → IsTaken d raw
  taken_sampled sample some sound is has =
      record { sample = sample; values = has.0; are = has.1; is = inr (not_none (values_in (raw_bytes raw.params)) some, sound, is) }

  -- otherwise it may not
  pub not_taken : nat_lt 0 (values_in (raw_bytes raw.params)) ≡ true
      → ((sample : RawCall) → AreValueFiles (value_items (raw_bytes raw.params)) → sampled raw ≡ Some sample → Has sample → ⊥) → IsTaken d raw → ⊥
  not_taken some none taken = by_sort taken.is where
    by_sort : ((values_in (raw_bytes raw.params) ≡ 0) × (taken.sample ≡ raw))
        ⊎ ((0 < values_in (raw_bytes raw.params)) × AreValueFiles (value_items (raw_bytes raw.params)) × (sampled raw ≡ Some taken.sample)) → ⊥
    by_sort (inl same) = let above = not_none (values_in (raw_bytes raw.params)) some in absurd (omega (arith, same.0, above))
    by_sort (inr all) = none taken.sample all.1 all.2 (taken.values, taken.are)
