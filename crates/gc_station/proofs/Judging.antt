-- The judgement on a reply by the rules of its command's text: what holds where there is one, and where there is none.
use Rattle.gc_station.proofs.Common.{◌≡◌, ℕ, Bool, true, false, not, ◌&&◌, List, Option, Some, None, refl, ap, is_none, Answer, Answered, Judged, Unreadable, meets, Judgement, OffTarget, Unexpected, Disagree, Expected, Quality, ValueFault, agrees_in, judged_by, judgement_of, passes_rules, unless_judged}

-- The table.

-- there is no judgement exactly where no rule sets the answer aside
none_judges : (away met agreed : Bool) → is_none (judgement_of away met agreed) ≡ (not away && met && agreed)
none_judges true met agreed = refl
none_judges false false agreed = refl
none_judges false true false = refl
none_judges false true true = refl

-- what holds where there is no judgement
pub record IsUnjudged (away met agreed : Bool) : Type 0 where
  pub here : away ≡ false
  pub expects : met ≡ true
  pub agrees : agreed ≡ true

-- where there is none, it holds
unjudged : (away met agreed : Bool) → judgement_of away met agreed ≡ None → IsUnjudged away met agreed
unjudged true met agreed e = cc
unjudged false false agreed e = cc
unjudged false true false e = cc
unjudged false true true e = record { here = refl; expects = refl; agrees = refl }

-- an answer that is judged off target was measured elsewhere
off_target_is_away : (away met agreed : Bool) → judgement_of away met agreed ≡ Some OffTarget → away ≡ true
off_target_is_away true met agreed e = refl
off_target_is_away false false agreed e = cc
off_target_is_away false true false e = cc
off_target_is_away false true true e = cc

-- one that is judged unexpected has other values than are expected
unexpected_is_unmet : (away met agreed : Bool) → judgement_of away met agreed ≡ Some Unexpected → met ≡ false
unexpected_is_unmet true met agreed e = cc
unexpected_is_unmet false false agreed e = refl
unexpected_is_unmet false true false e = cc
unexpected_is_unmet false true true e = cc

-- one that is judged as disagreeing doesn't agree
disagree_is_apart : (away met agreed : Bool) → judgement_of away met agreed ≡ Some Disagree → agreed ≡ false
disagree_is_apart true met agreed e = cc
disagree_is_apart false false agreed e = cc
disagree_is_apart false true false e = refl
disagree_is_apart false true true e = cc

-- A reply.

module _ (expected : Expected) (away : Bool) (given : Option Answer) (line : List ℕ) where
  -- there is no judgement on it exactly where it passes the rules
  pub unjudged_passes : is_none (judged_by expected away given line) ≡ passes_rules expected away given line
  unjudged_passes = none_judges away (meets expected.expects expected.before line) (agrees_in expected.twice expected.first given)

  -- it passes each rule
  abbrev pub Passes : Type 0
  Passes = IsUnjudged away (meets expected.expects expected.before line) (agrees_in expected.twice expected.first given)

  -- where there is no judgement on it, it does
  pub passes : judged_by expected away given line ≡ None → Passes
  passes e = unjudged away (meets expected.expects expected.before line) (agrees_in expected.twice expected.first given) e

  -- if it is judged off target, its answer was measured elsewhere
  pub judged_away : judged_by expected away given line ≡ Some OffTarget → away ≡ true
  judged_away e = off_target_is_away away (meets expected.expects expected.before line) (agrees_in expected.twice expected.first given) e

  -- if it is judged unexpected, its line isn't as expected
  pub judged_unmet : judged_by expected away given line ≡ Some Unexpected → meets expected.expects expected.before line ≡ false
  judged_unmet e = unexpected_is_unmet away (meets expected.expects expected.before line) (agrees_in expected.twice expected.first given) e

  -- if it is judged as disagreeing, it doesn't agree
  pub judged_apart : judged_by expected away given line ≡ Some Disagree → agrees_in expected.twice expected.first given ≡ false
  judged_apart e = disagree_is_apart away (meets expected.expects expected.before line) (agrees_in expected.twice expected.first given) e

module _ (q : Quality) (given : Option Answer) (line : List ℕ) where
  -- what would end as answered, and ended so, wasn't judged
  pub answered_unjudged : (o : Option Judgement) (k : Quality) (said : Option Answer) → unless_judged o (Answered q given line) line ≡ Answered k said line
      → (o ≡ None) × (q ≡ k) × (given ≡ said)
  answered_unjudged None k said e = let quality : q ≡ k = cc in let same : given ≡ said = cc in (refl, quality, same)
  answered_unjudged (Some j) k said e = cc

  -- what ended as judged so was judged so
  pub judged_so : (o : Option Judgement) (j : Judgement) → unless_judged o (Answered q given line) line ≡ Judged j line → o ≡ Some j
  judged_so None j e = cc
  judged_so (Some k) j e = let same : k ≡ j = cc in ap Some same

  -- neither is unreadable
  pub judged_reads : (o : Option Judgement) (l : List ℕ) (why : ValueFault) → unless_judged o (Answered q given line) line ≡ Unreadable l why → ⊥
  judged_reads None l why e = cc
  judged_reads (Some j) l why e = cc
