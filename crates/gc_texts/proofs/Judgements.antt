-- What is true of each judgement: of its word, and of its count. A fact that a test shows of all judgements (`of_each`) needs no row here.
use Rattle.gc_texts.proofs.Common.{◌≡◌, ℕ, ◌+◌, Bool, true, false, not, ◌&&◌, ◌==◌, List, [], ◌∷◌, Option, Some, None, refl, ap, sym, ◌∙◌, if◌then◌else◌, list_all, list_any, and_parts, not-true, judgements, judgement_word, IsJudgement, capped, one_more, judged_count, judged_one_more, judged_sum, none_judged, is_same, OffTarget, Unexpected, Disagree, Lacks}
use Rattle.gc_texts.specs.declared.judgement.Judgement.{Judgement}
use Rattle.gc_texts.specs.declared.judgement.JudgementCounts.{JudgementCounts}
use Rattle.gc_texts.proofs.Cutting.{lacks_by_test}

-- a test that all judgements pass is passed by each
pub of_each : (p : Judgement → Bool) → list_all p judgements ≡ true → (j : Judgement) → p j ≡ true
of_each p all = by_tests (and_parts (p OffTarget) _ all) where
  -- the lemma above, by the tests one by one
  by_tests : (p OffTarget ≡ true) × (list_all p (Unexpected ∷ Disagree ∷ []) ≡ true) → (j : Judgement) → p j ≡ true
  by_tests parts OffTarget = parts.0
  by_tests parts Unexpected = (and_parts (p Unexpected) _ parts.1).0
  by_tests parts Disagree = (and_parts (p Disagree) _ (and_parts (p Unexpected) _ parts.1).1).0

-- whether two texts are the same
abbrev same_bytes : List ℕ → List ℕ → Bool
same_bytes [] [] = true
same_bytes (a ∷ rest) (b ∷ bs) = (a == b) && same_bytes rest bs
same_bytes _ _ = false

-- the first of these judgements that has this word
abbrev pub named_among : List Judgement → List ℕ → Option Judgement
named_among [] word = None
named_among (j ∷ others) word = if same_bytes (judgement_word j) word then Some j else named_among others word

-- the word of a judgement names it, and none before it
named_back : (j : Judgement) → named_among judgements (judgement_word j) ≡ Some j
named_back OffTarget = refl
named_back Unexpected = refl
named_back Disagree = refl

-- a word is that of one judgement at most
pub one_judgement : (word : List ℕ) (j k : Judgement) → IsJudgement word j → IsJudgement word k → j ≡ k
one_judgement word j k x y = let same : Some j ≡ Some k = sym (named_back j) ∙ ap (named_among judgements) (sym x ∙ y) ∙ named_back k in cc

-- the word of a judgement has no space
pub judgement_lacks_space : (j : Judgement) → Lacks 32 (judgement_word j)
judgement_lacks_space j =
    lacks_by_test 32 (judgement_word j) (not-true (list_any (λ b. b == 32) (judgement_word j)) (of_each (λ k. not (list_any (λ b. b == 32) (judgement_word k))) refl j))

-- a word that no test tells from that of a judgement isn't one, as the test passes those of all
pub no_judgement_word : (p : List ℕ → Bool) → list_all (λ j. p (judgement_word j)) judgements ≡ true → (word : List ℕ) → p word ≡ false → (j : Judgement) → IsJudgement word j → ⊥
no_judgement_word p all word fails j is = let both : true ≡ false = sym (of_each (λ k. p (judgement_word k)) all j) ∙ ap p (sym is) ∙ fails in cc

-- one more command that k ended is counted in the count of k, and in no other
pub counted_by_judgement : (j k : Judgement) (c : JudgementCounts) → judged_count j (judged_one_more k c) ≡ (if is_same j k then one_more (judged_count j c) else judged_count j c)
counted_by_judgement OffTarget OffTarget c = refl
counted_by_judgement OffTarget Unexpected c = refl
counted_by_judgement OffTarget Disagree c = refl
counted_by_judgement Unexpected OffTarget c = refl
counted_by_judgement Unexpected Unexpected c = refl
counted_by_judgement Unexpected Disagree c = refl
counted_by_judgement Disagree OffTarget c = refl
counted_by_judgement Disagree Unexpected c = refl
counted_by_judgement Disagree Disagree c = refl

-- the count of a judgement in a sum is the sum of its counts
pub count_of_sum : (j : Judgement) (a b : JudgementCounts) → judged_count j (judged_sum a b) ≡ capped (judged_count j a + judged_count j b)
count_of_sum OffTarget a b = refl
count_of_sum Unexpected a b = refl
count_of_sum Disagree a b = refl

-- before any command ended, each count is 0
pub count_of_none : (j : Judgement) → judged_count j none_judged ≡ 0
count_of_none OffTarget = refl
count_of_none Unexpected = refl
count_of_none Disagree = refl
