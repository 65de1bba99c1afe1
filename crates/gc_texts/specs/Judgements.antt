-- Judgements, this project's own: the outcomes of replies that came in time, and that a rule of the station's text sets aside. All that is
-- said of one of these outcomes alone, whatever rule it is of, is said here.
use Rattle.std.specs.Prelude.{◌≡◌, ℕ, ◌+◌, min, Bool, true, false, List, [], ◌∷◌, codes}
use Rattle.gc_texts.specs.declared.judgement.Judgement.{Judgement}
use Rattle.gc_texts.specs.declared.judgement.Judgement.TheVariants.{OffTarget, Unexpected, Disagree}
use Rattle.gc_texts.specs.declared.judgement.JudgementCounts.{JudgementCounts}
use Rattle.gc_texts.specs.declared.judgement.JudgementSet.{JudgementSet}

-- all judgements, in the order of their counts
abbrev pub judgements : List Judgement
judgements = OffTarget ∷ Unexpected ∷ Disagree ∷ []

-- the word of a judgement in records, and in a line `retry`
abbrev pub judgement_word : Judgement → List ℕ
judgement_word OffTarget = codes "off_target"
judgement_word Unexpected = codes "unexpected"
judgement_word Disagree = codes "disagree"

-- whether a judgement says by itself that the values may be wrong ones. Those that are off target may well be right
abbrev pub leaves_doubt : Judgement → Bool
leaves_doubt OffTarget = false
leaves_doubt Unexpected = true
leaves_doubt Disagree = true

-- whether two judgements are the same
abbrev pub is_same : (j k : Judgement) → Bool
is_same OffTarget OffTarget = true
is_same Unexpected Unexpected = true
is_same Disagree Disagree = true
is_same _ _ = false

-- a word is that of this judgement
abbrev pub IsJudgement : (word : List ℕ) → Judgement → Type 0
IsJudgement word judgement = word ≡ judgement_word judgement

-- the empty set of judgements
abbrev pub no_judgement : JudgementSet
no_judgement = record { off_target = false; unexpected = false; disagree = false }

-- whether a set has this judgement
abbrev pub has_judgement : JudgementSet → Judgement → Bool
has_judgement set OffTarget = set.off_target
has_judgement set Unexpected = set.unexpected
has_judgement set Disagree = set.disagree

-- a set with this judgement added
abbrev pub with_judgement : JudgementSet → Judgement → JudgementSet
with_judgement set OffTarget = record set { off_target = true }
with_judgement set Unexpected = record set { unexpected = true }
with_judgement set Disagree = record set { disagree = true }

-- `n`, or 2^64 - 1 if `n` is greater: a count holds no greater number
abbrev pub capped : ℕ → ℕ
capped n = min n 18446744073709551615

-- the count `n` and one more, up to 2^64 - 1
abbrev pub one_more : ℕ → ℕ
one_more n = capped (n + 1)

-- the counts in which no judgement ended a command
abbrev pub none_judged : JudgementCounts
none_judged = record { off_target = 0; unexpected = 0; disagree = 0 }

-- how many commands a judgement ended
abbrev pub judged_count : Judgement → JudgementCounts → ℕ
judged_count OffTarget c = c.off_target
judged_count Unexpected c = c.unexpected
judged_count Disagree c = c.disagree

-- the counts `c` after one more command that this judgement ended
abbrev pub judged_one_more : Judgement → JudgementCounts → JudgementCounts
judged_one_more OffTarget c = record c { off_target = one_more c.off_target }
judged_one_more Unexpected c = record c { unexpected = one_more c.unexpected }
judged_one_more Disagree c = record c { disagree = one_more c.disagree }

-- the sum of the counts `a` and `b`, each up to 2^64 - 1
abbrev pub judged_sum : (a b : JudgementCounts) → JudgementCounts
judged_sum a b = record {
  off_target = capped (a.off_target + b.off_target);
  unexpected = capped (a.unexpected + b.unexpected);
  disagree = capped (a.disagree + b.disagree);
}
