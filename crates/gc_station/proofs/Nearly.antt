-- Answers are near their targets' places, their qualities are as listed, and those of two sendings agree: each record is as its text says
-- (`IsAsItsText`), and is confirmed by those before it.
use Rattle.gc_station.proofs.Common.{[], IsComparedInFull, IsUnconfirmed, DisagreesInSecond, AgreedRowsAgree, IsAtItsTarget, OffTargetIsJustified, AnswersAreAtTheirTargets, IsAsListed, QualitiesAreAsListed, state_after}
use Rattle.gc_station.proofs.Lists.{all_on}
use Rattle.gc_station.proofs.Agreeing.{after_split, each_after}
use Rattle.gc_station.proofs.AsText.{IsAsItsText, IsFullyConfirmed, kept_all}

-- the law: after any acts, `IsAtItsTarget` and `OffTargetIsJustified` hold of each record
pub at_their_targets : AnswersAreAtTheirTargets
at_their_targets plan commands scope acts =
    all_on (IsAsItsText plan commands scope) (λ r. IsAtItsTarget commands r × OffTargetIsJustified scope.reads commands r) (state_after plan commands scope acts).records
    (λ r so. (so.1, so.2)) (kept_all plan commands scope acts).records

-- the law: after any acts, the quality of each answered command is as listed: what its line says, by the codes that are
-- accepted of it
pub qualities_as_listed : QualitiesAreAsListed
qualities_as_listed plan commands scope acts =
    all_on (IsAsItsText plan commands scope) (λ r. IsAsListed scope.reads commands r) (state_after plan commands scope acts).records (λ r so. so.3) (kept_all plan commands scope acts).records

-- the law: after any acts, the answer of a second sending that isn't refused agrees with that of the first, which is in a record before it;
-- one of a first sending is unconfirmed; and only one of a second sending ends as disagreeing
pub rows_agree : AgreedRowsAgree
rows_agree = record {
  second = λ plan commands scope acts earlier later r at.
      (after_split (IsFullyConfirmed plan commands scope) [] (state_after plan commands scope acts).records earlier r later (kept_all plan commands scope acts).agreed at).0;
  compared = λ plan commands scope acts.
      each_after (IsFullyConfirmed plan commands scope) (IsComparedInFull commands) (λ before r so. so.1) [] (state_after plan commands scope acts).records (kept_all plan commands scope acts).agreed;
  first = λ plan commands scope acts.
      all_on (IsAsItsText plan commands scope) (λ r. IsUnconfirmed commands r) (state_after plan commands scope acts).records (λ r so. so.4) (kept_all plan commands scope acts).records;
  disagree = λ plan commands scope acts.
      all_on (IsAsItsText plan commands scope) (λ r. DisagreesInSecond commands r) (state_after plan commands scope acts).records (λ r so. so.5) (kept_all plan commands scope acts).records;
}
