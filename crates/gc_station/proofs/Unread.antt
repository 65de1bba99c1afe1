-- A command that a reply ends in time ends as unreadable exactly if the values of the reply's line don't read, for the same fault.
use Rattle.gc_station.proofs.Common.{◌≡◌, ℕ, Bool, true, false, List, Option, Some, None, ap, ◌∙◌, subst, Answer, Reading, Asked, lists_code, End, Unreadable, line_of, is_off_target, as_zero, Expected, Quality, ValueFault, answer_as, answered_as, end_of, judged_by, refused_as, quality_in, warned_as, end_unsent, Reads, Progress}
use Rattle.gc_station.proofs.Judging.{judged_reads}
use Rattle.gc_station.proofs.Meets.{settled_answered}
use Rattle.gc_station.proofs.Walk.{unsent_along}
use Rattle.gc_catalogue.specs.declared.answer.Reading.TheVariants as reading
use Rattle.gc_client.specs.Rule as client
use Rattle.gc_texts.specs.declared.quality.Quality.TheVariants as quality

module _ (expected : Expected) (l line : List ℕ) (why : ValueFault) where
  -- `answered_as` never ends a command as unreadable
  answered_reads : (q : Quality) (away : Bool) (given : Option Answer) → answered_as expected q away given l ≡ Unreadable line why → ⊥
  answered_reads q away given e = judged_reads (quality_in expected.twice q) given l (judged_by expected away given l) line why e

  -- nor a reply with an accepted code
  warned_reads : (z : Reading) → warned_as expected z l ≡ Unreadable line why → ⊥
  warned_reads (reading.Value a) e = answered_reads quality.Warning (is_off_target expected.near a) (Some a) e
  warned_reads (reading.Refused code) e = answered_reads quality.Warning false None e
  warned_reads (reading.ComFault code) e = answered_reads quality.Warning false None e
  warned_reads (reading.Unreadable fault) e = answered_reads quality.Warning false None e

  -- nor any other refusal
  refused_reads : (b : Bool) (z : Reading) → refused_as b expected z l ≡ Unreadable line why → ⊥
  refused_reads true z e = warned_reads z e
  refused_reads false z e = cc

  -- a reply ends its command as unreadable only if its values don't read, for the same fault
  ended_unreadable : (said z : Reading) → answer_as expected said z l ≡ Unreadable line why → (said ≡ reading.Unreadable why) × (l ≡ line)
  ended_unreadable (reading.Value a) z e = absurd (answered_reads quality.Fine (is_off_target expected.near a) (Some a) e)
  ended_unreadable (reading.Refused code) z e = absurd (refused_reads (lists_code expected.accepted code) z e)
  ended_unreadable (reading.ComFault code) z e = cc
  ended_unreadable (reading.Unreadable fault) z e = let same : fault ≡ why = cc in let own : l ≡ line = cc in (ap reading.Unreadable same, own)

-- an outcome ends the command as unreadable only if the line doesn't read, by the form if there is one
pub unreadable_says : (reads : Reads) (expected : Expected) (call : Asked) (o : client.Outcome) (line : List ℕ) (why : ValueFault)
    → end_of reads expected call o ≡ Unreadable line why → reads expected.form call line ≡ reading.Unreadable why
unreadable_says reads expected call (client.Answered l) line why e =
    let is = ended_unreadable expected l line why (reads expected.form call l) (reads expected.form call (as_zero l)) e in
    subst (λ (t : List ℕ). reads expected.form call t ≡ reading.Unreadable why) is.1 is.0
unreadable_says reads expected call client.Late line why e = cc
unreadable_says reads expected call client.Lost line why e = cc

-- if the line of a reply in time doesn't read, the command ends as unreadable, for that fault
pub says_unreadable : (reads : Reads) (expected : Expected) (call : Asked) (o : client.Outcome) (line : List ℕ) (why : ValueFault)
    → line_of (end_of reads expected call o) ≡ Some line → reads expected.form call line ≡ reading.Unreadable why → end_of reads expected call o ≡ Unreadable line why
says_unreadable reads expected call o line why its says =
    let is = settled_answered reads expected call o line its in
    ap (end_of reads expected call) is ∙ ap (λ x. answer_as expected x (reads expected.form call (as_zero line)) line) says

-- a command that isn't sent has no line
pub no_line_unsent : (p : Progress) (line : List ℕ) → line_of (end_unsent p) ≡ Some line → ⊥
no_line_unsent p line = unsent_along (λ (end : End). line_of end ≡ Some line → ⊥) (λ e. cc) (λ e. cc) (λ e. cc) p
