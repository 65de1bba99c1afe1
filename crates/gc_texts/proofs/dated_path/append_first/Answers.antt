use Rattle.gc_texts.proofs.DatedPaths.{made_last, made_mark, made_other, of_none}
use Rattle.gc_texts.proofs.Items.{no_bytes}
use Rattle.gc_texts.proofs.dated_path.append_first.Goals.{in_default-via-in-Some+else-first-eq37, in_default-via-in_default}
use Rattle.gc_texts.proofs.dated_path.append_first.Goals as goal

pub returns-in_ok-append_part-in-Some-clause-made :
    goal.returns-in_ok-append_part-in-Some-clause-made
returns-in_ok-append_part-in-Some-clause-made c =
    made_mark _ _ c.in-Some.letter.now _ _ c.in-Some.behind.now _ c.if-first-eq37.true c.in-Some.ensures.cases.0 c.in_ok-append_part-in-Some.ensures

pub returns-in_ok-extend_from_slice-in_default-clause-made :
    goal.returns-in_ok-extend_from_slice-in_default-clause-made
returns-in_ok-extend_from_slice-in_default-clause-made c =
    elim c.in_default.branch [
      | in_default-via-in-Some+else-first-eq37 w ↦ made_other _ _ _ _ _ w.if-first-eq37.false c.in_ok-extend_from_slice-in_default.ensures.items
      | in_default-via-in_default w ↦
          made_last _ _ _ _ _ (no_bytes _ (of_none _ _ _ c.split_first.ensures.cases w.in_default.is)) c.in_ok-extend_from_slice-in_default.ensures.items
    ]
