use Rattle.gc_files.proofs.Common.{ap, sym, arith, ◌∙◌, refl, eqb-true, length-take-le, cuts_none, appended}
use Rattle.gc_files.proofs.InTurn.{ends_more}
use Rattle.gc_files.proofs.Adding.{content_more, cuts_two, appended_more}
use Rattle.gc_files.proofs.rows_file.RowsFileSink.write.Goals as goal

pub invariant_of-self : goal.invariant_of-self
invariant_of-self g c = record {
  only_appends = ap cuts_none c.then-self.ensures ∙ cuts_two c.args.self.now.past.steps _ c.args.self.now.only_appends refl;
  whole_rows = λ e. ends_more _ _ _ (omega (arith, length-take-le c.in-Ok.n c.args.bytes.now c.in-Ok.ensures.count.1, c.in-Ok.ensures.count.0))
      (ap appended c.then-self.ensures ∙ appended_more c.args.self.now.past.steps _) (sym c.whole_len.ensures.len ∙ eqb-true _ _ e);
  kept = λ e. absurd (cc);
  durable = λ e. absurd (cc);
}

pub returns-in-Ok-clause-bytes : goal.returns-in-Ok-clause-bytes
returns-in-Ok-clause-bytes g c =
    (c.in-Ok.ensures.count.1, (λ _. c.in-Ok.ensures.count.0), ap appended c.then-self.ensures ∙ appended_more c.args.self.now.past.steps _)

pub returns-in-Ok-clause-content : goal.returns-in-Ok-clause-content
returns-in-Ok-clause-content g c = (c.in-Ok.ensures.count.1, (λ _. c.in-Ok.ensures.count.0), content_more _ _ _ c.in-Ok.ensures.step)
