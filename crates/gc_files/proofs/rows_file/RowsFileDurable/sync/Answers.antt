use Rattle.gc_files.proofs.Common.{◌≡◌, ℕ, List, ap, sym, subst, ◌∙◌, refl, cuts_none, appended, whole, synced}
use Rattle.gc_files.proofs.Adding.{content_same, cuts_two, appended_sync, synced_all}
use Rattle.gc_files.proofs.rows_file.RowsFileDurable.sync.Goals as goal

pub invariant_of-self-in-Ok : goal.invariant_of-self-in-Ok
invariant_of-self-in-Ok g c = record {
  only_appends = ap cuts_none c.then-self.ensures ∙ cuts_two c.args.self.now.past.steps _ c.args.self.now.only_appends refl;
  whole_rows = λ e. subst (λ (l : List ℕ). whole l ≡ l) (sym (ap appended c.then-self.ensures ∙ appended_sync c.args.self.now.past.steps)) (c.args.self.now.whole_rows e);
  kept = λ _. ap synced c.then-self.ensures ∙ synced_all c.args.self.now.past.steps ∙ sym (ap appended c.then-self.ensures ∙ appended_sync c.args.self.now.past.steps);
  durable = λ _. c.in-Ok.ensures.durable (sym c.if-is_doubted.ensures);
}

pub returns-in-Ok-clause-same : goal.returns-in-Ok-clause-same
returns-in-Ok-clause-same g c = ap appended c.then-self.ensures ∙ appended_sync c.args.self.now.past.steps

pub returns-in-Ok-clause-content : goal.returns-in-Ok-clause-content
returns-in-Ok-clause-content g c = content_same _ _ c.in-Ok.ensures.step
