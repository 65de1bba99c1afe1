use Rattle.gc_texts.proofs.Common.{rules, ◌≡◌, ◌≤◌, ◌++◌, ◌∷◌, [], ap, sym, ◌∙◌, arith, IsTrue, IsFalse, option_copied}
use Rattle.gc_texts.proofs.TextLines.{reads_few, next_line_is_unread, line_skips, line_reads, line_fails, line_wants}
use Rattle.gc_texts.proofs.line_forms.read_lines.Goals as goal

pub overflow_add-number : goal.overflow_add-number
overflow_add-number g c =
    let few : c.loop-left.number ≤ 65537 = reads_few g.F.LineForm.form c.args.text.now (option_copied c.loop-left.left) c.loop-left.number c.loop-left.items.items c.requires c.loop-left.invariant in
    omega (arith, few)

pub loop-left-preserved-then-is_skipped : goal.loop-left-preserved-then-is_skipped
loop-left-preserved-then-is_skipped g c =
    let at = next_line_is_unread g.F.LineForm.form c.args.text.now (option_copied c.loop-left.left) c.in-Some.text.now c.cut_line.result.0.now (option_copied c.cut_line.result.1)
    c.loop-left.number c.loop-left.items.items c.loop-left.invariant (ap option_copied c.in-Some.is) c.cut_line.ensures in
    line_skips _ _ c.cut_line.result.0.now (option_copied c.cut_line.result.1) _ _ at (sym c.is_skipped.ensures ∙ c.if-is_skipped.true)

pub loop-left-preserved : goal.loop-left-preserved
loop-left-preserved g c =
    let at = next_line_is_unread g.F.LineForm.form c.args.text.now (option_copied c.loop-left.left) c.in-Some.text.now c.cut_line.result.0.now (option_copied c.cut_line.result.1)
    c.loop-left.number c.loop-left.items.items c.loop-left.invariant (ap option_copied c.in-Some.is) c.cut_line.ensures in
    let is : IsTrue c.read.result = search rules in
    let grown : c.push_reserved.new.self.items ≡ c.loop-left.items.items ++ c.read.new.item ∷ [] = search rules in
    line_reads _ _ c.cut_line.result.0.now (option_copied c.cut_line.result.1) _ _ at c.read.new.item c.push_reserved.new.self.items
    (sym c.is_skipped.ensures ∙ c.if-is_skipped.false) (c.read.ensures.found is) grown

pub returns-then-not-read-clause-fault : goal.returns-then-not-read-clause-fault
returns-then-not-read-clause-fault g c =
    let at = next_line_is_unread g.F.LineForm.form c.args.text.now (option_copied c.loop-left.left) c.in-Some.text.now c.cut_line.result.0.now (option_copied c.cut_line.result.1)
    c.loop-left.number c.loop-left.items.items c.loop-left.invariant (ap option_copied c.in-Some.is) c.cut_line.ensures in
    let isnt : IsFalse c.read.result = search rules in
    (c.requires, line_fails _ _ c.cut_line.result.0.now (option_copied c.cut_line.result.1) _ _ at (sym c.is_skipped.ensures ∙ c.if-is_skipped.false) (c.read.ensures.none isnt))

pub returns-then-is_err-clause-fault : goal.returns-then-is_err-clause-fault
returns-then-is_err-clause-fault g c =
    let at = next_line_is_unread g.F.LineForm.form c.args.text.now (option_copied c.loop-left.left) c.in-Some.text.now c.cut_line.result.0.now (option_copied c.cut_line.result.1)
    c.loop-left.number c.loop-left.items.items c.loop-left.invariant (ap option_copied c.in-Some.is) c.cut_line.ensures in
    let is : IsTrue c.read.result = search rules in
    (c.requires, line_wants _ _ c.cut_line.result.0.now (option_copied c.cut_line.result.1) _ _ at c.read.new.item (sym c.is_skipped.ensures ∙ c.if-is_skipped.false) (c.read.ensures.found is))
