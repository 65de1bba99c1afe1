use Rattle.gc_texts.proofs.Common.{rules, length, ◌≤◌, [], Some, inl, refl, ap, sym, subst, ◌∙◌, arith, option_copied, IsTaskLine, first_mode, standing_in, Grows, IsInPlace, Standing}
use Rattle.gc_texts.proofs.TextLines.{ReadsSoFar, next_line_is_unread}
use Rattle.gc_texts.proofs.TaskReading.{counted, cycle_few, tasks_few, task_skips, task_reads, task_fails, task_refused, task_wants}
use Rattle.gc_texts.proofs.tasks.read_task_lines.Goals as goal

pub loop-left-init : goal.loop-left-init
loop-left-init c =
    let reads : ReadsSoFar IsTaskLine c.args.text.now (Some c.args.text.now) 0 [] = search rules in
    record {
      said = [];
      reads = reads;
      follow = tt;
      gave = c.new-given.ensures (first_mode c.args.deadline c.args.chained);
      mode_is = c.first_mode-mode.ensures;
      reached = inl refl;
    }

pub overflow_add-number : goal.overflow_add-number
overflow_add-number c =
    let few : c.loop-left.number ≤ 65537 =
    tasks_few c.args.text.now c.args.deadline c.args.chained (option_copied c.loop-left.left) c.loop-left.number _ _ c.requires c.loop-left.invariant in
    omega (arith, few)

pub loop-left-preserved-then-is_skipped : goal.loop-left-preserved-then-is_skipped
loop-left-preserved-then-is_skipped c =
    let at = next_line_is_unread IsTaskLine c.args.text.now (option_copied c.loop-left.left) c.in-Some.text.now c.cut_line.result.0.now (option_copied c.cut_line.result.1)
    c.loop-left.number _ c.loop-left.invariant.reads (ap option_copied c.in-Some.is) c.cut_line.ensures in
    task_skips _ _ _ _ _ _ refl c.loop-left.invariant c.cut_line.result.0.now (option_copied c.cut_line.result.1) at (sym c.is_skipped.ensures ∙ c.if-is_skipped.true)

pub returns-in_default-read_task_line-clause-fault : goal.returns-in_default-read_task_line-clause-fault
returns-in_default-read_task_line-clause-fault c =
    let at = next_line_is_unread IsTaskLine c.args.text.now (option_copied c.loop-left.left) c.in-Some.text.now c.cut_line.result.0.now (option_copied c.cut_line.result.1)
    c.loop-left.number _ c.loop-left.invariant.reads (ap option_copied c.in-Some.is) c.cut_line.ensures in (
      c.requires,
      task_fails _ _ _ _ _ _ refl c.loop-left.invariant c.cut_line.result.0.now
          (option_copied c.cut_line.result.1) at (sym c.is_skipped.ensures ∙ c.if-is_skipped.false) c.in_default-read_task_line.ensures,
    )

pub returns-then-not-allows-clause-fault : goal.returns-then-not-allows-clause-fault
returns-then-not-allows-clause-fault c =
    let away : IsInPlace c.loop-left.given.names.items c.loop-left.given.nears.items c.loop-left.given.unwatched.items c.loop-left.given.described.items (standing_in c.loop-left.mode) c.in-Some-read_task_line.said → ⊥ =
    λ here. c.allows.ensures.none c.if-not-allows.true (subst (λ (s : Standing). IsInPlace c.loop-left.given.names.items c.loop-left.given.nears.items c.loop-left.given.unwatched.items c.loop-left.given.described.items s c.in-Some-read_task_line.said) (sym c.standing.ensures) here) in
    let at = next_line_is_unread IsTaskLine c.args.text.now (option_copied c.loop-left.left) c.in-Some.text.now c.cut_line.result.0.now (option_copied c.cut_line.result.1)
    c.loop-left.number _ c.loop-left.invariant.reads (ap option_copied c.in-Some.is) c.cut_line.ensures in (
      c.requires,
      task_refused _ _ _ _ _ _ refl c.loop-left.invariant c.cut_line.result.0.now (option_copied c.cut_line.result.1) at c.in-Some-read_task_line.said
          (sym c.is_skipped.ensures ∙ c.if-is_skipped.false) c.in-Some-read_task_line.ensures away,
    )

pub returns-then-is_err-clause-fault : goal.returns-then-is_err-clause-fault
returns-then-is_err-clause-fault c =
    let here : IsInPlace c.loop-left.given.names.items c.loop-left.given.nears.items c.loop-left.given.unwatched.items c.loop-left.given.described.items (standing_in c.loop-left.mode) c.in-Some-read_task_line.said =
    subst (λ (s : Standing). IsInPlace c.loop-left.given.names.items c.loop-left.given.nears.items c.loop-left.given.unwatched.items c.loop-left.given.described.items s c.in-Some-read_task_line.said) c.standing.ensures (c.allows.ensures.found c.if-not-allows.false) in
    let at = next_line_is_unread IsTaskLine c.args.text.now (option_copied c.loop-left.left) c.in-Some.text.now c.cut_line.result.0.now (option_copied c.cut_line.result.1)
    c.loop-left.number _ c.loop-left.invariant.reads (ap option_copied c.in-Some.is) c.cut_line.ensures in (
      c.requires,
      task_wants _ _ _ _ _ _ refl c.loop-left.invariant c.cut_line.result.0.now (option_copied c.cut_line.result.1) at c.in-Some-read_task_line.said
          (sym c.is_skipped.ensures ∙ c.if-is_skipped.false) c.in-Some-read_task_line.ensures here,
    )

pub loop-left-preserved : goal.loop-left-preserved
loop-left-preserved c =
    let here : IsInPlace c.loop-left.given.names.items c.loop-left.given.nears.items c.loop-left.given.unwatched.items c.loop-left.given.described.items (standing_in c.loop-left.mode) c.in-Some-read_task_line.said =
    subst (λ (s : Standing). IsInPlace c.loop-left.given.names.items c.loop-left.given.nears.items c.loop-left.given.unwatched.items c.loop-left.given.described.items s c.in-Some-read_task_line.said) c.standing.ensures (c.allows.ensures.found c.if-not-allows.false) in
    let at = next_line_is_unread IsTaskLine c.args.text.now (option_copied c.loop-left.left) c.in-Some.text.now c.cut_line.result.0.now (option_copied c.cut_line.result.1)
    c.loop-left.number _ c.loop-left.invariant.reads (ap option_copied c.in-Some.is) c.cut_line.ensures in
    let grows : Grows c.loop-left.mode c.in-Some-read_task_line.said c.loop-left.given c.append.new.self = search rules in
    task_reads _ _ _ _ _ _ refl c.loop-left.invariant c.cut_line.result.0.now (option_copied c.cut_line.result.1) at c.in-Some-read_task_line.said c.append.new.self c.mode_after-next.result
    (sym c.is_skipped.ensures ∙ c.if-is_skipped.false) c.in-Some-read_task_line.ensures here grows c.mode_after-next.ensures

pub mode_after-next-requires : goal.mode_after-next-requires
mode_after-next-requires c =
    let few = counted c.args.text.now c.args.deadline c.args.chained (option_copied c.loop-left.left) c.loop-left.number _ _ c.requires c.loop-left.invariant in
    record { begun = omega (arith, few.begun); place = omega (arith, few.place); link = omega (arith, few.link); counters = omega (arith, few.counters); values = omega (arith, few.values) }

pub lay_out-requires : goal.lay_out-requires
lay_out-requires c =
    let few : length c.loop-left.given.cycle.items ≤ 65537 =
    cycle_few c.args.text.now c.args.deadline c.args.chained (option_copied c.loop-left.left) c.loop-left.number _ _ c.requires c.loop-left.invariant in
    let same = ap length c.as_slice.ensures.value in
    omega (arith, few, same)

pub allows-requires : goal.allows-requires
allows-requires c = c.loop-left.invariant.gave.columns_are
