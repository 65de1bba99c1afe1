use Rattle.gc_texts.proofs.Common.{rules, ◌≡◌, true, drop, ap, ◌∙◌, Raw, filled_call}
use Rattle.gc_texts.proofs.TaskMoments.{call_with_values}
use Rattle.gc_texts.proofs.tasks.Task.call_at.Goals as goal

pub returns-in-Raw : goal.returns-in-Raw
returns-in-Raw c =
    let now : c.args.self.now.now ≡ true = search rules in
    let is : c.args.self.now.command.call ≡ Raw c.in-Raw.raw = search rules in
    let values : c.filled_call.result ≡ filled_call c.in-Raw.raw (drop c.args.self.now.needs.first c.args.occasion.now.values) =
    c.filled_call.ensures ∙ ap (filled_call c.in-Raw.raw) c.values_from-values.ensures in
    ap Raw values ∙ call_with_values c.args.self.now c.args.occasion.now c.in-Raw.raw now is
