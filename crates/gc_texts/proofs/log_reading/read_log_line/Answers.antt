use Rattle.gc_texts.proofs.Common.{ℕ, ◌≤◌, List, length, Some, rules, option_copied, IsLogLine, LogMark}
use Rattle.gc_texts.proofs.Logs.{unspaced_is_no_log_line, unprintable_is_no_log_line, half_spaced_is_no_log_line, markless_is_no_log_line, unescaped_is_no_log_line}
use Rattle.gc_texts.proofs.Procedures.{with_rest}
use Rattle.gc_texts.proofs.log_reading.read_log_line.Goals as goal

pub returns-in_err-behind : goal.returns-in_err-behind
returns-in_err-behind c =
    let none : (moment : List ℕ) (mark : LogMark) (bytes : List ℕ) → length bytes ≤ 514 → IsLogLine c.args.line.now moment mark bytes → ⊥ =
    λ moment mark bytes room is. unspaced_is_no_log_line c.args.line.now c.cut_at.result.0.now (option_copied c.cut_at.result.1) c.cut_at.ensures moment mark bytes is (search rules) in
    search rules

pub returns-in_err-text : goal.returns-in_err-text
returns-in_err-text c =
    let none : (moment : List ℕ) (mark : LogMark) (bytes : List ℕ) → length bytes ≤ 514 → IsLogLine c.args.line.now moment mark bytes → ⊥ =
    λ moment mark bytes room is. half_spaced_is_no_log_line c.args.line.now c.cut_at.result.0.now (option_copied c.cut_at.result.1) c.cut_at.ensures moment mark bytes is
    c.in_ok-behind.behind.now c.cut_at-2.result.0.now (option_copied c.cut_at-2.result.1) (search rules) c.cut_at-2.ensures (search rules) in
    search rules

pub returns-in_err-mark : goal.returns-in_err-mark
returns-in_err-mark c =
    let none : (moment : List ℕ) (mark : LogMark) (bytes : List ℕ) → length bytes ≤ 514 → IsLogLine c.args.line.now moment mark bytes → ⊥ =
    λ moment mark bytes room is. markless_is_no_log_line c.args.line.now c.cut_at.result.0.now (option_copied c.cut_at.result.1) c.cut_at.ensures moment mark bytes is
    c.in_ok-behind.behind.now c.cut_at-2.result.0.now (option_copied c.cut_at-2.result.1) (search rules) c.cut_at-2.ensures c.in_err-mark.ensures in
    search rules

pub returns-in_err-bytes : goal.returns-in_err-bytes
returns-in_err-bytes c =
    let none : (moment : List ℕ) (mark : LogMark) (bytes : List ℕ) → length bytes ≤ 514 → IsLogLine c.args.line.now moment mark bytes → ⊥ =
    λ moment mark bytes room is. unescaped_is_no_log_line c.args.line.now c.cut_at.result.0.now (option_copied c.cut_at.result.1) c.cut_at.ensures moment mark bytes is
    c.in_ok-behind.behind.now c.cut_at-2.result.0.now c.in_ok-text.text.now (search rules)
    (with_rest 32 c.in_ok-behind.behind.now c.cut_at-2.result.0.now (option_copied c.cut_at-2.result.1) (Some c.in_ok-text.text.now) c.cut_at-2.ensures (search rules))
    room c.in_err-bytes.ensures in
    search rules

pub returns-then-not-is_printable : goal.returns-then-not-is_printable
returns-then-not-is_printable c = λ moment mark bytes room is.
    unprintable_is_no_log_line c.args.line.now c.cut_at.result.0.now (option_copied c.cut_at.result.1) c.cut_at.ensures moment mark bytes is
    (λ are. let printed = (c.is_printable.ensures).1 are in let tested = c.if-not-is_printable.true in cc)
