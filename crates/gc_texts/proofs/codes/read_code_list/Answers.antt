use Rattle.gc_texts.proofs.Common.{ap, rules, ◌<◌, option_copied, IsCodeList, Codes}
use Rattle.gc_texts.proofs.CodeForms.{code_fails, code_reads, all_codes_read}
use Rattle.gc_texts.proofs.codes.read_code_list.Goals as goal

pub returns-in_err-code : goal.returns-in_err-code
returns-in_err-code c =
    let none : (found : Codes) → IsCodeList c.args.text.now found → ⊥ =
    λ found is. code_fails c.args.text.now c.in-Some.text.now c.cut_at.result.0.now (option_copied c.loop-left.left) (option_copied c.cut_at.result.1) c.loop-left.codes c.loop-left.count
    c.loop-left.invariant (ap option_copied c.in-Some.is) c.cut_at.ensures c.in_err-code.ensures found is in
    search rules

pub loop-left-preserved : goal.loop-left-preserved
loop-left-preserved c =
    let room : c.loop-left.count < 16 = search rules in
    code_reads c.args.text.now c.in-Some.text.now c.cut_at.result.0.now (option_copied c.loop-left.left) (option_copied c.cut_at.result.1) c.loop-left.codes c.loop-left.count
    c.loop-left.invariant (ap option_copied c.in-Some.is) c.cut_at.ensures c.in_ok-code.code c.with_code_at-codes.result c.in_ok-code.ensures room c.with_code_at-codes.ensures

pub returns : goal.returns
returns c = all_codes_read c.args.text.now (option_copied c.loop-left.left) c.loop-left.codes c.loop-left.count c.loop-left.invariant (ap option_copied c.in_default.is)
