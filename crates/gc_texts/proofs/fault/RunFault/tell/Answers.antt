use Rattle.gc_texts.proofs.Common.{ℕ, List, [], ◌∷◌, ◌++◌, OnOk, sym, ap, subst, ◌∙◌, append_assoc, decimal, Appends, numbered_fault, run_fault_number, run_fault_text, fault_line}
use Rattle.std.specs.Prelude.{codes}
use Rattle.gc_lines.specs.declared.served.TheConstants.{WRITE_FAILED}
use Rattle.gc_texts.proofs.FaultLines.{plain_detail, line_with}
use Rattle.gc_texts.proofs.fault.RunFault.tell.Goals as goal

pub returns-in-Write : goal.returns-in-Write
returns-in-Write g c =
    let replies = decimal c.in-Write.replies in
    let rest : List ℕ = codes " byte " ++ decimal c.in-Write.bytes in
    let end = ap (λ l. codes " reply " ++ l) (sym (append_assoc replies rest (10 ∷ []))) in
    let whole = ap (λ l. codes "geocom: fault " ++ (decimal c.number.result ++ l)) end in
    let number = ap (λ n. codes "geocom: fault " ++ (decimal n ++ ((codes " reply " ++ (replies ++ rest)) ++ (10 ∷ [])))) c.number.ensures in
    let line = whole ∙ number ∙ line_with WRITE_FAILED (codes " reply " ++ (replies ++ rest)) ∙ ap (λ fault. fault_line (run_fault_text fault)) (sym c.in-Write.is) in
    subst (λ l. OnOk c.writeln.result (Appends (g.E.Write.contents c.args.messages.now) (g.E.Write.contents c.writeln.new.self) l)) line c.writeln.ensures.bytes

pub returns-in-Schedule : goal.returns-in-Schedule
returns-in-Schedule g c =
    let detail : List ℕ = codes " line " ++ decimal c.in-Schedule.line in
    let number = ap (λ n. codes "geocom: fault " ++ (decimal n ++ (detail ++ (10 ∷ [])))) c.number-in-Schedule.ensures in
    let line = number ∙ line_with 51 detail ∙ ap (λ fault. fault_line (run_fault_text fault)) (sym c.in-Schedule.is) in
    subst (λ l. OnOk c.writeln-in-Schedule.result (Appends (g.E.Write.contents c.args.messages.now) (g.E.Write.contents c.writeln-in-Schedule.new.self) l)) line c.writeln-in-Schedule.ensures.bytes

pub returns-in_default : goal.returns-in_default
returns-in_default g c =
    let number = line_with c.number-in_default.result [] ∙ ap (λ n. fault_line (numbered_fault n ++ [])) c.number-in_default.ensures in
    let detail = sym (plain_detail c.args.self c.in_default.not-Write c.in_default.not-Schedule) in
    let line = number ∙ ap (λ d. fault_line (numbered_fault (run_fault_number c.args.self) ++ d)) detail in
    subst (λ l. OnOk c.writeln-in_default.result (Appends (g.E.Write.contents c.args.messages.now) (g.E.Write.contents c.writeln-in_default.new.self) l)) line c.writeln-in_default.ensures.bytes
