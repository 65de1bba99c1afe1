use Rattle.gc_lines.proofs.Common.{◌≡◌, ◌-◌, ◌<◌, ◌≤◌, subst, sym, ap, refl, ◌∙◌, length, take, arith, rules, take_all, ltb-false, Kept, StandsFor}
use Rattle.gc_lines.proofs.Keeping.{line_frame}
use Rattle.gc_lines.proofs.assembler.Assembler.finish.Goals as goal

pub returns-clause-frame : goal.returns-clause-frame
returns-clause-frame c rest s =
    let P : Kept → Type 0 = λ k. StandsFor k rest in
    let t = subst P (sym c.self-2.view_is) s in
    let short : length rest ≤ 513 = ltb-false 513 (length rest) (sym t.long ∙ c.if-self.false) in
    let front : c.self-2.inside.front.items ≡ rest = t.front ∙ take_all 513 rest short in
    let some : 0 < length c.self-2.inside.front.items = search rules in
    let items : c.append.new.to.items ≡ take (length rest - 1) rest = c.append.ensures ∙ rw (c.clear-2.ensures, c.len-len.ensures.value, c.deref.ensures.0, front) refl in
    line_frame rest (record { items = c.deref-2.result.now }) (omega (arith, ap length front)) (sym t.last ∙ search rules) short (c.deref-2.ensures.0 ∙ items)
