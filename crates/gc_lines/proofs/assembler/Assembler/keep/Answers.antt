use Rattle.gc_lines.proofs.Common.{◌≡◌, ◌-◌, length, arith, subst, sym, ap, ◌∙◌, ◌++◌, take, rules, Kept, StandsFor}
use Rattle.gc_lines.proofs.Keeping.{keeps_all, keeps_part}
use Rattle.gc_lines.proofs.assembler.Assembler.keep.Goals as goal

pub invariant_of-self : goal.invariant_of-self
invariant_of-self c =
    let t = c.self.invariant in
    let e = c.in-Some.ensures in
    (t.0 ++ c.args.bytes.now, keeps_all _ t.0 c.args.bytes.now _ _ t.1 (search rules) (search rules) (omega arith) (search rules))

pub returns-then-bytes-room-clause-more : goal.returns-then-bytes-room-clause-more
returns-then-bytes-room-clause-more c rest s =
    let P : Kept → Type 0 = λ k. StandsFor k rest in
    let t = subst P (sym c.self.view_is) s in
    let e = c.in-Some.ensures in
    keeps_all _ rest c.args.bytes.now _ _ t (search rules) (search rules) (omega arith) (search rules)

pub invariant_of-self-else-bytes-room : goal.invariant_of-self-else-bytes-room
invariant_of-self-else-bytes-room c =
    let t = c.self.invariant in
    let room : c.remaining_capacity-room.result ≡ 513 - length c.self.inside.front.items = omega arith in (
      t.0 ++ c.args.bytes.now,
      keeps_part _ t.0 c.args.bytes.now _ _ t.1 (search rules) (omega arith)
          (c.append-else-bytes-room.ensures ∙ ap (λ n. c.self.inside.front.items ++ take n c.args.bytes.now) room),
    )

pub returns-else-bytes-room-clause-more : goal.returns-else-bytes-room-clause-more
returns-else-bytes-room-clause-more c rest s =
    let P : Kept → Type 0 = λ k. StandsFor k rest in
    let t = subst P (sym c.self.view_is) s in
    let room : c.remaining_capacity-room.result ≡ 513 - length c.self.inside.front.items = omega arith in
    keeps_part _ rest c.args.bytes.now _ _ t (search rules) (omega arith)
    (c.append-else-bytes-room.ensures ∙ ap (λ n. c.self.inside.front.items ++ take n c.args.bytes.now) room)
