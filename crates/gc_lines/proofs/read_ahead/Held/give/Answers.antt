use Rattle.gc_lines.proofs.Common.{◌≡◌, ℕ, ◌+◌, ◌-◌, ◌≤◌, List, ◌++◌, length, take, drop, sym, ap, ◌∙◌, arith, length-drop, rules, take_at, drop-drop, length-take-le, take-add}
use Rattle.gc_lines.proofs.read_ahead.Held.give.Goals as goal

-- of the bytes from `start` to `end`, which are held, the first n are put at the front of `buf`: these and then the bytes from
-- start + n to `end` are the ones that were held
given_and_held : (bytes buf part : List ℕ) (start end n : ℕ) → start + n ≤ end → end ≤ length bytes → part ≡ take n (drop start bytes)
    → take (end - start) (drop start bytes) ≡ take n (part ++ drop n buf) ++ take (end - (start + n)) (drop (start + n) bytes)
given_and_held bytes buf part start end n within all is =
    let held = drop start bytes in
    let room : n ≤ length held = omega (arith, length-drop start bytes) in
    let sizes : end - start ≡ n + (end - (start + n)) = omega arith in
    let given : take n (part ++ drop n buf) ≡ take n held = take_at part (drop n buf) n (ap length is ∙ length-take-le n held room) ∙ is in
    rw (sizes, take-add n (end - (start + n)) held, given, drop-drop n start bytes)

pub returns-clause-bytes : goal.returns-clause-bytes
returns-clause-bytes c =
    sym c.self.view_is
    ∙ given_and_held c.self.inside.bytes c.args.buf.now c.copy_from_slice.new.self c.self.inside.start c.self.inside.end c.min-count.result
    (omega (arith, c.min-count.ensures)) (omega (arith, c.self.told)) (search rules)
