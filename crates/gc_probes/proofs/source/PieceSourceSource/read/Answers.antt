use Rattle.std.proofs.Common.{◌≡◌, ℕ, ◌-◌, ◌≤◌, List, [], ◌++◌, length, take, drop, sym, ap, ◌∙◌, arith, rules, length-append, length-drop}
use Rattle.std.proofs.lemmas.List.{take-append-drop, length-take-le, take_rest, take_at, nil_from_length}
use Rattle.gc_probes.proofs.source.PieceSourceSource.read.Goals as goal

-- where the first n bytes of `left` were copied to the front of the buffer, they are its first n bytes, and they and the rest
-- are `left`; if n is 0, which it is only if `left` has no bytes, the rest has none
gives : (left buf got : List ℕ) (n : ℕ) → got ≡ take n left → n ≤ length left → (n ≡ 0 → length left ≡ 0)
    → (n ≤ length (got ++ drop n buf)) × (left ≡ take n (got ++ drop n buf) ++ take (length left - n) (drop n left)) × (n ≡ 0 → take (length left - n) (drop n left) ≡ [])
gives left buf got n is fits none =
    let len : length got ≡ n = ap length is ∙ length-take-le n left fits in
    let front : take n (got ++ drop n buf) ≡ got = take_at got (drop n buf) n len in (
      omega (arith, len, length-append got (drop n buf)),
      rw (front, take_rest left n) (sym (take-append-drop n left) ∙ ap (λ xs. xs ++ drop n left) (sym is)),
      λ zero. rw (take_rest left n) (nil_from_length (drop n left) (omega (arith, length-drop n left, none zero))),
    )

pub returns-clause-bytes : goal.returns-clause-bytes
returns-clause-bytes c =
    let left = c.self-2.inside.left.now in
    let n = c.take_size-n.result in
    let next = c.take_size-n.ensures in
    let same : c.args.self.now.left ≡ left = search rules in
    rw same (gives left c.args.buf.now c.copy_from_slice.new.self n (search rules) (omega (arith, next.within, ap length same)) (λ zero. omega (arith, next.some (search rules) zero, ap length same)))
