-- The calls of a write of many bytes, one after the other.
use Rattle.gc_links.proofs.Common.{ℕ, ◌+◌, ◌-◌, ◌<◌, ◌≤◌, List, [], ◌∷◌, ◌++◌, ◌≡◌, length, take, sym, subst, refl, le_of_eq, arith, length-drop, take_all, drop-drop, End, Call, Makes, Took, TookNone, Sends}
use Rattle.std.proofs.Common.{drop}
use Rattle.gc_links.proofs.Making.{makes_one, makes_then}

-- a write more, of what the writes before left
sends_then : (end : End) (bytes : List ℕ) (calls : List Call) (rest : List ℕ) (more : List Call) (left : List ℕ)
    → Sends end bytes calls rest → Sends end rest more left → Sends end bytes (calls ++ more) left
sends_then end bytes [] rest more left is then = subst (λ xs. Sends end xs more left) is then
sends_then end bytes (Took to handed count ∷ calls) rest more left s then =
    (s.0, s.1, s.2, s.3, sends_then end (drop count bytes) calls rest more left s.4 then)
sends_then end bytes (TookNone to handed ∷ calls) rest more left s then = (s.0, s.1, sends_then end bytes calls rest more left s.2 then)
sends_then end bytes (_ ∷ calls) rest more left s then = absurd s

-- the rest of a slice from a place on
slice_rest : (at : ℕ) (bytes : List ℕ) → take (length bytes - at) (drop at bytes) ≡ drop at bytes
slice_rest at bytes = take_all (length bytes - at) (drop at bytes) (le_of_eq (length-drop at bytes))

-- what a write took of the rest is within the bytes
pub took_within : (at n : ℕ) (bytes : List ℕ) → at ≤ length bytes → n ≤ length (take (length bytes - at) (drop at bytes))
    → at + n ≤ length bytes
took_within at n bytes within took =
    let all : n ≤ length bytes - at =
    subst (λ k. n ≤ k) (length-drop at bytes) (subst (λ xs. n ≤ length xs) (slice_rest at bytes) took) in
    omega arith

-- a write took some more bytes
pub took_more : (end : End) (at n : ℕ) (bytes : List ℕ) {old mid new : List Call}
    → 0 < n → n ≤ length (take (length bytes - at) (drop at bytes)) → Makes old mid (λ calls. Sends end bytes calls (drop at bytes))
    → new ≡ mid ++ Took end (take (length bytes - at) (drop at bytes)) n ∷ []
    → Makes old new (λ calls. Sends end bytes calls (drop (at + n) bytes))
took_more end at n bytes some within before is =
    makes_then (λ calls. Sends end bytes calls (drop at bytes)) (λ calls. Sends end (drop at bytes) calls (drop (at + n) bytes))
    (λ calls. Sends end bytes calls (drop (at + n) bytes))
    (λ xs ys one two. sends_then end bytes xs (drop at bytes) ys (drop (at + n) bytes) one two) before
    (makes_one (λ calls. Sends end (drop at bytes) calls (drop (at + n) bytes))
    (Took end (take (length bytes - at) (drop at bytes)) n) is
    (refl, slice_rest at bytes, some, subst (λ xs. n ≤ length xs) (slice_rest at bytes) within, sym (drop-drop n at bytes)))

-- a write took none
pub took_none : (end : End) (at : ℕ) (bytes : List ℕ) {old mid new : List Call}
    → Makes old mid (λ calls. Sends end bytes calls (drop at bytes))
    → new ≡ mid ++ TookNone end (take (length bytes - at) (drop at bytes)) ∷ []
    → Makes old new (λ calls. Sends end bytes calls (drop at bytes))
took_none end at bytes before is =
    makes_then (λ calls. Sends end bytes calls (drop at bytes)) (λ calls. Sends end (drop at bytes) calls (drop at bytes))
    (λ calls. Sends end bytes calls (drop at bytes))
    (λ xs ys one two. sends_then end bytes xs (drop at bytes) ys (drop at bytes) one two) before
    (makes_one (λ calls. Sends end (drop at bytes) calls (drop at bytes)) (TookNone end (take (length bytes - at) (drop at bytes))) is
    (refl, slice_rest at bytes, refl))
