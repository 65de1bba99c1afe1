-- A beginning asks for null procedures with the ids of a fixed list, the word. It has begun where all eight are answered.
use Rattle.gc_client.proofs.Common.{◌≡◌, ℕ, ◌≤◌, true, List, [], drop, length, length-drop, nat_eq, sym, ◌∙◌, ap, arith, eqb-true, eq-eqb}
use Rattle.gc_client.specs.Beginning.{the_word}

-- where n of the word's eight ids are answered, nothing of the word is left exactly where n is 8
pub all_answered : (n : ℕ) (left : List ℕ) → left ≡ drop n the_word → n ≤ 8 → (nat_eq n 8 ≡ true → left ≡ []) × (left ≡ [] → nat_eq n 8 ≡ true)
all_answered n left is most = (
  (λ e. is ∙ ap (λ k. drop k the_word) (eqb-true n 8 e)),
  (λ e.
      let none : length (drop n the_word) ≡ 0 = ap length (sym is ∙ e) in
      eq-eqb n 8 (let size = length-drop n the_word in omega (arith, none, size, most))),
)
