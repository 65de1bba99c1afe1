-- A file that is copied block by block: `at` is how many of its bytes were copied so far, and each line feed among them is
-- counted.
use Rattle.gc_files.proofs.Common.{◌≡◌, ℕ, ◌+◌, ◌≤◌, ◌==◌, List, [], ◌∷◌, ◌++◌, length, take, refl, sym, ◌∙◌, ap, subst, arith, length-append, Option, filter, take-add, append-nil, take_all, feeds, Sync, Life, Adds, PutsAll}
use Rattle.std.proofs.lemmas.List.Elements.{filter-append}
use Rattle.gc_files.proofs.Adding.{puts_two}
use Rattle.gc_files.proofs.Looking.{IsBlock}

-- two texts together have the line feeds of both
pub feeds_two : (xs ys : List ℕ) → feeds (xs ++ ys) ≡ feeds xs + feeds ys
feeds_two xs ys = ap length (filter-append (λ b. b == 10) xs ys) ∙ length-append (filter (λ b. b == 10) xs) (filter (λ b. b == 10) ys)

-- where `xs` were appended from `old` to `mid`, and one sync was made from `mid` to `new`, `xs` were appended from `old` to `new`
pub puts_synced : (old mid new : Option Life) (xs : List ℕ) → PutsAll old mid xs → Adds mid new (Sync ∷ []) → PutsAll old new xs
puts_synced old mid new xs puts sync =
    subst (PutsAll old new) (append-nil xs) (puts_two old mid new xs [] puts (λ life is. (Sync ∷ [], sync life is, record { none_cut = refl; all = refl })))

-- the first `at + size` bytes are the first `at`, and then the block of the `size` bytes after them
taken_block : (at size : ℕ) (held block : List ℕ) → IsBlock at size held block → take (at + size) held ≡ take at held ++ block
taken_block at size held block is = take-add at size held ∙ ap (λ (l : List ℕ). take at held ++ l) (sym is)

-- where the first `at` bytes were appended, and then the block of the `size` bytes after them, the first `at + size` bytes were
pub puts_block : (old mid new : Option Life) (at size : ℕ) (held block : List ℕ) → IsBlock at size held block
    → PutsAll old mid (take at held) → PutsAll mid new block → PutsAll old new (take (at + size) held)
puts_block old mid new at size held block is first second =
    subst (PutsAll old new) (sym (taken_block at size held block is)) (puts_two old mid new (take at held) block first second)

-- where `lines` is the number of line feeds in the first `at` bytes, and `more` that of the block of the `size` bytes after them,
-- their sum is that of the first `at + size`
pub counts_block : (at size : ℕ) (held block : List ℕ) (lines more : ℕ) → IsBlock at size held block
    → lines ≡ feeds (take at held) → more ≡ feeds block → lines + more ≡ feeds (take (at + size) held)
counts_block at size held block lines more is first second =
    omega (arith, first, second, ap feeds (taken_block at size held block is), feeds_two (take at held) block)

-- where the first `at` bytes of a file, which are all that it holds, were appended to a copy, and the copy was synced, all that
-- the file holds was appended to the copy
pub puts_all : (old mid new : Option Life) (held : List ℕ) (at : ℕ)
    → length held ≤ at → PutsAll old mid (take at held) → Adds mid new (Sync ∷ []) → PutsAll old new held
puts_all old mid new held at all puts sync = subst (PutsAll old new) (take_all at held all) (puts_synced old mid new (take at held) puts sync)
