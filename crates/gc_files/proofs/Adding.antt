-- How calls of a file add up. The life of a file is what it held at first, and the steps (calls) since then. To mend a file
-- is to cut off what follows its last line feed, and to sync that. An opening mends a file, and writes the head where it has
-- no whole row.
use Rattle.gc_files.proofs.Common.{◌≡◌, inl, inr, ℕ, ◌≤◌, ◌<◌, ◌==◌, true, false, List, [], ◌∷◌, ◌++◌, length, take, refl, sym, ◌∙◌, ap, subst, arith, append_assoc, Bool, if◌then◌else◌, Option, Some, None, cases_Bool, eqb-true, append-nil, Step, Append, Cut, Sync, Life, has_sync, content, later_by, Adds, synced, whole, is_empty, mended, cuts_none, appended, MendedAndPut, IsFront, Did, Opens, OpensInPart, PutsAll, PutsFront, IsEndOfRows, IsMended, IsMendedInPart}
use Rattle.std.specs.Io.KnownBytes.{Appends, Keeps}
use Rattle.gc_files.specs.Sinks.{known_content}
use Rattle.gc_files.proofs.Moments.{held_after_two}

-- adding the steps `xs` to a life, and then `ys`, is adding `xs ++ ys`
pub later_two : (xs ys : List Step) (life : Life) → later_by ys (later_by xs life) ≡ later_by (xs ++ ys) life
later_two xs ys life = ap (λ (steps : List Step). record { start = life.start; steps = steps }) (append_assoc life.steps xs ys)

-- where the steps `xs` were added to a file's life, and then `ys`, the steps `xs ++ ys` were added to it
pub adds_two : (old mid new : Option Life) (xs ys : List Step) → Adds old mid xs → Adds mid new ys → Adds old new (xs ++ ys)
adds_two old mid new xs ys first second life is = second (later_by xs life) (first life is) ∙ ap (λ (l : Life). Some l) (later_two xs ys life)

-- where neither of two lists of steps has a cut, both together have none
pub cuts_two : (xs ys : List Step) → cuts_none xs ≡ true → cuts_none ys ≡ true → cuts_none (xs ++ ys) ≡ true
cuts_two [] ys one two = two
cuts_two (Append bytes ∷ xs) ys one two = cuts_two xs ys one two
cuts_two (Sync ∷ xs) ys one two = cuts_two xs ys one two
cuts_two (Cut size ∷ xs) ys one two = let wrong : false ≡ true = one in cc

-- the steps `xs ++ ys` append what `xs` append, and after that what `ys` append
pub appended_two : (xs ys : List Step) → appended (xs ++ ys) ≡ appended xs ++ appended ys
appended_two [] ys = refl
appended_two (Append bytes ∷ xs) ys = ap (λ (l : List ℕ). bytes ++ l) (appended_two xs ys) ∙ sym (append_assoc bytes (appended xs) (appended ys))
appended_two (Sync ∷ xs) ys = appended_two xs ys
appended_two (Cut size ∷ xs) ys = appended_two xs ys

-- where `xs` were appended, and then `ys`, `xs ++ ys` were appended
pub puts_two : (old mid new : Option Life) (xs ys : List ℕ) → PutsAll old mid xs → PutsAll mid new ys → PutsAll old new (xs ++ ys)
puts_two old mid new xs ys first second life is =
    let one = first life is in
    let two = second (later_by one.0 life) one.1 in (
      one.0 ++ two.0,
      two.1 ∙ ap (λ (l : Life). Some l) (later_two one.0 two.0 life),
      record {
        none_cut = cuts_two one.0 two.0 one.2.none_cut two.2.none_cut;
        all = appended_two one.0 two.0 ∙ ap (λ (l : List ℕ). l ++ appended two.0) one.2.all ∙ ap (λ (l : List ℕ). xs ++ l) two.2.all;
      },
    )

-- where the bytes `done` were appended, and then `bytes` by one append, `done ++ bytes` were appended
pub puts_more : (old mid new : Option Life) (done bytes : List ℕ)
    → PutsAll old mid done → Adds mid new (Append bytes ∷ []) → PutsAll old new (done ++ bytes)
puts_more old mid new done bytes puts adds =
    puts_two old mid new done bytes puts (λ life is. (Append bytes ∷ [], adds life is, record { none_cut = refl; all = append-nil bytes }))

-- a file with bytes after its whole rows is mended by a cut at the end of these rows, and a sync
pub mended_by_cut : (held : List ℕ) (end len : ℕ) → end < len → len ≡ length held → end ≡ length (whole held) → mended held ≡ Cut end ∷ Sync ∷ []
mended_by_cut held end len less is ends = elim (cases_Bool (length (whole held) == length held)) [
  | inl same ↦ absurd (omega (arith, less, is, ends, eqb-true (length (whole held)) (length held) same))
  | inr differs ↦ rw (differs) (ap (λ n. Cut n ∷ Sync ∷ []) (sym ends))
]

-- a cut after the whole rows of a file that has more bytes, and a sync after it, mend the file
pub cut_and_sync_mend : (old mid new : Option Life) (known : Life) (end len : ℕ)
    (less : end < len) (is : len ≡ length (content known)) (ends : end ≡ length (whole (content known)))
    (cut : Adds old mid (Cut end ∷ [])) (sync : Adds mid new (Sync ∷ [])) → Adds old new (mended (content known))
cut_and_sync_mend old mid new known end len less is ends cut sync =
    subst (λ (steps : List Step). Adds old new steps) (sym (mended_by_cut (content known) end len less is ends)) (adds_two old mid new (Cut end ∷ []) (Sync ∷ []) cut sync)

-- where l, the whole rows of a file, isn't empty, an opening writes no head: what `head_written` has is nothing
no_head_after_rows : (head l : List ℕ) → 0 < length l → (if is_empty l then head else []) ≡ []
no_head_after_rows head [] more = absurd (omega (arith, more))
no_head_after_rows head (b ∷ l) more = refl

-- where l, the whole rows of a file, is empty, an opening writes the head: this is what `head_written` has
head_without_rows : (head l : List ℕ) → length l ≡ 0 → (if is_empty l then head else []) ≡ head
head_without_rows head [] none = refl
head_without_rows head (b ∷ l) none = absurd (omega (arith, none))

-- a file with a whole row is opened once it is mended
pub opens_whole : (head : List ℕ) (old new : Option Life) (end : ℕ) → 0 < end → IsEndOfRows old end → IsMended old new → Opens head old new
opens_whole head old new end more ends adds life is = (
  mended (content life),
  adds life is life is,
  record {
    later = [];
    split = sym (append-nil (mended (content life)));
    puts = record { none_cut = refl; all = sym (no_head_after_rows head (whole (content life)) (omega (arith, more, ends life is))) };
  },
)

-- where a file was mended, and these bytes were then appended to it, all that was done to it is as `MendedAndPut` has it
pub put_after_mending : (old mid new : Option Life) (bytes : List ℕ) → IsMended old mid → PutsAll mid new bytes
    → Did old new (λ held steps. MendedAndPut held steps bytes)
put_after_mending old mid new bytes adds puts life is =
    let second = puts (later_by (mended (content life)) life) (adds life is life is) in (
      mended (content life) ++ second.0,
      second.1 ∙ ap (λ (l : Life). Some l) (later_two (mended (content life)) second.0 life),
      record { later = second.0; split = refl; puts = second.2 },
    )

-- a file without a whole row is opened once it is mended and the head is appended
pub opens_head : (head : List ℕ) (old mid new : Option Life) (end : ℕ)
    → end ≤ 0 → IsEndOfRows old end → IsMended old mid → PutsAll mid new head → Opens head old new
opens_head head old mid new end none ends adds puts life is =
    let ran = put_after_mending old mid new head adds puts life is in
    (ran.0, ran.1, subst (λ (bytes : List ℕ). MendedAndPut (content life) ran.0 bytes) (sym (head_without_rows head (whole (content life)) (omega (arith, none, ends life is)))) ran.2)

-- a file that was mended, in part or whole, was opened as far as the opening came (`OpensInPart`)
pub opens_part : (head : List ℕ) (old new : Option Life) → IsMendedInPart old new → OpensInPart head old new
opens_part head old new part life is =
    let p = part life is in
    (take p.0 (mended (content life)), p.1 life is, inl (record { count = p.0; is = refl }))

-- a file without a whole row that was mended, and to which a front of the head was appended, was opened as far as the opening
-- came (`OpensInPart`)
pub opens_head_part : (head : List ℕ) (old mid new : Option Life) (end : ℕ) → end ≤ 0 → IsEndOfRows old end → IsMended old mid
    → PutsFront mid new head → OpensInPart head old new
opens_head_part head old mid new end none ends adds part life is =
    let ran = put_after_mending old mid new part.0 adds part.2 life is in
    (ran.0, ran.1, inr (part.0, ran.2, subst (λ (all : List ℕ). IsFront part.0 all) (sym (head_without_rows head (whole (content life)) (omega (arith, none, ends life is)))) part.1))

-- where a file's content was known, it is what it was and then what was appended
pub content_more : (old new : Option Life) (bytes : List ℕ)
    → Adds old new (Append bytes ∷ []) → Appends (known_content old) (known_content new) bytes
content_more None new bytes adds = tt
content_more (Some life) new bytes adds =
    subst (λ (now : Option Life). Appends (Some (content life)) (known_content now) bytes) (sym (adds life refl)) (held_after_two life.start life.steps (Append bytes ∷ []))

-- a sync leaves the known content of a file as it was
pub content_same : (old new : Option Life) → Adds old new (Sync ∷ []) → Keeps (known_content old) (known_content new)
content_same None new adds = tt
content_same (Some life) new adds =
    subst (λ (now : Option Life). Keeps (Some (content life)) (known_content now)) (sym (adds life refl)) (held_after_two life.start life.steps (Sync ∷ []))

-- steps with one more append after them append what they did, and then the bytes of that append
pub appended_more : (steps : List Step) (bytes : List ℕ) → appended (steps ++ Append bytes ∷ []) ≡ appended steps ++ bytes
appended_more steps bytes = appended_two steps (Append bytes ∷ []) ∙ ap (λ (xs : List ℕ). appended steps ++ xs) (append-nil bytes)

-- steps with one more sync after them append what they did
pub appended_sync : (steps : List Step) → appended (steps ++ Sync ∷ []) ≡ appended steps
appended_sync steps = appended_two steps (Sync ∷ []) ∙ append-nil (appended steps)

-- a sync at the end is among the steps
has_sync_last : (steps : List Step) → has_sync (steps ++ Sync ∷ []) ≡ true
has_sync_last [] = refl
has_sync_last (Append bytes ∷ steps) = has_sync_last steps
has_sync_last (Cut size ∷ steps) = has_sync_last steps
has_sync_last (Sync ∷ steps) = refl

-- where the last step is a sync, all that was appended was synced
pub synced_all : (steps : List Step) → synced (steps ++ Sync ∷ []) ≡ appended steps
synced_all [] = refl
synced_all (Append bytes ∷ steps) = ap (λ (b : Bool). if b then bytes ++ synced (steps ++ Sync ∷ []) else []) (has_sync_last steps) ∙ ap (λ (xs : List ℕ). bytes ++ xs) (synced_all steps)
synced_all (Cut size ∷ steps) = synced_all steps
synced_all (Sync ∷ steps) = synced_all steps
