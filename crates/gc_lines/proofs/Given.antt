-- What the source gave so far, and what was done with it. In the lemmas, in the order of the run: a, a', a'' are the bytes that
-- the source still has, and s, t, u say how far the answering has come (`Progress`).
use Rattle.gc_lines.proofs.Common.{ℕ, ◌+◌, ◌≤◌, Bool, List, [], ◌++◌, length, Option, sym, subst, arith, length-append, Consumes, append-nil, Consumes-trans, AnswerRule, AnswersAll, AnswersPart, GaveInReads, Progress, progress, Kept, StandsFor, frames, rest_behind, frames_behind, GathersPart, Frame}
use Rattle.gc_lines.proofs.InOrder.{all_then, part_then}
use Rattle.gc_lines.proofs.Cutting.{rest-append}
use Rattle.gc_lines.proofs.Passing.{frames-append}

-- if the source gave bytes in `reads` reads, and then a piece of at most 256 bytes in one read more, it gave both in `more`
-- reads, if that is more than `reads`. `Q` is what is true of all of these bytes
pub gave_more : (a a' a'' : Option (List ℕ)) (reads more : ℕ) (P Q : List ℕ → Type 0) (piece : List ℕ) (so : GaveInReads a a' reads P)
    → Consumes a' a'' piece → length piece ≤ 256 → reads + 1 ≤ more → Q (so.0 ++ piece) → GaveInReads a a'' more Q
gave_more a a' a'' reads more P Q piece so gave short one_more is =
    (so.0 ++ piece, Consumes-trans a a' a'' so.0 piece so.1 gave, omega (arith, so.2, short, one_more, length-append so.0 piece), is)

-- the assembler stands for what follows the last line feed of the bytes `given`, and all of their frames were answered
abbrev pub HasAnswered : {State : Type 0} → AnswerRule State Frame → Kept → (from to : Progress State) → (given : List ℕ) → Type 0
HasAnswered rule kept from to given = StandsFor kept (rest_behind [] given) × AnswersAll rule from to (frames given)

-- if one more read gives no byte, all frames of the bytes that the source gave have been answered, with the reads counted as
-- before
pub given_end : {State : Type 0} (rule : AnswerRule State Frame) (a a' a'' : Option (List ℕ)) (kept : Kept) (s t : Progress State) (reads : ℕ)
    → GaveInReads a a' reads (HasAnswered rule kept s t) → Consumes a' a'' [] → GaveInReads a a'' reads (λ given. AnswersAll rule s t (frames given))
given_end rule a a' a'' kept s t reads so gave = (
  so.0,
  subst (λ (xs : List ℕ). Consumes a a'' xs) (append-nil so.0) (Consumes-trans a a' a'' so.0 [] so.1 gave),
  so.2,
  so.3.1,
)

-- Here `HasAnswered` is true of the bytes `given`, and a piece comes after them.
module _ {State : Type 0} (rule : AnswerRule State Frame) (kept : Kept) (s t u : Progress State) (given piece : List ℕ) (so : HasAnswered rule kept s t given) where
  -- if the piece is answered whatever rest the assembler stood for (the frames that it completes after that rest, and what the
  -- assembler stands for then), `HasAnswered` is true of `given ++ piece`
  pub answered_with_piece : (kept' : Kept) → ((rest : List ℕ) → StandsFor kept rest → StandsFor kept' (rest_behind rest piece) × AnswersAll rule t u (frames_behind rest piece))
      → HasAnswered rule kept' s u (given ++ piece)
  answered_with_piece kept' answered =
      let it = answered (rest_behind [] given) so.0 in (
        subst (λ (rest : List ℕ). StandsFor kept' rest) (sym (rest-append [] given piece)) it.0,
        subst (λ (seen : List Frame). AnswersAll rule s u seen) (sym (frames-append given piece))
            (all_then rule s t u (frames given) (frames_behind (rest_behind [] given) piece) so.1 it.1),
      )

  -- if `GathersPart` is true of the frames that the piece completes, whatever rest the assembler stood for, it is true of the
  -- frames of `given ++ piece`
  pub part_with_piece : (bytes : ℕ) (gathers : Bool) → ((rest : List ℕ) → StandsFor kept rest → GathersPart rule t u (frames_behind rest piece) bytes gathers)
      → GathersPart rule s u (frames (given ++ piece)) bytes gathers
  part_with_piece bytes gathers answered =
      let it = answered (rest_behind [] given) so.0 in
      record {
        reached = it.reached;
        part = subst (λ (seen : List Frame). AnswersPart rule s (progress it.reached u.taken u.whole) seen bytes) (sym (frames-append given piece))
            (part_then rule s t (progress it.reached u.taken u.whole) (frames given) (frames_behind (rest_behind [] given) piece) bytes so.1 it.part);
        alone = it.alone;
      }
