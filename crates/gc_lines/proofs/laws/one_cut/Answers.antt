use Rattle.gc_lines.proofs.Common.{◌≡◌, ℕ, List, subst, sym, IsCut, pieces, rest_of}
use Rattle.gc_lines.proofs.Cutting.{one_cut, is_cut_of}
use Rattle.gc_lines.proofs.laws.one_cut.Goals as goal

-- parts and a rest that equal the pieces and the rest of a stream are a cutting of it
is_cut_if_equal : (stream : List ℕ) (parts : List (List ℕ)) (rest : List ℕ) → (parts ≡ pieces stream) × (rest ≡ rest_of stream) → IsCut stream parts rest
is_cut_if_equal stream parts rest same =
    let here = subst (λ (r : List ℕ). IsCut stream (pieces stream) r) (sym same.1) (is_cut_of stream) in
    subst (λ (ps : List (List ℕ)). IsCut stream ps rest) (sym same.0) here

pub returns : goal.returns
returns c stream parts rest = (one_cut stream parts rest, is_cut_if_equal stream parts rest)
