-- A wish is a target without a space, a space and a request.
use Rattle.gc_texts.proofs.Common.{◌≡◌, ℕ, List, [], ◌∷◌, ◌++◌, Option, Some, None, refl, sym, ap, ◌∙◌, subst, codes, Asked, Table, Raw, Cuts, Lacks, before, behind, IsReadAs, IsProcedureText, IsTarget, NoTarget, AsksFor, IsRawRequest, IsRequest, IsWish, Wish}
use Rattle.gc_texts.proofs.Cutting.{has_mark, one_front, digits_lack_spaces}
use Rattle.gc_texts.proofs.Fronts.{before_mark, behind_mark, behind_none}

-- what asks for a target's request, and what doesn't
module _ (target rest : List ℕ) (lacks : Lacks 32 target) where
  -- a target's number and a request are a wish
  pub wish_of_parts : (t : ℕ) (asked : Asked) → IsTarget target t → IsRequest rest asked → AsksFor (target ++ 32 ∷ rest) t asked
  wish_of_parts t (Table call) is asks = record { target_text = target; procedure = rest; line_is = refl; target_is = is; procedure_is = asks }
  wish_of_parts t (Raw raw) is asks =
      let here : IsRawRequest (behind 32 (target ++ 32 ∷ rest)) raw = subst (λ (r : List ℕ). IsRawRequest r raw) (sym (behind_mark 32 target rest lacks)) asks in
      record {
        target_is = subst (λ (w : List ℕ). IsTarget w t) (sym (before_mark 32 target rest lacks)) is;
        word = here.word;
        number = here.number;
        params_are = here.params_are;
        some = here.some;
      }

  -- and each wish is just these two
  pub parts_of_asking : (t : ℕ) (asked : Asked) → AsksFor (target ++ 32 ∷ rest) t asked → IsTarget target t × IsRequest rest asked
  parts_of_asking t (Table call) is =
      let same = one_front 32 target is.target_text rest is.procedure is.line_is lacks (digits_lack_spaces is.target_text is.target_is.names.digits) in
      (subst (λ (w : List ℕ). IsTarget w t) (sym same.0) is.target_is, subst (λ (p : List ℕ). IsProcedureText p call) (sym same.1) is.procedure_is)
  parts_of_asking t (Raw raw) is = (
    subst (λ (w : List ℕ). IsTarget w t) (before_mark 32 target rest lacks) is.target_is,
    subst (λ (r : List ℕ). IsRawRequest r raw) (behind_mark 32 target rest lacks) (record { word = is.word; number = is.number; params_are = is.params_are; some = is.some }),
  )

  -- without a target's number it is no wish
  pub targetless_is_no_wish : NoTarget target → (wish : Wish) → IsWish (target ++ 32 ∷ rest) wish → ⊥
  targetless_is_no_wish none wish is = none wish.target (parts_of_asking wish.target wish.call is).0

  -- nor is it without a request
  pub requestless_is_no_wish : ((asked : Asked) → IsRequest rest asked → ⊥) → (wish : Wish) → IsWish (target ++ 32 ∷ rest) wish → ⊥
  requestless_is_no_wish none wish is = none wish.call (parts_of_asking wish.target wish.call is).1

-- a line without a space asks for nothing
unspaced_asks_nothing : (line : List ℕ) → Lacks 32 line → (target : ℕ) (asked : Asked) → AsksFor line target asked → ⊥
unspaced_asks_nothing line lacks target (Table call) is = has_mark 32 is.target_text is.procedure line (sym is.line_is) lacks
unspaced_asks_nothing line lacks target (Raw raw) is = let bad : [] ≡ codes "raw" = sym (ap (before 32) (behind_none 32 line lacks)) ∙ is.word in cc

-- so it is no wish
pub unspaced_is_no_wish : (line front : List ℕ) → Cuts 32 line front None → (wish : Wish) → IsWish line wish → ⊥
unspaced_is_no_wish line front cut wish is = unspaced_asks_nothing line (subst (Lacks 32) (sym cut.0) cut.1) wish.target wish.call is

-- what is read of the parts of a line is read of the line
pub wish_of_cut : (line target rest : List ℕ) (r : Option Wish) → Cuts 32 line target (Some rest) → IsReadAs (IsWish (target ++ 32 ∷ rest)) r → IsReadAs (IsWish line) r
wish_of_cut line target rest r cut read = subst (λ (l : List ℕ). IsReadAs (IsWish l) r) (sym cut.0) read
