-- Lines that ask for a procedure that has to be described (`IsDescribedWish`): their parts, and that they have no other form.
use Rattle.gc_texts.proofs.Common.{◌≡◌, ◌<◌, ℕ, List, ◌∷◌, ◌++◌, length, Option, Some, None, arith, refl, ap, sym, ◌∙◌, subst, codes, raw_bytes, Raw, SetDate, RawCall, one_asked, number, IsCommand, Cuts, Lacks, before, behind, IsReadAs, IsRpc, IsTarget, SetsClock, NoTarget, IsDescribedWish, IsOutsideRequest, IsRawRequest, IsWish, IsWorded, first_word, second_word, Command, Wish, Wording, Plain, Described, Now}
use Rattle.gc_texts.specs.declared.stamp.TheConstants.{FIRST_MOMENT}
use Rattle.gc_texts.proofs.Fronts.{before_mark, behind_mark, behind_none}
use Rattle.gc_texts.proofs.Procedures.{one_number}
use Rattle.gc_texts.proofs.RawForms.{expect_is_no_digits, number_word, raw_is_no_digits}
use Rattle.gc_texts.proofs.RequestForms.{parts_of_asking, unspaced_is_no_wish}
use Rattle.gc_texts.proofs.WishForms.{no_wish, one_wish, same_wish}

-- what follows the word `raw` in a request is a request of a procedure outside the table, and such a request follows it
pub raw_of_outside : (text : List ℕ) (raw : RawCall) → first_word text ≡ codes "raw" → IsOutsideRequest (behind 32 text) raw → IsRawRequest text raw
raw_of_outside text raw word is = record { word = word; number = is.number; params_are = is.params_are; some = is.some }

pub outside_of_raw : (text : List ℕ) (raw : RawCall) → IsRawRequest text raw → IsOutsideRequest (behind 32 text) raw
outside_of_raw text raw is = record { number = is.number; params_are = is.params_are; some = is.some }

-- a text is at most one request of a procedure outside the table
one_outside : (text : List ℕ) (r s : RawCall) → IsOutsideRequest text r → IsOutsideRequest text s → Raw r ≡ Raw s
one_outside text r s x y =
    one_asked s.rpc (raw_bytes s.params) (Raw r) (Raw s) (one_number (first_word text) r.rpc s.rpc 65535 x.number y.number, x.params_are ∙ sym y.params_are) (refl, refl)

-- what asks for a target's request of a described procedure, and what doesn't
module _ (target rest : List ℕ) (lacks : Lacks 32 target) where
  -- a target's number and a request are a wish
  pub described_of_parts : (t : ℕ) (raw : RawCall) → IsTarget target t → IsOutsideRequest rest raw
      → IsDescribedWish (target ++ 32 ∷ rest) (record { target = t; call = Raw raw })
  described_of_parts t raw is asks =
      record {
        raw = raw;
        target_is = subst (λ (w : List ℕ). IsTarget w t) (sym (before_mark 32 target rest lacks)) is;
        asks = subst (λ (r : List ℕ). IsOutsideRequest r raw) (sym (behind_mark 32 target rest lacks)) asks;
        call_is = refl;
      }

  -- without a target's number it is no wish
  pub targetless_is_not_described : NoTarget target → (wish : Wish) → IsDescribedWish (target ++ 32 ∷ rest) wish → ⊥
  targetless_is_not_described none wish is = none wish.target (subst (λ (w : List ℕ). IsTarget w wish.target) (before_mark 32 target rest lacks) is.target_is)

  -- nor is it without a request
  pub requestless_is_not_described : ((raw : RawCall) → IsOutsideRequest rest raw → ⊥) → (wish : Wish) → IsDescribedWish (target ++ 32 ∷ rest) wish → ⊥
  requestless_is_not_described none wish is = none is.raw (subst (λ (r : List ℕ). IsOutsideRequest r is.raw) (behind_mark 32 target rest lacks) is.asks)

-- a line without a space asks for no described procedure
unspaced_is_not_described : (line : List ℕ) → Lacks 32 line → (wish : Wish) → IsDescribedWish line wish → ⊥
unspaced_is_not_described line lacks wish is =
    let some : 0 < length (first_word (behind 32 line)) = is.asks.number.names.some in
    let none : length (first_word (behind 32 line)) ≡ 0 = ap (λ (l : List ℕ). length (first_word l)) (behind_none 32 line lacks) in
    omega (arith, some, none)

-- a line is at most one wish for a described procedure
one_described : (line : List ℕ) (v w : Wish) → IsDescribedWish line v → IsDescribedWish line w → v ≡ w
one_described line v w x y =
    same_wish v w (one_number (first_word line) v.target w.target 4294967295 x.target_is y.target_is)
    (x.call_is ∙ one_outside (behind 32 line) x.raw y.raw x.asks y.asks ∙ sym y.call_is)

-- the second word of such a line is a number, and no procedure of the table has it: the line has the form of no wish
command_is_not_described : (line : List ℕ) (command : Command) (w : Wish) → IsCommand line command → IsDescribedWish line w → ⊥
command_is_not_described line command w x y =
    let number : IsRpc (second_word line) x.procedure_is.rpc =
    subst (λ (t : List ℕ). IsRpc t x.procedure_is.rpc) (sym (number_word line command x)) x.procedure_is.number in
    let same : x.procedure_is.rpc ≡ y.raw.rpc = one_number (second_word line) x.procedure_is.rpc y.raw.rpc 65535 number y.asks.number in
    y.raw.is.no_procedure command.call (x.procedure_is.calls.number ∙ same)

pub wish_is_not_described : (line : List ℕ) (v w : Wish) → IsWish line v → IsDescribedWish line w → ⊥
wish_is_not_described line v w x y =
    no_wish line (λ target raw asks. raw_is_no_digits (second_word line) y.asks.number.names.digits asks.word) (λ command asks. command_is_not_described line command w asks y) v x

-- a line is at most one wish, in one wording
pub one_worded : (line : List ℕ) (v w : Wish) (m n : Wording) → IsWorded m line v → IsWorded n line w → (v ≡ w) × (m ≡ n)
one_worded line v w Plain Plain x y = (one_wish line v w x y, refl)
one_worded line v w Described Described x y = (one_described line v w x y, refl)
one_worded line v w Plain Described x y = absurd (wish_is_not_described line v w x y)
one_worded line v w Described Plain x y = absurd (wish_is_not_described line w v y x)
one_worded line v w Now n x y = absurd x
one_worded line v w Plain Now x y = absurd y
one_worded line v w Described Now x y = absurd y

-- what is read of such a line, if anything
abbrev Read : Type 0
Read = Wish × Wording

-- a line that has the form of no wish, and asks for no described procedure, is no wish in any wording
pub no_worded : (line : List ℕ) → ((w : Wish) → IsWish line w → ⊥) → ((w : Wish) → IsDescribedWish line w → ⊥) → (r : Read) → IsWorded r.1 line r.0 → ⊥
no_worded line no_plain no_described (w, Plain) is = no_plain w is
no_worded line no_plain no_described (w, Described) is = no_described w is
no_worded line no_plain no_described (w, Now) is = is

-- so is a line without a space
pub unspaced_is_not_worded : (line front : List ℕ) → Cuts 32 line front None → (r : Read) → IsWorded r.1 line r.0 → ⊥
unspaced_is_not_worded line front cut =
    no_worded line (unspaced_is_no_wish line front cut) (unspaced_is_not_described line (subst (Lacks 32) (sym cut.0) cut.1))

-- what is read of the parts of a line is read of the line
pub worded_of_cut : (line target rest : List ℕ) (r : Option Read) → Cuts 32 line target (Some rest)
    → IsReadAs (λ (r : Read). IsWorded r.1 (target ++ 32 ∷ rest) r.0) r → IsReadAs (λ (r : Read). IsWorded r.1 line r.0) r
worded_of_cut line target rest r cut read = subst (λ (l : List ℕ). IsReadAs (λ (r : Read). IsWorded r.1 l r.0) r) (sym cut.0) read

-- a line that asks for a described procedure sets no clock: procedure 5007 is of the table
pub described_is_no_clock : (line : List ℕ) (v w : Wish) → IsDescribedWish line v → SetsClock line w → ⊥
described_is_no_clock line v w is sets =
    let word : first_word (behind 32 line) ≡ codes "5007" = ap (before 32) sets.rest_is in
    let rpc : is.raw.rpc ≡ 5007 = is.asks.number.names.value ∙ ap number word in
    is.raw.is.no_procedure (SetDate FIRST_MOMENT) (sym rpc)

-- the second word of a line that asks for a described procedure isn't `expect`
pub described_is_no_expect : (line : List ℕ) (wish : Wish) → IsDescribedWish line wish → second_word line ≡ codes "expect" → ⊥
described_is_no_expect line wish is word = expect_is_no_digits (second_word line) is.asks.number.names.digits word

-- a worded wish begins with a target's number
pub worded_of_target : (target rest : List ℕ) (lacks : Lacks 32 target) (m : Wording) (wish : Wish) → IsWorded m (target ++ 32 ∷ rest) wish → IsTarget target wish.target
worded_of_target target rest lacks Plain wish is = (parts_of_asking target rest lacks wish.target wish.call is).0
worded_of_target target rest lacks Described wish is = subst (λ (w : List ℕ). IsTarget w wish.target) (before_mark 32 target rest lacks) is.target_is
worded_of_target target rest lacks Now wish is = absurd is
