-- The line `T 5007 now`: it asks one target, and has the form of no other command, because `now` is no list of the six parameters
-- that procedure 5007 has.
use Rattle.gc_texts.proofs.Common.{◌≡◌, ℕ, List, [], ◌∷◌, length, Some, arith, refl, ap, subst, sym, ◌∙◌, codes, unwrap_or, length-map, IsCall, call_fields, Call, IsParam, kind_of, number, same_count, one_list, joined_params, IsCommand, before, behind, SetsClock, IsWish, first_word, second_word, Command, Wish}
use Rattle.gc_texts.proofs.Cutting.{lacks_by_test, digits_lack_spaces, has_mark}
use Rattle.gc_texts.proofs.Fronts.{behind_mark}
use Rattle.gc_texts.proofs.Procedures.{one_number, procedure_parts}
use Rattle.gc_texts.proofs.WishForms.{same_wish, no_wish}

-- `now` is one parameter
now_is_one_parameter : IsParam (codes "now")
now_is_one_parameter =
    record {
      first = λ rest e. has_mark 32 [] rest (codes "now") (sym e) (lacks_by_test 32 (codes "now") refl);
      last = λ front e. has_mark 32 front [] (codes "now") (sym e) (lacks_by_test 32 (codes "now") refl);
      pairs = refl;
      commas = λ front rest e. absurd (has_mark 44 front rest (codes "now") (sym e) (lacks_by_test 44 (codes "now") refl));
    }

-- procedure 5007 has six parameters
six_values : (call : Call) → (call_fields call).number ≡ 5007 → length (call_fields call).values ≡ 6
six_values call e = grind arith

-- no call of procedure 5007 has `now` for its parameters: the procedure has six
pub now_is_no_call_of_5007 : (call : Call) → IsCall 5007 (codes "now") call → ⊥
now_is_no_call_of_5007 call is =
    let one : is.values.items ≡ codes "now" ∷ [] =
    one_list (codes "now") is.values.items (codes "now" ∷ []) is.values.split (joined_params (codes "now" ∷ []) (now_is_one_parameter, tt) (omega arith, tt)) in
    let many : length is.values.items ≡ length (call_fields call).values = same_count (call_fields call).values is.values.items is.values.read ∙ length-map (call_fields call).values kind_of in
    let six : length (call_fields call).values ≡ 6 = six_values call is.number in
    let single : length is.values.items ≡ 1 = ap length one in
    omega (arith, many, six, single)

-- what follows the first word of a command's line isn't `5007 now`
pub command_is_no_clock : (line : List ℕ) (command : Command) → IsCommand line command → behind 32 line ≡ codes "5007 now" → ⊥
command_is_no_clock line command is e =
    let procedure : is.procedure ≡ codes "5007 now" = sym (behind_mark 32 is.target_text is.procedure (digits_lack_spaces is.target_text is.target_is.names.digits))
    ∙ ap (behind 32) (sym is.line_is) ∙ e in
    let p = is.procedure_is in
    let parts = procedure_parts is.procedure (codes "5007") (Some (codes "now")) command.call (procedure, lacks_by_test 32 (codes "5007") refl) p in
    let rpc : p.rpc ≡ 5007 = p.number.names.value ∙ ap number (sym parts.0) in
    let params : unwrap_or p.params [] ≡ codes "now" = ap (λ o. unwrap_or o []) (sym parts.1) in
    now_is_no_call_of_5007 command.call (subst (λ (n : ℕ). IsCall n (codes "now") command.call) rpc (subst (λ (ps : List ℕ). IsCall p.rpc ps command.call) params p.calls))

-- where the second word of a line is `raw`, what follows its first word isn't `5007 now`
raw_is_no_clock : (line : List ℕ) → second_word line ≡ codes "raw" → behind 32 line ≡ codes "5007 now" → ⊥
raw_is_no_clock line raw e = let bad : codes "5007" ≡ codes "raw" = ap (before 32) (sym e) ∙ raw in cc

-- no line both has the form of a wish and sets a clock
pub wish_is_no_clock : (line : List ℕ) (v w : Wish) → IsWish line v → SetsClock line w → ⊥
wish_is_no_clock line v w is sets =
    no_wish line (λ target raw asks. raw_is_no_clock line asks.word sets.rest_is) (λ command asks. command_is_no_clock line command asks sets.rest_is) v is

-- a line sets a clock with one wish at most
pub one_clock : (line : List ℕ) (v w : Wish) → SetsClock line v → SetsClock line w → v ≡ w
one_clock line v w x y = same_wish v w (one_number (first_word line) v.target w.target 4294967295 x.target_is y.target_is) (x.call_is ∙ sym y.call_is)
