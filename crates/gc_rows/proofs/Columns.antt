-- The columns of a record. A mark is a byte that ends a field, as a comma (44) or a colon (58): what comes before the first
-- mark of a text and after it, and what that is in the lines of requests and replies.
use Rattle.gc_rows.proofs.Common.{◌≡◌, ◌≢◌, ℕ, ◌+◌, ◌<◌, List, [], ◌∷◌, ◌++◌, Option, Some, None, inl, inr, ◌⊎◌, IfSome, sym, ap, subst, ◌∙◌, arith, append_assoc, append-nil, AllDigits, digit_from_value, every_append, Lacks, before, behind, id_text, IsSmallNumber, EndsCode, ColumnsAreFields, com_of}
use Rattle.std.specs.Int.{IsInRange}
use Rattle.gc_texts.proofs.Fronts.{before_mark, behind_mark, before_none, behind_none}

-- a byte d that is a digit, from 48 to 57, isn't equal to a mark below 48 or above 57
digit_is_no_mark : (d mark : ℕ) → d ≡ mark → IsInRange 48 57 d → mark < 48 ⊎ 57 < mark → ⊥
digit_is_no_mark d mark e range (inl low) = omega (arith, e, range.0, low)
digit_is_no_mark d mark e range (inr high) = omega (arith, e, range.1, high)

-- digits lack each mark that isn't a digit
pub digits_lack : (mark : ℕ) (ds : List ℕ) → AllDigits 10 ds → mark < 48 ⊎ 57 < mark → Lacks mark ds
digits_lack mark [] digits other = tt
digits_lack mark (d ∷ ds) digits other = ((λ e. digit_is_no_mark d mark e (digit_from_value d digits.0) other), digits_lack mark ds digits.1 other)

-- a text lacks a mark that both its parts lack
pub lacks_both : (mark : ℕ) (xs ys : List ℕ) → Lacks mark xs → Lacks mark ys → Lacks mark (xs ++ ys)
lacks_both mark xs ys lx ly = every_append (λ b. b ≢ mark) xs ys lx ly

-- the text of an id below 8, or of none, lacks a colon
id_lacks_colon : (id : Option ℕ) → IfSome id (λ i. i < 8) → Lacks 58 (id_text id)
id_lacks_colon None small = tt
id_lacks_colon (Some i) small = ((λ e. absurd (omega (arith, e))), ((λ e. absurd (omega (arith, e, small))), tt))

-- if `ds` lack a comma, they are what comes before the first comma of `ds` and the text of an id, or all if there is no id
number_first : (ds : List ℕ) (id : Option ℕ) → Lacks 44 ds → before 44 (ds ++ id_text id) ≡ ds
number_first ds None lacks = ap (before 44) (append-nil ds) ∙ before_none 44 ds lacks
number_first ds (Some i) lacks = before_mark 44 ds ((48 + i) ∷ []) lacks

-- if `ds` lack a comma, and `tail` is a comma and the parameters, or nothing if there are none (`EndsCode`), then in `ds` and
-- `tail` together `ds` are what comes before the first comma, and the parameters what comes after it
code_first : (ds tail params : List ℕ) → Lacks 44 ds → EndsCode tail params → (before 44 (ds ++ tail) ≡ ds) × (behind 44 (ds ++ tail) ≡ params)
code_first ds tail params lacks (inl none) =
    let whole : ds ++ tail ≡ ds = ap (λ l. ds ++ l) none.0 ∙ append-nil ds in
    (ap (before 44) whole ∙ before_none 44 ds lacks, ap (behind 44) whole ∙ behind_none 44 ds lacks ∙ sym none.1)
code_first ds tail params lacks (inr some) =
    (ap (λ l. before 44 (ds ++ l)) some ∙ before_mark 44 ds params lacks, ap (λ l. behind 44 (ds ++ l)) some ∙ behind_mark 44 ds params lacks)

-- the law: the columns of a reply's line are its fields
pub reply_columns : ColumnsAreFields
reply_columns line r is =
    let number : Lacks 44 is.number = digits_lack 44 is.number is.is_number.digits (inl (omega arith)) in
    let front : Lacks 58 (is.number ++ id_text r.id) =
    lacks_both 58 is.number (id_text r.id) (digits_lack 58 is.number is.is_number.digits (inr (omega arith))) (id_lacks_colon r.id is.is_id) in
    let code = code_first is.code is.tail r.params (digits_lack 44 is.code is.is_code.digits (inl (omega arith))) is.is_tail in
    let joined : is.number ++ (id_text r.id ++ 58 ∷ (is.code ++ is.tail)) ≡ (is.number ++ id_text r.id) ++ 58 ∷ (is.code ++ is.tail) = sym (append_assoc is.number (id_text r.id) _) in
    let first : com_of line ≡ is.number =
    ap com_of is.whole ∙ ap (λ l. before 44 (before 58 l)) joined ∙ ap (before 44) (before_mark 58 (is.number ++ id_text r.id) (is.code ++ is.tail) front) ∙ number_first is.number r.id number in
    let behind_colon : behind 58 (behind 44 line) ≡ is.code ++ is.tail =
    ap (λ l. behind 58 (behind 44 l)) is.whole ∙ ap (behind 58) joined ∙ behind_mark 58 (is.number ++ id_text r.id) (is.code ++ is.tail) front in
    record {
      rc_com = subst (λ t. IsSmallNumber t r.rc_com) (sym first) is.is_number;
      rc = subst (λ t. IsSmallNumber t r.rc) (sym (ap (before 44) behind_colon ∙ code.0)) is.is_code;
      values = ap (behind 44) behind_colon ∙ code.1;
    }
