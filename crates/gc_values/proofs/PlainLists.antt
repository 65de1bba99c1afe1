-- Parameters in the common spelling, whose bytes are bare: no space, double quote, comma, CR or LF.
use Rattle.gc_values.proofs.Common.{IfOk, arith, sym, ap, ◌∙◌, subst, get_or, take_all, take-append-drop, drop_more, length-take-le, IsItem, AreParams, ArePlain, CutsPlain, LeftPlain, Value}
use Rattle.std.specs.Prelude.{◌≡◌, ◌+◌, ◌<◌, ◌≤◌, ℕ, List, [], ◌∷◌, ◌++◌, length, take, drop, Option, Some, None, Result, refl}
use Rattle.std.proofs.Common.{append-nil}
use Rattle.gc_values.specs.Taken.{GivesRead, QuickReads, TakesItem, TakesPlainly}
use Rattle.gc_values.specs.declared.quick.Quick.{Quick}
use Rattle.gc_values.proofs.ParamLists.{joined_params}
use Rattle.gc_values.proofs.TextShape.{AreBare, bare_param}

-- bare bytes, at least one, up to a comma are cut off as an item
pub bare_cut_at_comma : (text : List ℕ) (i : ℕ) → AreBare (take i text) → 0 < i → i < length text → get_or text i 0 ≡ 44
    → CutsPlain text (take i text) (Some (drop (i + 1) text))
bare_cut_at_comma text i h some within comma = record {
  text_is = sym (take-append-drop i text) ∙ ap (λ xs. take i text ++ xs) (drop_more text i 0 within ∙ ap (λ b. b ∷ drop (i + 1) text) comma);
  param = bare_param (take i text) h;
  some = omega (arith, length-take-le i text (omega arith));
}

-- bare bytes, at least one, up to the end are cut off as an item
pub bare_cut_at_end : (text : List ℕ) (i : ℕ) → AreBare (take i text) → length text ≤ i → 0 < length text → CutsPlain text text None
bare_cut_at_end text i h all some = record {
  text_is = refl;
  param = bare_param text (subst AreBare (take_all i text all) h);
  some = some;
}

-- if an item up to the end is read as a value, the text is a list, in the common spelling, of that value alone
plain_of_one_item : (text item : List ℕ) (v : Value) → CutsPlain text item None → IsItem item v → ArePlain text (v ∷ [])
plain_of_one_item text item v cut x = record {
  first = item;
  more = [];
  text_is = cut.text_is ∙ sym (append-nil item);
  params = (cut.param, tt);
  some = (cut.some, tt);
  read = (x, tt);
}

-- if an item up to a comma is read as a value, and the text after the comma is a list in the common spelling, the whole text
-- is one of one value more
plain_of_item_and_list : (text item rest : List ℕ) (v : Value) (vs : List Value) → CutsPlain text item (Some rest) → IsItem item v → ArePlain rest vs
    → ArePlain text (v ∷ vs)
plain_of_item_and_list text item rest v vs cut x left = record {
  first = item;
  more = left.first ∷ left.more;
  text_is = cut.text_is ∙ ap (λ bytes. item ++ 44 ∷ bytes) left.text_is;
  params = (cut.param, left.params);
  some = (cut.some, left.some);
  read = (x, left.read);
}

-- if an item that was cut off is read as a value, and what is left after it, if there is any, is a list in the common
-- spelling, the whole text is one of one value more
pub plain_of_cut_item : (text item : List ℕ) (rest : Option (List ℕ)) (v : Value) (vs : List Value) → CutsPlain text item rest → IsItem item v
    → LeftPlain rest vs → ArePlain text (v ∷ vs)
plain_of_cut_item text item None v vs cut x left = subst (λ ws. ArePlain text (v ∷ ws)) (sym left) (plain_of_one_item text item v cut x)
plain_of_cut_item text item (Some rest) v vs cut x left = plain_of_item_and_list text item rest v vs cut x left

-- a list in the common spelling is a list of parameters that is read as the same values
pub plain_list_read : (text : List ℕ) (vs : List Value) → ArePlain text vs → AreParams text vs
plain_list_read text vs x = record {
  items = x.first ∷ x.more;
  split = rw x.text_is (joined_params (x.first ∷ x.more) x.params x.some);
  read = x.read;
}

-- an empty text is a list of parameters that is read as no values
pub no_params : (text : List ℕ) (vs : List Value) → length text ≡ 0 → vs ≡ [] → AreParams text vs
no_params [] vs none e = rw e (record { items = []; split = (0, refl); read = tt })
no_params (b ∷ bs) vs none e = absurd (omega (arith, none))

-- if the quick reader is the same after a call as before it, what `QuickReads` says of it after the call is so before it, too
pub left_as_it_was : (old new : Quick) (vs : List Value) → new ≡ old → QuickReads new vs → QuickReads old vs
left_as_it_was old new vs same left = subst (λ q. QuickReads q vs) same left

-- if the quick reader took an item (`TakesItem`), `read` is what the item reads as, and x is what the reader gives of that
-- (`GivesRead`), the reader took the value that `make` makes of x (`TakesPlainly`)
pub takes_read_value : {T E : Type 0} (make : T → Value) (item : List ℕ) (read : Result T E) (x : T) (old mid new : Quick) → TakesItem item old mid
    → IfOk read (λ y. IsItem item (make y)) → GivesRead read x mid new → TakesPlainly (make x) old new
takes_read_value make item read x old mid new takes is gives vs left =
    let given = gives left.well in
    takes (make x) (subst (λ r. IfOk r (λ y. IsItem item (make y))) given.0 is) vs (left_as_it_was mid new vs given.1 left)
