-- Parameters that are written are *plain*: they have neither CR nor LF.
use Rattle.gc_catalogue.proofs.Common.{◌∷◌, lit<, All-from_recursion, plain_append, plain_cons, IsPlainByte, IsPlain, text_is_plain, text, AreValues, Value, behind_commas, params_of}
use Rattle.std.specs.Prelude.{◌++◌, List, []}
use Rattle.gc_catalogue.proofs.Joining.{params_of-cons}

-- values in range, each after a comma, are plain
plain_behind : (vs : List Value) → AreValues vs → IsPlain (behind_commas vs)
plain_behind [] h = All-from_recursion IsPlainByte [] tt
plain_behind (v ∷ vs) h = plain_cons 44 (text v ++ behind_commas vs) (lit< tt) (plain_append (text v) (behind_commas vs) (text_is_plain v h.0) (plain_behind vs h.1))

-- values in range, joined by commas, are plain
pub plain_params : (vs : List Value) → AreValues vs → IsPlain (params_of vs)
plain_params [] h = All-from_recursion IsPlainByte [] tt
plain_params (v ∷ vs) h = rw (params_of-cons v vs) (plain_append (text v) (behind_commas vs) (text_is_plain v h.0) (plain_behind vs h.1))
