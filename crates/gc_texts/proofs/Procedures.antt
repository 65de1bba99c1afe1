-- Which texts are those of a procedure: its number in digits and, after a space (byte 32), its parameters, if there are any.
-- A text that is cut at its first space has a front and, if it has a space, a rest.
use Rattle.gc_texts.proofs.Common.{◌≡◌, ◌<◌, ℕ, List, [], ◌∷◌, ◌++◌, length, Option, Some, None, arith, refl, ap, subst, sym, ◌∙◌, unwrap_or, Call, IsCall, Cuts, Lacks, IsNumber, IsRpc, IsProcedureText, HasBytes, params_text_of, IsReadAs, NoRpc}
use Rattle.std.proofs.lemmas.List.{append-nil}
use Rattle.gc_texts.proofs.Cutting.{read_alike, cut_once, digits_lack_spaces}

-- where a text is digits without a space, and then parameters after a space, or none, the digits and the parameters are its cut
-- at the first space
pub cuts_at_params : (text digits : List ℕ) (params : Option (List ℕ)) → text ≡ digits ++ params_text_of params → Lacks 32 digits → Cuts 32 text digits params
cuts_at_params text digits None e lacks = (e ∙ append-nil digits, lacks)
cuts_at_params text digits (Some params) e lacks = (e, lacks)

-- the parts of a procedure's text, cut at its first space, are the text of its number and its parameters
pub procedure_parts : (text front : List ℕ) (rest : Option (List ℕ)) (call : Call)
    → Cuts 32 text front rest → (p : IsProcedureText text call) → (front ≡ p.rpc_text) × (rest ≡ p.params)
procedure_parts text front rest call cut p =
    let at = cuts_at_params text p.rpc_text p.params p.text_is (digits_lack_spaces p.rpc_text p.number.names.digits) in
    cut_once 32 text front p.rpc_text rest p.params cut at

-- a text that is cut at its first space, and whose front is no procedure's number, is no procedure's
pub no_procedure : (text front : List ℕ) (rest : Option (List ℕ)) → Cuts 32 text front rest
    → NoRpc front → (call : Call) → IsProcedureText text call → ⊥
no_procedure text front rest cut none call p =
    let parts = procedure_parts text front rest call cut p in
    none p.rpc (subst (λ (t : List ℕ). IsRpc t p.rpc) (sym parts.0) p.number)

-- parameters that are given and empty don't have at least one byte
empty_has_no_bytes : (params : Option (List ℕ)) → params ≡ Some [] → HasBytes params → ⊥
empty_has_no_bytes None e more = cc
empty_has_no_bytes (Some []) e more = absurd (omega (arith, more))
empty_has_no_bytes (Some (b ∷ bs)) e more = cc

-- digits write one number at most
pub one_number : (digits : List ℕ) (m n max : ℕ) → IsNumber digits m max → IsNumber digits n max → m ≡ n
one_number digits m n max h k = h.names.value ∙ sym k.names.value

-- a text's front, up to its first space, is the procedure's number `rpc`, and what follows the space, if there is one, is
-- `params`, at least one byte; without a space `params` is empty. Then the call of `rpc` and `params`, or `None` where they make
-- none, is also what is read of the text as a procedure's (`IsReadAs`)
pub procedure_read : (text front params : List ℕ) (rest : Option (List ℕ)) (rpc : ℕ) (r : Option Call)
    (cut : Cuts 32 text front rest) (more : HasBytes rest) (same : params ≡ unwrap_or rest []) (number : IsRpc front rpc)
    → IsReadAs (IsCall rpc params) r → IsReadAs (IsProcedureText text) r
procedure_read text front params rest rpc r cut more same number = read_alike (IsCall rpc params) (IsProcedureText text) r call_is_the_texts texts_call_is where
  -- a text that is cut at its first space is its front and what follows that, with the space
  cut_text : (text front : List ℕ) (rest : Option (List ℕ)) → Cuts 32 text front rest → text ≡ front ++ params_text_of rest
  cut_text text front None cut = cut.0 ∙ sym (append-nil front)
  cut_text text front (Some rest) cut = cut.0

  -- the call of `rpc` and `params` is the text's
  call_is_the_texts : (call : Call) → IsCall rpc params call → IsProcedureText text call
  call_is_the_texts call calls = record {
    rpc_text = front;
    rpc = rpc;
    params = rest;
    text_is = cut_text text front rest cut;
    number = number;
    some = more;
    calls = subst (λ (ps : List ℕ). IsCall rpc ps call) same calls;
  }

  -- the text's call is that of `rpc` and `params`
  texts_call_is : (call : Call) → IsProcedureText text call → IsCall rpc params call
  texts_call_is call p =
      let parts = procedure_parts text front rest call cut p in
      let rpcs : p.rpc ≡ rpc = one_number front p.rpc rpc 65535 (subst (λ (t : List ℕ). IsRpc t p.rpc) (sym parts.0) p.number) number in
      let lists : unwrap_or p.params [] ≡ params = ap (λ o. unwrap_or o []) (sym parts.1) ∙ sym same in
      subst (λ (n : ℕ). IsCall n params call) rpcs (subst (λ (ps : List ℕ). IsCall p.rpc ps call) lists p.calls)

-- in a cut, the rest may be replaced by one that equals it
pub with_rest : (mark : ℕ) (text front : List ℕ) (o rest : Option (List ℕ))
    → Cuts mark text front o → o ≡ rest → Cuts mark text front rest
with_rest mark text front o rest cut e = let P : Option (List ℕ) → Type 0 = λ r. Cuts mark text front r in subst P e cut

-- where a text's front, up to its first space, is the procedure's number `rpc`, and `params` follows the space, at least one
-- byte, the call of `rpc` and `params`, or `None` where they make none, is also what is read of the text as a procedure's
-- (`IsReadAs`)
pub read_with_parameters : (text front params : List ℕ) (o : Option (List ℕ)) (rpc : ℕ) (r : Option Call)
    (cut : Cuts 32 text front o) (is : o ≡ Some params) (more : 0 < length params) (number : IsRpc front rpc)
    → IsReadAs (IsCall rpc params) r → IsReadAs (IsProcedureText text) r
read_with_parameters text front params o rpc r cut e more number called =
    procedure_read text front params (Some params) rpc r (with_rest 32 text front o (Some params) cut e) more refl number called

-- a text that has a first space and nothing after it is no procedure's
pub no_parameters_no_procedure : (text front params : List ℕ) (o : Option (List ℕ)) → Cuts 32 text front o → o ≡ Some params → length params ≡ 0
    → (call : Call) → IsProcedureText text call → ⊥
no_parameters_no_procedure text front [] o cut e none call p = let parts = procedure_parts text front o call cut p in empty_has_no_bytes p.params (sym parts.1 ∙ e) p.some
no_parameters_no_procedure text front (b ∷ bs) o cut e none call p = absurd (omega (arith, none))
