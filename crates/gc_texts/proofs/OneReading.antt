-- A procedure's text gives one call at most, and lines give one list of items at most where each gives one item at most.
use Rattle.gc_texts.proofs.Common.{◌≡◌, ℕ, List, [], ◌∷◌, refl, ap, subst, ◌∙◌, unwrap_or, AllZip, Call, IsCall, Cuts, IsRpc, IsProcedureText}
use Rattle.gc_catalogue.proofs.CallLaws.{one_call}
use Rattle.gc_texts.proofs.Cutting.{digits_lack_spaces}
use Rattle.gc_texts.proofs.Procedures.{one_number, cuts_at_params, procedure_parts}

-- a procedure's text gives one call at most
pub one_procedure : (text : List ℕ) (c d : Call) → IsProcedureText text c → IsProcedureText text d → c ≡ d
one_procedure text c d p q =
    let cut : Cuts 32 text q.rpc_text q.params = cuts_at_params text q.rpc_text q.params q.text_is (digits_lack_spaces q.rpc_text q.number.names.digits) in
    let parts = procedure_parts text q.rpc_text q.params c cut p in
    let rpcs : q.rpc ≡ p.rpc = one_number p.rpc_text q.rpc p.rpc 65535 (subst (λ (t : List ℕ). IsRpc t q.rpc) parts.0 q.number) p.number in
    let lists : unwrap_or q.params [] ≡ unwrap_or p.params [] = ap (λ o. unwrap_or o []) parts.1 in
    one_call p.rpc (unwrap_or p.params []) c d p.calls (subst (λ (n : ℕ). IsCall n (unwrap_or p.params []) d) rpcs (subst (λ (ps : List ℕ). IsCall q.rpc ps d) lists q.calls))

-- where each line, or whatever has a form, has the form of one item at most, lines have the forms of one list of items at most
pub one_list : {Line Item : Type 0} (form : Line → Item → Type 0) → ((line : Line) (a b : Item) → form line a → form line b → a ≡ b)
    → (lines : List Line) (xs ys : List Item) → AllZip form lines xs → AllZip form lines ys → xs ≡ ys
one_list form one [] [] [] h k = refl
one_list form one [] [] (y ∷ ys) h k = absurd k
one_list form one [] (x ∷ xs) ys h k = absurd h
one_list form one (line ∷ lines) [] ys h k = absurd h
one_list form one (line ∷ lines) (x ∷ xs) [] h k = absurd k
one_list form one (line ∷ lines) (x ∷ xs) (y ∷ ys) h k = ap (λ e. e ∷ xs) (one line x y h.0 k.0) ∙ ap (λ es. y ∷ es) (one_list form one lines xs ys h.1 k.1)
