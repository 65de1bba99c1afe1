-- Texts joined by commas, and texts each after a comma.
use Rattle.gc_catalogue.proofs.Common.{◌<◌, ◌∷◌, Option, decimal, sym, ◌∙◌, ap, arith, append_assoc, append-nil, length-append, same_from_push, take-append_seam, params_text, reply_text, id_text, request_signature, request_text, text, Value, before_commas, behind_commas, params_of, IsWithoutComma, text_not_empty}
use Rattle.std.specs.Prelude.{◌≡◌, ◌-◌, ◌++◌, ℕ, List, [], length, take, refl}
use Rattle.std.proofs.lemmas.List.Folds.{flat_map-map}

-- values joined by commas are the first one's text, and then the others' texts, each after a comma
pub params_of-cons : (v : Value) (vs : List Value) → params_of (v ∷ vs) ≡ text v ++ behind_commas vs
params_of-cons v vs = ap (λ rest. text v ++ rest) (flat_map-map (λ (u : List ℕ). 44 ∷ u) text vs)

-- parameters of at least one byte are written in a reply as a comma and then the parameters
params_text-some : (bytes : List ℕ) → 0 < length bytes → params_text bytes ≡ 44 ∷ bytes
params_text-some [] h = absurd (omega arith)
params_text-some (b ∷ bs) h = refl

-- if xs has at least one byte, so has xs with ys after it
append_not_empty : (xs ys : List ℕ) → 0 < length xs → 0 < length (xs ++ ys)
append_not_empty [] ys h = absurd (omega arith)
append_not_empty (x ∷ xs) ys h = omega arith

-- values joined by commas are written in a reply as their texts, each after a comma
pub params_text-params_of : (vs : List Value) → params_text (params_of vs) ≡ behind_commas vs
params_text-params_of [] = refl
params_text-params_of (v ∷ vs) = ap params_text (params_of-cons v vs) ∙ params_text-some (text v ++ behind_commas vs) (append_not_empty (text v) (behind_commas vs) (text_not_empty v))

-- the texts of one value or more, each before a comma, are the values joined by commas, and a comma after them
before-params : (v : Value) (vs : List Value) → before_commas (v ∷ vs) ≡ params_of (v ∷ vs) ++ 44 ∷ []
before-params v [] = simp append-nil
before-params v (w ∷ vs) = rw (before-params w vs) (simp append_assoc)

-- a comma and then values, each before a comma, are the values, each after a comma, and then a comma
pub behind-before : (vs : List Value) → 44 ∷ before_commas vs ≡ behind_commas vs ++ 44 ∷ []
behind-before [] = refl
behind-before (v ∷ vs) =
    ap (λ rest. 44 ∷ rest) (append_assoc (text v) (44 ∷ []) (before_commas vs)) ∙ ap (λ rest. 44 ∷ (text v ++ rest)) (behind-before vs)
    ∙ sym (ap (λ rest. 44 ∷ rest) (append_assoc (text v) (behind_commas vs) (44 ∷ [])))

-- a list with one element appended is, without its last element, the list
pub without_last : {A : Type 0} (xs : List A) (a : A) → take (length (xs ++ a ∷ []) - 1) (xs ++ a ∷ []) ≡ xs
without_last xs a =
    let n : length (xs ++ a ∷ []) - 1 ≡ length xs = omega (arith, length-append xs (a ∷ [])) in
    ap (λ k. take k (xs ++ a ∷ [])) n ∙ take-append_seam xs (a ∷ [])

-- if `old` is a head, a comma and then values, each before a comma, and `new` is `old` without its last byte, `new` is the head
-- and then the values, each after a comma
pub list_behind_comma : (head : List ℕ) (vs : List Value) (old new : List ℕ) → old ≡ (head ++ 44 ∷ []) ++ before_commas vs
    → new ≡ take (length old - 1) old → new ≡ head ++ behind_commas vs
list_behind_comma head vs old new is cut =
    let all : old ≡ (head ++ behind_commas vs) ++ 44 ∷ [] = is ∙ append_assoc head (44 ∷ []) (before_commas vs)
    ∙ ap (λ bytes. head ++ bytes) (behind-before vs) ∙ sym (append_assoc head (behind_commas vs) (44 ∷ [])) in
    cut ∙ ap (λ bytes. take (length bytes - 1) bytes) all ∙ without_last (head ++ behind_commas vs) 44

-- if `old` is a head, a colon and then values, each before a comma, and `new` is `old` without the comma at its end, if one is
-- there, `new` is the head, the colon and the values joined by commas
list_behind_colon : (head : List ℕ) (vs : List Value) (old new : List ℕ) → old ≡ (head ++ 58 ∷ []) ++ before_commas vs → IsWithoutComma old new
    → new ≡ (head ++ 58 ∷ []) ++ params_of vs
list_behind_colon head [] old new is without =
    without.other (λ front e. let same : 58 ≡ 44 = (same_from_push head front 58 44 (sym (append-nil (head ++ 58 ∷ [])) ∙ sym is ∙ e)).1 in omega (arith, same)) ∙ is
list_behind_colon head (v ∷ vs) old new is without =
    without.comma ((head ++ 58 ∷ []) ++ params_of (v ∷ vs)) (is ∙ ap (λ bytes. (head ++ 58 ∷ []) ++ bytes) (before-params v vs) ∙ sym (append_assoc (head ++ 58 ∷ []) (params_of (v ∷ vs)) (44 ∷ [])))

-- a request without parameters is its signature, number and id, and a colon
request_without_params : (rpc : ℕ) (id : Option ℕ)
    → request_text (record { rpc = rpc; id = id; params = [] }) ≡ (request_signature ++ (decimal rpc ++ id_text id)) ++ 58 ∷ []
request_without_params rpc id = simp append_assoc

-- if `old` is `front`, a request without parameters, and then values, each before a comma, and `new` is `old` without the comma
-- at its end, if one is there, `new` is `front` and the request with these values as its parameters
pub request_with_list : (front : List ℕ) (rpc : ℕ) (id : Option ℕ) (vs : List Value) (old new : List ℕ)
    → old ≡ front ++ (request_text (record { rpc = rpc; id = id; params = [] }) ++ before_commas vs) → IsWithoutComma old new
    → new ≡ front ++ request_text (record { rpc = rpc; id = id; params = params_of vs })
request_with_list front rpc id vs old new is without =
    let head : List ℕ = front ++ (request_signature ++ (decimal rpc ++ id_text id)) in
    let start : front ++ (request_text (record { rpc = rpc; id = id; params = [] }) ++ before_commas vs) ≡ (head ++ 58 ∷ []) ++ before_commas vs =
    ap (λ bytes. front ++ (bytes ++ before_commas vs)) (request_without_params rpc id) ∙ simp append_assoc in
    let end : (head ++ 58 ∷ []) ++ params_of vs ≡ front ++ request_text (record { rpc = rpc; id = id; params = params_of vs }) = simp append_assoc in
    list_behind_colon head vs old new (is ∙ start) without ∙ end

-- a reply is the same reply without parameters, and after that the parameters' text
pub reply_text-params : (rc_com : ℕ) (id : Option ℕ) (rc : ℕ) (params : List ℕ)
    → reply_text (record { rc_com = rc_com; id = id; rc = rc; params = [] }) ++ params_text params ≡ reply_text
    (record { rc_com = rc_com; id = id; rc = rc; params = params })
reply_text-params rc_com id rc params = simp (append_assoc, append-nil)
