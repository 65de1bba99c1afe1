-- Which texts describe a procedure, as they are read: the number, the parameters, and the columns.
use Rattle.gc_texts.proofs.Common.{◌≡◌, ℕ, Bool, true, false, List, [], ◌∷◌, ◌++◌, get_or, Some, None, arith, refl, ap, subst, sym, ◌∙◌, codes, IsNoProcedure, IsProcedure, are_columns, AreFields, DescriptionSeen, EndsColumns, EndsParameters, IsDescription, IsEnd, IsNoColumns, IsNoEnd, IsNoParameters, is_arrow, last_word, EndsFields, FieldSeen, IsNoFieldList, field_words, words_from, IsRpc, TakesWord, words_of, Stop, End, Arrow, More}
use Rattle.std.specs.Prelude.{IsTrue, IsFalse}
use Rattle.gc_texts.proofs.FieldForms.{same_fields}
use Rattle.gc_texts.proofs.Procedures.{one_number}

-- the words `..` and `->` are two
dots_are_no_arrow : (p q : List (List ℕ)) → codes ".." ∷ p ≡ codes "->" ∷ q → ⊥
dots_are_no_arrow p q e = let first : ◌≡◌ {A = ℕ} 46 45 = ap (λ ws. get_or (get_or ws 0 []) 0 0) e in omega (arith, first)

-- what ends the last list of a description
abbrev pub end_of : Bool → Stop
end_of true = More
end_of false = End

pub end_words : (more : Bool) → words_from (end_of more) [] ≡ last_word more
end_words true = refl
end_words false = refl

-- the words were read as fields up to the end of their list
module _ (words : List (List ℕ)) (fields : List FieldSeen) (rest : List (List ℕ)) where
  -- where the end is `->`, the fields are parameters
  pub params_found : (stop : Stop) (r : Bool) → EndsFields words fields stop rest → r ≡ is_arrow stop → IsTrue r → EndsParameters words fields rest
  params_found Arrow r ends is holds = record { words_are = ends.words_are; are = record { named = ends.named; few = ends.few } }
  params_found End r ends is holds = let both : false ≡ true = sym is ∙ holds in cc
  params_found More r ends is holds = let both : false ≡ true = sym is ∙ holds in cc

  -- two lists of fields end with the same words
  ends_alike : (stop other : Stop) (gs : List FieldSeen) (tail : List (List ℕ)) → EndsFields words fields stop rest → AreFields gs
      → words ≡ field_words gs ++ words_from other tail → (fields ≡ gs) × (words_from stop rest ≡ words_from other tail)
  ends_alike stop other gs tail ends are also = same_fields fields gs stop other rest tail ends.named are.named (sym ends.words_are ∙ also)

  -- where the end isn't `->`, there are no parameters
  pub params_other : (stop : Stop) (r : Bool) → EndsFields words fields stop rest → r ≡ is_arrow stop → IsFalse r → IsNoParameters words
  params_other Arrow r ends is isnt params tail e = let both : true ≡ false = sym is ∙ isnt in cc
  params_other End r ends is isnt params tail e =
      let alike = ends_alike End Arrow params tail ends e.are e.words_are in
      let ends_here : [] ≡ codes "->" ∷ tail = alike.1 in cc
  params_other More r ends is isnt params tail e = dots_are_no_arrow rest tail (ends_alike More Arrow params tail ends e.are e.words_are).1

  -- where no description ends as the list does, the words aren't the columns of one
  pub columns_no_end : (stop : Stop) → EndsFields words fields stop rest → IsNoEnd stop rest → IsNoColumns words
  columns_no_end stop ends none values more e =
      let alike = ends_alike stop (end_of more) values [] ends e.are (e.words_are ∙ ap (λ l. field_words values ++ l) (sym (end_words more))) in
      none more (alike.1 ∙ end_words more)

  -- where the fields may not be columns, the words aren't the columns of a description
  pub columns_refused : (stop : Stop) → EndsFields words fields stop rest → are_columns fields ≡ false → IsNoColumns words
  columns_refused stop ends refused values more e =
      let alike = ends_alike stop (end_of more) values [] ends e.are (e.words_are ∙ ap (λ l. field_words values ++ l) (sym (end_words more))) in
      let both : true ≡ false = sym e.columns ∙ ap are_columns (sym alike.0) ∙ refused in cc

  -- where a description ends as the list does, and the fields may be columns, they are its columns
  pub columns_found : (stop : Stop) (more : Bool) → EndsFields words fields stop rest → IsEnd stop rest more → are_columns fields ≡ true → EndsColumns words fields more
  columns_found stop more ends is columns =
      record { words_are = ends.words_are ∙ ap (λ l. field_words fields ++ l) is; are = record { named = ends.named; few = ends.few }; columns = columns }

-- where there is no list of fields, there are no parameters
pub no_list_no_params : (words : List (List ℕ)) → IsNoFieldList words → IsNoParameters words
no_list_no_params words none params rest e = none params Arrow rest (record { words_are = e.words_are; named = e.are.named; few = e.are.few })

-- where there is no list of fields, there are no columns
pub no_list_no_columns : (words : List (List ℕ)) → IsNoFieldList words → IsNoColumns words
no_list_no_columns words none values more e =
    none values (end_of more) [] (record { words_are = e.words_are ∙ ap (λ l. field_words values ++ l) (sym (end_words more)); named = e.are.named; few = e.are.few })

-- the last list of a description ends with its text, or with `..`
pub end_found : (rest new : List (List ℕ)) → TakesWord rest new None → IsEnd More rest true
end_found rest new taken = ap (λ l. codes ".." ∷ l) taken.0

-- behind `..` there are no further words
pub end_too_long : (rest new : List (List ℕ)) (word : List ℕ) → TakesWord rest new (Some word) → IsNoEnd More rest
end_too_long rest new word taken true is =
    let tails : rest ≡ [] = cc in
    let none : word ∷ new ≡ [] = sym taken ∙ tails in cc
end_too_long rest new word taken false is = cc

-- the last list of a description doesn't end with `->`
pub end_no_arrow : (rest : List (List ℕ)) → IsNoEnd Arrow rest
end_no_arrow rest true is = dots_are_no_arrow [] rest (sym is)
end_no_arrow rest false is = cc

-- the text describes no procedure
abbrev pub DescribesNone : List ℕ → Type 0
DescribesNone text = (d : DescriptionSeen) → IsDescription text d → ⊥

-- no word was there
pub described_by_no_word : (text : List ℕ) (words new : List (List ℕ)) → words ≡ words_of text → TakesWord words new None → DescribesNone text
described_by_no_word text words new are taken d is =
    let none : [] ≡ is.number ∷ (field_words d.params ++ codes "->" ∷ (field_words d.values ++ last_word d.more)) = sym taken.0 ∙ are ∙ is.words_are in cc

-- `number` is the first word of the text, and `others` are the other words
module _
    (text : List ℕ) (words others : List (List ℕ)) (number : List ℕ) (are : words ≡ words_of text) (taken : TakesWord words others (Some number)) where
  -- the words of a description
  front_of : (d : DescriptionSeen) (is : IsDescription text d) → number ∷ others ≡ is.number ∷ (field_words d.params ++ codes "->" ∷ (field_words d.values ++ last_word d.more))
  front_of d is = sym taken ∙ are ∙ is.words_are

  number_of_it : (d : DescriptionSeen) → IsDescription text d → IsRpc number d.rpc
  number_of_it d is =
      let e = front_of d is in
      let same : is.number ≡ number = cc in
      subst (λ (w : List ℕ). IsRpc w d.rpc) same is.number_is

  others_of_it : (d : DescriptionSeen) → IsDescription text d → EndsParameters others d.params (field_words d.values ++ last_word d.more)
  others_of_it d is =
      let e = front_of d is in
      let same : others ≡ field_words d.params ++ codes "->" ∷ (field_words d.values ++ last_word d.more) = cc in
      record { words_are = same; are = is.params_are }

  -- the word is no number of a procedure
  pub no_number : ((rpc : ℕ) → IsRpc number rpc → ⊥) → DescribesNone text
  no_number none d is = none d.rpc (number_of_it d is)

  -- the table has the procedure
  pub in_table : (rpc : ℕ) → IsRpc number rpc → IsProcedure rpc → DescribesNone text
  in_table rpc reads (call, has) d is = is.outside call (has ∙ one_number number rpc d.rpc 65535 reads (number_of_it d is))

  -- the other words don't begin with parameters
  pub no_params : IsNoParameters others → DescribesNone text
  no_params none d is = none d.params (field_words d.values ++ last_word d.more) (others_of_it d is)

  -- the parameters were read, and what follows isn't columns
  pub no_columns : (params : List FieldSeen) (rest : List (List ℕ)) → EndsParameters others params rest → IsNoColumns rest → DescribesNone text
  no_columns params rest ends none d is =
      let they = others_of_it d is in
      let alike = same_fields params d.params Arrow Arrow rest (field_words d.values ++ last_word d.more) ends.are.named they.are.named (sym ends.words_are ∙ they.words_are) in
      let at_end : codes "->" ∷ rest ≡ codes "->" ∷ (field_words d.values ++ last_word d.more) = alike.1 in
      let same : rest ≡ field_words d.values ++ last_word d.more = cc in
      none d.values d.more (record { words_are = same; are = is.values_are; columns = is.columns })

  -- all was read
  pub description_reads : (d : DescriptionSeen) (rest : List (List ℕ)) → IsRpc number d.rpc → IsNoProcedure d.rpc → EndsParameters others d.params rest
      → EndsColumns rest d.values d.more → IsDescription text d
  description_reads d rest reads outside params columns =
      record {
        number = number;
        words_are = sym are ∙ taken ∙ ap (λ l. number ∷ l) (params.words_are ∙ ap (λ l. field_words d.params ++ codes "->" ∷ l) columns.words_are);
        number_is = reads;
        outside = outside;
        params_are = params.are;
        values_are = columns.are;
        columns = columns.columns;
      }
