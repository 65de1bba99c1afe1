-- What is at fault in a request whose first word is `raw`, and the names of procedures by their numbers.
use Rattle.gc_texts.proofs.Common.{◌≡◌, inl, inr, ℕ, List, [], ◌∷◌, ◌++◌, codes, append_assoc, cond, refl, ap, subst, sym, ◌∙◌, ne_eqb, call_fields, IsNoProcedure, call_name, IsRawRefusal, Call, NullProc, NamesAreTheCatalogues, name_among, IsRpc, raw_trouble, IsRaw, IsRawWordsTrouble, IsRequestTrouble, IsAskingTrouble, IsProcedureTrouble, behind, second_word, after_two_words, Trouble}
use Rattle.gc_catalogue.specs.declared.raw.RawFault.{RawFault}
use Rattle.gc_catalogue.specs.declared.raw.RawFault.TheVariants.{InTable, NotPlain, TooLong, OpenQuote, TooMany}
use Rattle.gc_texts.specs.declared.trouble.Trouble.TheVariants as trouble

-- the law: the name that is printed of a procedure's number is the catalogue's
pub printed_names_are : NamesAreTheCatalogues
printed_names_are NullProc = refl
printed_names_are call = refl

-- no name is found of a number that no procedure has
pub no_procedure_no_name : (calls : List Call) (rpc : ℕ) → IsNoProcedure rpc → name_among calls rpc ≡ []
no_procedure_no_name [] rpc none = refl
no_procedure_no_name (call ∷ calls) rpc none =
    ap (λ b. cond b (call_name call) (name_among calls rpc)) (ne_eqb (call_fields call).number rpc (none call)) ∙ no_procedure_no_name calls rpc none

-- a request whose first word is `raw`
module _ (request : List ℕ) (word : IsRaw request) where
  -- where the second word is the number `rpc`, and `rpc` is refused with `fault` for a request with what follows that word
  -- (`IsRawRefusal`), what `raw_trouble` reports of the two is at fault in the request (`IsRequestTrouble`)
  refusal_is_trouble : (rpc : ℕ) (fault : RawFault) → IsRpc (second_word request) rpc → IsRawRefusal rpc (after_two_words request) fault
      → IsRequestTrouble request (raw_trouble rpc fault)
  refusal_is_trouble rpc InTable number is = record { word = word; rpc = rpc; number = number; is = inl (InTable, is, refl) }
  refusal_is_trouble rpc NotPlain number is = record { word = word; rpc = rpc; number = number; is = inl (NotPlain, is, refl) }
  refusal_is_trouble rpc TooLong number is = record { word = word; rpc = rpc; number = number; is = inl (TooLong, is, refl) }
  refusal_is_trouble rpc OpenQuote number is = record { word = word; rpc = rpc; number = number; is = inl (OpenQuote, is, refl) }
  refusal_is_trouble rpc TooMany number is = record { word = word; rpc = rpc; number = number; is = inl (TooMany, is, refl) }

  -- a trouble of what follows the word `raw` is a trouble of the request
  pub raw_words_trouble_is_requests : (t : Trouble) → IsRawWordsTrouble (second_word request) (after_two_words request) t → IsRequestTrouble request t
  raw_words_trouble_is_requests t (inl none) = subst (IsRequestTrouble request) (sym none.0) (inl (word, none.1))
  raw_words_trouble_is_requests t (inr (rpc, number, inl (fault, is, told))) = subst (IsRequestTrouble request) (sym told) (refusal_is_trouble rpc fault number is)
  raw_words_trouble_is_requests t (inr (rpc, number, inr (may, told))) =
      subst (IsRequestTrouble request) (sym told) (inr (record { word = word; rpc = rpc; number = number; is = inr (may, refl) }))

-- neither a procedure's number nor its parameters have these troubles
not_now : (rpc : ℕ) (params : List ℕ) → IsProcedureTrouble rpc params trouble.Now → ⊥
not_now rpc params (inl is) = is
not_now rpc params (inr is) = is.1

not_target : (rpc : ℕ) (params : List ℕ) → IsProcedureTrouble rpc params trouble.Target → ⊥
not_target rpc params (inl is) = is
not_target rpc params (inr is) = is.1

-- a trouble of what follows the first word of a line that is taken for a command is one of the line
pub request_is_asking : (line : List ℕ) (t : Trouble) → IsRequestTrouble (behind 32 line) t → IsAskingTrouble line t
request_is_asking line trouble.Now is = absurd (not_now is.rpc (behind 32 (behind 32 line)) is.is)
request_is_asking line trouble.Target is = absurd (not_target is.rpc (behind 32 (behind 32 line)) is.is)
request_is_asking line trouble.NoForm is = inr is
request_is_asking line t is = is

-- where `t` is what is at fault in a word after `raw` and the parameters after it, it is at fault in an equal word and equal
-- parameters
pub same_raw_trouble : (word other params others : List ℕ) (t : Trouble) → word ≡ other → params ≡ others
    → IsRawWordsTrouble word params t → IsRawWordsTrouble other others t
same_raw_trouble word other params others t e f is = subst (λ (w : List ℕ). IsRawWordsTrouble w others t) e (subst (λ (p : List ℕ). IsRawWordsTrouble word p t) f is)

-- the text that a procedure is in the table, with a line feed at the end of its last part, is that text and then a line feed
pub in_table_line : (rpc name : List ℕ)
    → rpc ++ (codes " is " ++ (name ++ codes ": leave out raw\n")) ≡ (((rpc ++ codes " is ") ++ name) ++ codes ": leave out raw") ++ codes "\n"
in_table_line rpc name =
    sym (append_assoc ((rpc ++ codes " is ") ++ name) (codes ": leave out raw") (codes "\n")
    ∙ append_assoc (rpc ++ codes " is ") name (codes ": leave out raw\n") ∙ append_assoc rpc (codes " is ") (name ++ codes ": leave out raw\n"))
