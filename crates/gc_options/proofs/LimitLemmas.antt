-- The limits that the words give.
use Rattle.gc_options.proofs.Common.{◌≡◌, ◌∙◌, ℕ, List, Option, Some, None, sym, subst, IfSome, IsSome, Words, text_in}
use Rattle.gc_options.specs.Limits.{GivesLimit, HasLimit, ReadsLimit, SaysLimit, limit_name}
use Rattle.gc_options.specs.declared.limit.Limit.{Limit}

module _ (words : Words) (limit : Limit) (text : List ℕ) (given : text_in words (limit_name limit) ≡ Some text) where
  -- what the text says is what the words give
  said_found : (r : Option ℕ) → IfSome r (λ number. SaysLimit limit text number) → IfSome r (λ number. GivesLimit words limit number)
  said_found None says = tt
  said_found (Some number) says = record { text = text; given = given; says = says }

  -- what the words give is what this text says
  said_only : (number : ℕ) → GivesLimit words limit number → SaysLimit limit text number
  said_only number gives =
      let same : Some gives.text ≡ Some text = sym gives.given ∙ given in
      let text_is : gives.text ≡ text = cc in
      subst (λ t. SaysLimit limit t number) text_is gives.says

  -- what is read of the text is read of the words
  pub limit_read : (r : Option ℕ) → IfSome r (λ number. SaysLimit limit text number) → ((number : ℕ) → SaysLimit limit text number → IsSome r)
      → ReadsLimit words limit r
  limit_read r found only = record { found = said_found r found; only = λ has. only has.number (said_only has.number has.gives) }
