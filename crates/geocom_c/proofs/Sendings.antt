-- Sends: what a number and parameters ask for, or why they are refused, and what a send of that does.
use Rattle.geocom_c.proofs.Common.{◌≡◌, ◌≢◌, ◌<◌, ℕ, Result, Ok, Err, refl, sym, ap, ◌∙◌, arith, Asked, AsksOrRefuses, IsSend, RequestRule, WasAsked, read_rule, WINDOW_FULL, GeocomClient, Effect}
use Rattle.geocom_c.proofs.Clients.{never_ok}

-- Results.

-- a result has one value
pub one_value_of : {A E : Type 0} (r : Result A E) (x y : A) → r ≡ Ok x → r ≡ Ok y → x ≡ y
one_value_of r x y e f = cc

-- a result has one error
pub one_error_of : {A E : Type 0} (r : Result A E) (x y : E) → r ≡ Err x → r ≡ Err y → x ≡ y
one_error_of r x y e f = cc

-- a result isn't a value and an error
pub never_both : {A E : Type 0} (r : Result A E) (x : A) (y : E) → r ≡ Ok x → r ≡ Err y → ⊥
never_both r x y e f = never_ok y x (sym f ∙ e)

-- a number n that is `WINDOW_FULL` unless it is 0 is no number k above that one
pub never_above_full : (n k : ℕ) → (n ≢ 0 → n ≡ WINDOW_FULL) → WINDOW_FULL < k → n ≡ k → ⊥
never_above_full n k either above e = let full : n ≡ WINDOW_FULL = either (λ z. absurd (omega (arith, e, z, above))) in absurd (omega (arith, e, full, above))

-- What was read.

module _ {X E : Type 0} (rule : RequestRule X E) where
  -- Here `found` has what `rule` asks for, or the reason that it has to refuse, if there is one of the two.
  module _ (found : Result X E) (only : (x : X) → rule.is x → found ≡ Ok x) (exactly : (e : E) → rule.is_not e → found ≡ Err e) where
    -- what was found (x) is what is asked for
    pub reads_found : (x : X) → found ≡ Ok x → rule.is x → AsksOrRefuses rule (Ok (rule.to x))
    reads_found x is holds = record {
      asks = λ asked same. (x, holds, one_value_of _ asked (rule.to x) same refl);
      only = λ y it. ap (λ (z : X). let r : Result Asked ℕ = Ok (rule.to z) in r) (one_value_of found x y is (only y it));
      refuses = λ fault same. absurd (never_both _ (rule.to x) fault refl same);
      refused = λ e not. absurd (never_both found x e is (exactly e not));
      number_of_request = λ fault same. absurd (never_both _ (rule.to x) fault refl same);
    }

  -- Here `read` is what was read.
  module _ (read : Result Asked ℕ) (r : AsksOrRefuses rule read) where
    -- a client that was asked for what was read was asked for something that `rule` asks for
    asked_as : (Fills : (count width : ℕ) → Type 0) (state : GeocomClient) → WasAsked (λ (asked : Asked). read ≡ Ok asked) Fills state → WasAsked rule.is Fills state
    asked_as Fills state was =
        let found = r.asks was.asked was.is in
        record { client = was.client; rest = was.rest; asked = found.0; stands = was.stands; begun = was.begun; is = found.1; fills = was.fills }

    -- a send of what was read is a send of what is asked for
    pub sends_as : (target deadline : ℕ) (s : Effect GeocomClient ℕ) → IsSend (read_rule read) target deadline s → IsSend rule target deadline s
    sends_as target deadline s did = record {
      sent = λ room c rest x stands begun is. did.sent room c rest (rule.to x) stands begun (r.only x is);
      refuses = λ room c rest e stands begun is. did.refuses room c rest (rule.number e) stands begun (r.refused e is);
      begins = did.begins;
      begun = did.begun;
      room = did.room;
      astray = did.astray;
      full = λ e. asked_as (λ count width. count ≡ width) s.old (did.full e);
      done = λ e. asked_as (λ count width. count < width) s.old (did.done e);
      refusal = λ of_request. let (fault, is, same) = did.refusal of_request in let found = r.refuses fault is in (found.0, found.1, same ∙ found.2);
      refused = did.refused;
      answered = did.answered;
      written = did.written;
    }
