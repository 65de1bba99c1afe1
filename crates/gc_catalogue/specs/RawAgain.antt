-- The request for a procedure that isn't in the table with other parameters than a request has: this project's own. A request is known by its
-- procedure and its parameters, so this is a function, although a request carries the proof that it may be asked for.
use Rattle.std.specs.Prelude.{◌≡◌, ◌<◌, ℕ, Bool, true, false, List, length, Option, Some, None, refl}
use Rattle.std.proofs.Common.{sym, subst}
use Rattle.gc_catalogue.specs.Bytes.{AreBytes}
use Rattle.gc_catalogue.specs.RawFacts.{may_have, allowed, padded, padded_front, padded_long, padded_zeros, params_bytes, params_few}
use Rattle.gc_catalogue.specs.RawTexts.{raw_bytes}
use Rattle.gc_catalogue.specs.Raws.{IsRawCall}
use Rattle.gc_catalogue.specs.declared.raw.RawCall.{RawCall}
use Rattle.gc_catalogue.specs.declared.raw_text.RawText.{RawText}

-- the text of parameters that a procedure may have
abbrev pub text_of : (rpc : ℕ) (params : List ℕ) → rpc < 65536 → may_have rpc params ≡ true → RawText
text_of rpc params bound h = record {
  bytes = padded params;
  len = length params;
  few = params_few rpc params bound h;
  long = padded_long params (params_few rpc params bound h);
  zeros = padded_zeros params;
  are_bytes = subst AreBytes (sym (padded_front params)) (params_bytes rpc params h);
}

-- the request for the procedure of `raw` with these parameters, if it may have them
abbrev pub request_if : (raw : RawCall) (params : List ℕ) (b : Bool) → may_have raw.rpc params ≡ b → Option RawCall
request_if raw params true h = Some (record {
  rpc = raw.rpc;
  params = text_of raw.rpc params raw.is.bound h;
  is = subst (IsRawCall raw.rpc) (sym (padded_front params)) (allowed raw.rpc (raw_bytes raw.params) params raw.is h);
})
request_if raw params false h = None

-- the request for the procedure of `raw` with these parameters; `None` where it may not be asked for so
abbrev pub with_params : RawCall → (params : List ℕ) → Option RawCall
with_params raw params = request_if raw params (may_have raw.rpc params) refl
