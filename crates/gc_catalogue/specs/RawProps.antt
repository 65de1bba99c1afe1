-- For the proofs alone: `IsRawCall` has at most one proof for a number and parameters.
use Rattle.std.specs.Prelude.{◌≡◌, ◌<◌, ◌≤◌, ◌%◌, ℕ, List, length}
use Rattle.std.proofs.Props.{props}
use Rattle.gc_lines.specs.Prelude.{IsPlain}
use Rattle.gc_values.specs.Prelude.{IsParams, quotes}
use Rattle.gc_catalogue.specs.Calls.{IsNoProcedure}
use Rattle.gc_catalogue.specs.Raws.{line_length, IsRawCall}

-- any two proofs that a number and parameters may be asked for are equal
pub IsRawCall-prop : (rpc : ℕ) (params : List ℕ) → IsProp (IsRawCall rpc params)
IsRawCall-prop rpc params x y =
    let bound_prop : IsProp (rpc < 65536) = hlevel props in
    let no_procedure_prop : IsProp (IsNoProcedure rpc) = hlevel props in
    let plain_prop : IsProp (IsPlain params) = hlevel props in
    let short_prop : IsProp (line_length rpc params ≤ 512) = hlevel props in
    let closed_prop : IsProp (quotes params % 2 ≡ 0) = hlevel props in
    let few_prop : IsProp ((items : List (List ℕ)) → IsParams params items → length items ≤ 16) = hlevel props in
    λ i. record {
      bound = bound_prop x.bound y.bound i;
      no_procedure = no_procedure_prop x.no_procedure y.no_procedure i;
      plain = plain_prop x.plain y.plain i;
      short = short_prop x.short y.short i;
      closed = closed_prop x.closed y.closed i;
      few = few_prop x.few y.few i;
    }
