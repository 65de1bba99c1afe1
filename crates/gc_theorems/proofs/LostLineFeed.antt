-- A line feed that is lost, computed.
use Rattle.gc_theorems.proofs.Common.{ℕ, List, [], ◌∷◌, Some, refl, arith, lit<, codes, header_at, request_at, reply_at, RequestFields, IsRequest, IsListFault, faulty_items, wrong_count, IsBare, bare_above, bare_param, InstrumentNo, Parameters, exec, IsReplied, answers, refuses, handed, State}
use Rattle.std.specs.Fmt.{digits}
use Rattle.gc_values.specs.declared.fault.ValueFault.TheVariants.{Count}
use Rattle.gc_values.proofs.ParamLists.{joined_params}
use Rattle.gc_theorems.specs.LostLineFeed.{IsBookedJoined, joint_line, joint_refusal}

-- the joint line as a request: it has three parameters, and its procedure takes none
abbrev joint_fields : RequestFields
joint_fields = record { rpc = 5003; id = Some 1; params = codes "%R1Q,0,2:" }

-- the joint line reads as the request `joint_fields`
joint_is_request : IsRequest joint_line joint_fields
joint_is_request =
    record {
      number = codes "5003";
      is_number = record { some = lit< tt; few = omega arith; digits = (lit< tt, (lit< tt, (lit< tt, (lit< tt, tt)))); value = refl; bound = lit< tt };
      is_id = lit< tt;
      whole = refl;
    }

-- the sign with which a request begins may be in a parameter without quotes
sign_is_bare : IsBare 37
sign_is_bare = record { space = λ e. omega (arith, e); quote = λ e. omega (arith, e); comma = λ e. omega (arith, e); cr = λ e. omega (arith, e); lf = λ e. omega (arith, e) }

-- the three parameters of the joint line, the first of which begins with that sign
abbrev joint_parameters : List (List ℕ)
joint_parameters = codes "%R1Q" ∷ codes "0" ∷ codes "2:" ∷ []

-- three parameters are too many for a procedure that takes none
three_too_many : IsListFault [] (codes "%R1Q,0,2:") Count
three_too_many =
    faulty_items joint_parameters
    (joined_params joint_parameters (
      bare_param (codes "%R1Q") (sign_is_bare, (bare_above 82 (lit< tt), (bare_above 49 (lit< tt), (bare_above 81 (lit< tt), tt)))),
      (bare_param (codes "0") (bare_above 48 (lit< tt), tt), (bare_param (codes "2:") (bare_above 50 (lit< tt), (bare_above 58 (lit< tt), tt)), tt)),
    )
    (lit< tt, (lit< tt, (lit< tt, tt))))
    (wrong_count refl (omega arith) (λ e. omega (arith, e)))

-- the joint line is refused in any state
joint_refused : (s : State) → IsReplied s joint_line s (Some joint_refusal)
unfolding digits
joint_refused s = answers joint_fields joint_is_request joint_refusal (refuses (Parameters Count) (InstrumentNo, refl, three_too_many) refl refl) refl

-- the reply to the joint line is booked for the request that was cut
pub joint_booked : IsBookedJoined
unfolding header_at request_at reply_at handed exec digits
joint_booked =
    record {
      line = refl;
      reads = refl;
      possible = (tt, (tt, ((8, [], refl), (tt, (tt, tt)))));
      replied = joint_refused _;
      settled = refl;
      executed = refl;
    }
