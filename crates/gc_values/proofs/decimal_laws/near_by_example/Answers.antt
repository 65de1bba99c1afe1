use Rattle.gc_values.proofs.Common.{refl, is_near}
use Rattle.gc_values.proofs.decimal_laws.near_by_example.Goals as goal

pub returns : goal.returns
unfolding is_near
returns c =
    record {
      circle = refl;
      circle_back = refl;
      face_two = refl;
      face_two_rounded = refl;
      v_alone = refl;
      hz_alone = refl;
      bound = refl;
      beyond_in_hz = refl;
      beyond_in_v = refl;
    }
