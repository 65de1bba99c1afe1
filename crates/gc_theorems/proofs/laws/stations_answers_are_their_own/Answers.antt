use Rattle.gc_theorems.proofs.Common.{sym, ◌∙◌, begun, course_client, seen, AnyState}
use Rattle.gc_theorems.proofs.InTime.{clean_faithful}
use Rattle.gc_theorems.proofs.laws.stations_answers_are_their_own.Goals as goal

pub returns : goal.returns
returns g c = λ ends kept is u rest acts ms carried.
    let f = clean_faithful ends AnyState kept is u carried.clean ms carried.possible in record { faithful = f; client = sym (course_client (seen ms) begun) ∙ f.stands }
