use Rattle.gc_client.proofs.Digits.{same_id_same_place, place_of_id, fits_where_it_waits}
use Rattle.gc_client.proofs.laws.ids_tell_requests_apart.Goals as goal

pub returns : goal.returns
returns g c = record { differ = same_id_same_place; place = place_of_id; fits = fits_where_it_waits }
