use Rattle.gc_station.proofs.Room.{have_room}
use Rattle.gc_station.proofs.laws.each_request_has_room.Goals as goal

pub returns : goal.returns
returns c = have_room
