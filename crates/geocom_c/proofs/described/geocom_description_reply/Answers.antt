use Rattle.geocom_c.proofs.Common.{◌≤◌, length, refl, arith, description_seen, TEXT_ROOM}
use Rattle.geocom_c.specs.Described as described
use Rattle.geocom_c.proofs.described.geocom_description_reply.Goals as goal

pub returns-in-Ok : goal.returns-in-Ok
returns-in-Ok c =
    let room : TEXT_ROOM ≤ length c.args.room.now = omega (arith, c.if-room-lt-TEXT_ROOM.false) in
    described.described (description_seen c.in-Ok.description) room c.in-Ok.ensures.found c.read_bytes.ensures

pub returns-in-Err : goal.returns-in-Err
returns-in-Err c =
    let room : TEXT_ROOM ≤ length c.args.room.now = omega (arith, c.if-room-lt-TEXT_ROOM.false) in
    described.undescribed c.in-Err.fault room c.in-Err.ensures.fault (c.unread-in-Err.ensures, refl)
