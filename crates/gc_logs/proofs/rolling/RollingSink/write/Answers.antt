use Rattle.gc_logs.proofs.Common.{arith}
use Rattle.gc_logs.proofs.LogCuts.{put_below, put_ends, put_whole}
use Rattle.gc_logs.proofs.rolling.RollingSink.write.Goals as goal

pub invariant_of-self-2 : goal.invariant_of-self-2
invariant_of-self-2 g c =
    let made = c.make_room.new.self in
    let before = g.K.Rolls.files made.files in
    let room = c.in_ok-make_room.ensures.room.room in
    let most = c.in_ok-make_room.ensures.most in
    record {
      below = put_below made.most before _ _ c.args.bytes.now c.in_ok-n.ensures.puts made.below (omega (arith, room, most));
      ends = put_ends before _ _ c.args.bytes.now c.in_ok-n.ensures.puts made.ends;
      whole = put_whole before _ _ c.args.bytes.now c.in_ok-n.ensures.puts;
    }
