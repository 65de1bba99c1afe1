use Rattle.gc_rows.proofs.Common.{◌≡◌, ℕ, ◌+◌, ◌*◌, ◌≤◌, List, length, ap, rules, arith, common_steps, array_vec_len, before, behind, OWN_ROOM}
use Rattle.gc_rows.proofs.Halves.{parts_short}
use Rattle.gc_rows.proofs.json_line.append_values.Goals as goal

-- one more value was appended, which the reply wrote as `front`: with what is left of the reply's text the line stays within its room
room_kept : (rest front left : List ℕ) → front ≡ before 44 rest → left ≡ behind 44 rest → (old new begun came index : ℕ)
    → old + 8 * length rest ≤ begun + (OWN_ROOM * index + came) → new ≤ old + (8 * length front + OWN_ROOM)
    → new + 8 * length left ≤ begun + (OWN_ROOM * (index + 1) + came)
room_kept rest front left f l old new begun came index within more = omega (arith, ap length f, ap length l, parts_short 44 rest, within, more)

pub loop-value-preserved : goal.loop-value-preserved
loop-value-preserved g c = record {
  column = search rules;
  short = search rules;
  written = grind (arith, common_steps);
  room = room_kept c.loop-value.rest.now c.before-in-loop-value.result.now c.behind-rest.result.now c.before-in-loop-value.ensures.is c.behind-rest.ensures.is
      (array_vec_len c.loop-value.line)
      (array_vec_len c.append_value.new.line)
      (array_vec_len c.args.line.now)
      (8 * length c.args.came.now)
      c.loop-value.value-index
      c.loop-value.invariant.room
      c.append_value.ensures.room;
}
