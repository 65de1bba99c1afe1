-- Examples of draws, computed from the definitions.
use Rattle.std.specs.Prelude.{◌≡◌, [], ◌∷◌, ◌++◌, codes, map}
use Rattle.gc_rehearsal.specs.Altering.{alter_draw, altered_from}
use Rattle.gc_rehearsal.specs.Draws.{start_of_ups, start_of_downs, draw_at, among}

-- with seed 7: the first three draws of line 1 up, the first draw of line 2 down, the delay that `delay 400 600` draws for line 1 up,
-- and what `alter 2` makes of a reply as line 1 down
pub record DrawsAsWritten : Type 0 where
  pub up : map (draw_at (start_of_ups 7) 1) (1 ∷ 2 ∷ 3 ∷ []) ≡ 0xb8b4c2977eabce45 ∷ 0xa65305fd338ec8fe ∷ 0x8ca3cbb6ca63129b ∷ []
  pub down : draw_at (start_of_downs 7) 2 1 ≡ 0xc6cc8bd107a5183f
  pub wait : among (draw_at (start_of_ups 7) 1 3) 400 600 ≡ 558
  pub altered : altered_from (draw_at (start_of_downs 7) 1 alter_draw) 2000 1 (codes "%R1P,0,3:0,123456" ++ 13 ∷ 10 ∷ []) ≡ codes "%R1P,1,3:0,123456" ++ 13 ∷ 10 ∷ []
