-- Sign-on lines. An instrument that is switched on or off may send a line such as `%N1,0,255,,0%T0,0,0,:` by itself: as far as this
-- project knows, and this project's own rule. A reply that the start cut off may stand before it in the same line, and a reply after it, so
-- it is looked for anywhere in a line.
use Rattle.std.specs.Prelude.{ℕ, Bool, List, codes}
use Rattle.gc_texts.specs.Cuts.{has_part}

-- whether a line has a sign-on in it: `%N1,`, at its beginning or later
abbrev pub is_sign_on : List ℕ → Bool
is_sign_on line = has_part (codes "%N1,") line
