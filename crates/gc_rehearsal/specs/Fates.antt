-- What happens to a line by the rules of a text and the draws of a seed: this project's own. `start` is the state from which the
-- draws begin, and `line` the number of the line, counted from 1.
use Rattle.std.specs.Prelude.{ℕ, ◌%◌, Bool, false, not, ◌&&◌, nat_le, Option, None, Some, if◌then◌else◌}
use Rattle.gc_rehearsal.specs.Draws.{draw_at, happens, among}
use Rattle.gc_rehearsal.specs.Rules.{frequency_of}
use Rattle.gc_rehearsal.specs.declared.frequency.Frequency.{Frequency}
use Rattle.gc_rehearsal.specs.declared.fate.LineFate.{LineFate}
use Rattle.gc_rehearsal.specs.declared.rules.Rules.{Rules}
use Rattle.gc_rehearsal.specs.declared.rule.Word.{Word}
use Rattle.gc_rehearsal.specs.declared.rule.Word.TheVariants.{Delay, Lose, Repeat, Hold, Close, Refuse, Restart}

-- Which of a line's draws, counted from 1, is whose: this project's own. The word `kill` is about no line, and has none.

-- the draw that says whether a line is lost
abbrev pub lose_draw : ℕ
lose_draw = 1

-- the draw that says whether a line is repeated
abbrev pub repeat_draw : ℕ
repeat_draw = 2

-- the draw that says how long a line is on the way at least
abbrev pub delay_draw : ℕ
delay_draw = 3

-- the draw that says whether a line is held up, and how long
abbrev pub hold_draw : ℕ
hold_draw = 4

-- the draw that says whether the connection ends in place of a line, and whether by a reset
abbrev pub close_draw : ℕ
close_draw = 5

-- the draw that says whether connections are refused after that end, and how long
abbrev pub refuse_draw : ℕ
refuse_draw = 6

-- the draw that says whether the instrument restarts at a line
abbrev pub restart_draw : ℕ
restart_draw = 8

-- the end is a reset if the lower 32 bits of the draw of `close` are at least this, half of their range: this project's own
abbrev pub least_of_reset : ℕ
least_of_reset = 2147483648

-- What happens.

-- whether what a word names happens by this draw; never, if the text doesn't have the word (`None`)
abbrev pub hits : Option Frequency → ℕ → Bool
hits None draw = false
hits (Some frequency) draw = happens draw frequency.share

-- the number that a word draws; 0 if the text doesn't have the word (`None`)
abbrev pub drawn : Option Frequency → ℕ → ℕ
drawn None draw = 0
drawn (Some frequency) draw = among draw frequency.least frequency.most

-- the number that a word draws if what it names happens, else 0
abbrev pub drawn_if : (hit : Bool) → Option Frequency → (draw : ℕ) → ℕ
drawn_if hit frequency draw = if hit then drawn frequency draw else 0

module _ (rules : Rules) (start line : ℕ) where
  -- whether what a word names happens to the line, by draw k of the line
  abbrev pub hits_line : Word → (k : ℕ) → Bool
  hits_line word k = hits (frequency_of rules word) (draw_at start line k)

  -- whether the line is lost
  abbrev pub loses : Bool
  loses = hits_line Lose lose_draw

  -- whether the connection ends in place of the line; never in place of a lost line
  abbrev pub ends : Bool
  ends = not loses && hits_line Close close_draw

  -- what happens to the line: each word has its own draw. A line that is lost, or in whose place the connection ends, isn't
  -- repeated, and only after such an end are connections refused
  abbrev pub fate_of : LineFate
  fate_of = record {
    wait = drawn (frequency_of rules Delay) (draw_at start line delay_draw);
    is_lost = loses;
    is_repeated = (not loses && not ends) && hits_line Repeat repeat_draw;
    hold = drawn_if (hits_line Hold hold_draw) (frequency_of rules Hold) (draw_at start line hold_draw);
    closes = ends;
    is_reset = ends && nat_le least_of_reset (draw_at start line close_draw % 4294967296);
    refuse = drawn_if (ends && hits_line Refuse refuse_draw) (frequency_of rules Refuse) (draw_at start line refuse_draw);
    restarts = hits_line Restart restart_draw;
  }
