-- A text that gives tasks has a line that isn't faulty, with no faulty line before it: memory may be refused there.
use Rattle.gc_measuring.proofs.Common.{◌≡◌, ◌<◌, ℕ, if◌then◌else◌, Bool, true, false, List, [], ◌∷◌, ◌++◌, length, map, refl, sym, ap, ◌∙◌, subst, arith, filter, text_lines, is_kept, AreLinesOf, IsTaskLine, TasksSeen, IsTasks, MayFollow, ReachesASoundTaskLine, first_mode, no_standing, placed, tasks_of}

-- what lines of this form say
abbrev said_by : {Said : Type 0} → (form : List ℕ → Said → Type 0) → Type 0
said_by {Said = Said} form = Said

-- what a line of a station's text says, a type that its crate doesn't export
abbrev Said : Type 0
Said = said_by IsTaskLine

-- the first line that isn't skipped, which says `said`
record FirstSaid (lines : List (List ℕ)) (said : Said) : Type 0 where
  front : List (List ℕ)
  line : List ℕ
  rest : List (List ℕ)
  are : lines ≡ front ++ line ∷ rest
  kept : is_kept line ≡ true
  skipped : filter is_kept front ≡ []
  form : IsTaskLine line said

-- where the lines that aren't skipped say something, there is such a line
first_said : (lines : List (List ℕ)) (said : Said) (later : List Said) → AreLinesOf IsTaskLine (filter is_kept lines) (said ∷ later) → FirstSaid lines said
first_said [] said later are = absurd are
first_said (line ∷ lines) said later are = by_kept (is_kept line) refl are (first_said lines said later) where
  -- the lemma above, by whether the first line is kept (`b`)
  by_kept : (b : Bool) → is_kept line ≡ b → AreLinesOf IsTaskLine (if b then line ∷ filter is_kept lines else filter is_kept lines) (said ∷ later)
      → (AreLinesOf IsTaskLine (filter is_kept lines) (said ∷ later) → FirstSaid lines said) → FirstSaid (line ∷ lines) said
  by_kept true kept are others = record { front = []; line = line; rest = lines; are = refl; kept = kept; skipped = refl; form = are.0 }
  by_kept false skips are others =
      let more = others are in
      record {
        front = line ∷ more.front;
        line = more.line;
        rest = more.rest;
        are = ap (λ ls. line ∷ ls) more.are;
        kept = more.kept;
        skipped = ap (λ b. if b then line ∷ filter is_kept more.front else filter is_kept more.front) skips ∙ more.skipped;
        form = more.form;
      }

-- where a text gives some task, memory may be refused at a line of it that isn't faulty (`ReachesASoundTaskLine`)
pub reaches_a_line : (text : List ℕ) (deadline : ℕ) (chained : Bool) (all : TasksSeen) → IsTasks text deadline chained all → 0 < length all.tasks → ReachesASoundTaskLine text
reaches_a_line text deadline chained all is some = by_said is.said is.lines.forms is.lines.follow (ap length is.tasks_are) where
  -- the lemma above, by what the lines say
  by_said : (said : List Said) → AreLinesOf IsTaskLine (filter is_kept (text_lines text)) said → MayFollow [] [] [] [] no_standing said
      → length all.tasks ≡ length (map (placed all.nears all.unwatched all.described) (tasks_of (first_mode deadline chained) said)) → ReachesASoundTaskLine text
  by_said [] forms follow long = absurd (omega (arith, some, long))
  by_said (said ∷ later) forms follow long =
      let first = first_said (text_lines text) said later forms in
      record {
        front = first.front;
        line = first.line;
        here = record { rest = first.rest; lines_are = first.are; kept = first.kept };
        before = [];
        lines = record { forms = subst (λ lines. AreLinesOf IsTaskLine lines []) (sym first.skipped) tt; follow = tt };
        said = said;
        form = first.form;
        allowed = follow.0;
      }
