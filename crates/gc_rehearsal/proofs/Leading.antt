-- How far the reading of a text has come, line by line. `left` is what is unread.
use Rattle.gc_rehearsal.proofs.Common.{◌≡◌, ℕ, ◌+◌, ◌≤◌, List, [], ◌∷◌, ◌++◌, length, Option, Some, refl, ap, sym, subst, ◌∙◌, arith, append_assoc, length-append, CutsLine, text_lines, lines_left, much_left, lines-cut, left_falls}
use Rattle.gc_rehearsal.specs.Rules.{no_rules, Leads, LeadAll, IsFaultyRule, IsFirstFaultyRule}
use Rattle.gc_rehearsal.specs.declared.rule.RuleFault.{RuleFault}
use Rattle.gc_rehearsal.specs.declared.rules.Rules.{Rules}

-- where lines lead from `old` to `mid`, and one more line from `mid` to `new`, all of them lead from `old` to `new`
lead_more : (old mid new : Rules) (lines : List (List ℕ)) (line : List ℕ)
    → LeadAll old lines mid → Leads mid line new → LeadAll old (lines ++ line ∷ []) new
lead_more old mid new [] line all leads = (new, subst (λ r. Leads r line new) all leads, refl)
lead_more old mid new (first ∷ lines) line all leads = (all.0, all.1, lead_more all.0 mid new lines line all.2 leads)

-- how far the reading has come: `number` lines were read, and lead from no rules to `rules`, and the others are those of `left`;
-- `number` and `much_left` of what is left are together at most the text's bytes and one more
pub record Comes (text : List ℕ) (left : Option (List ℕ)) (number : ℕ) (rules : Rules) : Type 0 where
  pub read : List (List ℕ)
  pub lines_are : text_lines text ≡ read ++ lines_left left
  pub count : number ≡ length read
  pub few : number + much_left left ≤ length text + 1
  pub lead : LeadAll no_rules read rules

-- where the reading has come to `now` (`Comes`), and the first line of `now` leads to the rules `new`, the reading has come to
-- what follows that line, `rest`, with the rules `new` and one more line
pub comes_on : (text now line : List ℕ) (rest : Option (List ℕ)) (number : ℕ) (rules new : Rules)
    → Comes text (Some now) number rules → CutsLine now line rest
    → Leads rules line new → Comes text rest (number + 1) new
comes_on text now line rest number rules new c cut leads =
    let less = left_falls now line rest cut in record {
      read = c.read ++ line ∷ [];
      lines_are = c.lines_are ∙ ap (λ ls. c.read ++ ls) (lines-cut now line rest cut) ∙ sym (append_assoc c.read (line ∷ []) (lines_left rest));
      count = omega (arith, c.count, length-append c.read (line ∷ []));
      few = omega (arith, c.few, less);
      lead = lead_more no_rules rules new c.read line c.lead leads;
    }

-- where the reading has come to `now` (`Comes`), and the first line of `now` is faulty after the rules so far, it is the text's
-- first faulty line
pub faulty_here : (text now line : List ℕ) (rest : Option (List ℕ)) (number : ℕ) (rules : Rules) (fault : RuleFault)
    → Comes text (Some now) number rules → CutsLine now line rest
    → IsFaultyRule rules line fault → IsFirstFaultyRule text (number + 1) fault
faulty_here text now line rest number rules fault c cut is = record {
  front = c.read;
  line = line;
  rest = lines_left rest;
  lines_are = c.lines_are ∙ ap (λ ls. c.read ++ ls) (lines-cut now line rest cut);
  place = omega (arith, c.count);
  rules = rules;
  before = c.lead;
  faulty = is;
}
