use Rattle.gc_values.proofs.Common.{◌≡◌, [], ◌∷◌, ap, ◌∙◌, get_or, rules, ◌++◌, encode_lower}
use Rattle.gc_values.proofs.ByteLemmas.{encode_lower-one}
use Rattle.gc_values.proofs.byte.push_byte.Goals as goal

pub returns-clause-items : goal.returns-clause-items
returns-clause-items g c =
    let written : c.encode_to_slice.new.output ≡ encode_lower (c.args.v ∷ []) = search rules in
    let text = ap (λ ds. 39 ∷ get_or ds 0 0 ∷ get_or ds 1 0 ∷ 39 ∷ []) (written ∙ encode_lower-one c.args.v) in
    let pushed : c.try_extend_from_slice.new.self.items ≡ c.args.out.now.items ++ (39 ∷ get_or c.encode_to_slice.new.output 0 0 ∷ get_or c.encode_to_slice.new.output 1 0 ∷ 39 ∷ []) = search rules in
    pushed ∙ ap (λ ds. c.args.out.now.items ++ ds) text
