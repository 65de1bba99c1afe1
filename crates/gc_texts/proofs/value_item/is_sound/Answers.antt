use Rattle.gc_texts.proofs.Common.{rules, ◌≡◌, true, ValueFile, IsValueFile, is_value_item}
use Rattle.gc_texts.proofs.value_item.is_sound.Goals as goal

pub returns-in-None-clause-none : goal.returns-in-None-clause-none
returns-in-None-clause-none c = λ so sound.
    let is : is_value_item c.args.item.now ≡ true = search rules in
    let none : (file : ValueFile) → IsValueFile c.args.item.now file → ⊥ = c.in-None.ensures in
    let has = sound is in
    none has.0 has.1
