use Rattle.gc_texts.proofs.Common.{◌≡◌, drop, name_text}
use Rattle.gc_texts.proofs.name.name_text.Given as goal

-- the name is that of the first name of the target among those that are left
abbrev pub invariant-loop-name : goal.invariant-loop-name
invariant-loop-name l = name_text l.target l.names ≡ name_text l.target (drop l.name-index l.names)
