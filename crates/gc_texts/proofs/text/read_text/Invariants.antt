use Rattle.gc_texts.proofs.Common.{◌≡◌, ◌≤◌, ◌+◌, ◌-◌, length, Consumes}
use Rattle.gc_texts.proofs.text.read_text.Given as goal

-- the text so far is what the source gave, in at most one read for each byte, and is within the limit; the source has failed only
-- if it had before
abbrev pub invariant-loop-text : goal.invariant-loop-text
invariant-loop-text g l =
    Consumes (g.S.Source.remaining l.initial.source) (g.S.Source.remaining l.source) l.text.items × (g.S.Source.failed l.source ≡ g.S.Source.failed l.initial.source)
    × (length l.text.items ≤ 65536) × (length l.buf ≡ 4096)
    × (g.S.Source.reads l.initial.source ≤ g.S.Source.reads l.source)
    × (g.S.Source.reads l.source ≤ g.S.Source.reads l.initial.source + length l.text.items)

-- each read that gives bytes leaves less room for the text
abbrev pub decreases-loop-text : goal.decreases-loop-text
decreases-loop-text g l = 65536 - length l.text.items
