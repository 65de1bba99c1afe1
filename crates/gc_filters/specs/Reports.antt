-- What is written of a report: its settlements, and a line of totals. This project's own.
use Rattle.gc_filters.specs.Common.{decimal, Call, Settlement, settlement_seen, settlement_lines}
use Rattle.std.specs.Prelude.{ℕ, Bool, List, [], ◌++◌, length, map, if◌then◌else◌, codes}
use Rattle.gc_world.specs.declared.report.Report.{Report}
use Rattle.gc_filters.specs.declared.report_text.Totals.{Totals}

-- the line of totals, for these counts
abbrev pub totals_line : Totals → List ℕ
totals_line t =
    codes "sent " ++ decimal t.sent ++ codes " executed " ++ decimal t.executed ++ codes " made " ++ decimal t.made
    ++ codes " settled " ++ decimal t.settled ++ codes " refused " ++ decimal t.refused ++ codes " idle " ++ decimal t.idle ++ codes "\n"

-- what is written of a run with these settlements and these counts: the settlements, and after them the line of totals if it is
-- asked for
abbrev pub run_text : List (Settlement Call) → Totals → (totals : Bool) → List ℕ
run_text settled counts totals = settlement_lines settled ++ (if totals then totals_line counts else [])

-- what is written of a report
abbrev pub report_text : {S : Type 0} → Report S → (totals : Bool) → List ℕ
report_text r totals = run_text (map settlement_seen r.settled) (record {
  sent = length r.sent;
  executed = length r.executed;
  made = length r.made;
  settled = length r.settled;
  refused = r.refused_sends;
  idle = r.idle_events;
}) totals
