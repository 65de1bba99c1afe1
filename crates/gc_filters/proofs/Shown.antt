-- The text of a report is that of the run that it shows. A run of events ends with a wire: the line, the instrument, and the
-- lists and counts of what has happened.
use Rattle.gc_filters.proofs.Common.{◌≡◌, Bool, length, refl, sym, ap, ◌∙◌, length-map, sent_seen, IsReport, made_seen, Wire, wire_text}
use Rattle.gc_client.specs.Prelude.{settlement_seen}
use Rattle.gc_world.specs.declared.report.Report.{Report}
use Rattle.gc_filters.specs.Reports.{report_text}

-- the text of a report is that of the run whose wire the report shows
pub text_shown : {S : Type 0} (r : Report S) (w : Wire S) (totals : Bool) → IsReport r w → report_text r totals ≡ wire_text w totals
text_shown r w totals is =
    let sent : length r.sent ≡ length w.sent = sym (length-map r.sent sent_seen) ∙ ap length is.sent in
    let made : length r.made ≡ length w.made = sym (length-map r.made made_seen) ∙ ap length is.made in
    let settled : length r.settled ≡ length w.settled = sym (length-map r.settled settlement_seen) ∙ ap length is.settled.seen in
    rw (sent, ap length is.executed, made, settled, is.refused, is.idle, is.settled.seen) refl
