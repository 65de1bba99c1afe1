use Rattle.geocom_c.proofs.Common.{◌≡◌, ◌∙◌, List, length, map, ap, subst, arith, length-map, reply_at, Asked, Settlement, hears, heard, settlement_seen, FirstAre, IsRecord, GeocomHeard}
use Rattle.geocom_c.proofs.Records.{settles_kind, written_in_front}
use Rattle.geocom_c.proofs.feeding.hear.Goals as goal

pub returns-in-Settled-clause-fed : goal.returns-in-Settled-clause-fed
returns-in-Settled-clause-fed c =
    let line = c.args.line.now.items in
    let ids = c.args.client.now.ids in
    let ruled = (hears ids line (heard line)).settlements in
    let h = c.heard.ensures in
    let kinds = settles_kind ids (reply_at line) c.in-Settled.ensures.heard in
    let are = c.in-Settled.ensures.settled.seen in
    let seen : map settlement_seen c.as_slice-in-Settled.result.now ≡ ruled = ap (map settlement_seen) c.as_slice-in-Settled.ensures.value ∙ are in
    let written = written_in_front line c.list_line-answer.result.text.items c.put_text.new.bytes _ c.put_records.new.records _ (c.put_text.ensures.text ∙ c.as_slice.ensures.value)
    c.list_line-answer.ensures.front c.put_records.ensures.records in
    record {
      fault = ap (λ (x : GeocomHeard). x.fault) h;
      kind = ap (λ (x : GeocomHeard). x.kind) h ∙ kinds.0;
      line_fault = ap (λ (x : GeocomHeard). x.line_fault) h ∙ kinds.1;
      count = omega (arith, c.len.ensures.value, ap length are, length-map c.in-Settled.settled.items settlement_seen);
      front = λ some. written.0;
      recorded = subst (λ (ss : List (Settlement Asked)). FirstAre (IsRecord c.put_text.new.bytes) c.put_records.new.records ss) seen written.1;
    }
