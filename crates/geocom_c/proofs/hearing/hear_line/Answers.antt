use Rattle.geocom_c.proofs.Common.{◌≡◌, ◌∙◌, ℕ, List, length, map, sym, ap, subst, arith, length-map, reply_at, Asked, Settlement, settlement_seen, line_settles, FirstAre, IsRecord, AnswersHaveLine, GeocomHeard}
use Rattle.geocom_c.proofs.Records.{written_in_front}
use Rattle.geocom_c.proofs.SessionFrames.{kind_if_settled, session_have_line, unread_settles_none}
use Rattle.geocom_c.proofs.hearing.hear_line.Goals as goal

pub put_records-requires-clause-told : goal.put_records-requires-clause-told
put_records-requires-clause-told c =
    let line = c.args.line.now.items in
    let s = c.args.session.now in
    let seen : map settlement_seen c.as_slice-2.result.now ≡ line_settles line s =
    ap (map settlement_seen) c.as_slice-2.ensures.value ∙ c.hear.ensures.settled.seen ∙ ap (λ (l : List ℕ). line_settles l s) c.deref.ensures.0 in
    (line, c.list_line-answer.ensures, subst (λ (ss : List (Settlement Asked)). AnswersHaveLine line ss) (sym seen) (session_have_line line s))

pub returns-clause-fed : goal.returns-clause-fed
returns-clause-fed c =
    let line = c.args.line.now.items in
    let s = c.args.session.now in
    let ruled = line_settles line s in
    let h = c.heard.ensures in
    let are : map settlement_seen c.hear.new.settled.items ≡ ruled = c.hear.ensures.settled.seen ∙ ap (λ (l : List ℕ). line_settles l s) c.deref.ensures.0 in
    let seen : map settlement_seen c.as_slice-2.result.now ≡ ruled = ap (map settlement_seen) c.as_slice-2.ensures.value ∙ are in
    let n : c.len-count.result ≡ length ruled = omega (arith, c.len-count.ensures.value, ap length are, length-map c.hear.new.settled.items settlement_seen) in
    let kinds = kind_if_settled (reply_at line) (length ruled) (unread_settles_none line s) (omega (arith, n, c.if-count-eq0.false)) in
    let written = written_in_front line c.list_line-answer.result.text.items c.put_text.new.bytes _ c.put_records.new.records _ (c.put_text.ensures.text ∙ c.as_slice.ensures.value)
    c.list_line-answer.ensures.front c.put_records.ensures.records in
    record {
      fault = ap (λ (x : GeocomHeard). x.fault) h;
      kind = ap (λ (x : GeocomHeard). x.kind) h ∙ sym kinds.0;
      line_fault = ap (λ (x : GeocomHeard). x.line_fault) h ∙ sym kinds.1;
      count = n;
      front = λ some. written.0;
      recorded = subst (λ (ss : List (Settlement Asked)). FirstAre (IsRecord c.put_text.new.bytes) c.put_records.new.records ss) seen written.1;
    }
