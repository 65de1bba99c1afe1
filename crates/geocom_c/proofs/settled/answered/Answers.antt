use Rattle.geocom_c.proofs.Common.{rules, ◌≡◌, ◌∙◌, ℕ, suc, take, refl, ap, GeocomSettlement}
use Rattle.geocom_c.proofs.Records.{has_reading}
use Rattle.geocom_c.proofs.settled.answered.Goals as goal

pub returns-clause-answered : goal.returns-clause-answered
returns-clause-answered c = λ reads.
    let told = c.args.told.now in
    let kind = c.kind_of-kind.result.0 in
    let items = c.if-kind-eq-VALUE.result in
    let r : GeocomSettlement = record {
      target = c.args.settlement.now.target;
      procedure = c.number.result;
      code = c.kind_of-kind.result.1;
      line_length = c.len.result;
      items = items;
      places = told.places;
      outcome = 1;
      reading = kind;
    } in
    let some : kind ≡ 1 → items ≡ told.items = search rules in
    let none : (n : ℕ) → kind ≡ suc (suc n) → items ≡ 0 = search rules in
    record {
      answered = refl;
      length = c.len.ensures.value;
      front = ap (λ n. take n told.text.items) c.len.ensures.value ∙ c.requires.front;
      reply = reads.reply;
      is_reply = reads.is_reply;
      reading = c.args.reading.now;
      is_reading = reads.is_reading;
      has_reading = has_reading r told.text.items told.items c.args.settlement.now.call reads.reply c.args.reading.now
          (c.requires.listed reads.reply reads.is_reply) reads.is_reading c.kind_of-kind.ensures some none;
    }
