use Rattle.geocom_c.proofs.Common.{rules, ◌∙◌, take, ap}
use Rattle.geocom_c.proofs.Clients.{begins_with_line}
use Rattle.geocom_c.proofs.Lines.{written_line_asks}
use Rattle.geocom_c.proofs.state.write_place.Goals as goal

pub returns : goal.returns
returns c = record {
  target = search rules;
  deadline = search rules;
  given_up = search rules;
  within = search rules;
  line = written_line_asks _ c.args.p.now.call c.encode_asked-text.ensures.reads_back (
      ap (λ n. take n c.filled_up.result) c.len.ensures.value ∙ begins_with_line _ _ c.filled_up.result _ c.as_slice.ensures.value c.filled_up.ensures
      ∙ c.encode_asked-text.ensures.line
      );
}
