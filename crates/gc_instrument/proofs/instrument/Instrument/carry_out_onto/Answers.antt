use Rattle.gc_instrument.proofs.Common.{◌≡◌, ◌≢◌, sym, ap, ◌∙◌, subst, ReadsBackValue, ReadsBackRefusal, reply_line, Nothing, Executed, IsAnswered, executed_line, State}
use Rattle.gc_instrument.proofs.Answering.{reads_executed}
use Rattle.gc_instrument.proofs.Executions.{exec_outcome}
use Rattle.gc_instrument.proofs.instrument.Instrument.carry_out_onto.Goals as goal

pub returns-clause-replies : goal.returns-clause-replies
returns-clause-replies g c =
    let s = c.args.self.now in
    let id = c.args.id in
    let x : Executed = record { state = c.carry_out-rc.new.self; rc = c.carry_out-rc.result; answer = c.carry_out-rc.new.answer } in
    let precision = c.self.inside.settings.precision in
    let places : precision ≡ x.state.precision = ap (λ (t : State). t.precision) c.self.view_is in
    let line : reply_line id x.rc x.answer precision ≡ executed_line id x = ap (reply_line id x.rc x.answer) places in
    let refuses : x.rc ≢ 0 → x.answer ≡ Nothing =
    subst (λ (y : Executed). y.rc ≢ 0 → y.answer ≡ Nothing) c.carry_out-rc.ensures (exec_outcome s c.args.call.now).refuses in
    let refused : ReadsBackRefusal id x.rc x.answer precision = λ call some. c.encode_answer_onto.ensures.refused (refuses some) call some in
    let says : IsAnswered s id c.args.call.now (executed_line id x) = reads_executed s id c.args.call.now x c.carry_out-rc.ensures
    (subst (ReadsBackValue id x.rc x.answer) places c.encode_answer_onto.ensures.reads_back) (subst (ReadsBackRefusal id x.rc x.answer) places refused) in
    record {
      text = _;
      appended = c.encode_answer_onto.ensures.line;
      is = record {
        plain = c.encode_answer_onto.ensures.plain;
        state = sym (ap (λ (y : Executed). y.state) c.carry_out-rc.ensures);
        line = line ∙ sym (ap (executed_line id) c.carry_out-rc.ensures);
        says = subst (IsAnswered s id c.args.call.now) (sym line) says;
      };
    }
