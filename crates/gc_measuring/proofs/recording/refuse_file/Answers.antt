use Rattle.gc_measuring.proofs.Common.{subst, ap, ◌∙◌, append-nil, Appends-trans, Appends, fault_line, run_fault_text}
use Rattle.gc_measuring.proofs.recording.refuse_file.Goals as goal

pub returns : goal.returns
returns g c =
    let t = c.in_ok-status.ensures.told in
    record {
      told = (
        t.0,
        Appends-trans _ _ _ _ _
            (subst (Appends (g.E.Write.contents c.args.messages.now) (g.E.Write.contents c.report_end_of_run.new.messages))
            (append-nil _ ∙ ap (λ fault. fault_line (run_fault_text fault)) c.fault_of_unfit.ensures) t.1)
            c.in_ok-write_rotation.ensures,
      );
    }
