use Rattle.gc_catalogue.proofs.Common.{subst, sym, IsPlain, asked_line, ReadsBackAsked, Raw}
use Rattle.gc_catalogue.proofs.AskedRules.{asked_again}
use Rattle.gc_catalogue.proofs.LineLaws.{id_in_range}
use Rattle.gc_catalogue.proofs.RawLines.{raw_fits}
use Rattle.gc_catalogue.proofs.asked.encode_asked_onto.Goals as goal

pub returns-in-Table-clause-plain : goal.returns-in-Table-clause-plain
returns-in-Table-clause-plain g c = subst (λ asked. IsPlain (asked_line c.args.id asked)) (sym c.in-Table.is) c.encode_call_onto.ensures.plain

pub returns-in-Raw-clause-plain : goal.returns-in-Raw-clause-plain
returns-in-Raw-clause-plain g c = subst (λ asked. IsPlain (asked_line c.args.id asked)) (sym c.in-Raw.is) (raw_fits c.args.id c.in-Raw.raw (id_in_range c.args.id c.requires.id)).plain

pub returns-in-Raw-clause-reads_back : goal.returns-in-Raw-clause-reads_back
returns-in-Raw-clause-reads_back g c = subst (λ asked. ReadsBackAsked c.args.id asked) (sym c.in-Raw.is)
    (asked_again c.args.id (Raw c.in-Raw.raw) (id_in_range c.args.id c.requires.id) c.in-Raw.raw.is)
