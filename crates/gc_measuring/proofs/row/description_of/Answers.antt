use Rattle.gc_measuring.proofs.Common.{ap, ◌∙◌, option_map, described_as, description_seen}
use Rattle.gc_measuring.proofs.Described.{made_at_once}
use Rattle.gc_measuring.proofs.row.description_of.Goals as goal

pub returns : goal.returns
returns c =
    made_at_once (λ d. d.now) description_seen c.described_as.result ∙ ap (option_map description_seen) c.described_as.ensures
    ∙ ap (λ rpc. option_map description_seen (described_as rpc c.args.described.now)) c.number.ensures
