use Rattle.gc_texts.proofs.Common.{subst, IsRequestTrouble}
use Rattle.gc_texts.proofs.RawTroubles.{request_is_asking}
use Rattle.gc_texts.proofs.trouble.asking_trouble.Goals as goal

pub returns : goal.returns
returns c =
    request_is_asking c.args.line.now c.request_trouble.result
    (subst (λ request. IsRequestTrouble request c.request_trouble.result) c.behind-rest.ensures.is c.request_trouble.ensures)
