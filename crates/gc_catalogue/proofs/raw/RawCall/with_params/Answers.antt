use Rattle.gc_catalogue.proofs.Common.{◌≡◌, ◌∙◌, Ok, raw_bytes, RawCall}
use Rattle.gc_catalogue.proofs.RawTests.{asked_again}
use Rattle.gc_catalogue.proofs.RequestBytes.{bytes_from_index}
use Rattle.gc_catalogue.proofs.raw.RawCall.with_params.Goals as goal

pub returns : goal.returns
returns c =
    let raw = c.args.self.now in
    let params = c.args.params.now in
    let found : (other : RawCall) → c.raw_call.result ≡ Ok other → (other.rpc ≡ raw.rpc) × (raw_bytes other.params ≡ params) =
    λ other is. rw is at c.raw_call.ensures.found in
    c.ok.ensures.value ∙ asked_again raw params c.raw_call.result (bytes_from_index params (λ i. (c.type_inv.params i).fits)) c.raw_call.ensures.only found
