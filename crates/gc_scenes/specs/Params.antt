-- The parameters of a reply that a scene has: this project's own.
use Rattle.gc_scenes.specs.Common.{raw_bytes}
use Rattle.std.specs.Prelude.{ℕ, List, [], Option, Some, None}
use Rattle.gc_catalogue.specs.declared.raw.RawCall.{RawCall}

-- the parameters of a scripted reply, by its field `with`: the bytes of this request's parameters, or none for `None`
abbrev pub scripted_params : Option RawCall → List ℕ
scripted_params None = []
scripted_params (Some call) = raw_bytes call.params
