-- A step that hand-written proofs (walks) of higher crates share: those of gc_links `history.rt`, gc_files `past.rt` and
-- gc_station `kept.rt`. Assumes `Logic`.
use Rattle.gc_lines.proofs.Common.{List, [], ◌∷◌, refl}
use seplogic.Ra.Ura.{Ura}
use mir.Val.{Val, vstruct, vnil}
use types.Logic.{Logic}
use types.Kit.{Goal, Step, step, Item, ‵, ◌$◌, fjoin, fpack, feq_i}
use denote.RattleType.{RattleType, Valss}
use denote.Steps.{nothing}
use denote.Struct.Struct.{Struct, within}

-- the value of a struct without fields
abbrev pub no_fields : Val
no_fields = vstruct vnil

-- the type of a struct without fields
abbrev pub fieldless : RattleType
fieldless = Struct (record { name = []; args = []; types = []; fields = [] })

-- a step of a walk over the value of a struct without fields, which owns nothing: the other items and the goal stay as they are
pub no_fields_made : {M : Type 1} {𝓤 : Ura M} {𝓛 : Logic 𝓤} {K : Type 0} {Γ : List (Item 𝓤)} {G : Goal 𝓤 𝓛.H} → K
    → Step K 𝓛 (‵ (fieldless.own_val tt (no_fields ∷ [])) ∷ Γ) G Γ G
no_fields_made t = step (λ s.
    nothing t $ feq_i t (List Val) (no_fields ∷ []) (no_fields ∷ []) refl $ fjoin t $
    fpack t (Valss []) (within (record { name = []; args = []; types = []; fields = [] }) tt (no_fields ∷ [])) tt $ s)
