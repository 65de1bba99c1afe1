-- The two faces of a telescope, and their numbers: the manual's.
use Rattle.std.specs.Prelude.{ℤ, pos}
use Rattle.gc_instrument.specs.declared.face.Face.{Face}
use Rattle.gc_instrument.specs.declared.face.Face.TheVariants.{Normal, Turned}

-- the other face
abbrev pub turned : Face → Face
turned Normal = Turned
turned Turned = Normal

-- the number of a face in TMC_GetFace's answer
abbrev pub face_number : Face → ℤ
face_number Normal = pos 0
face_number Turned = pos 1
