-- What requests and replies share: a signature, a number, an id where there is one, and a colon. The forms are the manual's, the
-- ids from 0 to 7 are this project's own.
use Rattle.std.specs.Prelude.{◌≡◌, ◌≢◌, ℕ, ◌+◌, ◌<◌, List, [], ◌∷◌, ◌++◌, Option, Some, None, Result, Ok, Err, IfSome}
use Rattle.std.specs.Fmt.{decimal}
use Rattle.std.specs.Option.{ForSome}
use Rattle.gc_lines.specs.declared.fault.LineFault.{LineFault}
use Rattle.gc_lines.specs.declared.fault.LineFault.TheVariants.{Signature, Number, Id, Colon, Code, TooLong}
use Rattle.gc_lines.specs.Numbers.{NoDigitFirst, HasNumber}

-- an id as it is in a line: its digit after a comma, or nothing where there is no id
abbrev pub id_text : Option ℕ → List ℕ
id_text None = []
id_text (Some id) = 44 ∷ (48 + id) ∷ []

-- the id, where there is one, is from 0 to 7
abbrev pub IsIdInRange : Option ℕ → Type 0
IsIdInRange id = IfSome id (λ i. i < 8)

-- a function may be given this id: `IsIdInRange`, in the form that proofs apply to an id
abbrev pub MayBeId : Option ℕ → Type 0
MayBeId id = ForSome id (λ i. i < 8)

-- the field of an id ends before the bytes `rest`: no further digit follows an id, and no comma comes where there is no id
abbrev pub EndsId : Option ℕ → (rest : List ℕ) → Type 0
EndsId None rest = (after : List ℕ) → rest ≢ 44 ∷ after
EndsId (Some id) rest = NoDigitFirst rest

-- the bytes begin with a comma and an id from 0 to 7, and the rest, which doesn't begin with a digit, follows; or the id is none,
-- and the rest is all of the bytes, which don't begin with a comma
pub record HasId (bytes : List ℕ) (id : Option ℕ) (rest : List ℕ) : Type 0 where
  pub below : IsIdInRange id
  pub whole : bytes ≡ id_text id ++ rest
  pub ends : EndsId id rest

-- The first faulty field: the fields before it have their form, and it has not. `from` is the part of the line that begins with
-- the field in question.

-- the line is this signature and then the rest
abbrev pub PastSignature : (signature line rest : List ℕ) → Type 0
PastSignature signature line rest = line ≡ signature ++ rest

-- the fields through the number have their form, and the rest follows them
pub record PastNumber (signature line rest : List ℕ) : Type 0 where
  pub from : List ℕ
  pub number : ℕ
  pub before : PastSignature signature line from
  pub here : HasNumber from number rest

-- the fields through the id have their form, and the rest follows them
pub record PastId (signature line rest : List ℕ) : Type 0 where
  pub from : List ℕ
  pub id : Option ℕ
  pub before : PastNumber signature line from
  pub here : HasId from id rest

-- the fields through the colon have their form, and the rest follows them
pub record PastColon (signature line rest : List ℕ) : Type 0 where
  pub from : List ℕ
  pub before : PastId signature line from
  pub here : from ≡ 58 ∷ rest

-- the fault names the first faulty field, from the left, of a line that is to have this signature. `Body` is true of what may
-- follow the colon; where it isn't true of what does, the fault is `Code`. It is never `TooLong`, which names no field
abbrev pub FirstBadField : (signature : List ℕ) → (Body : List ℕ → Type 0) → (line : List ℕ) → LineFault → Type 0
FirstBadField signature Body line Signature = (rest : List ℕ) → ¬ PastSignature signature line rest
FirstBadField signature Body line Number =
    (from : List ℕ) × PastSignature signature line from × ((n : ℕ) (rest : List ℕ) → ¬ HasNumber from n rest)
FirstBadField signature Body line Id =
    (from : List ℕ) × PastNumber signature line from × ((id : Option ℕ) (rest : List ℕ) → ¬ HasId from id rest)
FirstBadField signature Body line Colon =
    (from : List ℕ) × PastId signature line from × ((rest : List ℕ) → from ≢ 58 ∷ rest)
FirstBadField signature Body line Code =
    (from : List ℕ) × PastColon signature line from × (¬ Body from)
FirstBadField signature Body line TooLong = ⊥

-- What a reader answers.

-- a function's result is the one that the definition `read` has: the same fault, or a value `x` where `read` is `Ok (view x)`.
-- `view` gives what contracts see of a value
abbrev pub GivesSame : {X Y : Type 0} → (view : X → Y) → Result X LineFault → (read : Result Y LineFault) → Type 0
GivesSame view (Ok x) read = read ≡ Ok (view x)
GivesSame view (Err e) read = read ≡ Err e

-- where a line has fields by the grammar `Is`, a reader's result is these, seen by `view`
abbrev pub GivesEach : {X F : Type 0} → (Is : List ℕ → F → Type 0) → (view : X → F) → (line : List ℕ) → Result X LineFault → Type 0
GivesEach {X} {F} Is view line result = (fields : F) → Is line fields → GivesSame view result (Ok fields)

-- where a line has the fault that `Bad` is true of, a reader's result is this fault
abbrev pub FailsEach : {X : Type 0} → (Bad : List ℕ → LineFault → Type 0) → (line : List ℕ) → Result X LineFault → Type 0
FailsEach Bad line result = (fault : LineFault) → Bad line fault → result ≡ Err fault

-- The written form.

-- the fields through the colon as they are written, without leading zeros
abbrev pub header_text : (signature : List ℕ) (number : ℕ) → Option ℕ → List ℕ
header_text signature number id = signature ++ (decimal number ++ (id_text id ++ 58 ∷ []))
