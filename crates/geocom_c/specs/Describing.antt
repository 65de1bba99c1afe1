-- What a text says of a procedure, in plain fields, this project's own.
use Rattle.geocom_c.specs.Common.{value_fault_number, Value, IsProcedure, before, DescriptionSeen, IsDescription, description_seen, AreOfKinds, IsKindsFault, KindsSeen, kinds_of_fields, IsRpc}
use Rattle.std.specs.Prelude.{◌≡◌, ◌<◌, ◌≤◌, ◌⊎◌, ℕ, false, List, length, if◌then◌else◌}
use Rattle.gc_values.specs.declared.fault.ValueFault.{ValueFault}
use Rattle.gc_texts.specs.declared.description.Description.{Description}
use Rattle.geocom_c.specs.Columns.{IsColumnOf}
use Rattle.geocom_c.specs.FirstAre.{FirstAre}
use Rattle.geocom_c.specs.Rooms.{WritesWithin}
use Rattle.geocom_c.specs.declared.columns.GeocomColumn.{GeocomColumn}
use Rattle.geocom_c.specs.declared.describing.GeocomDescription.{GeocomDescription}
use Rattle.geocom_c.specs.declared.header.TheConstants.{IN_TABLE, NO_DESCRIPTION, NO_ROOM}

-- the text begins with the number of a procedure of the table: what is before its first space (byte 32) is this number
abbrev pub NamesTable : (text : List ℕ) → Type 0
NamesTable text = (rpc : ℕ) × IsRpc (before 32 text) rpc × IsProcedure rpc

-- the fault of a text that is no description: whether it begins with the number of a procedure of the table, or not
abbrev pub IsNoDescription : (text : List ℕ) → (fault : ℕ) → Type 0
IsNoDescription text fault = ((fault ≡ IN_TABLE) × NamesTable text) ⊎ ((fault ≡ NO_DESCRIPTION) × (NamesTable text → ⊥))

-- the text describes no procedure, and the fault says why
pub record DescribesNothing (text : List ℕ) (fault : ℕ) : Type 0 where
  pub none : (d : Description) → IsDescription text (description_seen d) → ⊥
  pub why : IsNoDescription text fault

-- what was returned has what this description says, and no fault
pub record Tells (told : GeocomDescription) (d : DescriptionSeen) : Type 0 where
  pub fault : told.fault ≡ 0
  pub procedure : told.procedure ≡ d.rpc
  pub parameters : told.parameters ≡ length d.params
  pub columns : told.columns ≡ length d.values
  pub more : told.more ≡ (if d.more then 1 else 0)

-- what is returned with this fault if nothing is told of a procedure
abbrev pub nothing_told : (fault : ℕ) → GeocomDescription
nothing_told fault = record { fault = fault; procedure = 0; parameters = 0; columns = 0; more = 0 }

-- the columns before and after the reading of a description, and what it returned
pub record ReadingEffect : Type 0 where
  pub before : List GeocomColumn
  pub after : List GeocomColumn
  pub told : GeocomDescription

-- the reading that found the columns `before`, left `after`, and returned `told`
abbrev pub reading_effect : (before after : List GeocomColumn) → (told : GeocomDescription) → ReadingEffect
reading_effect before after told = record { before = before; after = after; told = told }

-- the reading of this text: it describes a procedure, what it says was returned, and its columns were written and nothing after them; or
-- there is too little room, or it describes none, and nothing was written
pub data ReadsDescription (text : List ℕ) (x : ReadingEffect) : Type 0 where
  reads : (d : DescriptionSeen) → 16 ≤ length x.before → IsDescription text d → Tells x.told d → FirstAre IsColumnOf x.after d.values
      → WritesWithin x.told.columns x.before x.after → ReadsDescription text x
  no_room : length x.before < 16 → x.told ≡ nothing_told NO_ROOM → x.after ≡ x.before → ReadsDescription text x
  describes_nothing : (fault : ℕ) → 16 ≤ length x.before → DescribesNothing text fault → x.told ≡ nothing_told fault → x.after ≡ x.before
      → ReadsDescription text x

-- the kinds of the parameters of a description, of which a request has just as many
abbrev pub asked_kinds : DescriptionSeen → KindsSeen
asked_kinds d = record { kinds = kinds_of_fields d.params; more = false }

-- the check of a request's parameters by this text: they have values of the kinds that it describes, or not and why; or it describes no
-- procedure
pub data ChecksParams (text params : List ℕ) (fault : ℕ) : Type 0 where
  fit : (d : DescriptionSeen) (vs : List Value) → IsDescription text d → AreOfKinds (asked_kinds d) params vs → fault ≡ 0 → ChecksParams text params fault
  misfit : (d : DescriptionSeen) (e : ValueFault) → IsDescription text d → IsKindsFault (asked_kinds d) params e → fault ≡ value_fault_number e
      → ChecksParams text params fault
  undescribed : DescribesNothing text fault → ChecksParams text params fault
