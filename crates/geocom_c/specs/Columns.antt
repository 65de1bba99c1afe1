-- Columns in plain fields, this project's own.
use Rattle.geocom_c.specs.Common.{FieldSeen}
use Rattle.std.specs.Prelude.{◌≡◌, ℕ, length, take}
use Rattle.gc_values.specs.declared.value.Kind.{Kind}
use Rattle.geocom_c.specs.declared.columns.GeocomColumn.{GeocomColumn}
use Rattle.geocom_c.specs.declared.header.TheConstants.{DOUBLE, LONG, SHORT, BYTE, BOOLEAN, STRING}
use Rattle.gc_values.specs.declared.value.Kind.TheVariants as kind

-- the number of a kind
abbrev pub kind_number : Kind → ℕ
kind_number kind.Double = DOUBLE
kind_number kind.Long = LONG
kind_number kind.Short = SHORT
kind_number kind.Byte = BYTE
kind_number kind.Bool = BOOLEAN
kind_number kind.Text = STRING

-- the column has the name and the kind of this field
pub record IsColumnOf (column : GeocomColumn) (field : FieldSeen) : Type 0 where
  pub length : column.length ≡ length field.name
  pub name : take column.length column.name ≡ field.name
  pub kind : column.kind ≡ kind_number field.kind
