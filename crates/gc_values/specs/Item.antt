-- The table of kinds: which item is read as which value, which fault another item has, and the one text that a value
-- has. The kinds are those of the GeoCOM manual's chapter on the ASCII protocol; the faults are this project's own.
use Rattle.std.specs.Prelude.{ℕ, ◌<◌, List}
use Rattle.gc_values.specs.Boolean.{NamesBoolean, boolean_text}
use Rattle.gc_values.specs.Byte.{IsByte, IsNoByte, byte_text}
use Rattle.gc_values.specs.Decimals.{SpellsDecimal, decimal_text}
use Rattle.gc_values.specs.Spelling.{SpellsBeyond, SpellsNothing}
use Rattle.gc_values.specs.Text.{IsText, IsTextItem, IsNoString, IsLongString, quoted}
use Rattle.gc_values.specs.ValueFault.{IsSpellingOrRange}
use Rattle.gc_values.specs.Whole.{NamesWhole, NamesNoWhole, NamesWholeBeyond, FitsLong, FitsShort, signed_text}
use Rattle.gc_values.specs.declared.fault.ValueFault.{ValueFault}
use Rattle.gc_values.specs.declared.value.Kind.{Kind}
use Rattle.gc_values.specs.declared.value.Value.{Value}
use Rattle.gc_values.specs.declared.value.Kind.TheVariants as kind
use Rattle.gc_values.specs.declared.value.Value.TheVariants as value

-- the kind of a value
abbrev pub kind_of : Value → Kind
kind_of (value.Double d) = kind.Double
kind_of (value.Long z) = kind.Long
kind_of (value.Short z) = kind.Short
kind_of (value.Byte n) = kind.Byte
kind_of (value.Bool b) = kind.Bool
kind_of (value.Text bytes) = kind.Text

-- a value's number fits its type, and its text has at most 64 bytes, none of them a double quote, CR or LF
abbrev pub IsValue : Value → Type 0
IsValue (value.Double d) = Unit {0}
IsValue (value.Long z) = FitsLong z
IsValue (value.Short z) = FitsShort z
IsValue (value.Byte n) = n < 256
IsValue (value.Bool b) = Unit {0}
IsValue (value.Text bytes) = IsText bytes

-- the item is read as the value: it has the form of the value's kind, and writes this value
abbrev pub IsItem : List ℕ → Value → Type 0
IsItem item (value.Double d) = SpellsDecimal item d
IsItem item (value.Long z) = NamesWhole item z × FitsLong z
IsItem item (value.Short z) = NamesWhole item z × FitsShort z
IsItem item (value.Byte n) = IsByte item n
IsItem item (value.Bool b) = NamesBoolean item b
IsItem item (value.Text bytes) = IsTextItem item bytes

-- the item doesn't have the form of the kind, whatever the range
abbrev pub HasNoForm : Kind → List ℕ → Type 0
HasNoForm kind.Double item = SpellsNothing item
HasNoForm kind.Long item = NamesNoWhole item
HasNoForm kind.Short item = NamesNoWhole item
HasNoForm kind.Byte item = IsNoByte item
HasNoForm kind.Bool item = NamesNoWhole item
HasNoForm kind.Text item = IsNoString item

-- the item has the form of the kind, and its value isn't in the kind's range; of a byte that is never so
abbrev pub IsBeyond : Kind → List ℕ → Type 0
IsBeyond kind.Double item = SpellsBeyond item
IsBeyond kind.Long item = NamesWholeBeyond 2147483648 2147483647 item
IsBeyond kind.Short item = NamesWholeBeyond 32768 32767 item
IsBeyond kind.Byte item = ⊥
IsBeyond kind.Bool item = NamesWholeBeyond 0 1 item
IsBeyond kind.Text item = IsLongString item

-- why the item is no value of the kind: it hasn't the form (`Spelling`), or is out of the range (`Range`)
abbrev pub IsItemFault : Kind → List ℕ → ValueFault → Type 0
IsItemFault k item e = IsSpellingOrRange (HasNoForm k item) (IsBeyond k item) e

-- the one text that is written of a value
abbrev pub text : Value → List ℕ
text (value.Double d) = decimal_text d
text (value.Long z) = signed_text z
text (value.Short z) = signed_text z
text (value.Byte n) = byte_text n
text (value.Bool b) = boolean_text b
text (value.Text bytes) = quoted bytes
