-- Dates and stations as values, in the order of the GeoCOM manual's parameters.
use Rattle.std.specs.Prelude.{List, [], ◌∷◌}
use Rattle.gc_values.specs.declared.value.Value.{Value}
use Rattle.gc_values.specs.declared.value.Value.TheVariants.{Double, Short, Byte}
use Rattle.gc_catalogue.specs.declared.call.DateTime.{DateTime}
use Rattle.gc_catalogue.specs.declared.call.Station.{Station}

-- a date's values in their order on the line
abbrev pub date_values : DateTime → List Value
date_values d = Short d.year ∷ Byte d.month ∷ Byte d.day ∷ Byte d.hour ∷ Byte d.minute ∷ Byte d.second ∷ []

-- a station's values in their order on the line
abbrev pub station_values : Station → List Value
station_values s = Double s.e0 ∷ Double s.n0 ∷ Double s.h0 ∷ Double s.hi ∷ []
