-- The code writes the quantities of an answer by their places. In a row and in an object that gives the same as the cells of the
-- quantities, by their names.
use Rattle.gc_rows.proofs.Common.{◌≡◌, Bool, true, ◌++◌, ◌∙◌, [], ◌∷◌, List, ℕ, Option, map, ap, append_assoc, refl, sym, codes, flat_map-append, map-append, answer_fields, Answer, Nothing, Short, Version, Long, Name, Date, Temperature, Place, Height, Angles, Measured, MeasuredMode, GetFace, GetPrism, GetPrecision, InstrumentNo, Value, stamp_text, names_of_row, Cell, cell, field_of, fields_of, members_in, members_of, names_of, Entry, all_quantities, cells_from, cells_in, first_columns, item_content, items_column, last_columns, members_after_run, quantity_cells, quantity_columns, row_fields, are_distinct, Member, column_of, column_of_whole, quantity_text, columns_from}
use Rattle.gc_catalogue.specs.declared.call.Call.{Call}
use Rattle.gc_rows.proofs.Apart.{are_apart}
use Rattle.gc_rows.proofs.PlainNames.{are_plain_names}
use Rattle.gc_values.specs.declared.value.Value.TheVariants as value

-- the cells of all quantities, of values from this column on, have the fields that the code writes; `came` are the values as the reply's
-- line wrote them. The names of the values' cells are plain and distinct, and none of them is a row's
pub record AreSpread (column : Option ℕ) (values : List Value) (came : List ℕ) : Type 0 where
  pub fields : fields_of (all_quantities (cells_from column values came)) ≡ columns_from column (map quantity_text values)
  pub plain : are_plain_names (names_of (cells_from column values came)) ≡ true
  pub distinct : are_distinct (names_of (cells_from column values came)) ≡ true
  pub apart : are_apart (names_of (cells_from column values came)) names_of_row ≡ true

-- `AreSpread` holds of an answer that is one whole number
whole_spread : (call : Call) (v : Value) (came : List ℕ) → AreSpread (column_of_whole call) (v ∷ []) came
whole_spread GetFace v came = record { fields = refl; plain = refl; distinct = refl; apart = refl }
whole_spread GetPrism v came = record { fields = refl; plain = refl; distinct = refl; apart = refl }
whole_spread GetPrecision v came = record { fields = refl; plain = refl; distinct = refl; apart = refl }
whole_spread InstrumentNo v came = record { fields = refl; plain = refl; distinct = refl; apart = refl }
whole_spread call v came = record { fields = refl; plain = refl; distinct = refl; apart = refl }

-- `AreSpread` holds of each answer
pub each_spread : (call : Call) (answer : Answer) (came : List ℕ) → AreSpread (column_of call answer) (answer_fields answer).values came
each_spread call Nothing came = record { fields = refl; plain = refl; distinct = refl; apart = refl }
each_spread call (Short n) came = whole_spread call (value.Short n) came
each_spread call (Version release version subversion) came = record { fields = refl; plain = refl; distinct = refl; apart = refl }
each_spread call (Long n) came = whole_spread call (value.Long n) came
each_spread call (Name name) came = record { fields = refl; plain = refl; distinct = refl; apart = refl }
each_spread call (Date d) came = record { fields = refl; plain = refl; distinct = refl; apart = refl }
each_spread call (Temperature t) came = record { fields = refl; plain = refl; distinct = refl; apart = refl }
each_spread call (Place s) came = record { fields = refl; plain = refl; distinct = refl; apart = refl }
each_spread call (Height h) came = record { fields = refl; plain = refl; distinct = refl; apart = refl }
each_spread call (Angles hz v) came = record { fields = refl; plain = refl; distinct = refl; apart = refl }
each_spread call (Measured hz v distance) came = record { fields = refl; plain = refl; distinct = refl; apart = refl }
each_spread call (MeasuredMode hz v distance mode) came = record { fields = refl; plain = refl; distinct = refl; apart = refl }

-- the fields of a record's row are those of `run`, of its first cells, of its quantities, if it has them, and of its last cells
pub fields_apart : (has_quantities : Bool) (r : Entry)
    → row_fields has_quantities r
    ≡ stamp_text r.when.run
    ∷ (fields_of (cells_in first_columns r) ++ (fields_of (cells_in (quantity_columns has_quantities r.columns) r) ++ fields_of (cells_in last_columns r)))
fields_apart has_quantities r =
    let quantities = quantity_columns has_quantities r.columns in
    ap (λ l. stamp_text r.when.run ∷ (fields_of (cells_in first_columns r) ++ l))
    (ap fields_of (map-append (λ c. cell c.name (c.holds r)) quantities last_columns)
    ∙ map-append (λ (c : Cell). field_of c.content) (cells_in quantities r) (cells_in last_columns r))

-- the members of a record's object are those of its first cells, of its answer, and of its last cells
pub members_apart : (r : Entry)
    → members_after_run r
    ≡ members_of (cells_in first_columns r)
    ++ ((members_of (quantity_cells r) ++ members_in (codes "items") (item_content r)) ++ members_of (cells_in last_columns r))
members_apart r =
    let text : Cell → List Member = λ c. members_in c.name c.content in
    let first = cells_in first_columns r in
    let cells = quantity_cells r in
    let items = members_in (codes "items") (item_content r) in
    let last = members_of (cells_in last_columns r) in
    let behind = cells_in (items_column ∷ last_columns) r in
    flat_map-append text first (cells ++ behind)
    ∙ ap (λ l. members_of first ++ l) (flat_map-append text cells behind ∙ sym (append_assoc (members_of cells) items last))
