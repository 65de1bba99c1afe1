-- What a reader gets of a record under a name is what the record's cell of this name holds.
use Rattle.gc_rows.proofs.Common.{map, refl, subst, sym, escaped, fields_of, lookup, cells_in, object_cells, row_columns, IsShown, RecordsReadBack, under}
use Rattle.gc_rows.proofs.DescribedColumns.{known_found, known_no_text, object_at}
use Rattle.gc_rows.proofs.DescribedNames.{object_single}
pub use Rattle.gc_rows.proofs.Finding.{find, from_shown, lookup_among, lookup_behind, names_in, object_lookup, row_lookup}

-- the law: a reader gets of a record under a name what the cell of this name holds
pub records_read_back : RecordsReadBack
records_read_back = record {
  row = λ has_quantities r name.
      let cells = cells_in (row_columns has_quantities r.columns) r in
      subst (λ names. IsShown (lookup name cells) (under name names (map escaped (fields_of cells)))) (names_in (row_columns has_quantities r.columns) r) (row_lookup name cells);
  object = λ r name single. object_lookup name (object_cells r) single;
  known = λ r name are known.
      subst (λ content. IsShown content (object_at r name)) (sym (known_found r are name known)) (object_lookup name (object_cells r) (object_single r are name (known_no_text name known)));
  single = refl;
}
