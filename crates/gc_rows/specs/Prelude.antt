-- The names that crates above cite, passed on from one place. Declares nothing.
pub use Rattle.gc_rows.specs.Cells.{Blank, Bytes, Cell, Code, Content, Items, Moment, Quantity, Whole, cell, field_of, lookup, members_in, members_of, names_of}
pub use Rattle.gc_rows.specs.Columns.{Column, Entry, bytes_content, cells_after_run, cells_if, cells_in, counted_answer, end_cells, fault_content, first_columns, items_column, last_columns, line_content, line_sent, members_after_run, moment_content, object_cells, quantity_cells, quantity_columns, row_fields, run_column}
pub use Rattle.gc_rows.specs.DescribedCells.{answer_kinds}
pub use Rattle.gc_rows.specs.DescribedColumns.{IsDescribedAnswer, are_new, described_value}
pub use Rattle.gc_rows.specs.Items.{items_of}
pub use Rattle.gc_rows.specs.JsonLines.{Member, Number, Text, Texts, behind_backslash, comma_where, list_text, member_text, members_text, string_text, strings_text, without_zeros}
pub use Rattle.gc_rows.specs.Laws.{ArePlainMembers, FitsIn64Bits, HasFieldNames, IsEndOfBytes, IsPlainName, IsReplyOfBytes, ReadsBackAs, record_read}
pub use Rattle.gc_rows.specs.Lookup.{HasColumns, IsKnownName, IsShown, is_among, text_of}
pub use Rattle.gc_rows.specs.NamedFields.{value_text}
pub use Rattle.gc_rows.specs.ProcedureQuantities.{quantities_returned}
pub use Rattle.gc_rows.specs.Quantities.{column_of, quantity_names}
pub use Rattle.gc_rows.specs.Records.{ending_text, first_names, form_sign, head_text, header, record_text}
pub use Rattle.gc_rows.specs.Rows.{behind_comma, code_of, com_of, fault_field, field_text, fields_behind_commas, is_special, moment_text, procedure_of, request_sent, row_of, value_texts, values_of, within_quotes}
pub use Rattle.gc_rows.specs.ValueReading.{values_read}
