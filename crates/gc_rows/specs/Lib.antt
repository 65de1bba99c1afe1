mod Common
pub mod Prelude
pub mod Quantities
pub mod Items
pub mod ValueReading
pub mod ReadValues
pub mod DescribedCells
pub mod Rows
pub mod JsonLines
pub mod Cells
pub mod Columns
pub mod NamedFields
pub mod Records
pub mod Laws
pub mod ProcedureQuantities
pub mod Lookup
pub mod DescribedColumns
