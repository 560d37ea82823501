pub mod Cells
pub mod Export
pub mod CellsMeant
pub mod ExportMeant
