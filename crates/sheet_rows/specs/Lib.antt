pub mod Cells
pub mod Numbers
pub mod Rows
pub mod Extent
pub mod Meant
pub mod SheetMeant
