pub mod OperandLaws
pub mod OptionLaws
pub mod LengthLaws
pub mod Meant
