pub mod Refusal
pub mod EndBytes
pub mod EndsMeant
pub mod FiguresMeant
pub mod Text
pub mod ByNumber
pub mod Phrased
