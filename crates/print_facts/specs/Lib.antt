pub mod FactLines
