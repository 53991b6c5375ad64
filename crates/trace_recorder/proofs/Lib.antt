pub mod RowLaws
pub mod SawLaws
