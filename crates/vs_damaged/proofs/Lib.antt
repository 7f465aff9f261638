pub mod FindLaws
pub mod SalvageLaws
pub mod ShownLaws
