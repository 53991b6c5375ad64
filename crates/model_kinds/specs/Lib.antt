pub mod SixKinds
pub mod ShownText
