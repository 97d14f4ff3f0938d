pub mod Cutting
pub mod ReadingBack
pub mod Sectioning
pub mod Beginning
