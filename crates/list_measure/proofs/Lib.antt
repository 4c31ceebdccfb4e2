pub mod SizeLaws
pub mod PassingLaws
pub mod MeasureLaws
