pub mod SampleLaws
pub mod ImageLaws
mod DrawLaws
mod SizeLaws
