pub mod ImageLaws
