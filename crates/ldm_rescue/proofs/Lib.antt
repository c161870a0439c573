pub mod ListLaws
pub mod SourceLaws
pub mod RescueLaws
pub mod DumpLaws
pub mod LossLaws
pub mod ToldLaws
pub mod EndLaws
pub mod OneLaws
