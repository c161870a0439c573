pub mod AlikeLaws
pub mod ClearLaws
pub mod OpensLaws
pub mod CopyLaws
pub mod SettleLaws
pub mod ApplyLaws
pub mod ResultLaws
