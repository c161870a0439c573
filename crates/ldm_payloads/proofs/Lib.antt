pub mod ValueReads
pub mod PlainReads
pub mod OpeningLaws
pub mod WholeLaws
