pub mod Written
pub mod NumberLaws
pub mod BigLaws
pub mod GuidLaws
pub mod PlaceLaws
pub mod ByteLaws
pub mod PutLaws
pub mod FindLaws
