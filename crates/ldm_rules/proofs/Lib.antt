pub mod FirstLaws
pub mod GroupLaws
pub mod SoundLaws
pub mod PresentLaws
pub mod CarryLaws
pub mod RemadeLaws
