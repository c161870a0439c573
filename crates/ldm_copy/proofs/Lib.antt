pub mod RoomLaws
pub mod OneCopy
pub mod AreaLaws
pub mod ReadLaws
