pub mod Reply
pub mod ReplyJson
