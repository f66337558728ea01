pub mod Tickets
pub mod Book
pub mod Drafts
