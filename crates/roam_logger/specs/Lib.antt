pub mod BadAttributes
pub mod Clues
pub mod Notices
pub mod Origins
pub mod SaidLately
