pub mod Sessions
pub mod Playing
pub mod Lending
