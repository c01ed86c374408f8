pub mod Calls
pub mod Host
pub mod Laws
pub mod Misnamed
pub mod Placed
pub mod Words
