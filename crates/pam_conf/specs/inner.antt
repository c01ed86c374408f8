-- What no public contract cites.
pub mod ByKind
pub mod Calls
pub mod FileRules
pub mod FilesRead
pub mod FirstWord
pub mod ItemsOf
pub mod Kept
pub mod Lines
pub mod NameList
pub mod Owned
pub mod Progress
pub mod StackCode
pub mod StartOf
pub mod SubFalls
pub mod Tells
pub mod Wanted
