pub mod HostProofs
pub mod NamesProofs
pub mod NeedsProofs
pub mod RulesProofs
pub mod SearchProofs
pub mod TextProofs
