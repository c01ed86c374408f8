pub mod AcceptedProofs
pub mod HostProofs
pub mod MisspelledProofs
pub mod StackProofs
pub mod TablesProofs
