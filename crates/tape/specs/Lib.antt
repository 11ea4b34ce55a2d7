-- What the contracts of the tape program say.
pub mod Left
pub mod Printed
