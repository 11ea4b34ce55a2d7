-- What the contracts of the master cite, beside the definitions of model and layout.
pub mod Tails
