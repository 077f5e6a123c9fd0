pub mod Laws
pub mod OpenSlab
