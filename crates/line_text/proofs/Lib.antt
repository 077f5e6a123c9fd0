pub mod Cuts
pub mod LeadingDigits
pub mod Numerals
pub mod Items
pub mod Signed
pub mod Plain
pub mod Printed
