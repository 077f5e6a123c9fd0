pub mod SameFile
