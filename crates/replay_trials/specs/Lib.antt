pub mod SomeRun
