pub mod SolutionsAgree
mod PossibleStarts
mod LossLimit
mod Thrift
mod Searched
mod Answered
