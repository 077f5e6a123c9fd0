mod Sizes
mod Orders
mod Made
