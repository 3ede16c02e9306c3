pub mod Receipts
pub mod Judgements
pub mod Parts
pub mod Laws
pub mod inside
