pub mod Bucket
pub mod LawsOfBucket
