pub mod KeptLemmas
pub mod AskedNumbers
