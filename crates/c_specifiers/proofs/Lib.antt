pub mod NoLengths
