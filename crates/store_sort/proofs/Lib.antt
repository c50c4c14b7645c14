pub mod Lex
pub mod Numbers
pub mod Shuffles
pub mod Heap
pub mod Permuting
pub mod Sifting
pub mod Ordered
pub mod Filled
