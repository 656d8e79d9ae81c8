-- Numbers: divisors (Divisors), congruence (Congruence), powers of two (Powers), and what an operator takes (Operands).
pub mod Congruence
pub mod Divisors
pub mod Operands
pub mod Powers
