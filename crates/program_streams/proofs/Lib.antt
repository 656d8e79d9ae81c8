-- Pieces that are written (Written), and answers to what was read that are sent (Sent).
pub mod Written
pub mod Sent
