-- Advice on one more alarm (Listing), and sets whose ends are values of a type (Ends).
mod Listing
mod Ends
