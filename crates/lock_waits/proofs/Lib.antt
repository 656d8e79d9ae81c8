-- The requests of one more copy and of one more task (Asking), and that they are those of the program (Programs).
mod Asking
mod Programs
mod Reading
