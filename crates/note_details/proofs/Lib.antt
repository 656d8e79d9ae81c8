mod Noting
mod Placing
