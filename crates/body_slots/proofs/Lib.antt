-- What code reads of the slots of a body (Reading), what stands at the cells of a node (Kept), and numbers of cells
-- (Small), and what stood over an earlier store (Starting).
mod Reading
mod Kept
mod Small
mod Starting
