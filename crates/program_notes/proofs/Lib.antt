-- The operation of an edge of a body (OperationsFound), that the alarms of a report that are not races are those with
-- contexts (Paired), objects to which pointers lead (Pointed), bounds by object (FirstBounds), and the tasks of edges,
-- the flaws of an object and the alarms that are not races, one after the other (Firsts).
mod OperationsFound
pub mod Paired
mod Pointed
mod FirstBounds
mod Firsts
