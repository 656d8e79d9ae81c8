-- What is told of a solution is what its source is answered, and answers come with a whole text (NotesTold). Parts behind
-- what stands before (PartsAdded). Notes are asked of 1 to 16 workers (AskedFew).
pub mod NotesTold
pub mod PartsAdded
pub mod AskedFew
