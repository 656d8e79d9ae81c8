-- Where the code stands.
use Rattle.tm_laid.specs.Layouts.{laid_tree}
use Rattle.task_interpreter.specs.declared.interpreter.Here.{Here}
use Rattle.task_interpreter.specs.reading.Direct.{Seat, seat}

abbrev pub seat_of : Here → Seat
seat_of here = seat (laid_tree here.laid.now) here.answers.now here.depth here.path
