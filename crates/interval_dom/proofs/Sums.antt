-- The rows of sums and differences.
use Rattle.std.proofs.Common.{◌+ℤ◌, ◌-ℤ◌, arith}
use Rattle.std.proofs.lemmas.Int.{ints}
use Rattle.interval_dom.specs.Laws.{Always, Grows, Holds}
use Rattle.tm_numbers.specs.Operands.{AnyNumbers}
use Rattle.interval_dom.specs.Rows.{add_row, sub_row}

pub add_holds : Holds Always AnyNumbers add_row ◌+ℤ◌
add_holds a b x y guard takes h k = record { low = omega (arith, ints); high = omega (arith, ints) }

pub add_grows : Grows Always add_row
add_grows a b c d guard o p h k = record { low = omega (arith, ints); high = omega (arith, ints) }

pub sub_holds : Holds Always AnyNumbers sub_row ◌-ℤ◌
sub_holds a b x y guard takes h k = record { low = omega (arith, ints); high = omega (arith, ints) }

pub sub_grows : Grows Always sub_row
sub_grows a b c d guard o p h k = record { low = omega (arith, ints); high = omega (arith, ints) }
