use Rattle.std.proofs.Common.{◌≡◌}
use Rattle.place_details.specs.Functions.{scanned}
use Rattle.place_details.proofs.functions.scan_on.Given as goal

abbrev pub invariant-loop-i : goal.invariant-loop-i
invariant-loop-i l = l.scan ≡ scanned l.code l.i
