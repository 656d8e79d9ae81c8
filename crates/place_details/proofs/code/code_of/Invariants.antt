use Rattle.std.proofs.Common.{◌≡◌, ◌++◌, drop, length}
use Rattle.place_details.specs.Functions.{code_from, code_of}
use Rattle.place_details.proofs.code.code_of.Given as goal

abbrev pub invariant-loop-i : goal.invariant-loop-i
invariant-loop-i l =
    (code_of l.text ≡ l.code.items ++ code_from l.mode (drop l.i l.text)) × (length l.code.items ≡ l.i)
