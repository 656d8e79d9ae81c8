use Rattle.std.proofs.Common.{◌≡◌, ℕ, List, ◌++◌, length}
use Rattle.std.specs.Io.KnownBytes.{append_known}
use Rattle.program_streams.proofs.output.write_whole.Given as goal

abbrev pub invariant-loop-rest : goal.invariant-loop-rest
invariant-loop-rest g l =
    ((part : List ℕ) × (l.text ≡ part ++ l.rest) × (g.K.Sink.taken l.out ≡ append_known (g.K.Sink.taken l.initial.out) part))
    × (g.K.Sink.faults l.out ≡ g.K.Sink.faults l.initial.out)

abbrev pub decreases-loop-rest : goal.decreases-loop-rest
decreases-loop-rest g l = length l.rest
