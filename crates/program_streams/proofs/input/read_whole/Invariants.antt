use Rattle.std.proofs.Common.{◌≡◌, ◌-◌, vec_len}
use Rattle.std.specs.Io.KnownBytes.{prepend_known}
use Rattle.program_streams.proofs.input.read_whole.Given as goal

abbrev pub invariant-loop-source : goal.invariant-loop-source
invariant-loop-source g l =
    (g.S.Source.left l.initial.source ≡ prepend_known l.bytes.items (g.S.Source.left l.source))
    × (g.S.Source.faults l.source ≡ g.S.Source.faults l.initial.source)

abbrev pub decreases-loop-source : goal.decreases-loop-source
decreases-loop-source g l = l.most - vec_len l.bytes
