use Rattle.std.proofs.Common.{◌≡◌, drop}
use Rattle.std.specs.Prelude.{find, bytes_eq}
use Rattle.refusal_hints.proofs.classes.words_in.Given as goal

abbrev pub invariant-loop-name : goal.invariant-loop-name
invariant-loop-name l =
    find (λ e. bytes_eq e.0.now l.class) l.table ≡ find (λ e. bytes_eq e.0.now l.class) (drop l.name-index l.table)
