-- Families of operations.
use Rattle.flow_graph.specs.declared.operations.Operation.{Operation}
use Rattle.flow_graph.specs.declared.operations.Operation.TheVariants as Op

-- those that work on values alone
abbrev pub IsCalculation : Operation → Type 0
IsCalculation Op.Skip = Unit {0}
IsCalculation (Op.Const to value) = Unit {0}
IsCalculation (Op.Copy to from) = Unit {0}
IsCalculation (Op.Un to operator of from place) = Unit {0}
IsCalculation (Op.Bin to operator of left right place) = Unit {0}
IsCalculation (Op.BinPointers to equal left right) = Unit {0}
IsCalculation (Op.Convert to was of from) = Unit {0}
IsCalculation (Op.Usable pointer place) = Unit {0}
IsCalculation (Op.Assume test) = Unit {0}
IsCalculation _ = ⊥

-- those that give addresses
abbrev pub IsAddress : Operation → Type 0
IsAddress (Op.Base to object) = Unit {0}
IsAddress (Op.Offset to from cells) = Unit {0}
IsAddress (Op.Index to from length cells by place) = Unit {0}
IsAddress (Op.Move to from cells minus by place) = Unit {0}
IsAddress (Op.Deref to from target path place) = Unit {0}
IsAddress _ = ⊥

-- those that wait for an answer
abbrev pub IsAction : Operation → Type 0
IsAction (Op.Load to address scalar place) = Unit {0}
IsAction (Op.LoadAny to address scalar place) = Unit {0}
IsAction (Op.Store address value scalar into place) = Unit {0}
IsAction (Op.Any to low high) = Unit {0}
IsAction (Op.Clear object) = Unit {0}
IsAction (Op.Lock mutex place) = Unit {0}
IsAction (Op.Unlock mutex place) = Unit {0}
IsAction Op.Yield = Unit {0}
IsAction (Op.Probe to mutex place) = Unit {0}
IsAction _ = ⊥
