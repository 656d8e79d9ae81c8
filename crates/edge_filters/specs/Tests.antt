-- Tests whose numbers strided sets can hold.
use Rattle.strided_dom.specs.Progression.{IsInReach}
use Rattle.tm_cint.specs.Operators.{IsComparison}
use Rattle.flow_graph.specs.declared.operations.Test.{Test}
use Rattle.flow_graph.specs.declared.operations.Test.TheVariants.{Numbers, Pointers, Truth, Case}

-- a comparison of numbers is one of the six, and a label is in the reach of strided sets
abbrev pub IsTestable : Test → Type 0
IsTestable (Numbers operator of left right) = IsComparison operator
IsTestable (Pointers equal left right) = Unit {0}
IsTestable (Truth holds value) = Unit {0}
IsTestable (Case holds label value) = IsInReach label
