-- The temporaries that an operation uses, as a list.
use Rattle.std.specs.Prelude.{ℕ, List, ◌++◌, option_to_list}
use Rattle.graph_facts.specs.declared.uses.UsedTemporaries.{UsedTemporaries}

abbrev pub listed : UsedTemporaries → List ℕ
listed used = option_to_list used.first ++ option_to_list used.second
