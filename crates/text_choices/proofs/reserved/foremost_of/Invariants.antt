use Rattle.indexmap.specs.IndexMap.{get}
use Rattle.tm_terms.specs.Names.{is_same_name}
use Rattle.text_choices.specs.reading.Foremost.{AreForemost}
use Rattle.text_choices.proofs.reserved.foremost_of.Given as goal

abbrev pub invariant-loop-it : goal.invariant-loop-it
invariant-loop-it l = AreForemost l.declared l.it-index (get is_same_name l.found)
