use Rattle.text_choices.proofs.Named.{Follows, left_before}
use Rattle.text_choices.proofs.static_names.StaticNames.last.Given as goal

-- this is the last object of the name in a front of the list, behind which none is found
abbrev pub invariant-earlier : goal.invariant-earlier
invariant-earlier l = Follows l.self-inside.declared.items l.fn.name l.place l.at

abbrev pub decreases-earlier : goal.decreases-earlier
decreases-earlier l = left_before l.at
