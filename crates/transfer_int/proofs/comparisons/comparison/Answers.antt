use Rattle.transfer_int.proofs.Comparing.{less, at_most, greater, at_least, equal, unequal, last_comparison}
use Rattle.transfer_int.proofs.comparisons.comparison.Goals as goal

pub returns-in-Lt : goal.returns-in-Lt
returns-in-Lt c = less _ _ _ _ _ _ _ c.truth_values.ensures c.in-Lt.is c.may_be_at_most.ensures c.may_be_less.ensures

pub returns-in-Le : goal.returns-in-Le
returns-in-Le c = at_most _ _ _ _ _ _ _ c.truth_values-in-Le.ensures c.in-Le.is c.may_be_less-in-Le.ensures c.may_be_at_most-in-Le.ensures

pub returns-in-Gt : goal.returns-in-Gt
returns-in-Gt c = greater _ _ _ _ _ _ _ c.truth_values-in-Gt.ensures c.in-Gt.is c.may_be_at_most-in-Gt.ensures c.may_be_less-in-Gt.ensures

pub returns-in-Ge : goal.returns-in-Ge
returns-in-Ge c = at_least _ _ _ _ _ _ _ c.truth_values-in-Ge.ensures c.in-Ge.is c.may_be_less-in-Ge.ensures c.may_be_at_most-in-Ge.ensures

pub returns-in-Eq : goal.returns-in-Eq
returns-in-Eq c = equal _ _ _ _ _ _ _ c.truth_values-in-Eq.ensures c.in-Eq.is c.may_differ.ensures c.may_be_same.ensures

pub returns-in_default : goal.returns-in_default
returns-in_default c =
    let d = c.in_default in
    unequal _ _ _ _ _ _ _ c.truth_values-in_default.ensures (last_comparison c.args.op c.requires d.not-Lt d.not-Le d.not-Gt d.not-Ge d.not-Eq)
    c.may_be_same-in_default.ensures c.may_differ-in_default.ensures
