use Rattle.filters.proofs.Refinements.{last_comparison, assumed}
use Rattle.tm_cint.specs.declared.operators.BinOp.TheVariants.{Lt, Le, Gt, Ge, Eq, Ne}
use Rattle.filters.proofs.comparisons.assume.Goals as goal

pub returns-in-Lt : goal.returns-in-Lt
returns-in-Lt c = assumed Lt _ _ _ _ _ c.in-Lt.is c.less.ensures c.greater.ensures

pub returns-in-Le : goal.returns-in-Le
returns-in-Le c = assumed Le _ _ _ _ _ c.in-Le.is c.at_most.ensures c.at_least.ensures

pub returns-in-Gt : goal.returns-in-Gt
returns-in-Gt c = assumed Gt _ _ _ _ _ c.in-Gt.is c.greater-in-Gt.ensures c.less-in-Gt.ensures

pub returns-in-Ge : goal.returns-in-Ge
returns-in-Ge c = assumed Ge _ _ _ _ _ c.in-Ge.is c.at_least-in-Ge.ensures c.at_most-in-Ge.ensures

pub returns-in-Eq : goal.returns-in-Eq
returns-in-Eq c = assumed Eq _ _ _ _ _ c.in-Eq.is c.equal.ensures.straight c.equal-in-Eq.ensures.turned

pub returns-in_default : goal.returns-in_default
returns-in_default c =
    let d = c.in_default in
    assumed Ne _ _ _ _ _ (last_comparison _ c.requires d.not-Lt d.not-Le d.not-Gt d.not-Ge d.not-Eq)
    c.unequal.ensures.straight c.unequal-in_default.ensures.turned
