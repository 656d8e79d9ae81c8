use Rattle.certificate_check.proofs.Reached.{certificates_are_tested}
use Rattle.certificate_check.proofs.OneVerdict.{solutions_are_certified}
use Rattle.certificate_check.proofs.laws.solutions_are_certified.Goals as goal

pub returns-clause-tested : goal.returns-clause-tested
returns-clause-tested c = certificates_are_tested

pub returns-clause-certified : goal.returns-clause-certified
returns-clause-certified c = solutions_are_certified
