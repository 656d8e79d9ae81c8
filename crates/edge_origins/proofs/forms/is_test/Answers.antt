use Rattle.std.proofs.Common.{false}
use Rattle.edge_origins.specs.Bodies.{a_test}
use Rattle.edge_origins.proofs.FormPairs.{test_formed, test_unformed, of_test}
use Rattle.edge_origins.proofs.forms.is_test.Goals as goal

pub returns-in-EqualityTest : goal.returns-in-EqualityTest
returns-in-EqualityTest c = test_formed c.in-Pointers.is c.in-EqualityTest.is (a_test false)

pub returns-in-Test : goal.returns-in-Test
returns-in-Test c = test_formed c.in-Numbers.is c.in-Test.is (a_test _)

pub returns-in-Test-matches : goal.returns-in-Test-matches
returns-in-Test-matches c = test_formed c.in-Truth.is c.in-Test-matches.is (a_test _)

pub returns-in-Test-matches-2 : goal.returns-in-Test-matches-2
returns-in-Test-matches-2 c = test_formed c.in-Case.is c.in-Test-matches-2.is (a_test _)

pub returns-in_default : goal.returns-in_default
returns-in_default c = test_unformed c.in-Pointers.is (λ h. c.in_default.not-EqualityTest (of_test _ h))

pub returns-in_default-matches : goal.returns-in_default-matches
returns-in_default-matches c = test_unformed c.in-Numbers.is (λ h.
    let u = of_test _ h in c.in_default-matches.not-Test u.0 u.1)

pub returns-in_default-matches-2 : goal.returns-in_default-matches-2
returns-in_default-matches-2 c = test_unformed c.in-Truth.is (λ h.
    let u = of_test _ h in c.in_default-matches-2.not-Test u.0 u.1)

pub returns-in_default-matches-3 : goal.returns-in_default-matches-3
returns-in_default-matches-3 c = test_unformed c.in-Case.is (λ h.
    let u = of_test _ h in c.in_default-matches-3.not-Test u.0 u.1)
