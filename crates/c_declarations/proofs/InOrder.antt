-- Declarators one after the other.
use Rattle.std.proofs.Common.{◌≡◌, List, ◌∷◌, ◌++◌, Ok, Err, ap, sym, ◌∙◌}
use Rattle.tm_terms.specs.declared.refusals.Fail.{Fail}
use Rattle.tm_trees.specs.DeclarationTrees.{InitDeclaratorTree}
use Rattle.tm_typed.specs.declared.specifiers.Said.{Said}
use Rattle.tm_typed.specs.States.{State}
use Rattle.tm_typed.specs.TypedStatements.{LocalTree}
use Rattle.tm_typed.specs.Refusals.{Gives, then_with}
use Rattle.tm_typed.specs.Declarations.{Declared, declared_by, file_rules, file_declared, Locals}
use Rattle.tm_typed.specs.Declarations.{local_rules, local_declared}
use Rattle.c_declarations.proofs.Frames.{passes, goes_on}

-- ## At file scope

pub file_step : (s t u : State) (said : Said) (d : InitDeclaratorTree) (ds : List InitDeclaratorTree) (m : Declared)
    → declared_by s said d ≡ Ok (m, t) → file_rules t said.storage m ≡ Ok u
    → file_declared s said (d ∷ ds) ≡ file_declared u said ds
file_step s t u said d ds m e h =
    ap (λ r. then_with r (λ (x : Declared × State). then_with (file_rules x.1 said.storage x.0) (λ y. file_declared y said ds))) e
    ∙ ap (λ r. then_with r (λ y. file_declared y said ds)) h

pub file_stops : {A C : Type 0} (v : A → Declared × State) (w : C → State) (f : Fail) (s : State) (said : Said) (d : InitDeclaratorTree) (ds : List InitDeclaratorTree)
    → Gives v (Err f) (declared_by s said d) → Gives w (Err f) (file_declared s said (d ∷ ds))
file_stops v w f s said d ds e = passes v w f (declared_by s said d) (λ x. then_with (file_rules x.1 said.storage x.0) (λ y. file_declared y said ds)) e

pub file_stops_there : {A C : Type 0} (v : A → State) (w : C → State) (f : Fail) (s t : State) (said : Said) (d : InitDeclaratorTree) (ds : List InitDeclaratorTree) (m : Declared)
    → declared_by s said d ≡ Ok (m, t) → Gives v (Err f) (file_rules t said.storage m) → Gives w (Err f) (file_declared s said (d ∷ ds))
file_stops_there v w f s t said d ds m e h =
    goes_on w (Err f) (declared_by s said d) (m, t) (λ x. then_with (file_rules x.1 said.storage x.0) (λ y. file_declared y said ds)) e
    (passes v w f (file_rules t said.storage m) (λ y. file_declared y said ds) h)

-- ## In blocks

pub local_step : (s t u : State) (said : Said) (found new l : List LocalTree) (d : InitDeclaratorTree) (ds : List InitDeclaratorTree) (m : Declared)
    → declared_by s said d ≡ Ok (m, t) → local_rules t said.storage m ≡ Ok (l, u) → new ≡ found ++ l
    → local_declared s said found (d ∷ ds) ≡ local_declared u said new ds
local_step s t u said found new l d ds m e h p =
    ap (λ r. then_with r (λ (x : Declared × State). then_with (local_rules x.1 said.storage x.0) (λ (y : Locals). local_declared y.1 said (found ++ y.0) ds))) e
    ∙ ap (λ r. then_with r (λ (y : Locals). local_declared y.1 said (found ++ y.0) ds)) h
    ∙ ap (λ ls. local_declared u said ls ds) (sym p)

pub local_stops : {A C : Type 0} (v : A → Declared × State) (w : C → Locals) (f : Fail) (s : State) (said : Said) (found : List LocalTree) (d : InitDeclaratorTree) (ds : List InitDeclaratorTree)
    → Gives v (Err f) (declared_by s said d) → Gives w (Err f) (local_declared s said found (d ∷ ds))
local_stops v w f s said found d ds e = passes v w f (declared_by s said d) (λ x. then_with (local_rules x.1 said.storage x.0) (λ y. local_declared y.1 said (found ++ y.0) ds)) e

pub local_stops_there : {A C : Type 0} (v : A → Locals) (w : C → Locals) (f : Fail) (s t : State) (said : Said) (found : List LocalTree) (d : InitDeclaratorTree) (ds : List InitDeclaratorTree) (m : Declared)
    → declared_by s said d ≡ Ok (m, t) → Gives v (Err f) (local_rules t said.storage m) → Gives w (Err f) (local_declared s said found (d ∷ ds))
local_stops_there v w f s t said found d ds m e h =
    goes_on w (Err f) (declared_by s said d) (m, t) (λ x. then_with (local_rules x.1 said.storage x.0) (λ y. local_declared y.1 said (found ++ y.0) ds)) e
    (passes v w f (local_rules t said.storage m) (λ y. local_declared y.1 said (found ++ y.0) ds) h)

pub ruleset in_file = (file_step, file_stops, file_stops_there)

pub ruleset in_block = (local_step, local_stops, local_stops_there)
