use Rattle.std.proofs.Common.{◌≡◌, Bool, true, false, None, refl, ap}
use Rattle.std.specs.Prelude.{◌&&◌, ◌||◌, not}
use Rattle.unit_plans.specs.Linkages.{is_ordinary}
use Rattle.unit_plans.specs.Names.{is_among}
use Rattle.unit_plans.specs.Plans.{fate_by}
use Rattle.unit_plans.specs.declared.declarations.Role.{Role}
use Rattle.unit_plans.proofs.laws.renaming.Goals as goal

-- by whether the name is among the external ones, the internal ones and the others
stays : (external internal own far ordinary shared : Bool) → (external && not internal) ≡ true
    → ((internal && own && far) || (ordinary && not (external || internal) && shared)) ≡ false
stays true false own far true shared h = refl
stays true false own far false shared h = refl
stays true true own far ordinary shared h = absurd (cc)
stays false internal own far ordinary shared h = absurd (cc)

pub returns-clause-linked : goal.returns-clause-linked
returns-clause-linked c = λ lists name common linked.
    stays (is_among lists.externals name) (is_among lists.internals name)
    (not (is_among lists.lefts name || is_among lists.earliers name)) (is_among lists.fars common) (is_ordinary name)
    (is_among lists.shareds common) linked

pub returns-clause-members : goal.returns-clause-members
returns-clause-members c = λ lists sight is.
    ap (λ (r : Role). fate_by lists (record sight { role = r }) None) is
