use Rattle.std.proofs.Common.{◌≡◌, ◌∙◌, ap, sym, subst, map}
use Rattle.tm_trees.specs.declared.declarations.Specifier.TheVariants as Specifiers
use Rattle.tm_trees.specs.DeclarationTrees.{SpecifierTree, a_struct, specifier_tree, member_tree}
use Rattle.tm_trees.specs.DeclarationTrees.{as_members}
use Rattle.tm_trees.proofs.Rows.{specifier_tree-struct}
use Rattle.tm_typed.specs.declared.specifiers.Said.{Said}
use Rattle.tm_typed.specs.Structures.{specifier}
use Rattle.c_typing_state.specs.Steps.{StepsTo}
use Rattle.c_specifiers.proofs.specifiers.+specifiers.Goals as goal

pub specifier-returns-in-Struct : goal.specifier-returns-in-Struct
specifier-returns-in-Struct t c =
    let is : c.args.one.now ≡ Specifiers.Struct c.in-Struct.tag c.in-Struct.members c.in-Struct.place = c.in-Struct.is in
    let e =
    ap specifier_tree is ∙ specifier_tree-struct c.in-Struct.tag c.in-Struct.members c.in-Struct.place
    ∙ ap (λ ms. a_struct c.in-Struct.tag (as_members (map member_tree ms)) c.in-Struct.place) (sym c.deref.ensures.value) in
    subst (λ (u : SpecifierTree). StepsTo {A = Said} {B = Said} (λ d. d) c.structure.new.state c.structure.result (specifier c.args.state.now c.args.said u)) (sym e) c.structure.ensures
