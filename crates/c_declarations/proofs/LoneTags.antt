-- Specifiers that are no lone tag.
use Rattle.std.proofs.Common.{◌≡◌, ◌≢◌, List, [], ◌∷◌, length, map, None, refl, arith}
use Rattle.tm_trees.specs.declared.declarations.Specifier.{Specifier}
use Rattle.tm_trees.specs.declared.declarations.InitDeclarator.{InitDeclarator}
use Rattle.tm_trees.specs.DeclarationTrees.{SpecifierTree, a_plain, a_struct, an_enum, SpecifierTrees}
use Rattle.tm_trees.specs.DeclarationTrees.{no_specifiers, and_specifier, InitDeclaratorTree}
use Rattle.tm_trees.specs.DeclarationTrees.{init_declarator_tree, specifier_tree, specifier_trees}
use Rattle.tm_typed.specs.Declarations.{lone_tag}

of_two : (x y : SpecifierTree) (xs : SpecifierTrees) (ds : List InitDeclaratorTree) → lone_tag (and_specifier x (and_specifier y xs)) ds ≡ None
of_two (a_plain s) y xs ds = refl
of_two (a_struct _ _ _) y xs ds = refl
of_two (an_enum _ _ _) y xs ds = refl

-- none, or more than one
pub not_alone : (xs : List Specifier) (ds : List InitDeclaratorTree) → length xs ≢ 1 → lone_tag (specifier_trees xs) ds ≡ None
not_alone [] ds many = refl
not_alone (x ∷ []) ds many = absurd (omega arith)
not_alone (x ∷ y ∷ xs) ds many = of_two (specifier_tree x) (specifier_tree y) (specifier_trees xs) ds

of_one : (x : SpecifierTree) (d : InitDeclaratorTree) (ds : List InitDeclaratorTree) → lone_tag (and_specifier x no_specifiers) (d ∷ ds) ≡ None
of_one (a_plain s) d ds = refl
of_one (a_struct _ _ _) d ds = refl
of_one (an_enum _ _ _) d ds = refl

behind : (xs : SpecifierTrees) (d : InitDeclaratorTree) (ds : List InitDeclaratorTree) → lone_tag xs (d ∷ ds) ≡ None
behind no_specifiers d ds = refl
behind (and_specifier x no_specifiers) d ds = of_one x d ds
behind (and_specifier x (and_specifier y ys)) d ds = of_two x y ys (d ∷ ds)

-- .. or declarators behind them
pub with_declarators : (xs : SpecifierTrees) (ds : List InitDeclarator) → length ds ≢ 0 → lone_tag xs (map init_declarator_tree ds) ≡ None
with_declarators xs [] some = absurd (omega arith)
with_declarators xs (d ∷ ds) some = behind xs (init_declarator_tree d) (map init_declarator_tree ds)
