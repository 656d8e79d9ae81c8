use Rattle.std.proofs.Common.{List, map, Option, Some, sym, ap, ◌∙◌}
use Rattle.tm_terms.specs.declared.tokens.Token.{Token}
use Rattle.tm_trees.specs.DeclarationTrees.{LengthTree, DeclaratorTree, a_declared_name, length_tree}
use Rattle.c_decl_parser.specs.reading.Parts.{seen}
use Rattle.c_decl_parser.specs.reading.DeclarationDescent.{lengths}
use Rattle.c_decl_parser.proofs.DeclarationSteps.{read_none, read_some}
use Rattle.c_decl_parser.proofs.declarators.named.Goals as goal

pub returns-in-Stuck : goal.returns-in-Stuck
returns-in-Stuck c =
    let go : List LengthTree → List Token → Option (DeclaratorTree × List Token) =
    λ sizes rest. Some (a_declared_name c.args.pointers.items c.args.name c.args.place sizes, rest) in
    read_none go (lengths c.args.types.now c.args.allowed c.args.tokens.now)
    (sym c.in_ok-at.ensures ∙ ap (seen (λ v. map length_tree v.items)) c.in-Stuck.is)

pub returns-in-Found : goal.returns-in-Found
returns-in-Found c =
    let go : List LengthTree → List Token → Option (DeclaratorTree × List Token) =
    λ sizes rest. Some (a_declared_name c.args.pointers.items c.args.name c.args.place sizes, rest) in
    read_some go (lengths c.args.types.now c.args.allowed c.args.tokens.now)
    (map length_tree c.in-Found.lengths.items) c.in-Found.rest.now
    (sym c.in_ok-at.ensures ∙ ap (seen (λ v. map length_tree v.items)) c.in-Found.is)
