-- What a contract sees of the opening of a body and of the step of a loop over specifiers.
use Rattle.std.specs.Prelude.{List, Option, Some, None}
use Rattle.std.specs.Borrow.{Bor}
use Rattle.tm_terms.specs.declared.tokens.Token.{Token}
use Rattle.tm_trees.specs.DeclarationTrees.{SpecifierTree, specifier_tree}
use Rattle.c_decl_parser.specs.declared.openings.Opening.{Opening}
use Rattle.c_decl_parser.specs.declared.specifiers.Begun.{Begun}
use Rattle.c_decl_parser.specs.declared.specifiers.Begun.TheVariants.{Whole, Nothing, Broken}
use Rattle.c_decl_parser.specs.reading.DeclarationDescent.{Opened}

abbrev pub opened_of : Opening → Opened
opened_of o = record { kind = o.kind; tag = o.tag; place = o.place }

abbrev pub seen_opened : Option (Opening × Bor (List Token)) → Option (Opened × List Token)
seen_opened None = None
seen_opened (Some x) = Some (opened_of x.0, x.1.now)

-- a specifier, or that none begins, or that what begins is none
abbrev pub seen_begun : Begun → Option (Option (SpecifierTree × List Token))
seen_begun (Whole s rest) = Some (Some (specifier_tree s, rest.now))
seen_begun Nothing = Some None
seen_begun (Broken rest) = None
