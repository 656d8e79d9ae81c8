use Rattle.std.proofs.Common.{◌≡◌, ◌+◌, ◌-◌, ◌*◌, false, [], ◌∷◌, map}
use Rattle.tm_trees.specs.DeclarationTrees.{specifier_tree, member_tree}
use Rattle.c_decl_parser.specs.reading.Repetitions.{until_brace}
use Rattle.c_decl_parser.specs.reading.DeclarationDescent.{specifiers_from, body, member}
use Rattle.c_decl_parser.proofs.specifiers.+specifiers.Given as goal

abbrev pub decreases-specifiers : goal.decreases-specifiers
decreases-specifiers l = 8 * l.allowed

abbrev pub decreases-all_specifiers : goal.decreases-all_specifiers
decreases-all_specifiers l = 8 * l.allowed + 3

abbrev pub decreases-specifier : goal.decreases-specifier
decreases-specifier l = 8 * l.allowed + 2

abbrev pub decreases-body : goal.decreases-body
decreases-body l = 8 * l.allowed + 1

abbrev pub decreases-struct_body : goal.decreases-struct_body
decreases-struct_body l = 8 * l.allowed + 4

abbrev pub decreases-members : goal.decreases-members
decreases-members l = 8 * l.allowed + 3

abbrev pub decreases-further_members : goal.decreases-further_members
decreases-further_members l = 8 * l.allowed + 2

abbrev pub decreases-member : goal.decreases-member
decreases-member l = 8 * l.allowed + 1

-- the rest of the reading gives what the whole gives
abbrev pub invariant-all_specifiers-specifiers : goal.invariant-all_specifiers-specifiers
invariant-all_specifiers-specifiers l =
    specifiers_from l.types l.allowed (body l.types l.allowed) (l.limit - l._i) l.type_seen (map specifier_tree l.found.items) l.rest ≡ specifiers_from l.types l.allowed (body l.types l.allowed) l.limit false [] l.tokens

abbrev pub invariant-further_members-members : goal.invariant-further_members-members
invariant-further_members-members l =
    until_brace (member l.types l.allowed) (l.limit - l._i) (map member_tree l.found.items) l.rest ≡ until_brace (member l.types l.allowed) l.limit (member_tree l.fn.first ∷ []) l.tokens
