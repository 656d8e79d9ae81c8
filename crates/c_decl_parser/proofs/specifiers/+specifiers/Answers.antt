use Rattle.std.proofs.Common.{◌≡◌, ◌+◌, ◌-◌, [], ◌∷◌, ◌++◌, length, map, List, Option, None, Some, IfOk, sym, ap, ◌∙◌, subst, arith}
use Rattle.tm_terms.specs.declared.tokens.Token.{Token}
use Rattle.tm_trees.specs.DeclarationTrees.{SpecifierTree, SpecifierTrees, DeclaratorTree, specifier_tree, member_tree}
use Rattle.tm_trees.specs.DeclarationTrees.{a_struct, as_members}
use Rattle.c_decl_parser.specs.reading.Parts.{seen}
use Rattle.c_decl_parser.specs.reading.Openings.{opened_of, seen_begun}
use Rattle.c_decl_parser.specs.reading.Repetitions.{until_brace}
use Rattle.c_decl_parser.specs.reading.DeclarationDescent.{specifiers_from, body, body_by, members_by, member}
use Rattle.c_decl_parser.proofs.RepetitionSteps.{pushed_tree, until_brace_done, until_brace_end, until_brace_stuck, until_brace_next}
use Rattle.c_decl_parser.proofs.SpecifierSteps.{specifiers_stop, specifiers_done, specifiers_broken, specifiers_next, specifiers_is, body_is, member_is}
use Rattle.c_decl_parser.proofs.SpecifierSteps.{specifiers_low, body_low, member_low, specifier_plain}
use Rattle.c_decl_parser.proofs.SpecifierSteps.{specifier_opened}
use Rattle.c_decl_parser.proofs.DeclarationSteps.{read_none, read_some}
use Rattle.c_decl_parser.proofs.specifiers.+specifiers.Goals as goal

pub all_specifiers-returns-in-Nothing : goal.all_specifiers-returns-in-Nothing
all_specifiers-returns-in-Nothing t c =
    let stop = sym c.in_ok-specifier.ensures ∙ ap seen_begun c.in-Nothing.is in
    sym (specifiers_stop c.args.types.now c.args.allowed (body c.args.types.now c.args.allowed) (length c.args.tokens.now - c.specifiers._i) c.specifiers.type_seen (map specifier_tree c.specifiers.found.items) c.specifiers.rest.now stop) ∙ c.specifiers.invariant

pub all_specifiers-returns-in-Broken : goal.all_specifiers-returns-in-Broken
all_specifiers-returns-in-Broken t c =
    let broken = sym c.in_ok-specifier.ensures ∙ ap seen_begun c.in-Broken.is in
    sym (specifiers_broken c.args.types.now c.args.allowed (body c.args.types.now c.args.allowed) (length c.args.tokens.now - c.specifiers._i) (length c.args.tokens.now - (c.specifiers._i + 1)) c.specifiers.type_seen (map specifier_tree c.specifiers.found.items) c.specifiers.rest.now (omega arith) broken) ∙ c.specifiers.invariant

pub all_specifiers-specifiers-preserved : goal.all_specifiers-specifiers-preserved
all_specifiers-specifiers-preserved t c =
    let one = sym c.in_ok-specifier.ensures ∙ ap seen_begun c.in-Whole.is in
    let left = length c.args.tokens.now - (c.specifiers._i + 1) in
    ap (λ (found : List SpecifierTree). specifiers_from c.args.types.now c.args.allowed (body c.args.types.now c.args.allowed) left c.sees_type-still_seen.result found c.in-Whole.next.now) (pushed_tree specifier_tree _ _ _ c.in_ok-push-in-Whole.ensures)
    ∙ ap (λ seen. specifiers_from c.args.types.now c.args.allowed (body c.args.types.now c.args.allowed) left seen (map specifier_tree c.specifiers.found.items ++ specifier_tree c.in-Whole.specifier ∷ []) c.in-Whole.next.now) c.sees_type-still_seen.ensures
    ∙ sym (specifiers_next c.args.types.now c.args.allowed (body c.args.types.now c.args.allowed) (length c.args.tokens.now - c.specifiers._i) (length c.args.tokens.now - (c.specifiers._i + 1)) c.specifiers.type_seen (map specifier_tree c.specifiers.found.items) c.specifiers.rest.now (specifier_tree c.in-Whole.specifier) c.in-Whole.next.now (omega arith) one) ∙ c.specifiers.invariant

pub all_specifiers-returns : goal.all_specifiers-returns
all_specifiers-returns t c =
    sym (specifiers_done c.args.types.now c.args.allowed (body c.args.types.now c.args.allowed) (length c.args.tokens.now - c.specifiers._i) c.specifiers.type_seen (map specifier_tree c.specifiers.found.items) c.specifiers.rest.now (omega arith)) ∙ c.specifiers.invariant

pub specifiers-returns : goal.specifiers-returns
specifiers-returns t c =
    subst (λ (w : Option (List SpecifierTree × List Token)). IfOk c.all_specifiers.result (λ read. seen (λ v. map specifier_tree v.items) read ≡ w)) (specifiers_is c.args.types.now c.args.allowed (c.args.allowed - 1) (omega arith) c.args.tokens.now) c.all_specifiers.ensures

pub body-returns-in-Struct : goal.body-returns-in-Struct
body-returns-in-Struct t c =
    let o = c.args.opening in
    subst (λ (w : Option (SpecifierTree × List Token)). IfOk c.struct_body.result (λ read. seen specifier_tree read ≡ w))
    (ap (λ kind. body_by c.args.types.now (c.args.allowed - 1) (member c.args.types.now (c.args.allowed - 1)) kind o.tag o.place c.args.tokens.now) (sym c.in-Struct.is)
    ∙ body_is c.args.types.now c.args.allowed (c.args.allowed - 1) (omega arith) o.kind o.tag o.place c.args.tokens.now) c.struct_body.ensures

pub body-returns-in-Enum : goal.body-returns-in-Enum
body-returns-in-Enum t c =
    let o = c.args.opening in
    subst (λ (w : Option (SpecifierTree × List Token)). IfOk c.enum_body.result (λ read. seen specifier_tree read ≡ w))
    (ap (λ kind. body_by c.args.types.now (c.args.allowed - 1) (member c.args.types.now (c.args.allowed - 1)) kind o.tag o.place c.args.tokens.now) (sym c.in-Enum.is)
    ∙ body_is c.args.types.now c.args.allowed (c.args.allowed - 1) (omega arith) o.kind o.tag o.place c.args.tokens.now) c.enum_body.ensures

pub further_members-returns-in-Some : goal.further_members-returns-in-Some
further_members-returns-in-Some t c =
    sym (until_brace_end (member c.args.types.now c.args.allowed) (length c.args.tokens.now - c.members._i) (length c.args.tokens.now - (c.members._i + 1)) (map member_tree c.members.found.items) c.members.rest.now c.in-Some.end.now (omega arith) (sym c.in-Some.ensures)) ∙ c.members.invariant

pub further_members-returns-in-Stuck : goal.further_members-returns-in-Stuck
further_members-returns-in-Stuck t c =
    let stuck = sym c.in_ok-at-in-None.ensures ∙ ap (seen member_tree) c.in-Stuck.is in
    sym (until_brace_stuck (member c.args.types.now c.args.allowed) (length c.args.tokens.now - c.members._i) (length c.args.tokens.now - (c.members._i + 1)) (map member_tree c.members.found.items) c.members.rest.now (omega arith) (sym c.in-None.ensures) stuck) ∙ c.members.invariant

pub further_members-members-preserved : goal.further_members-members-preserved
further_members-members-preserved t c =
    let one = sym c.in_ok-at-in-None.ensures ∙ ap (seen member_tree) c.in-Found.is in
    ap (λ (found : List (SpecifierTrees × List DeclaratorTree)). until_brace (member c.args.types.now c.args.allowed) (length c.args.tokens.now - (c.members._i + 1)) found c.in-Found.next.now) (pushed_tree member_tree _ _ _ c.in_ok-push-in-Found.ensures)
    ∙ sym (until_brace_next (member c.args.types.now c.args.allowed) (length c.args.tokens.now - c.members._i) (length c.args.tokens.now - (c.members._i + 1)) (map member_tree c.members.found.items) c.members.rest.now (member_tree c.in-Found.member) c.in-Found.next.now (omega arith) (sym c.in-None.ensures) one) ∙ c.members.invariant

pub further_members-returns : goal.further_members-returns
further_members-returns t c =
    sym (until_brace_done (member c.args.types.now c.args.allowed) (length c.args.tokens.now - c.members._i) (map member_tree c.members.found.items) c.members.rest.now (omega arith)) ∙ c.members.invariant

pub member-returns-in-Stuck : goal.member-returns-in-Stuck
member-returns-in-Stuck t c =
    member_is c.args.types.now c.args.allowed (c.args.allowed - 1) (omega arith) c.args.tokens.now None (sym c.in_ok-at.ensures ∙ ap (seen (λ v. map specifier_tree v.items)) c.in-Stuck.is)

pub member-returns-in-Found : goal.member-returns-in-Found
member-returns-in-Found t c =
    let same = member_is c.args.types.now c.args.allowed (c.args.allowed - 1) (omega arith) c.args.tokens.now (Some (map specifier_tree c.in-Found.found.items, c.in-Found.rest.now)) (sym c.in_ok-at.ensures ∙ ap (seen (λ v. map specifier_tree v.items)) c.in-Found.is) in
    subst (λ (w : Option ((SpecifierTrees × List DeclaratorTree) × List Token)). IfOk c.member_after.result (λ read. seen member_tree read ≡ w)) same c.member_after.ensures

pub specifiers-returns-then-allowed-eq0 : goal.specifiers-returns-then-allowed-eq0
specifiers-returns-then-allowed-eq0 t c =
    specifiers_low c.args.types.now c.args.allowed (omega arith) c.args.tokens.now

pub body-returns-then-allowed-eq0 : goal.body-returns-then-allowed-eq0
body-returns-then-allowed-eq0 t c =
    body_low c.args.types.now c.args.allowed (omega arith) (opened_of c.args.opening) c.args.tokens.now

pub member-returns-then-allowed-eq0 : goal.member-returns-then-allowed-eq0
member-returns-then-allowed-eq0 t c = member_low c.args.types.now c.args.allowed (omega arith) c.args.tokens.now

pub specifier-returns-in-None : goal.specifier-returns-in-None
specifier-returns-in-None t c =
    c.plain.ensures
    ∙ specifier_plain c.args.types.now c.args.seen c.args.allowed c.args.tokens.now
    (body c.args.types.now c.args.allowed) (sym c.in-None.ensures)

pub specifier-returns-in-Stuck : goal.specifier-returns-in-Stuck
specifier-returns-in-Stuck t c =
    specifier_opened c.args.types.now c.args.seen c.args.allowed c.args.tokens.now
    (body c.args.types.now c.args.allowed) (opened_of c.in-Some.opening) c.in-Some.inside.now None
    (sym c.in-Some.ensures) (sym c.in_ok-at-in-Some.ensures ∙ ap (seen specifier_tree) c.in-Stuck.is)

pub specifier-returns-in-Found : goal.specifier-returns-in-Found
specifier-returns-in-Found t c =
    specifier_opened c.args.types.now c.args.seen c.args.allowed c.args.tokens.now
    (body c.args.types.now c.args.allowed) (opened_of c.in-Some.opening) c.in-Some.inside.now
    (Some (specifier_tree c.in-Found.specifier, c.in-Found.rest.now))
    (sym c.in-Some.ensures) (sym c.in_ok-at-in-Some.ensures ∙ ap (seen specifier_tree) c.in-Found.is)

pub struct_body-returns-in-Stuck : goal.struct_body-returns-in-Stuck
struct_body-returns-in-Stuck t c =
    let go : List (SpecifierTrees × List DeclaratorTree) → List Token → Option (SpecifierTree × List Token) =
    λ members rest. Some (a_struct c.args.tag (as_members members) c.args.place, rest) in
    read_none go (members_by (member c.args.types.now c.args.allowed) c.args.tokens.now)
    (sym c.in_ok-at.ensures ∙ ap (seen (λ v. map member_tree v.items)) c.in-Stuck.is)

pub struct_body-returns-in-Found : goal.struct_body-returns-in-Found
struct_body-returns-in-Found t c =
    let go : List (SpecifierTrees × List DeclaratorTree) → List Token → Option (SpecifierTree × List Token) =
    λ members rest. Some (a_struct c.args.tag (as_members members) c.args.place, rest) in
    ap (λ s. Some (s, c.in-Found.rest.now)) c.structure.ensures
    ∙ read_some go (members_by (member c.args.types.now c.args.allowed) c.args.tokens.now)
    (map member_tree c.in-Found.members.items) c.in-Found.rest.now
    (sym c.in_ok-at.ensures ∙ ap (seen (λ v. map member_tree v.items)) c.in-Found.is)

pub members-returns-in-Stuck : goal.members-returns-in-Stuck
members-returns-in-Stuck t c =
    let read = member c.args.types.now c.args.allowed in
    let go : SpecifierTrees × List DeclaratorTree → List Token
    → Option (List (SpecifierTrees × List DeclaratorTree) × List Token) =
    λ m rest. until_brace read (length rest) (m ∷ []) rest in
    read_none go (read c.args.tokens.now) (sym c.in_ok-at.ensures ∙ ap (seen member_tree) c.in-Stuck.is)

pub members-returns-in-Found : goal.members-returns-in-Found
members-returns-in-Found t c =
    let read = member c.args.types.now c.args.allowed in
    let go : SpecifierTrees × List DeclaratorTree → List Token
    → Option (List (SpecifierTrees × List DeclaratorTree) × List Token) =
    λ m rest. until_brace read (length rest) (m ∷ []) rest in
    let same = read_some go (read c.args.tokens.now) (member_tree c.in-Found.first) c.in-Found.rest.now
    (sym c.in_ok-at.ensures ∙ ap (seen member_tree) c.in-Found.is) in
    subst (λ (w : Option (List (SpecifierTrees × List DeclaratorTree) × List Token)). IfOk c.further_members.result
    (λ read. seen (λ v. map member_tree v.items) read ≡ w)) same c.further_members.ensures
