-- The keys of members: a structure and a name.
use Rattle.std.specs.Prelude.{ℕ, Bool, cond, ◌&&◌, ◌==◌, List, Option}
use Rattle.tm_terms.specs.Names.{is_same_name}
use Rattle.tm_typed.specs.declared.scopes.Member.{Member}
use Rattle.tm_typed.specs.Scopes.{or_else, last_declared}
use Rattle.c_scope.specs.declared.structures.MemberKey.{MemberKey}

abbrev pub is_same_key : MemberKey → MemberKey → Bool
is_same_key a b = (a.structure == b.structure) && is_same_name a.name b.name

-- what is found by a key once these members of a structure are
abbrev pub with_members : ℕ → List Member → MemberKey → Option Member → Option Member
with_members structure members k before =
    cond (k.structure == structure) (or_else (last_declared (λ m. m.name) k.name members) before) before
