use Rattle.std.proofs.Common.{◌≡◌, ◌≤◌, ◌<◌, ◌∷◌, [], refl, ap, sym, ℕ, suc, List, length, get_or, false, arith}
use Rattle.tm_typed.specs.declared.scopes.Member.{Member}
use Rattle.tm_typed.specs.TypedFiles.{typed_file_tree}
use Rattle.cell_layout.proofs.CoreSteps.{same_element, same_member}
use Rattle.cell_layout.proofs.cores.only_part.Goals as goal

absent : Member
absent = record { name = record { start = 0; length = 0 }; part = record { of = record { number = 0; constant = false; volatile = false }; cell = 0 } }

alone : (ms : List Member) → 1 ≤ length ms → length ms < 2 → ms ≡ get_or ms 0 absent ∷ []
alone [] a b = absurd (omega (arith, a))
alone (m ∷ []) a b = refl
alone (m ∷ n ∷ ms) a b = absurd (omega (arith, b))

pub returns-then-length-eq1 : goal.returns-then-length-eq1
returns-then-length-eq1 c =
    same_element (typed_file_tree c.args.file.now) c.args.file.now.order.items c.requires.layable c.args.number c.in-Array.element c.in-Array.length (sym c.in-Array.ensures) c.if-length-eq1.true

pub returns-in-len1 : goal.returns-in-len1
unfolding absent
returns-in-len1 c =
    same_member (typed_file_tree c.args.file.now) c.args.file.now.order.items c.requires.layable c.args.number c.in-Struct.k (get_or c.members_of.result.now 0 absent) c.members_of.result.now
    (sym c.in-Struct.ensures) c.members_of.ensures
    (alone c.members_of.result.now (let a = c.in-len1.len_at_least in omega (arith, a)) (let b = c.in-len1.len_below in omega (arith, b)))
