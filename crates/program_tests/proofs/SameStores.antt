-- A store over which a pass was made, and the store that it keeps.
use Rattle.std.specs.Prelude.{◌≡◌}
use Rattle.std.specs.FinMap as map
use Rattle.std.specs.FinMap.{get-empty}
use Rattle.std.specs.Ordering.{nat_cmp}
use Rattle.std.proofs.Common.{sym, subst}
use Rattle.tm_lattice.specs.Tables.{IsBelow, IsTableBelow}
use Rattle.pointer_dom.specs.Values.{IsValuesBelow}
use Rattle.interfere_set.specs.Stores.{Interferences, IsNestedBelow, IsStoreBelow, no_interference}
use Rattle.thread_pass.specs.program_equations.Programs.{ProgramBodies}
use Rattle.thread_pass.specs.program_equations.Systems.{FitsProgram}
use Rattle.thread_pass.specs.program_equations.laws.StoresFit.{nothing_fits}

pub empty_fits : (p : ProgramBodies) (store : Interferences) → store ≡ no_interference → FitsProgram p store
empty_fits p store none = subst (FitsProgram p) (sym none) (nothing_fits p.laid p.tasks)

pub same_fits : (p : ProgramBodies) (store kept : Interferences) → kept ≡ store → store ≡ no_interference
    → FitsProgram p kept
same_fits p store kept same none = subst (FitsProgram p) (sym same) (empty_fits p store none)

nested_below : IsNestedBelow map.empty map.empty
nested_below k = subst (λ x. IsBelow (IsTableBelow (IsTableBelow IsValuesBelow)) x x) (sym (get-empty nat_cmp k)) tt

pub same_below : (store kept : Interferences) → kept ≡ store → store ≡ no_interference → IsStoreBelow kept store
same_below store kept same none =
    subst (λ s. IsStoreBelow s store) (sym same)
    (subst (λ s. IsStoreBelow s s) (sym none) (record { weak = nested_below; sync = nested_below }))
