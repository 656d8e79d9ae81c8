-- The laws.
use Rattle.std.proofs.Common.{◌≡◌, refl, ap, sym, subst, ◌∙◌, ℕ, ◌+◌, ◌*◌, ◌<◌, ◌≤◌, Bool, true, false, cond, List, []}
use Rattle.std.proofs.Common.{◌∷◌, length, Option, Some, None, arith}
use Rattle.std.specs.Prelude.{pos, find, if◌then◌else◌, int_le, int_lt, Ok, Err}
use Rattle.std.proofs.lemmas.Bool.{and_from, lt-ltb, le-leb}
use Rattle.std.proofs.lemmas.Option.{none-some}
use Rattle.cell_layout.specs.tm_terms.declared.refusals.Limit.{Limit}
use Rattle.cell_layout.specs.tm_terms.declared.refusals.Limit.TheVariants as Limits
use Rattle.cell_layout.specs.tm_cint.declared.Class.TheVariants as Classes
use Rattle.cell_layout.specs.tm_typed.Scopes.{cells_of}
use Rattle.cell_layout.specs.tm_typed.Files.{TypedFileTree}
use Rattle.cell_layout.specs.tm_laid.declared.scales.Scale.{Scale}
use Rattle.cell_layout.specs.tm_laid.declared.scales.Scale.TheVariants as Scales
use Rattle.cell_layout.specs.tm_laid.Layable.{tables_of}
use Rattle.cell_layout.specs.tm_laid.Layouts.{LaidTree, layout_of, object_at, is_exceeded, laid_limits, unless_beyond}
use Rattle.cell_layout.specs.tm_laid.Layouts.{laid_out}
use Rattle.cell_layout.proofs.LimitCounts.{within_large}
use Rattle.cell_types.specs.concrete_values.declared.actions.Next.{Next}
use Rattle.cell_types.specs.concrete_values.Values.{number_of, pointer_of}
use Rattle.cell_types.specs.concrete_values.declared.values.Value.TheVariants.{Number}
use Rattle.cell_types.specs.concrete_values.Pointers.{pointer_in, or_invalid, shifted, element}
use Rattle.concrete_steps.specs.NextAction.{next}
use Rattle.typed_file_laws.proofs.TypedBodies.{bodies_are_well_formed}
use Rattle.typed_file_laws.proofs.MentionFiles.{sites_stand}
use Rattle.next_action_laws.specs.Actions.{Fit, IsProper, IsPlace}
use Rattle.next_action_laws.specs.Laws.{HasLayout, ActionsAreProper, NeverMisfit, PartsStand, ElementsStand}
use Rattle.next_action_laws.proofs.Addresses.{at, pointer_is, part_is}
use Rattle.next_action_laws.proofs.RegularFiles.{bodies_are_regular}
use Rattle.next_action_laws.proofs.WholeBodies.{always_proper, part_place, element_there}

-- ## What is laid out

not_found : (p : Limit → Bool) (a : Limit) (b : Bool) (rest : Option Limit) → cond b (Some a) rest ≡ None → (b ≡ false)
    × (rest ≡ None)
not_found p a true rest e = absurd (none-some a (sym e))
not_found p a false rest e = (refl, e)

-- the layout is that of the file, which does not exceed the number of cells
pub record Comes (file : TypedFileTree) (laid : LaidTree) : Type 0 where
  pub within : is_exceeded Scales.Large file Limits.Cells ≡ false
  pub is : layout_of file ≡ laid

comes_by : (scale : Scale) (file : TypedFileTree) (laid : LaidTree) (o : Option Limit)
    → find (is_exceeded scale file) laid_limits ≡ o → unless_beyond file o ≡ Ok laid → Comes file laid
comes_by scale file laid None e f =
    let p : Limit → Bool = is_exceeded scale file in
    let a = not_found p Limits.Tasks (p Limits.Tasks)
    (find p (Limits.Mutexes ∷ Limits.Paths ∷ Limits.Cells ∷ Limits.Abstract ∷ [])) e in
    let b = not_found p Limits.Mutexes (p Limits.Mutexes) (find p (Limits.Paths ∷ Limits.Cells ∷ Limits.Abstract ∷ []))
    a.1 in
    let c = not_found p Limits.Paths (p Limits.Paths) (find p (Limits.Cells ∷ Limits.Abstract ∷ [])) b.1 in
    let d = not_found p Limits.Cells (p Limits.Cells) (find p (Limits.Abstract ∷ [])) c.1 in
    record { within = within_large scale file Limits.Cells d.0; is = (let q : layout_of file ≡ laid = cc in q) }
comes_by scale file laid (Some l) e f = absurd cc

pub comes_out : (scale : Scale) (file : TypedFileTree) (laid : LaidTree) → laid_out scale file ≡ Ok laid
    → Comes file laid
comes_out scale file laid e = comes_by scale file laid (find (is_exceeded scale file) laid_limits) refl e

pub comes : (file : TypedFileTree) (order : List ℕ) (laid : LaidTree) → HasLayout file order laid → Comes file laid
comes file order laid h = comes_out h.scale file laid h.is

pub layout_is : (file : TypedFileTree) (order : List ℕ) (laid : LaidTree) → HasLayout file order laid
    → layout_of file ≡ laid
layout_is file order laid h = (comes file order laid h).is

-- ## Next actions

pub actions_are_proper : ActionsAreProper
actions_are_proper main items file typed order laid h body lt answers fit =
    let c = comes file order laid h in
    let P : LaidTree → Type 0 = λ l. length l.objects ≤ 4294967296 → body < length l.bodies
    → Fit l (next l body) answers → IsProper l body (next l body answers) in
    subst P c.is
    (λ few lt' fit'. always_proper file order h.layable c.within few (bodies_are_well_formed main items file typed)
    (sites_stand main items file typed) (bodies_are_regular main items file typed) body lt' answers fit')
    h.few lt fit

pub never_misfit : NeverMisfit
never_misfit main items file typed order laid h body lt answers fit e =
    subst (λ (x : Next). IsProper laid body x) e
    (actions_are_proper main items file typed order laid h body lt answers fit)

-- ## Parts and elements

pub parts_stand : PartsStand
parts_stand file order laid h body o k n j c m p t x =
    let d = comes file order laid h in
    let Q : LaidTree → Type 0 = λ l. length l.objects ≤ 4294967296 → IsPlace l body o k n
    → IsPlace l body o (k + c) m in
    let there : IsPlace laid body o (k + c) m =
    subst Q d.is (λ few q. part_place file order h.layable d.within few body o k n j c m q t x) h.few p in
    (part_is laid h.few o k c there.object there.inside, there)

element_at : (laid : LaidTree) → length laid.objects ≤ 4294967296 → (o k l i c : ℕ) → i < l → o < length laid.objects
    → k + i * c ≤ (object_at laid o).cells
    → element laid l c (at o k) (Number (pos i)) ≡ Ok (at o (k + i * c))
unfolding element number_of shifted pointer_of
element_at laid few o k l i c lt there inside =
    ap (λ b. if b then Ok (or_invalid (pointer_in laid o (pos (k + i * c)))) else Err Classes.Index)
    (and_from (int_le (pos 0) (pos i)) (int_lt (pos i) (pos l)) (le-leb 0 i (omega arith)) (lt-ltb i l lt))
    ∙ ap (λ p. Ok (or_invalid p)) (pointer_is laid few o (k + i * c) there inside)

pub elements_stand : ElementsStand
elements_stand file order laid h body o k n e l i p t lt =
    let d = comes file order laid h in
    let c : ℕ = cells_of (tables_of file) e in
    let Q : LaidTree → Type 0 = λ x. length x.objects ≤ 4294967296 → IsPlace x body o k n
    → IsPlace x body o (k + i * c) e in
    let there : IsPlace laid body o (k + i * c) e =
    subst Q d.is (λ few q. element_there file order h.layable d.within few body o k n e l i q t lt) h.few p in
    (element_at laid h.few o k l i c lt there.object there.inside, there)
