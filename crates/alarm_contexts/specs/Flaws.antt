-- What is wrong with pointers, where an operation follows or moves them.
--
-- In
--     int w[4];int *p;
--     __task(1) void a(void){int *q=w+__input(0,4);p=q+1;*q=0;}
-- the pointer q leads to w, at 0 to 4. Where it is moved by one at 2:49, it may come to stand behind w. Where it is
-- followed at 2:52, no int stands at the offset 4.
use Rattle.std.specs.Prelude.{◌≡◌, ℕ, false, not, ℤ, pos, ◌<ℤ◌, List, get_or}
use Rattle.strided_dom.specs.Progression.{Progression, Has}
use Rattle.strided_dom.specs.Combinations.{IsProduct}
use Rattle.pointer_dom.specs.OffsetSets.{OffsetSet}
use Rattle.pointer_dom.specs.PointerSets.{offsets_at}
use Rattle.pointer_dom.specs.Advances.{IsAdvanced, directed}
use Rattle.pointer_dom.specs.Values.{Values, no_value}
use Rattle.tm_laid.specs.Layouts.{LaidTree, is_alive, stands_at}
use Rattle.flow_graph.specs.declared.operations.Operation.{Operation}
use Rattle.flow_graph.specs.declared.operations.Operation.TheVariants as Op
use Rattle.alarm_contexts.specs.declared.flaws.Flaw.{Flaw}
use Rattle.alarm_contexts.specs.declared.flaws.Flaw.TheVariants as Flaws
use Rattle.alarm_contexts.specs.declared.flaws.ObjectFlaw.{ObjectFlaw}

-- ## Pointers to one object

-- one of the offsets has the property P
pub record HasOffset (P : ℕ → Type 0) (o : OffsetSet) : Type 0 where
  pub offset : ℕ
  pub member : Has o.offsets (pos offset)
  pub has : P offset

-- one of the offsets, advanced by a step, has the property P
pub record HasAdvanced (P : ℤ → Type 0) (Step : ℤ → Type 0) (o : OffsetSet) : Type 0 where
  pub reached : ℤ
  pub advanced : IsAdvanced Step o.offsets reached
  pub has : P reached

-- of pointers that are followed to a type: the object is not alive, or the type does not stand at some offset
abbrev pub IsWrongToFollow : (ℕ → Type 0) → Type 0 → OffsetSet → Flaw → Type 0
IsWrongToFollow Unfit Dead o Flaws.Gone = HasOffset (λ offset. Dead) o
IsWrongToFollow Unfit Dead o Flaws.Offset = HasOffset Unfit o
IsWrongToFollow Unfit Dead o Flaws.Before = ⊥
IsWrongToFollow Unfit Dead o Flaws.Behind = ⊥

-- of pointers that are moved by these steps: one comes to stand before the object, or behind its end
abbrev pub IsWrongToMove : (ℤ → Type 0) → OffsetSet → Flaw → Type 0
IsWrongToMove Step o Flaws.Gone = ⊥
IsWrongToMove Step o Flaws.Offset = ⊥
IsWrongToMove Step o Flaws.Before = HasAdvanced (λ v. v <ℤ pos 0) Step o
IsWrongToMove Step o Flaws.Behind = HasAdvanced (λ v. pos o.size <ℤ v) Step o

-- ## Operations

-- of pointers to an object, at these offsets, that the operation follows or moves; it moves by so many elements
unfoldable pub IsWrong : LaidTree → Operation → Progression → ℕ → OffsetSet → Flaw → Type 0
IsWrong laid (Op.Deref to from target path place) counts object o flaw =
    IsWrongToFollow (λ offset. stands_at laid object offset target ≡ false) (is_alive laid path object ≡ false) o flaw
IsWrong laid (Op.Move to from cells minus by place) counts object o flaw =
    IsWrongToMove (IsProduct counts (directed (not minus) cells)) o flaw
IsWrong laid operation counts object o flaw = ⊥

-- of the pointers to an object that are the first of these operands, where a number of elements is the second
abbrev pub HasFlaw : LaidTree → Operation → List Values → ObjectFlaw → Type 0
HasFlaw laid operation operands f =
    let pointer = get_or operands 0 no_value in
    let count = get_or operands 1 no_value in
    IsWrong laid operation count.numbers f.object (offsets_at pointer.pointers f.object) f.flaw
