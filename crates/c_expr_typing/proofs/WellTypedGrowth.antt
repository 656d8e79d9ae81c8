-- Well-formed expressions stay so when more is declared.
use Rattle.std.proofs.Common.{◌≡◌, refl, ap, sym, subst, ◌∙◌, ℕ, ◌<◌, Bool, true, false, cond, List, [], ◌∷◌, length, get_or, Some, inl, inr, arith}
use Rattle.std.proofs.lemmas.Bool.{cases_lt}
use Rattle.std.proofs.Math.ListN.{get_or-append, get_or-eq_default}
use Rattle.tm_terms.specs.declared.tokens.Name.{Name}
use Rattle.tm_typed.specs.declared.types.CType.{CType}
use Rattle.tm_typed.specs.declared.types.CType.TheVariants as Types
use Rattle.tm_typed.specs.declared.types.TypeEntry.{TypeEntry}
use Rattle.tm_typed.specs.declared.types.Scalar.{Scalar}
use Rattle.tm_typed.specs.declared.scopes.Member.{Member}
use Rattle.tm_typed.specs.Types.{no_type}
use Rattle.tm_typed.specs.Scopes.{Scope, Structure, entry, ctype_of, structure, is_complete_type}
use Rattle.tm_typed.specs.Scopes.{is_complete, cells_by, cells_of, members_of, member_of, last_declared}
use Rattle.tm_typed.specs.TypedTrees.{RvalueTree, a_constant, a_folded, a_null, a_load, an_address}
use Rattle.tm_typed.specs.TypedTrees.{a_structure, the_same, a_unary, a_binary, a_comparison_of_pointers}
use Rattle.tm_typed.specs.TypedTrees.{a_move, a_not, an_and, an_or, a_choice, an_assignment, a_compound}
use Rattle.tm_typed.specs.TypedTrees.{a_compound_move, a_unit_step, a_pointer_step, a_function_call}
use Rattle.tm_typed.specs.TypedTrees.{an_input_value, a_probe, a_comma, a_conversion, a_discard}
use Rattle.tm_typed.specs.TypedTrees.{LvalueTree, an_object, an_element, a_pointed_element, a_pointed}
use Rattle.tm_typed.specs.TypedTrees.{an_arrow, a_part, RvalueTrees, no_rvalues, and_rvalue, OperandTree}
use Rattle.tm_typed.specs.TypedTrees.{an_lvalue, a_value}
use Rattle.tm_typed.specs.Operands.{scalar_by, scalar_of, kept_sort}
use Rattle.tm_typed.specs.WellTyped.{ValueKind, a_number, a_pointer, kind_of, Context, HasPart, IsRvalue}
use Rattle.tm_typed.specs.WellTyped.{IsLvalue, AreArguments, IsOperand, Extends}

-- ## The tables

-- a type that is not `void` stands in the table
abbrev NotVoid : CType → Type 0
NotVoid Types.Void = ⊥
NotVoid _ = Unit {0}

entry_stays : (v w : Context) → Extends v w → (n : ℕ) → n < length v.scope.types → entry w.scope n ≡ entry v.scope n
entry_stays v w x n h = ap (λ es. get_or es n no_type) x.types ∙ get_or-append v.scope.types x.more no_type n h

in_table : (v : Context) (n : ℕ) → NotVoid (ctype_of v.scope n) → n < length v.scope.types
in_table v n h = elim (cases_lt n (length v.scope.types)) [ inl p ↦ p | inr q ↦ absurd (let P : TypeEntry → Type 0 = λ e. NotVoid e.ctype in subst P (get_or-eq_default v.scope.types no_type q) h) ]

same_entry : (v w : Context) → Extends v w → (n : ℕ) → NotVoid (ctype_of v.scope n) → entry w.scope n ≡ entry v.scope n
same_entry v w x n h = entry_stays v w x n (in_table v n h)

not_void : (c d : CType) → NotVoid d → c ≡ d → NotVoid c
not_void c d h e = let P : CType → Type 0 = λ t. NotVoid t in subst P (sym e) h

type_stays : (v w : Context) → Extends v w → (n : ℕ) (c : CType) → NotVoid c → ctype_of v.scope n ≡ c → ctype_of w.scope n ≡ c
type_stays v w x n c h e = ap (λ (t : TypeEntry). t.ctype) (same_entry v w x n (not_void (ctype_of v.scope n) c h e)) ∙ e

scalar_not_void : (e : TypeEntry) (c : CType) (s : Scalar) → scalar_by e c ≡ Some s → NotVoid c
scalar_not_void e (Types.Int t) s h = tt
scalar_not_void e (Types.Pointer q) s h = tt
scalar_not_void e Types.Void s h = absurd cc
scalar_not_void e (Types.Array a b) s h = tt
scalar_not_void e (Types.Struct k) s h = tt

scalar_stays : (v w : Context) → Extends v w → (n : ℕ) (s : Scalar) → scalar_of v.scope n ≡ Some s → scalar_of w.scope n ≡ Some s
scalar_stays v w x n s h = ap (λ (t : TypeEntry). scalar_by t t.ctype) (same_entry v w x n (scalar_not_void (entry v.scope n) (ctype_of v.scope n) s h)) ∙ h

complete_not_void : (s : Scope) (c : CType) → is_complete_type s c ≡ true → NotVoid c
complete_not_void s (Types.Int t) h = tt
complete_not_void s (Types.Pointer q) h = tt
complete_not_void s Types.Void h = absurd cc
complete_not_void s (Types.Array a b) h = tt
complete_not_void s (Types.Struct k) h = tt

still_complete : (v w : Context) → Extends v w → (c : CType) → is_complete_type v.scope c ≡ true → is_complete_type w.scope c ≡ true
still_complete v w x (Types.Int t) h = refl
still_complete v w x (Types.Pointer q) h = refl
still_complete v w x Types.Void h = absurd cc
still_complete v w x (Types.Array a b) h = refl
still_complete v w x (Types.Struct k) h = ap (λ (s : Structure). s.complete) (x.structures k h) ∙ h

complete_stays : (v w : Context) → Extends v w → (n : ℕ) → is_complete v.scope n ≡ true → is_complete w.scope n ≡ true
complete_stays v w x n h =
    ap (λ (t : TypeEntry). is_complete_type w.scope t.ctype) (same_entry v w x n (complete_not_void v.scope (ctype_of v.scope n) h))
    ∙ still_complete v w x (ctype_of v.scope n) h

same_cells : (v w : Context) → Extends v w → (e : TypeEntry) (c : CType) → is_complete_type v.scope c ≡ true → cells_by w.scope e c ≡ cells_by v.scope e c
same_cells v w x e (Types.Int t) h = refl
same_cells v w x e (Types.Pointer q) h = refl
same_cells v w x e Types.Void h = refl
same_cells v w x e (Types.Array a b) h = refl
same_cells v w x e (Types.Struct k) h = ap (λ (s : Structure). s.cells) (x.structures k h)

cells_stay : (v w : Context) → Extends v w → (n : ℕ) → is_complete v.scope n ≡ true → cells_of w.scope n ≡ cells_of v.scope n
cells_stay v w x n h =
    ap (λ (t : TypeEntry). cells_by w.scope t t.ctype) (same_entry v w x n (complete_not_void v.scope (ctype_of v.scope n) h))
    ∙ same_cells v w x (entry v.scope n) (ctype_of v.scope n) h

-- a structure of which a member can be named is complete
is_complete_where : (b : Bool) (ms : List Member) (n : Name) (m : Member) → last_declared (λ d. d.name) n (cond b ms []) ≡ Some m → b ≡ true
is_complete_where true ms n m h = refl
is_complete_where false ms n m h = absurd cc

member_stays : (v w : Context) → Extends v w → (k : ℕ) (n : Name) (m : Member) → member_of v.scope k n ≡ Some m → member_of w.scope k n ≡ Some m
member_stays v w x k n m h =
    ap (λ s. last_declared (λ d. d.name) n (members_of s)) (x.structures k (is_complete_where (structure v.scope k).complete (structure v.scope k).members n m h)) ∙ h

part_stays : (v w : Context) → Extends v w → (k c n : ℕ) → HasPart v.scope k c n → HasPart w.scope k c n
part_stays v w x k c n h = record { name = h.name; member = h.member; found = member_stays v w x k h.name h.member h.found; cell = h.cell; type = h.type }

more_mutexes : (v w : Context) → Extends v w → (m : ℕ) → m < v.mutexes → m < w.mutexes
more_mutexes v w x m below = omega (arith, below, x.mutexes)

-- ## The trees

mutual
  pub rvalue_stays : (v w : Context) → Extends v w → (k : ValueKind) (e : RvalueTree) → IsRvalue v k e → IsRvalue w k e
  rvalue_stays v w x k (a_constant t z p) h = h
  rvalue_stays v w x k (a_folded z e) h = (h.0, h.1, rvalue_stays v w x _ e h.2)
  rvalue_stays v w x k (a_null p) h = h
  rvalue_stays v w x k (a_load s b l) h = (h.0, scalar_stays v w x h.0 s h.1, h.2, lvalue_stays v w x h.0 l h.3)
  rvalue_stays v w x k (an_address l p) h = (h.0, h.1, lvalue_stays v w x h.0 l h.2)
  rvalue_stays v w x k (a_structure l) h = (h.0, h.1, lvalue_stays v w x h.0 l h.2)
  rvalue_stays v w x k (the_same e p) h = rvalue_stays v w x k e h
  rvalue_stays v w x k (a_unary o t e p) h = (h.0, rvalue_stays v w x (a_number t) e h.1)
  rvalue_stays v w x k (a_binary op t l r p) h = (h.0, h.1, h.2, rvalue_stays v w x (a_number t) l h.3, rvalue_stays v w x (a_number h.0) r h.4)
  rvalue_stays v w x k (a_comparison_of_pointers b l r p) h = (h.0, rvalue_stays v w x a_pointer l h.1, rvalue_stays v w x a_pointer r h.2)
  rvalue_stays v w x k (a_move m c f e i p) h = (h.0, h.1, rvalue_stays v w x a_pointer e h.2, rvalue_stays v w x (a_number h.0) i h.3)
  rvalue_stays v w x k (a_not e p) h = (h.0, h.1, h.2, rvalue_stays v w x h.0 e h.3)
  rvalue_stays v w x k (an_and l r p) h = (h.0, h.1, h.2, h.3, h.4, rvalue_stays v w x h.0 l h.5, rvalue_stays v w x h.1 r h.6)
  rvalue_stays v w x k (an_or l r p) h = (h.0, h.1, h.2, h.3, h.4, rvalue_stays v w x h.0 l h.5, rvalue_stays v w x h.1 r h.6)
  rvalue_stays v w x k (a_choice c a b p) h = (h.0, h.1, rvalue_stays v w x h.0 c h.2, rvalue_stays v w x k a h.3, rvalue_stays v w x k b h.4)
  rvalue_stays v w x k (an_assignment s l e p) h = (h.0, scalar_stays v w x h.0 s h.1, h.2, lvalue_stays v w x h.0 l h.3, rvalue_stays v w x k e h.4)
  rvalue_stays v w x k (a_compound o c t b l e p) h = (h.0, h.1, scalar_stays v w x h.0 _ h.2, h.3, h.4, lvalue_stays v w x h.0 l h.5, rvalue_stays v w x (a_number h.1) e h.6)
  rvalue_stays v w x k (a_compound_move m c class l e p) h = (h.0, h.1, scalar_stays v w x h.0 _ h.2, h.3, lvalue_stays v w x h.0 l h.4, rvalue_stays v w x (a_number h.1) e h.5)
  rvalue_stays v w x k (a_unit_step s c t b l p) h = (h.0, scalar_stays v w x h.0 _ h.1, h.2, lvalue_stays v w x h.0 l h.3)
  rvalue_stays v w x k (a_pointer_step s c class l p) h = (h.0, scalar_stays v w x h.0 _ h.1, h.2, lvalue_stays v w x h.0 l h.3)
  rvalue_stays v w x k (a_function_call f s es p) h =
      let g = x.functions f h.0 h.1 in
      let result : ctype_of w.scope g.0.result ≡ ctype_of v.scope h.0.result = ap (λ n. ctype_of w.scope n) (sym g.2.result) ∙ ap (λ (t : TypeEntry). t.ctype) (entry_stays v w x h.0.result (x.results f h.0 h.1)) in
      let P : List ℕ → Type 0 = λ ns. AreArguments w ns es in
      (g.0, g.1, h.2 ∙ ap (λ c. kind_of (kept_sort c)) (sym result), subst P g.2.parameters (arguments_stay v w x h.0.parameters es h.3))
  rvalue_stays v w x k (an_input_value low high p) h = h
  rvalue_stays v w x k (a_probe m p) h = (h.0, more_mutexes v w x m h.1)
  rvalue_stays v w x k (a_comma l r p) h = (h.0, rvalue_stays v w x h.0 l h.1, rvalue_stays v w x k r h.2)
  rvalue_stays v w x k (a_conversion f t e p) h = (h.0, rvalue_stays v w x (a_number f) e h.1)
  rvalue_stays v w x k (a_discard e p) h = (h.0, h.1, rvalue_stays v w x h.0 e h.2)

  pub lvalue_stays : (v w : Context) → Extends v w → (n : ℕ) (l : LvalueTree) → IsLvalue v n l → IsLvalue w n l
  lvalue_stays v w x n (an_object o p) h = x.objects o n h
  lvalue_stays v w x n (an_element l i m c p) h =
      (h.0, h.1, type_stays v w x h.0 (Types.Array n m) tt h.2, complete_stays v w x n h.3, h.4 ∙ sym (cells_stay v w x n h.3), lvalue_stays v w x h.0 l h.5, rvalue_stays v w x (a_number h.1) i h.6)
  lvalue_stays v w x n (a_pointed_element e i c m p) h =
      (h.0, h.1, complete_stays v w x n h.2, h.3 ∙ sym (cells_stay v w x n h.2), rvalue_stays v w x a_pointer e h.4, rvalue_stays v w x (a_number h.0) i h.5)
  lvalue_stays v w x n (a_pointed e m p) h = (h.0, complete_stays v w x n h.1, rvalue_stays v w x a_pointer e h.2)
  lvalue_stays v w x n (an_arrow e m c p) h = (h.0, type_stays v w x m (Types.Struct h.0) tt h.1, part_stays v w x h.0 c n h.2, rvalue_stays v w x a_pointer e h.3)
  lvalue_stays v w x n (a_part l c p) h = (h.0, h.1, type_stays v w x h.0 (Types.Struct h.1) tt h.2, part_stays v w x h.1 c n h.3, lvalue_stays v w x h.0 l h.4)

  pub arguments_stay : (v w : Context) → Extends v w → (ns : List ℕ) (es : RvalueTrees) → AreArguments v ns es → AreArguments w ns es
  arguments_stay v w x [] no_rvalues h = tt
  arguments_stay v w x (n ∷ ns) (and_rvalue e es) h = (h.0, scalar_stays v w x n h.0 h.1, rvalue_stays v w x _ e h.2, arguments_stay v w x ns es h.3)
  arguments_stay v w x [] (and_rvalue e es) h = absurd h
  arguments_stay v w x (n ∷ ns) no_rvalues h = absurd h

pub operand_stays : (v w : Context) → Extends v w → (o : OperandTree) → IsOperand v o → IsOperand w o
operand_stays v w x (an_lvalue l q) h = lvalue_stays v w x q.number l h
operand_stays v w x (a_value r) h = (rvalue_stays v w x (kind_of r.sort) r.value h.0, h.1)
