-- Expressions as the code builds them are those of the table.
use Rattle.std.proofs.Common.{◌≡◌, ℕ, pos, Bool, true, false, [], ◌∷◌, refl, ap, ◌∙◌}
use Rattle.std.specs.Prelude.{Option, Some, None, if◌then◌else◌}
use Rattle.tm_cint.specs.declared.int_types.IntType.{IntType}
use Rattle.tm_cint.specs.declared.int_types.IntType.TheVariants as Ints
use Rattle.tm_cint.specs.declared.operators.BinOp.{BinOp}
use Rattle.tm_terms.specs.declared.places.Place.{Place}
use Rattle.tm_typed.specs.declared.types.Scalar.{Scalar}
use Rattle.tm_typed.specs.declared.types.Scalar.TheVariants as Scalars
use Rattle.tm_typed.specs.Rules.{is_comparison}
use Rattle.tm_typed.specs.TypedTrees.{RvalueTree, a_constant, a_folded, a_null, a_load, an_address}
use Rattle.tm_typed.specs.TypedTrees.{a_structure}
use Rattle.tm_typed.specs.TypedTrees.{the_same, a_unary, a_binary, a_comparison_of_pointers, a_move, a_not}
use Rattle.tm_typed.specs.TypedTrees.{an_and}
use Rattle.tm_typed.specs.TypedTrees.{an_or, a_choice, an_assignment, a_compound, a_compound_move, a_unit_step}
use Rattle.tm_typed.specs.TypedTrees.{a_pointer_step, a_function_call, an_input_value, a_probe, a_comma}
use Rattle.tm_typed.specs.TypedTrees.{a_conversion}
use Rattle.tm_typed.specs.TypedTrees.{a_discard, LvalueTree, an_object, an_element, a_pointed_element}
use Rattle.tm_typed.specs.TypedTrees.{a_pointed}
use Rattle.tm_typed.specs.TypedTrees.{an_arrow, a_part, RvalueTrees, no_rvalues, and_rvalue, lvalue_place}
use Rattle.tm_laid.specs.Layouts.{LaidTree}
use Rattle.concrete_values.specs.declared.values.Value.TheVariants.{Number, Pointer as APointer}
use Rattle.concrete_values.specs.declared.values.Pointer.TheVariants as Pointers
use Rattle.flow_graph.specs.declared.operations.Into.{Into}
use Rattle.flow_graph.specs.declared.operations.Operation.TheVariants as Op
use Rattle.lowering.specs.concrete_steps.Places.{rvalue_place, is_pointer_scalar, gives_pointer}
use Rattle.lowering.specs.concrete_steps.NextAction.{step_operator}
use Rattle.lowering.specs.Steps.{no_more, first_then, operate, value_of, only_do, Inputs, Code, code, Fork}
use Rattle.lowering.specs.Steps.{converse, both_of, either_of}
use Rattle.lowering.specs.Table.{Conversion, conversion, implied, is_same_place, has_value, call_has_value, into}
use Rattle.lowering.specs.Table.{Codes, codes, valued, decided, operation, binary_codes, binary_code, pointers_codes}
use Rattle.lowering.specs.Table.{move_code, load_code, choice_code, comma_code, assignment_code, changed_steps}
use Rattle.lowering.specs.Table.{changed_at, compound_with, unit_step_with, moved_code}
use Rattle.lowering.specs.Table.{converted_code, call_code, address_code, inputs}
use Rattle.lowering.specs.Built.{at, Building, goto, temp_of, AfterPart, Forked, AfterSteps, Sites, steps_piece}
use Rattle.lowering.specs.Built.{inputs_piece, code_piece, fork_piece}
use Rattle.body_builder.specs.declared.fragments.Wanted.{Wanted}
use Rattle.body_builder.specs.declared.fragments.Wanted.TheVariants as Want
use Rattle.body_builder.specs.Fragments.{calls_on, IsPart, IsForked}
use Rattle.body_builder.specs.reading.Expressions.{Listed, ends, ends_fork, ends_new}
use Rattle.body_builder.specs.Placing.{Outcome, Given, tested, new_value}
use Rattle.body_builder.specs.reading.Expressions.{converted, operator_ends, binary_ends, pointers_ends, loaded, stored}
use Rattle.body_builder.specs.reading.Expressions.{changed, compound_ends, unit_step_ends, moved_stored}
use Rattle.body_builder.specs.reading.Expressions.{compound_move_ends, pointer_step_ends, copied_if, choice_ends}
use Rattle.body_builder.specs.reading.Expressions.{both_meet, either_meet, conversion_ends, call_ends, temp_if}
use Rattle.body_builder.specs.reading.Expressions.{value_at, address_at, values_at}

abbrev as_value : AfterPart → Outcome
as_value x = record { at = x.at; temp = x.temp; other = 0 }

abbrev as_fork : Forked → Outcome
as_fork o = record { at = o.at; temp = None; other = o.other }

abbrev as_part : Given → AfterPart
as_part g = record { at = g.at; temp = Some g.temp }

abbrev as_steps : Listed → AfterSteps
as_steps l = record { at = l.at; temps = l.temps }

-- what an expression is lowered to, as it is wanted
abbrev pub built_as : Sites → Codes → Wanted → Building → Outcome
built_as call c Want.Value b = as_value (code_piece call c.value b)
built_as call c Want.Bare b = as_value (code_piece call c.bare b)
built_as call c Want.Branch b = as_fork (fork_piece call c.fork b)

module _ (call : Sites) where
  ends_law : (w : Wanted) (pointer : Bool) (p : Place) (c : Code) (b : Building)
      → ends w pointer p (code_piece call c b).temp (code_piece call c b).at ≡ built_as call (valued pointer p c) w b
  unfolding ends tested
  ends_law Want.Value false p c b = refl
  ends_law Want.Value true p c b = refl
  ends_law Want.Bare false p c b = refl
  ends_law Want.Bare true p c b = refl
  ends_law Want.Branch false p c b = refl
  ends_law Want.Branch true p c b = refl

  decided_law : (w : Wanted) (f : Fork) (b : Building)
      → ends_fork w (fork_piece call f b).other (fork_piece call f b).at ≡ built_as call (decided f) w b
  unfolding ends_fork
  decided_law Want.Value f b = refl
  decided_law Want.Bare f b = refl
  decided_law Want.Branch f b = refl

  load_law : (w : Wanted) (pointer volatile : Bool) (s : Scalar) (p : Place) (k : Code) (b : Building)
      → (let y = code_piece call k b in
      let u = loaded volatile s p (temp_of y.temp) y.at in
      ends w pointer p (Some u.temp) u.at) ≡ built_as call (valued pointer p (load_code volatile s p k)) w b
  unfolding new_value
  load_law w pointer false s p k b = ends_law w pointer p (load_code false s p k) b
  load_law w pointer true s p k b = ends_law w pointer p (load_code true s p k) b

  binary_law : (comparison : Bool) (w : Wanted) (op : BinOp) (of : IntType) (p : Place) (l : Code) (cl : Conversion)
      (r : Code) (cr : Conversion) (b : Building)
      → (let x = code_piece call l b in
      let y = code_piece call r x.at in
      let u = converted cl (temp_of x.temp) y.at in
      let v = converted cr (temp_of y.temp) u.at in
      operator_ends comparison w op of p u.temp v.temp v.at)
      ≡ built_as call (binary_codes comparison op of p l cl r cr) w b
  unfolding new_value converted operator_ends ends tested
  binary_law true Want.Value op of p l None r None b = refl
  binary_law true Want.Bare op of p l None r None b = refl
  binary_law true Want.Branch op of p l None r None b = refl
  binary_law false w op of p l None r None b = ends_law w false p (binary_code op of p l None r None) b
  binary_law true Want.Value op of p l None r (Some d) b = refl
  binary_law true Want.Bare op of p l None r (Some d) b = refl
  binary_law true Want.Branch op of p l None r (Some d) b = refl
  binary_law false w op of p l None r (Some d) b = ends_law w false p (binary_code op of p l None r (Some d)) b
  binary_law true Want.Value op of p l (Some c) r None b = refl
  binary_law true Want.Bare op of p l (Some c) r None b = refl
  binary_law true Want.Branch op of p l (Some c) r None b = refl
  binary_law false w op of p l (Some c) r None b = ends_law w false p (binary_code op of p l (Some c) r None) b
  binary_law true Want.Value op of p l (Some c) r (Some d) b = refl
  binary_law true Want.Bare op of p l (Some c) r (Some d) b = refl
  binary_law true Want.Branch op of p l (Some c) r (Some d) b = refl
  binary_law false w op of p l (Some c) r (Some d) b = ends_law w false p (binary_code op of p l (Some c) r (Some d)) b

  pointers_law : (w : Wanted) (equal : Bool) (p : Place) (l r : Code) (b : Building)
      → (let x = code_piece call l b in
      let y = code_piece call r x.at in
      pointers_ends w equal p (temp_of x.temp) (temp_of y.temp) y.at)
      ≡ built_as call (pointers_codes equal p l r) w b
  unfolding new_value pointers_ends ends tested
  pointers_law Want.Value equal p l r b = refl
  pointers_law Want.Bare equal p l r b = refl
  pointers_law Want.Branch equal p l r b = refl

  choice_law : (w : Wanted) (has pointer : Bool) (p : Place) (f : Fork) (k m : Code) (b : Building)
      → (let o = fork_piece call f b in
      let u = code_piece call k o.at in
      let z = copied_if has (temp_of u.temp) u.at in
      let v = code_piece call m (goto o.other z) in
      choice_ends w has pointer p z.node u.at.temps (temp_of v.temp) v.at)
      ≡ built_as call (valued pointer p (choice_code has f k m)) w b
  unfolding new_value copied_if choice_ends
  choice_law w true pointer p f k m b = ends_law w pointer p (choice_code true f k m) b
  choice_law w false pointer p f k m b = ends_law w pointer p (choice_code false f k m) b

  record IsChanged (s : AfterSteps) (g : Given) (k x : ℕ) : Type 0 where
    pub built : g.at ≡ s.at
    pub temp : g.temp ≡ at s.temps k
    pub held : x ≡ at s.temps 1

  changed_law : (cx cy back : Conversion) (op : BinOp) (cell of : IntType) (i : Into) (p : Place) (a x y : ℕ)
      (b : Building)
      → IsChanged (steps_piece call (changed_steps cx cy back op cell of i p) (a ∷ x ∷ y ∷ []) b)
      (changed cx cy back op cell of i p a x y b) (changed_at cx cy back) x
  unfolding new_value converted changed
  changed_law None None None op cell of i p a x y b = record { built = refl; temp = refl; held = refl }
  changed_law None None (Some f) op cell of i p a x y b = record { built = refl; temp = refl; held = refl }
  changed_law None (Some d) None op cell of i p a x y b = record { built = refl; temp = refl; held = refl }
  changed_law None (Some d) (Some f) op cell of i p a x y b = record { built = refl; temp = refl; held = refl }
  changed_law (Some c) None None op cell of i p a x y b = record { built = refl; temp = refl; held = refl }
  changed_law (Some c) None (Some f) op cell of i p a x y b = record { built = refl; temp = refl; held = refl }
  changed_law (Some c) (Some d) None op cell of i p a x y b = record { built = refl; temp = refl; held = refl }
  changed_law (Some c) (Some d) (Some f) op cell of i p a x y b = record { built = refl; temp = refl; held = refl }

  compound_law : (w : Wanted) (cx back : Conversion) (op : BinOp) (cell of : IntType) (volatile : Bool) (i : Into)
      (q p : Place) (k e : Code) (ce : Conversion) (b : Building)
      → (let a = code_piece call k b in
      let v = loaded volatile (Scalars.Int cell) q (temp_of a.temp) a.at in
      let x = code_piece call e v.at in
      let r = changed cx ce back op cell of i p (temp_of a.temp) v.temp (temp_of x.temp) x.at in
      ends w false p (Some r.temp) r.at)
      ≡ built_as call (valued false p (compound_with cx back op cell of volatile i q p k e ce)) w b
  unfolding new_value
  compound_law w cx back op cell of false i q p k e ce b =
      let a = code_piece call k b in
      let v = loaded false (Scalars.Int cell) q (temp_of a.temp) a.at in
      let x = code_piece call e v.at in
      let s = steps_piece call (changed_steps cx ce back op cell of i p) (temp_of a.temp ∷ v.temp ∷ temp_of x.temp ∷ [])
      x.at in
      let h = changed_law cx ce back op cell of i p (temp_of a.temp) v.temp (temp_of x.temp) x.at in
      ap (λ (z : Building). ends w false p (Some (changed cx ce back op cell of i p (temp_of a.temp) v.temp
      (temp_of x.temp) x.at).temp) z) h.built
      ∙ (ap (λ t. ends w false p (Some t) s.at) h.temp
      ∙ ends_law w false p (compound_with cx back op cell of false i q p k e ce) b)
  compound_law w cx back op cell of true i q p k e ce b =
      let a = code_piece call k b in
      let v = loaded true (Scalars.Int cell) q (temp_of a.temp) a.at in
      let x = code_piece call e v.at in
      let s = steps_piece call (changed_steps cx ce back op cell of i p) (temp_of a.temp ∷ v.temp ∷ temp_of x.temp ∷ [])
      x.at in
      let h = changed_law cx ce back op cell of i p (temp_of a.temp) v.temp (temp_of x.temp) x.at in
      ap (λ (z : Building). ends w false p (Some (changed cx ce back op cell of i p (temp_of a.temp) v.temp
      (temp_of x.temp) x.at).temp) z) h.built
      ∙ (ap (λ t. ends w false p (Some t) s.at) h.temp
      ∙ ends_law w false p (compound_with cx back op cell of true i q p k e ce) b)

  unit_step_law : (w : Wanted) (cx c1 back : Conversion) (op : BinOp) (postfix : Bool) (cell of : IntType)
      (volatile : Bool) (i : Into) (q p : Place) (k : Code) (b : Building)
      → (let a = code_piece call k b in
      let v = loaded volatile (Scalars.Int cell) q (temp_of a.temp) a.at in
      let one = new_value (Op.Const v.at.temps (Number (pos 1))) v.at in
      let r = changed cx c1 back op cell of i p (temp_of a.temp) v.temp one.temp one.at in
      ends w false p (Some (if postfix then v.temp else r.temp)) r.at)
      ≡ built_as call (valued false p (unit_step_with cx c1 back op postfix cell of volatile i q p k)) w b
  unfolding new_value
  unit_step_law w cx c1 back op false cell of false i q p k b =
      let a = code_piece call k b in
      let v = loaded false (Scalars.Int cell) q (temp_of a.temp) a.at in
      let one = new_value (Op.Const v.at.temps (Number (pos 1))) v.at in
      let s = steps_piece call (changed_steps cx c1 back op cell of i p) (temp_of a.temp ∷ v.temp ∷ one.temp ∷ []) one.at in
      let r = changed cx c1 back op cell of i p (temp_of a.temp) v.temp one.temp one.at in
      let h = changed_law cx c1 back op cell of i p (temp_of a.temp) v.temp one.temp one.at in
      ap (λ (z : Building). ends w false p (Some r.temp) z) h.built
      ∙ (ap (λ t. ends w false p (Some t) s.at) h.temp
      ∙ ends_law w false p (unit_step_with cx c1 back op false cell of false i q p k) b)
  unit_step_law w cx c1 back op true cell of false i q p k b =
      let a = code_piece call k b in
      let v = loaded false (Scalars.Int cell) q (temp_of a.temp) a.at in
      let one = new_value (Op.Const v.at.temps (Number (pos 1))) v.at in
      let s = steps_piece call (changed_steps cx c1 back op cell of i p) (temp_of a.temp ∷ v.temp ∷ one.temp ∷ []) one.at in
      let r = changed cx c1 back op cell of i p (temp_of a.temp) v.temp one.temp one.at in
      let h = changed_law cx c1 back op cell of i p (temp_of a.temp) v.temp one.temp one.at in
      ap (λ (z : Building). ends w false p (Some v.temp) z) h.built
      ∙ (ap (λ t. ends w false p (Some t) s.at) h.held
      ∙ ends_law w false p (unit_step_with cx c1 back op true cell of false i q p k) b)
  unit_step_law w cx c1 back op false cell of true i q p k b =
      let a = code_piece call k b in
      let v = loaded true (Scalars.Int cell) q (temp_of a.temp) a.at in
      let one = new_value (Op.Const v.at.temps (Number (pos 1))) v.at in
      let s = steps_piece call (changed_steps cx c1 back op cell of i p) (temp_of a.temp ∷ v.temp ∷ one.temp ∷ []) one.at in
      let r = changed cx c1 back op cell of i p (temp_of a.temp) v.temp one.temp one.at in
      let h = changed_law cx c1 back op cell of i p (temp_of a.temp) v.temp one.temp one.at in
      ap (λ (z : Building). ends w false p (Some r.temp) z) h.built
      ∙ (ap (λ t. ends w false p (Some t) s.at) h.temp
      ∙ ends_law w false p (unit_step_with cx c1 back op false cell of true i q p k) b)
  unit_step_law w cx c1 back op true cell of true i q p k b =
      let a = code_piece call k b in
      let v = loaded true (Scalars.Int cell) q (temp_of a.temp) a.at in
      let one = new_value (Op.Const v.at.temps (Number (pos 1))) v.at in
      let s = steps_piece call (changed_steps cx c1 back op cell of i p) (temp_of a.temp ∷ v.temp ∷ one.temp ∷ []) one.at in
      let r = changed cx c1 back op cell of i p (temp_of a.temp) v.temp one.temp one.at in
      let h = changed_law cx c1 back op cell of i p (temp_of a.temp) v.temp one.temp one.at in
      ap (λ (z : Building). ends w false p (Some v.temp) z) h.built
      ∙ (ap (λ t. ends w false p (Some t) s.at) h.held
      ∙ ends_law w false p (unit_step_with cx c1 back op true cell of true i q p k) b)

  pointer_step_law : (w : Wanted) (postfix minus : Bool) (cells class : ℕ) (i : Into) (q p : Place) (k : Code)
      (b : Building)
      → (let a = code_piece call k b in
      let v = loaded false (Scalars.Pointer class) q (temp_of a.temp) a.at in
      pointer_step_ends w postfix minus cells class i p (temp_of a.temp) v.temp v.at)
      ≡ built_as call (valued true p (moved_code minus cells class i q p k
      (operate (Op.Const 0 (Number (pos 1)))) (if postfix then 1 else 3))) w b
  unfolding new_value pointer_step_ends moved_stored
  pointer_step_law w false minus cells class i q p k b = ends_law w true p
      (moved_code minus cells class i q p k (operate (Op.Const 0 (Number (pos 1)))) 3) b
  pointer_step_law w true minus cells class i q p k b = ends_law w true p
      (moved_code minus cells class i q p k (operate (Op.Const 0 (Number (pos 1)))) 1) b

  comma_law : (w : Wanted) (has pointer : Bool) (p : Place) (l r : Code) (b : Building)
      → (let x = code_piece call l b in
      let y = code_piece call r x.at in
      ends w pointer p (temp_if has (temp_of y.temp)) y.at)
      ≡ built_as call (valued pointer p (comma_code has l r)) w b
  comma_law w true pointer p l r b = ends_law w pointer p (comma_code true l r) b
  comma_law w false pointer p l r b = ends_law w pointer p (comma_code false l r) b

  call_law : (w : Wanted) (has pointer : Bool) (site : ℕ) (p : Place) (es : Inputs) (b : Building)
      → (let s = inputs_piece call es b in
      let x = call site s.temps p s.at in
      ends w pointer p (temp_if has (temp_of x.temp)) x.at)
      ≡ built_as call (valued pointer p (call_code has site p es)) w b
  call_law w true pointer site p es b = ends_law w pointer p (call_code true site p es) b
  call_law w false pointer site p es b = ends_law w pointer p (call_code false site p es) b

  conversion_law : (w : Wanted) (same : Bool) (p : Place) (c : Conversion) (k : Code) (b : Building)
      → conversion_ends w same p c (code_piece call k b).temp (code_piece call k b).at
      ≡ built_as call (record (valued false p (converted_code c k)) { bare = if same then k else converted_code c k }) w b
  unfolding new_value converted conversion_ends ends tested
  conversion_law Want.Value false p None k b = refl
  conversion_law Want.Bare false p None k b = refl
  conversion_law Want.Branch false p None k b = refl
  conversion_law Want.Value false p (Some c) k b = refl
  conversion_law Want.Bare false p (Some c) k b = refl
  conversion_law Want.Branch false p (Some c) k b = refl
  conversion_law Want.Value true p None k b = refl
  conversion_law Want.Bare true p None k b = refl
  conversion_law Want.Branch true p None k b = refl
  conversion_law Want.Value true p (Some c) k b = refl
  conversion_law Want.Bare true p (Some c) k b = refl
  conversion_law Want.Branch true p (Some c) k b = refl

module _ (laid : LaidTree) (depth path : ℕ) where
  abbrev call : Sites
  call = calls_on laid depth path

  mutual
    unfolding new_value binary_ends stored compound_ends unit_step_ends compound_move_ends moved_stored both_meet either_meet call_ends

    pub value_law : (e : RvalueTree) (w : Wanted) (b : Building)
        → value_at laid depth path e w b ≡ built_as (calls_on laid depth path) (codes laid path e) w b
    value_law (a_constant t z p) w b = ends_law call w false p (operation (Op.Const 0 (Number z))) b
    value_law (a_folded z e) Want.Value b = refl
    value_law (a_folded z e) Want.Bare b = refl
    value_law (a_folded z e) Want.Branch b = value_law e Want.Branch b
    value_law (a_null p) w b = ends_law call w true p (operation (Op.Const 0 (APointer Pointers.Null))) b
    value_law (a_load s volatile l) w b =
        ap (λ (y : AfterPart). let u = loaded volatile s (lvalue_place l) (temp_of y.temp) y.at in
        ends w (is_pointer_scalar s) (lvalue_place l) (Some u.temp) u.at) (address_law l b)
        ∙ load_law call w (is_pointer_scalar s) volatile s (lvalue_place l) (address_code laid path l) b
    value_law (an_address l p) w b =
        ap (λ (y : AfterPart). ends w true p y.temp y.at) (address_law l b)
        ∙ ends_law call w true p (address_code laid path l) b
    value_law (a_structure l) w b =
        ap (λ (y : AfterPart). ends w false (lvalue_place l) None y.at) (address_law l b)
        ∙ ends_law call w false (lvalue_place l) (code (first_then (only_do (address_code laid path l)) no_more) None) b
    value_law (the_same e p) w b =
        ap (λ (x : Outcome). ends w (gives_pointer laid e) p x.temp x.at) (value_law e Want.Value b)
        ∙ ends_law call w (gives_pointer laid e) p (codes laid path e).value b
    value_law (a_unary o t e p) w b =
        ap (λ (x : Outcome). ends_new w false p (Op.Un x.at.temps o t (temp_of x.temp) p) x.at)
        (value_law e Want.Value b)
        ∙ ends_law call w false p (code (first_then (value_of (codes laid path e).value)
        (first_then (operate (Op.Un 0 o t 0 p)) no_more)) (Some 1)) b
    value_law (a_binary op of l r p) w b =
        let u = code_piece call (codes laid path l).bare b in
        let go = λ (x y : Outcome). binary_ends w op of p (implied l) (temp_of x.temp) (implied r) (temp_of y.temp) y.at in
        ap (λ (x : Outcome). go x (value_at laid depth path r Want.Bare x.at)) (value_law l Want.Bare b)
        ∙ (ap (go (as_value u)) (value_law r Want.Bare u.at)
        ∙ binary_law call (is_comparison op) w op of p (codes laid path l).bare (implied l) (codes laid path r).bare
        (implied r) b)
    value_law (a_comparison_of_pointers equal l r p) w b =
        let u = code_piece call (codes laid path l).value b in
        let go = λ (x y : Outcome). pointers_ends w equal p (temp_of x.temp) (temp_of y.temp) y.at in
        ap (λ (x : Outcome). go x (value_at laid depth path r Want.Value x.at)) (value_law l Want.Value b)
        ∙ (ap (go (as_value u)) (value_law r Want.Value u.at)
        ∙ pointers_law call w equal p (codes laid path l).value (codes laid path r).value b)
    value_law (a_move minus cells false e i p) w b =
        let u = code_piece call (codes laid path e).value b in
        let go = λ (x y : Outcome). ends_new w true p
        (Op.Move y.at.temps (temp_of x.temp) cells minus (temp_of y.temp) p) y.at in
        ap (λ (x : Outcome). go x (value_at laid depth path i Want.Value x.at)) (value_law e Want.Value b)
        ∙ (ap (go (as_value u)) (value_law i Want.Value u.at)
        ∙ ends_law call w true p (move_code minus cells false p (codes laid path e).value (codes laid path i).value) b)
    value_law (a_move minus cells true e i p) w b =
        let u = code_piece call (codes laid path i).value b in
        let go = λ (y x : Outcome). ends_new w true p
        (Op.Move x.at.temps (temp_of x.temp) cells minus (temp_of y.temp) p) x.at in
        ap (λ (y : Outcome). go y (value_at laid depth path e Want.Value y.at)) (value_law i Want.Value b)
        ∙ (ap (go (as_value u)) (value_law e Want.Value u.at)
        ∙ ends_law call w true p (move_code minus cells true p (codes laid path e).value (codes laid path i).value) b)
    value_law (a_not e p) w b =
        ap (λ (o : Outcome). ends_fork w o.at.node (goto o.other o.at)) (value_law e Want.Branch b)
        ∙ decided_law call w (converse (codes laid path e).fork) b
    value_law (an_and l r p) w b =
        let f = fork_piece call (codes laid path l).fork b in
        let go = λ (o q : Outcome). both_meet w o.other q.other q.at in
        ap (λ (o : Outcome). go o (value_at laid depth path r Want.Branch o.at)) (value_law l Want.Branch b)
        ∙ (ap (go (as_fork f)) (value_law r Want.Branch f.at)
        ∙ decided_law call w (both_of (codes laid path l).fork (codes laid path r).fork) b)
    value_law (an_or l r p) w b =
        let f = fork_piece call (codes laid path l).fork b in
        let go = λ (o q : Outcome). either_meet w o.at.node q.at.node q.other q.at in
        ap (λ (o : Outcome). go o (value_at laid depth path r Want.Branch (goto o.other o.at)))
        (value_law l Want.Branch b)
        ∙ (ap (go (as_fork f)) (value_law r Want.Branch (goto f.other f.at))
        ∙ decided_law call w (either_of (codes laid path l).fork (codes laid path r).fork) b)
    value_law (a_choice c x y p) w b =
        let has = has_value laid path x in
        let f = fork_piece call (codes laid path c).fork b in
        let k = code_piece call (codes laid path x).value f.at in
        let third = λ (u v : Outcome). choice_ends w has (gives_pointer laid x) p
        (copied_if has (temp_of u.temp) u.at).node u.at.temps (temp_of v.temp) v.at in
        let second = λ (other : ℕ) (u : Outcome). third u (value_at laid depth path y Want.Value
        (goto other (copied_if has (temp_of u.temp) u.at))) in
        ap (λ (o : Outcome). second o.other (value_at laid depth path x Want.Value o.at)) (value_law c Want.Branch b)
        ∙ (ap (second f.other) (value_law x Want.Value f.at)
        ∙ (ap (third (as_value k)) (value_law y Want.Value (goto f.other (copied_if has (temp_of k.temp) k.at)))
        ∙ choice_law call w has (gives_pointer laid x) p (codes laid path c).fork (codes laid path x).value
        (codes laid path y).value b))
    value_law (an_assignment s l e p) w b =
        let k = code_piece call (address_code laid path l) b in
        let go = λ (a : AfterPart) (x : Outcome). stored w s (into laid path l) p (temp_of a.temp) (temp_of x.temp) x.at in
        ap (λ (a : AfterPart). go a (value_at laid depth path e Want.Value a.at)) (address_law l b)
        ∙ (ap (go k) (value_law e Want.Value k.at)
        ∙ ends_law call w (is_pointer_scalar s) p
        (assignment_code s (into laid path l) p (address_code laid path l) (codes laid path e).value) b)
    value_law (a_compound op cell of volatile l e p) w b =
        let k = code_piece call (address_code laid path l) b in
        let load = λ (a : AfterPart). loaded volatile (Scalars.Int cell) (lvalue_place l) (temp_of a.temp) a.at in
        let go = λ (a : AfterPart) (x : Outcome). compound_ends w op cell of (into laid path l) p (implied e)
        (temp_of a.temp) (load a).temp (temp_of x.temp) x.at in
        ap (λ (a : AfterPart). go a (value_at laid depth path e Want.Bare (load a).at)) (address_law l b)
        ∙ (ap (go k) (value_law e Want.Bare (load k).at)
        ∙ compound_law call w (conversion cell of) (conversion of cell) op cell of volatile (into laid path l)
        (lvalue_place l) p (address_code laid path l) (codes laid path e).bare (implied e) b)
    value_law (a_compound_move minus cells class l e p) w b =
        let k = code_piece call (address_code laid path l) b in
        let load = λ (a : AfterPart). loaded false (Scalars.Pointer class) (lvalue_place l) (temp_of a.temp) a.at in
        let go = λ (a : AfterPart) (x : Outcome). compound_move_ends w minus cells class (into laid path l) p
        (temp_of a.temp) (load a).temp (temp_of x.temp) x.at in
        ap (λ (a : AfterPart). go a (value_at laid depth path e Want.Value (load a).at)) (address_law l b)
        ∙ (ap (go k) (value_law e Want.Value (load k).at)
        ∙ ends_law call w true p (moved_code minus cells class (into laid path l) (lvalue_place l) p
        (address_code laid path l) (value_of (codes laid path e).value) 3) b)
    value_law (a_unit_step s cell of volatile l p) w b =
        ap (λ (a : AfterPart). let v = loaded volatile (Scalars.Int cell) (lvalue_place l) (temp_of a.temp) a.at in
        unit_step_ends w s.postfix (step_operator s) cell of (into laid path l) p (temp_of a.temp) v.temp v.at)
        (address_law l b)
        ∙ unit_step_law call w (conversion cell of) (conversion Ints.Int of) (conversion of cell) (step_operator s)
        s.postfix cell of volatile (into laid path l) (lvalue_place l) p (address_code laid path l) b
    value_law (a_pointer_step s cells class l p) w b =
        ap (λ (a : AfterPart). let v = loaded false (Scalars.Pointer class) (lvalue_place l) (temp_of a.temp) a.at in
        pointer_step_ends w s.postfix s.minus cells class (into laid path l) p (temp_of a.temp) v.temp v.at)
        (address_law l b)
        ∙ pointer_step_law call w s.postfix s.minus cells class (into laid path l) (lvalue_place l) p
        (address_code laid path l) b
    value_law (a_function_call f site es p) w b =
        ap (λ (s : AfterSteps). call_ends laid depth path w (gives_pointer laid (a_function_call f site no_rvalues p))
        site p s.temps s.at) (values_law es b)
        ∙ call_law call w (call_has_value laid path site) (gives_pointer laid (a_function_call f site es p)) site p
        (inputs laid path es) b
    value_law (an_input_value low high p) w b = ends_law call w false p (operation (Op.Any 0 low high)) b
    value_law (a_probe m p) w b = ends_law call w false p (operation (Op.Probe 0 m p)) b
    value_law (a_comma l r p) w b =
        let u = code_piece call (codes laid path l).value b in
        let go = λ (y : Outcome). ends w (gives_pointer laid r) p
        (temp_if (has_value laid path r) (temp_of y.temp)) y.at in
        ap (λ (x : Outcome). go (value_at laid depth path r Want.Value x.at)) (value_law l Want.Value b)
        ∙ (ap go (value_law r Want.Value u.at)
        ∙ comma_law call w (has_value laid path r) (gives_pointer laid r) p (codes laid path l).value
        (codes laid path r).value b)
    value_law (a_conversion from to e p) w b =
        ap (λ (x : Outcome). conversion_ends w (is_same_place p (rvalue_place e)) p (conversion from to) x.temp x.at)
        (value_law e Want.Value b)
        ∙ conversion_law call w (is_same_place p (rvalue_place e)) p (conversion from to) (codes laid path e).value b
    value_law (a_discard e p) w b =
        ap (λ (x : Outcome). ends w false p None x.at) (value_law e Want.Value b)
        ∙ ends_law call w false p (code (first_then (only_do (codes laid path e).value) no_more) None) b

    pub address_law : (l : LvalueTree) (b : Building)
        → as_part (address_at laid depth path l b) ≡ code_piece (calls_on laid depth path) (address_code laid path l) b
    address_law (an_object o p) b = refl
    address_law (an_element l i n c p) b =
        let k = code_piece call (address_code laid path l) b in
        let go = λ (a : AfterPart) (x : Outcome). as_part
        (new_value (Op.Index x.at.temps (temp_of a.temp) n c (temp_of x.temp) p) x.at) in
        ap (λ (a : AfterPart). go a (value_at laid depth path i Want.Value a.at)) (address_law l b)
        ∙ ap (go k) (value_law i Want.Value k.at)
    address_law (a_pointed_element e i c t p) b =
        let u = code_piece call (codes laid path e).value b in
        let move = λ (x y : Outcome). new_value (Op.Move y.at.temps (temp_of x.temp) c false (temp_of y.temp) p) y.at in
        let go = λ (x y : Outcome). as_part
        (new_value (Op.Deref (move x y).at.temps (move x y).temp t path p) (move x y).at) in
        ap (λ (x : Outcome). go x (value_at laid depth path i Want.Value x.at)) (value_law e Want.Value b)
        ∙ ap (go (as_value u)) (value_law i Want.Value u.at)
    address_law (a_pointed e t p) b =
        ap (λ (x : Outcome). as_part (new_value (Op.Deref x.at.temps (temp_of x.temp) t path p) x.at))
        (value_law e Want.Value b)
    address_law (an_arrow e t c p) b =
        let follow = λ (x : Outcome). new_value (Op.Deref x.at.temps (temp_of x.temp) t path p) x.at in
        ap (λ (x : Outcome). as_part (new_value (Op.Offset (follow x).at.temps (follow x).temp c) (follow x).at))
        (value_law e Want.Value b)
    address_law (a_part l c p) b =
        ap (λ (a : AfterPart). as_part (new_value (Op.Offset a.at.temps (temp_of a.temp) c) a.at)) (address_law l b)

    pub values_law : (es : RvalueTrees) (b : Building)
        → as_steps (values_at laid depth path es b) ≡ inputs_piece (calls_on laid depth path) (inputs laid path es) b
    values_law no_rvalues b = refl
    values_law (and_rvalue e es) b =
        let u = code_piece call (codes laid path e).value b in
        let go = λ (x : Outcome) (y : AfterSteps). let r : AfterSteps = record
        { at = y.at; temps = temp_of x.temp ∷ y.temps } in r in
        ap (λ (x : Outcome). go x (as_steps (values_at laid depth path es x.at))) (value_law e Want.Value b)
        ∙ ap (go (as_value u)) (values_law es u.at)

  pub value_built : (e : RvalueTree) (b n : Building) (t : Option ℕ)
      → (n ≡ (value_at laid depth path e Want.Value b).at) × (t ≡ (value_at laid depth path e Want.Value b).temp)
      → IsPart (code_piece (calls_on laid depth path) (codes laid path e).value b) n t
  value_built e b n t h =
      let law = value_law e Want.Value b in
      (h.0 ∙ ap (λ (x : Outcome). x.at) law, h.1 ∙ ap (λ (x : Outcome). x.temp) law)

  pub fork_built : (e : RvalueTree) (b n : Building) (other : ℕ)
      → (n ≡ (value_at laid depth path e Want.Branch b).at) × (other ≡ (value_at laid depth path e Want.Branch b).other)
      → IsForked (fork_piece (calls_on laid depth path) (codes laid path e).fork b) n other
  fork_built e b n other h =
      let law = value_law e Want.Branch b in
      (h.0 ∙ ap (λ (x : Outcome). x.at) law, h.1 ∙ ap (λ (x : Outcome). x.other) law)
