-- Statements of each kind, once their parts are walked.
use Rattle.std.proofs.Common.{◌≡◌, ℕ, zero, suc, ◌+◌, Bool, true, false, List, length, map, Option, Some, None, Result}
use Rattle.std.proofs.Common.{refl, ap}
use Rattle.std.proofs.Common.{sym, ◌∙◌, add-zero, zero-add}
use Rattle.std.specs.Prelude.{Box, OnOk}
use Rattle.std.specs.declared.alloc.Global.{Global}
use Rattle.std.specs.declared.vec.Vec.{Vec}
use Rattle.std.proofs.lemmas.Result.{on_ok_weaker}
use Rattle.tm_terms.specs.tm_cint.declared.int_types.IntType.{IntType}
use Rattle.tm_terms.specs.declared.places.Place.{Place}
use Rattle.tm_typed.specs.declared.expressions.Rvalue.{Rvalue}
use Rattle.tm_typed.specs.declared.statements.LocalObject.{LocalObject}
use Rattle.tm_typed.specs.declared.statements.TypedStatement.{TypedStatement}
use Rattle.tm_typed.specs.declared.statements.TypedStatement.TheVariants as Typed
use Rattle.tm_typed.specs.declared.statements.TypedSwitchPart.{TypedSwitchPart}
use Rattle.tm_typed.specs.declared.statements.TypedSwitchPart.TheVariants as Parts
use Rattle.tm_typed.specs.TypedTrees.{RvalueTree, rvalue_tree}
use Rattle.tm_typed.specs.TypedStatements.{typed_tree, as_typed_trees, typed_case, as_typed_cases, local_tree}
use Rattle.tm_typed.specs.TypedStatements.{optional_rvalue_tree, runs_block, selects, branches, branches_else}
use Rattle.tm_typed.specs.TypedStatements.{loops_while}
use Rattle.tm_typed.specs.TypedStatements.{loops_do, loops_for}
use Rattle.tm_typed.proofs.TypedStatementTrees.{typed_tree-block}
use Rattle.tm_typed.specs.declared.types.CType.{CType}
use Rattle.tm_typed.specs.Functions.{TypedBodyTree}
use Rattle.tm_typed.specs.Files.{TypedFunctionTree}
use Rattle.tm_laid.specs.Layouts.{LaidTree}
use Rattle.body_builder.specs.concrete_steps.Places.{rvalue_place, result_type}
use Rattle.body_builder.specs.concrete_steps.NextAction.{function_at}
use Rattle.path_origins.specs.declared.origins.Form.TheVariants as Forms
use Rattle.path_origins.specs.declared.origins.Notes.{Notes}
use Rattle.path_origins.specs.declared.statements.Ways.{Ways}
use Rattle.path_origins.specs.declared.types.Given.{Given}
use Rattle.path_origins.specs.Types.{given, differs}
use Rattle.path_origins.specs.Expressions.{walked}
use Rattle.path_origins.specs.Noted.{Noted, nothing, behind, one, skips, passing_if}
use Rattle.path_origins.specs.Statements.{Left, goes_on, left_behind, in_turn, then_noted, nowhere, statement}
use Rattle.path_origins.specs.Statements.{statements}
use Rattle.path_origins.specs.Statements.{case_of, cases, skip, test_of, value_of, effect_of, entered, outs, returned}
use Rattle.path_origins.specs.Statements.{all_declared, continued, closed, exit_of, has_default, labels_tested}
use Rattle.path_origins.specs.Bodies.{fallen, closing, is_task_path, noted_body, noted_path}
use Rattle.path_origins.specs.Shown.{shown}
use Rattle.path_origins.specs.reading.Walks.{IsBehind, IsLeftBehind, sequenced_from, scoped_from}
use Rattle.path_origins.specs.reading.Leaving.{with_break, with_return, inside_of, chosen_in, behind_loop}
use Rattle.path_origins.specs.reading.Leaving.{behind_choice}
use Rattle.path_origins.specs.reading.Leaving.{IsClosed, turns_met}
use Rattle.path_origins.specs.reading.Leaving.{loop_end, gone_on, labels_noted, is_default_among, select_end}
use Rattle.path_origins.specs.reading.Leaving.{body_noted, function_noted}
use Rattle.path_origins.proofs.Laws.{behind_nothing, nothing_behind, then_behind, behind_still}
use Rattle.path_origins.proofs.Beside.{scoped_noted, sequenced_noted, passing_noted}
use Rattle.path_origins.proofs.Leaving.{still_left, as_left, turn_left, after_left, then_left, block_left, gone_left}
use Rattle.path_origins.proofs.Leaving.{turns_left, closed_left, exit_left, labels_left, default_left}

-- to the end of a task lead those that leave by `return`, if there are some
pub task_ends : (p : Place) (n m : ℕ) → m ≡ suc n → (n ≡ 0 → ⊥) → skips p m ≡ closing true p n
task_ends p zero m e some = absurd (some refl)
task_ends p (suc n) m e some = ap (skips p) e

-- to that of a function, control comes in any case
pub function_ends : (p : Place) (n m : ℕ) (is : Bool) → m ≡ suc n → is ≡ false → skips p m ≡ closing is p n
function_ends p n m is e none = ap (skips p) e ∙ ap (λ z. closing z p n) (sym none)

module _ (laid : LaidTree) (is_open : Place → Bool) (sizes : ℕ → ℕ) (path : ℕ) where
  abbrev pub left_by : Bool → TypedStatement → Left
  left_by head s = statement laid is_open sizes path head (typed_tree s)

  -- ## What does not leave

  pub goes : {T E : Type 0} (head : Bool) (typed kind : TypedStatement) (x : Noted) (r : Result T E) (a b : Notes)
      (w : Ways) → typed ≡ kind → left_by head kind ≡ goes_on x → OnOk r (IsBehind a b x)
      → OnOk r (IsLeftBehind a b w w (left_by head typed))
  goes head typed kind x r a b w is e h =
      on_ok_weaker r (λ (k : IsBehind a b x). still_left (left_by head typed) a b w x (ap (left_by head) is ∙ e) k) h

  pub declares_left : {T E : Type 0} (head : Bool) (typed : TypedStatement) (ls : Vec LocalObject Global)
      (xs : List LocalObject) (r : Result T E) (a b : Notes) (w : Ways) → typed ≡ Typed.Declare ls → xs ≡ ls.items
      → OnOk r (IsBehind a b (all_declared laid is_open sizes path (map local_tree xs)))
      → OnOk r (IsLeftBehind a b w w (left_by head typed))
  declares_left head typed ls xs r a b w is e h =
      goes head typed (Typed.Declare ls) (all_declared laid is_open sizes path (map local_tree xs)) r a b w is
      (ap (λ (ys : List LocalObject). goes_on (all_declared laid is_open sizes path (map local_tree ys))) (sym e)) h

  -- ## What leaves

  pub breaks_left : {T E : Type 0} (head : Bool) (typed : TypedStatement) (a : Notes) (w v : Ways) (r : Result T E)
      → typed ≡ Typed.Break → OnOk r (v ≡ with_break w) → OnOk r (IsLeftBehind a a w v (left_by head typed))
  breaks_left head typed a w v r is h =
      on_ok_weaker r (λ (e : v ≡ with_break w).
      as_left a a w v (left_by head typed) (left_by head Typed.Break) (ap (left_by head) is)
      (record {
        noted = behind_still (shown a) (shown a) refl;
        breaks = ap (λ (u : Ways). u.breaks) e;
        continues = ap (λ (u : Ways). u.continues) e ∙ sym (add-zero w.continues);
        returns = ap (λ (u : Ways). u.returns) e ∙ sym (add-zero w.returns);
      })) h

  pub returns_left : {T E : Type 0} (head : Bool) (typed : TypedStatement) (e : Option (Box Rvalue Global))
      (a b : Notes) (w v : Ways) (r : Result T E) → typed ≡ Typed.Return e
      → IsBehind a b (returned laid is_open sizes path (optional_rvalue_tree e)) → OnOk r (v ≡ with_return w)
      → OnOk r (IsLeftBehind a b w v (left_by head typed))
  returns_left head typed e a b w v r is k h =
      on_ok_weaker r (λ (f : v ≡ with_return w).
      as_left a b w v (left_by head typed) (left_by head (Typed.Return e)) (ap (left_by head) is)
      (record {
        noted = k;
        breaks = ap (λ (u : Ways). u.breaks) f ∙ sym (add-zero w.breaks);
        continues = ap (λ (u : Ways). u.continues) f ∙ sym (add-zero w.continues);
        returns = ap (λ (u : Ways). u.returns) f;
      })) h

  pub continues_left : {T E : Type 0} (head : Bool) (typed : TypedStatement) (r : Result T E) (a b : Notes)
      (w v : Ways) → typed ≡ Typed.Continue → OnOk r (IsLeftBehind a b w v (gone_on head))
      → OnOk r (IsLeftBehind a b w v (left_by head typed))
  continues_left head typed r a b w v is h =
      on_ok_weaker r (λ (k : IsLeftBehind a b w v (gone_on head)).
      as_left a b w v (left_by head typed) (gone_on head)
      (ap (left_by head) is ∙ gone_left laid is_open sizes path head) k) h

  -- ## Blocks and choices

  pub block_walked : {T E : Type 0} (head : Bool) (typed : TypedStatement) (items : Vec TypedStatement Global)
      (xs : List TypedStatement) (n : ℕ) (r : Result T E) (a b c : Notes) (w v : Ways) → typed ≡ Typed.Block items
      → xs ≡ items.items → n ≡ length (shown a).unended
      → IsLeftBehind a b w v (statements laid is_open sizes path head (as_typed_trees xs))
      → OnOk r (shown c ≡ scoped_from n (shown b)) → OnOk r (IsLeftBehind a c w v (left_by head typed))
  block_walked head typed items xs n r a b c w v is e en h k =
      let tree : typed_tree typed ≡ runs_block (as_typed_trees xs) = ap typed_tree is ∙ (typed_tree-block items
      ∙ ap (λ (ys : List TypedStatement). runs_block (as_typed_trees ys)) (sym e)) in
      on_ok_weaker r (λ (d : shown c ≡ scoped_from n (shown b)).
      as_left a c w v (left_by head typed) (statement laid is_open sizes path head (runs_block (as_typed_trees xs)))
      (ap (statement laid is_open sizes path head) tree) (block_left laid is_open sizes path n a b c w v
      (statements laid is_open sizes path head (as_typed_trees xs)) en h d)) k

  pub if_walked : {T E : Type 0} (head : Bool) (typed : TypedStatement) (e : Rvalue) (s : TypedStatement)
      (r : Result T E) (a b c d : Notes) (w v : Ways) → typed_tree typed ≡ branches (rvalue_tree e) (typed_tree s)
      → IsBehind a b (test_of laid is_open sizes path (rvalue_tree e)) → IsLeftBehind b c w v (left_by head s)
      → OnOk r (IsBehind c d (skips nowhere 2)) → OnOk r (IsLeftBehind a d w v (left_by head typed))
  if_walked head typed e s r a b c d w v is h k l =
      let t = test_of laid is_open sizes path (rvalue_tree e) in
      let all = left_behind t (left_by head s) in
      on_ok_weaker r (λ (m : IsBehind c d (skips nowhere 2)).
      as_left a d w v (left_by head typed) (then_noted all (skips nowhere 2))
      (ap (statement laid is_open sizes path head) is)
      (then_left a c d w v all (skips nowhere 2) (after_left a b c w v t (left_by head s) h k) m)) l

  pub if_else_walked : {T E : Type 0} (head : Bool) (typed : TypedStatement) (e : Rvalue) (s z : TypedStatement)
      (r : Result T E) (a b c d f : Notes) (w v u : Ways)
      → typed_tree typed ≡ branches_else (rvalue_tree e) (typed_tree s) (typed_tree z)
      → IsBehind a b (test_of laid is_open sizes path (rvalue_tree e)) → IsLeftBehind b c w v (left_by head s)
      → IsLeftBehind c d v u (left_by head z) → OnOk r (IsBehind d f (skips nowhere 2))
      → OnOk r (IsLeftBehind a f w u (left_by head typed))
  if_else_walked head typed e s z r a b c d f w v u is h k j l =
      let t = test_of laid is_open sizes path (rvalue_tree e) in
      let two = in_turn (left_by head s) (left_by head z) in
      on_ok_weaker r (λ (m : IsBehind d f (skips nowhere 2)).
      as_left a f w u (left_by head typed) (then_noted (left_behind t two) (skips nowhere 2))
      (ap (statement laid is_open sizes path head) is)
      (then_left a d f w u (left_behind t two) (skips nowhere 2)
      (after_left a b d w u t two h (turn_left b c d w v u (left_by head s) (left_by head z) k j)) m)) l

  -- ## Loops

  pub while_walked : {T E : Type 0} (head : Bool) (typed : TypedStatement) (e : Rvalue) (s : TypedStatement)
      (r : Result T E) (a b c d : Notes) (w i v u : Ways)
      → typed_tree typed ≡ loops_while (rvalue_tree e) (typed_tree s) → i ≡ inside_of w
      → IsBehind a b (behind (skip laid is_open sizes path) (test_of laid is_open sizes path (rvalue_tree e)))
      → IsLeftBehind b c i v (left_by true s)
      → OnOk r (IsClosed c d u (behind_loop w v) (loop_end 1 v.breaks))
      → OnOk r (IsLeftBehind a d w u (left_by head typed))
  while_walked head typed e s r a b c d w i v u is ei h k l =
      let t = behind (skip laid is_open sizes path) (test_of laid is_open sizes path (rvalue_tree e)) in
      on_ok_weaker r (λ (m : IsClosed c d u (behind_loop w v) (loop_end 1 v.breaks)).
      as_left a d w u (left_by head typed) (closed laid is_open sizes path 1 (left_behind t (left_by true s)))
      (ap (statement laid is_open sizes path head) is)
      (closed_left laid is_open sizes path 1 a c d w i v u (left_behind t (left_by true s)) ei
      (after_left a b c i v t (left_by true s) h k) m)) l

  -- behind the body of a loop, what a `continue` goes to
  turned : (a b c d e : Notes) (w i v : Ways) (t x : Noted) (s : Left) → i ≡ inside_of w → IsBehind a b t
      → IsLeftBehind b c i v s → IsBehind c d (turns_met v.continues) → IsBehind d e x
      → IsLeftBehind a e i v (then_noted (left_behind t s)
      (behind (continued laid is_open sizes path s.continues) x))
  turned a b c d e w i v t x s ei h k l m =
      let many : v.continues ≡ 0 + s.continues =
      k.continues ∙ ap (λ (z : Ways). z.continues + s.continues) ei in
      let met = l ∙ ap (behind (shown c)) (turns_left laid is_open sizes path s.continues v.continues many) in
      then_left a c e i v (left_behind t s) (behind (continued laid is_open sizes path s.continues) x)
      (after_left a b c i v t s h k) (then_behind (shown c) (shown d) (shown e)
      (continued laid is_open sizes path s.continues) x met m)

  pub do_walked : {T E : Type 0} (head : Bool) (typed : TypedStatement) (e : Rvalue) (s : TypedStatement)
      (r : Result T E) (a b c d f g : Notes) (w i v u : Ways)
      → typed_tree typed ≡ loops_do (typed_tree s) (rvalue_tree e) → i ≡ inside_of w
      → IsBehind a b (one nowhere Forms.Skip) → IsLeftBehind b c i v (left_by false s)
      → IsBehind c d (turns_met v.continues) → IsBehind d f (test_of laid is_open sizes path (rvalue_tree e))
      → OnOk r (IsClosed f g u (behind_loop w v) (loop_end 1 v.breaks))
      → OnOk r (IsLeftBehind a g w u (left_by head typed))
  do_walked head typed e s r a b c d f g w i v u is ei h k l m n =
      let x = left_by false s in
      let test = test_of laid is_open sizes path (rvalue_tree e) in
      let all = then_noted (left_behind (skip laid is_open sizes path) x)
      (behind (continued laid is_open sizes path x.continues) test) in
      on_ok_weaker r (λ (o : IsClosed f g u (behind_loop w v) (loop_end 1 v.breaks)).
      as_left a g w u (left_by head typed) (closed laid is_open sizes path 1 all)
      (ap (statement laid is_open sizes path head) is)
      (closed_left laid is_open sizes path 1 a f g w i v u all ei
      (turned a b c d f w i v (skip laid is_open sizes path) test x ei h k l m) o)) n

  pub for_walked : {T E : Type 0} (head : Bool) (typed : TypedStatement) (first s : TypedStatement)
      (e step : Option (Box Rvalue Global)) (others n : ℕ) (r : Result T E) (a a1 b c d f g h : Notes)
      (w0 w i v u : Ways)
      → typed_tree typed
      ≡ loops_for (typed_tree first) (optional_rvalue_tree e) (optional_rvalue_tree step) (typed_tree s)
      → n ≡ length (shown a).unended → IsLeftBehind a a1 w0 w (left_by head first) → i ≡ inside_of w
      → IsBehind a1 b (behind (skip laid is_open sizes path)
      (entered laid is_open sizes path (optional_rvalue_tree e)))
      → others ≡ outs laid is_open sizes path (optional_rvalue_tree e) → IsLeftBehind b c i v (left_by false s)
      → IsBehind c d (turns_met v.continues)
      → IsBehind d f (effect_of laid is_open sizes path (optional_rvalue_tree step))
      → IsClosed f g u (behind_loop w v) (loop_end others v.breaks)
      → OnOk r (shown h ≡ scoped_from n (shown g)) → OnOk r (IsLeftBehind a h w0 u (left_by head typed))
  for_walked head typed first s e step others n r a a1 b c d f g h w0 w i v u is en k0 ei k1 eo k2 k3 k4 k5 k6 =
      let x = left_by false s in
      let t = behind (skip laid is_open sizes path) (entered laid is_open sizes path (optional_rvalue_tree e)) in
      let after = effect_of laid is_open sizes path (optional_rvalue_tree step) in
      let out = outs laid is_open sizes path (optional_rvalue_tree e) in
      let all = then_noted (left_behind t x) (behind (continued laid is_open sizes path x.continues) after) in
      let end : IsClosed f g u (behind_loop w v) (loop_end out v.breaks) = record {
        noted = k5.noted ∙ ap (λ m. behind (shown f) (loop_end m v.breaks)) eo;
        ways = k5.ways;
      } in
      let loop = closed_left laid is_open sizes path out a1 f g w i v u all ei
      (turned a1 b c d f w i v t after x ei k1 k2 k3 k4) end in
      let both = turn_left a a1 g w0 w u (left_by head first) (closed laid is_open sizes path out all) k0 loop in
      on_ok_weaker r (λ (o : shown h ≡ scoped_from n (shown g)).
      as_left a h w0 u (left_by head typed) (statement laid is_open sizes path head (loops_for (typed_tree first)
      (optional_rvalue_tree e) (optional_rvalue_tree step) (typed_tree s)))
      (ap (statement laid is_open sizes path head) is)
      (block_left laid is_open sizes path n a g h w0 u
      (in_turn (left_by head first) (closed laid is_open sizes path out all)) en both o)) k6

  -- ## `switch`

  pub switch_walked : {T E : Type 0} (head : Bool) (typed : TypedStatement) (t : IntType) (e : Rvalue)
      (xs : List TypedSwitchPart) (default : Bool) (n : ℕ) (r : Result T E) (a b c d f g : Notes) (w i v u : Ways)
      → typed_tree typed ≡ selects t (rvalue_tree e) (as_typed_cases xs) → n ≡ length (shown a).unended
      → i ≡ chosen_in w → IsBehind a b (value_of laid is_open sizes path true (rvalue_tree e))
      → IsBehind b c (labels_noted (as_typed_cases xs))
      → IsLeftBehind c d i v (cases laid is_open sizes path head (as_typed_cases xs))
      → default ≡ is_default_among (as_typed_cases xs)
      → IsClosed d f u (behind_choice w v) (select_end default v.breaks)
      → OnOk r (shown g ≡ scoped_from n (shown f)) → OnOk r (IsLeftBehind a g w u (left_by head typed))
  switch_walked head typed t e xs default n r a b c d f g w i v u is en ei k1 k2 k3 ed k4 k5 =
      let value = value_of laid is_open sizes path true (rvalue_tree e) in
      let labels = labels_tested laid is_open sizes path (as_typed_cases xs) in
      let inner = cases laid is_open sizes path head (as_typed_cases xs) in
      let has = has_default laid is_open sizes path (as_typed_cases xs) in
      let k2' = k2 ∙ ap (behind (shown b)) (labels_left laid is_open sizes path (as_typed_cases xs)) in
      let tests = then_behind (shown a) (shown b) (shown c) value labels k1 k2' in
      let all = left_behind (behind value labels) inner in
      let end : IsClosed d f u (behind_choice w v) (select_end has v.breaks) = record {
        noted = k4.noted ∙ ap (λ z. behind (shown d) (select_end z v.breaks))
            (ed ∙ default_left laid is_open sizes path (as_typed_cases xs));
        ways = k4.ways;
      } in
      let exit = exit_left laid is_open sizes path has a d f w i v u all ei
      (after_left a c d i v (behind value labels) inner tests k3) end in
      on_ok_weaker r (λ (o : shown g ≡ scoped_from n (shown f)).
      as_left a g w u (left_by head typed) (statement laid is_open sizes path head
      (selects t (rvalue_tree e) (as_typed_cases xs))) (ap (statement laid is_open sizes path head) is)
      (block_left laid is_open sizes path n a f g w u (exit_of laid is_open sizes path has all) en exit o)) k5

  -- ## Parts of a `switch`

  label_skips : (p : Place) → behind (one p Forms.Skip) (one p Forms.Skip) ≡ skips p 2
  label_skips p = ap (behind (one p Forms.Skip)) (sym (behind_nothing (one p Forms.Skip)))

  pub label_walked : {T E : Type 0} (head : Bool) (part kind : TypedSwitchPart) (p : Place) (r : Result T E)
      (a b : Notes) (w : Ways) → part ≡ kind → case_of laid is_open sizes path head (typed_case kind)
      ≡ goes_on (behind (one p Forms.Skip) (one p Forms.Skip)) → OnOk r (IsBehind a b (skips p 2))
      → OnOk r (IsLeftBehind a b w w (case_of laid is_open sizes path head (typed_case part)))
  label_walked head part kind p r a b w is e h =
      on_ok_weaker r (λ (k : IsBehind a b (skips p 2)).
      still_left (case_of laid is_open sizes path head (typed_case part)) a b w (skips p 2)
      (ap (λ (z : TypedSwitchPart). case_of laid is_open sizes path head (typed_case z)) is
      ∙ (e ∙ ap goes_on (label_skips p))) k) h

  pub part_walked : {T E : Type 0} (head : Bool) (part : TypedSwitchPart) (s : TypedStatement) (r : Result T E)
      (a b : Notes) (w v : Ways) → part ≡ Parts.Statement s → OnOk r (IsLeftBehind a b w v (left_by head s))
      → OnOk r (IsLeftBehind a b w v (case_of laid is_open sizes path head (typed_case part)))
  part_walked head part s r a b w v is h =
      on_ok_weaker r (λ (k : IsLeftBehind a b w v (left_by head s)).
      as_left a b w v (case_of laid is_open sizes path head (typed_case part)) (left_by head s)
      (ap (λ (z : TypedSwitchPart). case_of laid is_open sizes path head (typed_case z)) is) k) h

  -- ## Bodies

  pub body_walked : {T E : Type 0} (p : Place) (body : TypedBodyTree) (t : CType) (is : Bool) (n : ℕ) (r : Result T E)
      (a b c d e : Notes) (w v : Ways) → w.returns ≡ 0 → n ≡ length (shown a).unended
      → IsLeftBehind a b w v (statements laid is_open sizes path false body.statements)
      → t ≡ result_type laid (function_at laid path) → IsBehind b c (fallen p t) → is ≡ is_task_path laid path
      → IsBehind c d (closing is p v.returns) → OnOk r (shown e ≡ scoped_from n (shown d))
      → OnOk r (IsBehind a e (body_noted laid is_open sizes path p body))
  body_walked p body t is n r a b c d e w v none en h et k ei l m =
      let x = statements laid is_open sizes path false body.statements in
      let fall = fallen p (result_type laid (function_at laid path)) in
      let end = closing (is_task_path laid path) p x.returns in
      let all = behind x.noted (behind fall end) in
      let many : v.returns ≡ x.returns = h.returns ∙ (ap (λ j. j + x.returns) none ∙ zero-add x.returns) in
      let k' = k ∙ ap (λ (u : CType). behind (shown b) (fallen p u)) et in
      let l' = l ∙ (ap (λ z. behind (shown c) (closing z p v.returns)) ei
      ∙ ap (λ j. behind (shown c) (closing (is_task_path laid path) p j)) many) in
      let whole = then_behind (shown a) (shown b) (shown d) x.noted (behind fall end) h.noted
      (then_behind (shown b) (shown c) (shown d) fall end k' l') in
      on_ok_weaker r (λ (o : shown e ≡ scoped_from n (shown d)).
      scoped_noted n (shown a) (shown d) (shown e) all en whole o) m

  function_by : (b : Option TypedBodyTree) → function_noted laid is_open sizes path (function_at laid path).place b
      ≡ noted_body laid is_open sizes path b
  function_by None = refl
  function_by (Some b) = refl

  -- the body of a path, before which nothing was noted
  pub path_walked : (f : TypedFunctionTree) (a b : Notes) → function_at laid path ≡ f → shown a ≡ nothing
      → IsBehind a b (function_noted laid is_open sizes path f.place f.body)
      → shown b ≡ noted_path laid is_open sizes path
  path_walked f a b ef none h =
      let x = function_noted laid is_open sizes path f.place f.body in
      h ∙ (ap (λ z. behind z x) none ∙ (nothing_behind x
      ∙ (ap (λ (g : TypedFunctionTree). function_noted laid is_open sizes path g.place g.body) (sym ef)
      ∙ function_by (function_at laid path).body)))

  -- ## Values that are given back

  pub returned_noted : {T E : Type 0} (e : RvalueTree) (g : Given) (t : CType) (p : Place) (n : ℕ) (r : Result T E)
      (a b c d f : Notes) → p ≡ rvalue_place e → n ≡ length (shown a).pending
      → IsBehind a b (walked laid is_open sizes path true e).value → shown c ≡ sequenced_from n (shown b)
      → g ≡ given laid is_open path e → t ≡ result_type laid (function_at laid path)
      → shown d ≡ passing_if (differs g t) p (shown c) → OnOk r (IsBehind d f (one p Forms.Copy))
      → OnOk r (IsBehind a f (returned laid is_open sizes path (Some e)))
  returned_noted e g t p n r a b c d f ep en h k eg et l m =
      let q = rvalue_place e in
      let is = differs (given laid is_open path e) (result_type laid (function_at laid path)) in
      let value = value_of laid is_open sizes path true e in
      let same : differs g t ≡ is = ap (λ (z : Given). differs z t) eg
      ∙ ap (λ (u : CType). differs (given laid is_open path e) u) et in
      let own = sequenced_noted n (shown a) (shown b) (shown c) (walked laid is_open sizes path true e).value en h k in
      let l' = l ∙ (ap (λ z. passing_if z p (shown c)) same
      ∙ ap (λ (o : Place). passing_if is o (shown c)) ep) in
      let passed = passing_noted is q (shown a) (shown c) (shown d) value own l' in
      on_ok_weaker r (λ (o : IsBehind d f (one p Forms.Copy)).
      then_behind (shown a) (shown d) (shown f) (passing_if is q value) (one q Forms.Copy) passed
      (o ∙ ap (λ (z : Place). behind (shown d) (one z Forms.Copy)) ep)) m
