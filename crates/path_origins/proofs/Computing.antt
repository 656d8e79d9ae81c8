-- What the arms of operators read, and of what changes objects.
use Rattle.body_builder.specs.concrete_steps.Places.{is_pointer_scalar, rvalue_place}
use Rattle.body_builder.specs.lowering.Table.{conversion, implied}
use Rattle.path_origins.proofs.Laws.{pair_behind}
use Rattle.path_origins.proofs.ReadTrees.{read_by, stands}
use Rattle.path_origins.proofs.Values.{assigned, binary_ended, compound_ended, edge_valued, move_noted, moved_ended}
use Rattle.path_origins.proofs.Values.{pointers_noted, right_noted}
use Rattle.path_origins.specs.Expressions.{addressed, against, pointed_by, Walked, walked}
use Rattle.path_origins.specs.Noted.{behind, both, Noted, one, one_if, passing_if}
use Rattle.path_origins.specs.Opens.{is_among}
use Rattle.path_origins.specs.Shown.{shown, sizes_in}
use Rattle.path_origins.specs.Types.{differs, either, given, is_signed_word, is_unsigned_by_some, target_or, type_of}
use Rattle.path_origins.specs.declared.origins.Form.TheVariants as Forms
use Rattle.path_origins.specs.declared.origins.Notes.{Notes}
use Rattle.path_origins.specs.declared.origins.Span.{Span}
use Rattle.path_origins.specs.declared.types.Given.{Given}
use Rattle.path_origins.specs.declared.walks.Wanted.{Wanted}
use Rattle.path_origins.specs.declared.walks.Wanted.TheVariants as Wants
use Rattle.path_origins.specs.reading.Ends.{change_end, equality_end, operator_end}
use Rattle.path_origins.specs.reading.Reading.{IsAddressed, IsGiven, IsRead, IsReadAgainst, IsReadRight, IsTyped}
use Rattle.path_origins.specs.reading.Walks.{by_wanted, end_by, IsBehind, right_added, stored_from}
use Rattle.std.proofs.Common.{ap, ap₂, Bool, false, is_some, length, List, refl, Result, true, ℕ, ◌&&◌, ◌||◌, ◌∙◌, ◌≡◌}
use Rattle.std.specs.Prelude.{OnOk}
use Rattle.tm_cint.specs.declared.int_types.IntType.{IntType}
use Rattle.tm_cint.specs.declared.int_types.IntType.TheVariants as Ints
use Rattle.tm_cint.specs.declared.operators.BinOp.{BinOp}
use Rattle.tm_laid.specs.Layouts.{laid_tree}
use Rattle.tm_laid.specs.TypeCells.{entry_of}
use Rattle.tm_laid.specs.declared.layouts.Laid.{Laid}
use Rattle.tm_terms.specs.declared.places.Place.{Place}
use Rattle.tm_typed.specs.Rules.{is_comparison}
use Rattle.tm_typed.specs.TypedTrees.{a_binary, a_comparison_of_pointers, a_compound, a_compound_move, a_move}
use Rattle.tm_typed.specs.TypedTrees.{a_pointer_step, a_unary, a_unit_step, an_assignment, lvalue_place, lvalue_tree}
use Rattle.tm_typed.specs.TypedTrees.{LvalueTree, rvalue_tree, RvalueTree}
use Rattle.tm_typed.specs.Types.{is_enumerated}
use Rattle.tm_typed.specs.declared.expressions.Lvalue.{Lvalue}
use Rattle.tm_typed.specs.declared.expressions.Rvalue.{Rvalue}
use Rattle.tm_typed.specs.declared.expressions.Step.{Step}
use Rattle.tm_typed.specs.declared.expressions.Unary.{Unary}
use Rattle.tm_typed.specs.declared.types.CType.{CType}
use Rattle.tm_typed.specs.declared.types.Qualified.{Qualified}
use Rattle.tm_typed.specs.declared.types.Scalar.{Scalar}

module _ (laid : Laid) (opens : List Place) (sizes : List ℕ) (path : ℕ) where
  abbrev walks : Bool → RvalueTree → Walked
  walks = walked (laid_tree laid) (is_among opens) (sizes_in sizes) path

  abbrev reaches : LvalueTree → Noted
  reaches = addressed (laid_tree laid) (is_among opens) (sizes_in sizes) path

  abbrev gives : RvalueTree → Given
  gives = given (laid_tree laid) (is_among opens) path

  abbrev typed : LvalueTree → Qualified
  typed = type_of (laid_tree laid) (is_among opens) path

  -- ## Operators

  pub unary_read : {E : Type 0} (r : Result Given E) (w : Wanted) (used : Bool) (u v : Rvalue) (o : Unary)
      (t : IntType) (p : Place) (g : Given) (is : Bool) (a b c : Notes)
      → rvalue_tree u ≡ a_unary o t (rvalue_tree v) p → IsRead laid opens sizes path Wants.Value true v a b
      → IsGiven laid opens path v g → is ≡ is_unsigned_by_some g
      → OnOk r (IsBehind b c (behind (one p (Forms.Unary is)) (end_by w false p)))
      → OnOk r (IsRead laid opens sizes path w used u a c)
  unfolding IsRead IsGiven
  unary_read r w used u v o t p g is a b c tree value from found h =
      let e = rvalue_tree v in
      read_by laid opens sizes path r w used u (a_unary o t e p) a c tree h (λ k. edge_valued (laid_tree laid)
      (is_among opens) (sizes_in sizes) path w false false p (Forms.Unary (is_unsigned_by_some (gives e))) (shown a)
      (shown b) (shown c)
      (walks true e).value refl value (k ∙ ap (λ i. behind (shown b) (behind (one p (Forms.Unary i))
      (end_by w false p))) (found ∙ ap is_unsigned_by_some from)))

  pub binary_read : {E : Type 0} (r : Result Given E) (w : Wanted) (used : Bool) (u x y l m : Rvalue) (o : BinOp)
      (t : IntType) (p : Place) (first second : Span) (g h : Given) (a b c d : Notes)
      → rvalue_tree u ≡ a_binary o t (rvalue_tree x) (rvalue_tree y) p → l ≡ x → m ≡ y
      → IsRead laid opens sizes path Wants.Bare true x a b → first.first ≡ a.size → first.end ≡ b.size
      → IsReadAgainst laid opens sizes path Wants.Bare y p first second b c → second.first ≡ b.size
      → second.end ≡ c.size → IsGiven laid opens path x g → IsGiven laid opens path y h
      → OnOk r (IsBehind c d (behind (behind
      (one_if (is_some (implied (rvalue_tree l))) (rvalue_place (rvalue_tree l)) Forms.Conversion)
      (one_if (is_some (implied (rvalue_tree m))) (rvalue_place (rvalue_tree m)) Forms.Conversion))
      (operator_end (is_comparison o) (either g h) w p)))
      → OnOk r (IsRead laid opens sizes path w used u a d)
  unfolding IsGiven
  binary_read r w used u x y l m o t p first second g h a b c d tree el em ex e1 e2 ey e3 e4 eg eh k =
      let e = rvalue_tree x in
      let f = rvalue_tree y in
      let ends = λ (i j : RvalueTree) (s : Bool). behind (behind
      (one_if (is_some (implied i)) (rvalue_place i) Forms.Conversion)
      (one_if (is_some (implied j)) (rvalue_place j) Forms.Conversion)) (operator_end (is_comparison o) s w p) in
      read_by laid opens sizes path r w used u (a_binary o t e f p) a d tree k (λ z. binary_ended (laid_tree laid)
      (is_among opens) (sizes_in sizes) path (is_comparison o) (either (gives e) (gives f)) w p (rvalue_place e)
      (rvalue_place f)
      (is_some (implied e)) (is_some (implied f)) (shown a) (shown c) (shown d)
      (both p (walks true e).bare (walks true f).bare)
      (stands laid opens sizes path Wants.Bare x y p first second a b c ex e1 e2 ey e3 e4)
      (z ∙ ap₂ (λ (i j : Rvalue). behind (shown c) (ends (rvalue_tree i) (rvalue_tree j) (either g h))) el em
      ∙ ap (λ s. behind (shown c) (ends e f s)) (ap₂ either eg eh)))

  pub pointers_read : {E : Type 0} (r : Result Given E) (w : Wanted) (used : Bool) (u x y : Rvalue) (equal : Bool)
      (p : Place) (first second : Span) (a b c d : Notes)
      → rvalue_tree u ≡ a_comparison_of_pointers equal (rvalue_tree x) (rvalue_tree y) p
      → IsRead laid opens sizes path Wants.Value true x a b → first.first ≡ a.size → first.end ≡ b.size
      → IsReadAgainst laid opens sizes path Wants.Value y p first second b c → second.first ≡ b.size
      → second.end ≡ c.size
      → OnOk r (IsBehind c d (behind (behind (one p Forms.Usable) (one p Forms.Usable)) (equality_end w p)))
      → OnOk r (IsRead laid opens sizes path w used u a d)
  pointers_read r w used u x y equal p first second a b c d tree ex e1 e2 ey e3 e4 h =
      read_by laid opens sizes path r w used u (a_comparison_of_pointers equal (rvalue_tree x) (rvalue_tree y) p) a d
      tree h (pointers_noted (laid_tree laid) (is_among opens) (sizes_in sizes) path w p (shown a) (shown c) (shown d)
      (both p (walks true (rvalue_tree x)).value (walks true (rvalue_tree y)).value)
      (stands laid opens sizes path Wants.Value x y p first second a b c ex e1 e2 ey e3 e4))

  -- a pointer that is moved, which stands first or second
  pub first_moved : {E : Type 0} (r : Result Given E) (w : Wanted) (used : Bool) (u x y : Rvalue) (minus : Bool)
      (cells : ℕ) (p : Place) (first second : Span) (n : ℕ) (g : Given) (a b c d : Notes)
      → rvalue_tree u ≡ a_move minus cells false (rvalue_tree x) (rvalue_tree y) p
      → IsRead laid opens sizes path Wants.Value true x a b → first.first ≡ a.size → first.end ≡ b.size
      → IsReadAgainst laid opens sizes path Wants.Value y p first second b c → second.first ≡ b.size
      → second.end ≡ c.size → IsGiven laid opens path x g → n ≡ target_or g 0
      → OnOk r (IsBehind c d (behind (one p (Forms.Move n)) (end_by w true p)))
      → OnOk r (IsRead laid opens sizes path w used u a d)
  unfolding IsGiven
  first_moved r w used u x y minus cells p first second n g a b c d tree ex e1 e2 ey e3 e4 from to h =
      read_by laid opens sizes path r w used u (a_move minus cells false (rvalue_tree x) (rvalue_tree y) p) a d tree h
      (move_noted (laid_tree laid) (is_among opens) (sizes_in sizes) path w p n
      (target_or (gives (rvalue_tree x)) 0) (shown a) (shown c) (shown d)
      (both p (walks true (rvalue_tree x)).value (walks true (rvalue_tree y)).value)
      (to ∙ ap (λ k. target_or k 0) from) (stands laid opens sizes path Wants.Value x y p first second a b c ex e1 e2
      ey e3 e4))

  pub second_moved : {E : Type 0} (r : Result Given E) (w : Wanted) (used : Bool) (u x y : Rvalue) (minus : Bool)
      (cells : ℕ) (p : Place) (first second : Span) (n : ℕ) (g : Given) (a b c d : Notes)
      → rvalue_tree u ≡ a_move minus cells true (rvalue_tree y) (rvalue_tree x) p
      → IsRead laid opens sizes path Wants.Value true x a b → first.first ≡ a.size → first.end ≡ b.size
      → IsReadAgainst laid opens sizes path Wants.Value y p first second b c → second.first ≡ b.size
      → second.end ≡ c.size → IsGiven laid opens path y g → n ≡ target_or g 0
      → OnOk r (IsBehind c d (behind (one p (Forms.Move n)) (end_by w true p)))
      → OnOk r (IsRead laid opens sizes path w used u a d)
  unfolding IsGiven
  second_moved r w used u x y minus cells p first second n g a b c d tree ex e1 e2 ey e3 e4 from to h =
      read_by laid opens sizes path r w used u (a_move minus cells true (rvalue_tree y) (rvalue_tree x) p) a d tree h
      (move_noted (laid_tree laid) (is_among opens) (sizes_in sizes) path w p n
      (target_or (gives (rvalue_tree y)) 0) (shown a) (shown c) (shown d)
      (both p (walks true (rvalue_tree x)).value (walks true (rvalue_tree y)).value)
      (to ∙ ap (λ k. target_or k 0) from) (stands laid opens sizes path Wants.Value x y p first second a b c ex e1 e2
      ey e3 e4))

  -- ## What changes objects

  pub assignment_read : {E : Type 0} (r : Result Given E) (w : Wanted) (used : Bool) (u v k : Rvalue) (l : Lvalue)
      (s : Scalar) (p q : Place) (is : Bool) (n : ℕ) (t : CType) (of : Qualified) (g : Given) (first second : Span)
      (a b c d f : Notes) → rvalue_tree u ≡ an_assignment s (lvalue_tree l) (rvalue_tree v) p → k ≡ v
      → n ≡ length (shown a).pending → IsAddressed laid opens sizes path l a b → IsTyped laid opens path l of
      → first.first ≡ a.size → first.end ≡ b.size
      → IsReadAgainst laid opens sizes path Wants.Value v p first second b c → IsGiven laid opens path v g
      → second.first ≡ b.size → second.end ≡ c.size → t ≡ (entry_of (laid_tree laid).file of.number).ctype
      → q ≡ rvalue_place (rvalue_tree k) → shown d ≡ passing_if (differs g t) q (shown c)
      → is ≡ is_pointer_scalar s
      → OnOk r (shown f ≡ behind (stored_from n p (shown d)) (end_by w is p))
      → OnOk r (IsRead laid opens sizes path w used u a f)
  unfolding IsGiven IsAddressed IsTyped IsReadAgainst
  assignment_read r w used u v k l s p q is n t of g first second a b c d f tree ek before at et e1 e2 value eg e3 e4
      ec eq ed same h =
      let e = rvalue_tree v in
      let x = lvalue_tree l in
      let ctype = (entry_of (laid_tree laid).file (typed x).number).ctype in
      let own : t ≡ ctype = ec ∙ ap (λ (z : Qualified). (entry_of (laid_tree laid).file z.number).ctype) et in
      let name : q ≡ rvalue_place e = eq ∙ ap (λ (z : Rvalue). rvalue_place (rvalue_tree z)) ek in
      read_by laid opens sizes path r w used u (an_assignment s x e p) a f tree h (assigned (laid_tree laid)
      (is_among opens) (sizes_in sizes) path w is (is_pointer_scalar s) p (rvalue_place e) n (differs g t) (differs
      (gives e) ctype)
      first second (shown a) (shown b) (shown c) (shown d) (shown f) (reaches x) (walks true e).value same
      (ap₂ differs eg own) before at e1 e2 e3 e4 value
      (ed ∙ ap (λ z. passing_if (differs g t) z (shown c)) name))

  -- the address, what is loaded, and the right side of `op=`
  sided : (w : Wanted) (v : Rvalue) (l : Lvalue) (at p : Place) (edges : Span) (a b c : Notes)
      → IsAddressed laid opens sizes path l a b → edges.first ≡ a.size → edges.end ≡ b.size
      → at ≡ lvalue_place (lvalue_tree l) → IsReadRight laid opens sizes path w v at p edges b c
      → IsBehind a c (against (laid_tree laid) (is_among opens) (sizes_in sizes) path p (reaches (lvalue_tree l))
      (one (lvalue_place (lvalue_tree l)) Forms.Load) (by_wanted w (walks true (rvalue_tree v))))
  unfolding IsAddressed IsReadRight
  sided w v l at p edges a b c address e1 e2 name value =
      let x = by_wanted w (walks true (rvalue_tree v)) in
      right_noted (laid_tree laid) (is_among opens) (sizes_in sizes) path p edges (shown a) (shown b) (shown c)
      (reaches (lvalue_tree l)) (one (lvalue_place (lvalue_tree l)) Forms.Load) x address e1 e2
      (value ∙ ap (λ q. right_added p edges (shown b) (one q Forms.Load) x) name)

  pub compound_read : {E : Type 0} (r : Result Given E) (w : Wanted) (used : Bool) (u v i j : Rvalue) (l : Lvalue)
      (o : BinOp) (cell t : IntType) (volatile : Bool) (p q at : Place) (n : ℕ) (found is : Bool) (of : Qualified)
      (g : Given) (edges : Span) (a b c d : Notes)
      → rvalue_tree u ≡ a_compound o cell t volatile (lvalue_tree l) (rvalue_tree v) p → i ≡ v → j ≡ v
      → n ≡ length (shown a).pending → IsAddressed laid opens sizes path l a b → IsTyped laid opens path l of
      → edges.first ≡ a.size → edges.end ≡ b.size → at ≡ lvalue_place (lvalue_tree l)
      → IsReadRight laid opens sizes path Wants.Bare v at p edges b c → IsGiven laid opens path v g
      → found ≡ ((is_signed_word t && is_enumerated of.number) || is_unsigned_by_some g)
      → is ≡ is_some (implied (rvalue_tree i)) → q ≡ rvalue_place (rvalue_tree j)
      → OnOk r (shown d ≡ behind (stored_from n p (behind (shown c) (change_end found (is_some (conversion cell t))
      at is q (is_some (conversion t cell)) p))) (end_by w false p))
      → OnOk r (IsRead laid opens sizes path w used u a d)
  unfolding IsGiven IsTyped
  compound_read r w used u v i j l o cell t volatile p q at n found is of g edges a b c d tree ei ej before address et
      e1 e2 name value eg finds converts operand h =
      let e = rvalue_tree v in
      let x = lvalue_tree l in
      let loaded = is_some (conversion cell t) in
      let back = is_some (conversion t cell) in
      let unsigned : Bool = (is_signed_word t && is_enumerated (typed x).number) || is_unsigned_by_some (gives e) in
      let place : q ≡ rvalue_place e = operand ∙ ap (λ (z : Rvalue). rvalue_place (rvalue_tree z)) ej in
      read_by laid opens sizes path r w used u (a_compound o cell t volatile x e p) a d tree h (λ k. compound_ended
      (laid_tree laid) (is_among opens) (sizes_in sizes) path w p (lvalue_place x)
      (rvalue_place e) n found unsigned loaded is
      (is_some (implied e)) back (shown a) (shown c) (shown d)
      (against (laid_tree laid) (is_among opens) (sizes_in sizes) path p (reaches x) (one (lvalue_place x) Forms.Load)
      (walks true e).bare) (finds ∙ ap₂ (λ (z : Qualified) (y : Given). (is_signed_word t && is_enumerated z.number)
      || is_unsigned_by_some y) et eg) (converts ∙ ap (λ (z : Rvalue). is_some (implied (rvalue_tree z))) ei) before
      (sided Wants.Bare v l at p edges a b c address e1 e2 name value)
      (k ∙ ap₂ (λ z y. behind (stored_from n p (behind (shown c) (change_end found loaded z is y back p)))
      (end_by w false p)) name place))

  pub compound_moved : {E : Type 0} (r : Result Given E) (w : Wanted) (used : Bool) (u v : Rvalue) (l : Lvalue)
      (minus : Bool) (cells class : ℕ) (p at : Place) (n k : ℕ) (edges : Span) (a b c d : Notes)
      → rvalue_tree u ≡ a_compound_move minus cells class (lvalue_tree l) (rvalue_tree v) p
      → n ≡ length (shown a).pending → IsAddressed laid opens sizes path l a b → edges.first ≡ a.size
      → edges.end ≡ b.size → at ≡ lvalue_place (lvalue_tree l)
      → IsReadRight laid opens sizes path Wants.Value v at p edges b c
      → k ≡ pointed_by (entry_of (laid_tree laid).file class).ctype
      → OnOk r (shown d ≡ behind (stored_from n p (behind (shown c) (one p (Forms.Move k)))) (end_by w true p))
      → OnOk r (IsRead laid opens sizes path w used u a d)
  compound_moved r w used u v l minus cells class p at n k edges a b c d tree before address e1 e2 name value to h =
      let x = lvalue_tree l in
      let e = rvalue_tree v in
      read_by laid opens sizes path r w used u (a_compound_move minus cells class x e p) a d tree h (moved_ended
      (laid_tree laid) (is_among opens) (sizes_in sizes) path w p n k (pointed_by (entry_of
      (laid_tree laid).file class).ctype) (shown a)
      (shown c) (shown d) (against (laid_tree laid) (is_among opens) (sizes_in sizes) path p (reaches x)
      (one (lvalue_place x) Forms.Load) (walks true e).value) to before
      (sided Wants.Value v l at p edges a b c address e1 e2 name value))

  -- the address, what is loaded, and the constant of `++` and `--`
  stepped : (l : Lvalue) (p : Place) (a b : Notes) → IsAddressed laid opens sizes path l a b
      → behind (behind (shown b) (one (lvalue_place (lvalue_tree l)) Forms.Load)) (one p Forms.Constant)
      ≡ behind (shown a) (behind (behind (reaches (lvalue_tree l)) (one (lvalue_place (lvalue_tree l)) Forms.Load))
      (one p Forms.Constant))
  unfolding IsAddressed
  stepped l p a b address =
      let load = one (lvalue_place (lvalue_tree l)) Forms.Load in
      pair_behind (shown a) (shown b) (behind (shown b) load) (behind (behind (shown b) load) (one p Forms.Constant))
      (reaches (lvalue_tree l)) load (one p Forms.Constant) address refl refl

  pub step_read : {E : Type 0} (r : Result Given E) (w : Wanted) (used : Bool) (u : Rvalue) (l : Lvalue) (o : Step)
      (cell t : IntType) (volatile : Bool) (p at : Place) (n : ℕ) (found is : Bool) (of : Qualified) (a b c : Notes)
      → rvalue_tree u ≡ a_unit_step o cell t volatile (lvalue_tree l) p → n ≡ length (shown a).pending
      → IsAddressed laid opens sizes path l a b → IsTyped laid opens path l of
      → found ≡ (is_signed_word t && is_enumerated of.number) → is ≡ is_some (conversion Ints.Int t)
      → at ≡ lvalue_place (lvalue_tree l)
      → OnOk r (shown c ≡ behind (stored_from n p (behind (behind (behind (shown b) (one at Forms.Load))
      (one p Forms.Constant)) (change_end found (is_some (conversion cell t)) at is p (is_some (conversion t cell)) p)))
      (end_by w false p))
      → OnOk r (IsRead laid opens sizes path w used u a c)
  unfolding IsTyped
  step_read r w used u l o cell t volatile p at n found is of a b c tree before address et finds converts name h =
      let x = lvalue_tree l in
      let loaded = is_some (conversion cell t) in
      let back = is_some (conversion t cell) in
      let load = one (lvalue_place x) Forms.Load in
      let constant = one p Forms.Constant in
      read_by laid opens sizes path r w used u (a_unit_step o cell t volatile x p) a c tree h (λ k. compound_ended
      (laid_tree laid) (is_among opens) (sizes_in sizes) path w p (lvalue_place x) p n found
      (is_signed_word t && is_enumerated (typed x).number) loaded is (is_some (conversion Ints.Int t)) back (shown a)
      (behind (behind (shown b) load) constant) (shown c) (behind (behind (reaches x) load) constant)
      (finds ∙ ap (λ (z : Qualified). is_signed_word t && is_enumerated z.number) et) converts before
      (stepped l p a b address) (k ∙ ap (λ z. behind (stored_from n p (behind (behind (behind (shown b)
      (one z Forms.Load)) constant) (change_end found loaded z is p back p))) (end_by w false p)) name))

  pub step_moved : {E : Type 0} (r : Result Given E) (w : Wanted) (used : Bool) (u : Rvalue) (l : Lvalue) (o : Step)
      (cells class : ℕ) (p at : Place) (n k : ℕ) (a b c : Notes)
      → rvalue_tree u ≡ a_pointer_step o cells class (lvalue_tree l) p → n ≡ length (shown a).pending
      → IsAddressed laid opens sizes path l a b → k ≡ pointed_by (entry_of (laid_tree laid).file class).ctype
      → at ≡ lvalue_place (lvalue_tree l)
      → OnOk r (shown c ≡ behind (stored_from n p (behind (behind (behind (shown b) (one at Forms.Load))
      (one p Forms.Constant)) (one p (Forms.Move k)))) (end_by w true p))
      → OnOk r (IsRead laid opens sizes path w used u a c)
  step_moved r w used u l o cells class p at n k a b c tree before address to name h =
      let x = lvalue_tree l in
      let load = one (lvalue_place x) Forms.Load in
      let constant = one p Forms.Constant in
      read_by laid opens sizes path r w used u (a_pointer_step o cells class x p) a c tree h (λ i. moved_ended
      (laid_tree laid) (is_among opens) (sizes_in sizes) path w p n k (pointed_by (entry_of
      (laid_tree laid).file class).ctype) (shown a)
      (behind (behind (shown b) load) constant) (shown c) (behind (behind (reaches x) load) constant) to before
      (stepped l p a b address) (i ∙ ap (λ z. behind (stored_from n p (behind (behind (behind (shown b)
      (one z Forms.Load)) constant) (one p (Forms.Move k)))) (end_by w true p)) name))
