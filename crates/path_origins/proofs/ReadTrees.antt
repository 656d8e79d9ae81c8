-- What the arms of the walk of an expression read, in the words of the code's own trees: an arm walks its operands, and
-- ends with a call that notes the rest and gives what the expression gives.
use Rattle.body_builder.specs.concrete_steps.NextAction.{function_at}
use Rattle.body_builder.specs.concrete_steps.Places.{is_pointer_scalar, result_type, rvalue_place}
use Rattle.body_builder.specs.lowering.Table.{conversion, is_same_place}
use Rattle.path_origins.proofs.Laws.{fork_noted, then_behind, value_noted}
use Rattle.path_origins.proofs.Values.{both_against, both_ways_noted, call_ended, call_given, choice_noted, comma_noted}
use Rattle.path_origins.proofs.Values.{conversion_read, ends_addressed, ends_given, ends_read, ends_typed}
use Rattle.path_origins.proofs.Values.{folded_branch, folded_value, load_noted, only_valued, same_noted, value_placed}
use Rattle.path_origins.specs.Expressions.{addressed, against, decided, met, valued, Walked, walked}
use Rattle.path_origins.specs.Noted.{behind, both, enumerating_if, Noted, one, one_if, scoped, sequenced, skips}
use Rattle.path_origins.specs.Opens.{is_among}
use Rattle.path_origins.specs.Shown.{shown, sizes_in}
use Rattle.path_origins.specs.Types.{casts_number, given, given_by, has_value, held_by, is_pointer, object_type}
use Rattle.path_origins.specs.Types.{type_of}
use Rattle.path_origins.specs.declared.origins.Form.{Form}
use Rattle.path_origins.specs.declared.origins.Form.TheVariants as Forms
use Rattle.path_origins.specs.declared.origins.Notes.{Notes}
use Rattle.path_origins.specs.declared.origins.Span.{Span}
use Rattle.path_origins.specs.declared.types.Given.{Given}
use Rattle.path_origins.specs.declared.walks.Wanted.{Wanted}
use Rattle.path_origins.specs.declared.walks.Wanted.TheVariants as Wants
use Rattle.path_origins.specs.reading.Ends.{converted_end, stores_and_body}
use Rattle.path_origins.specs.reading.Reading.{AreRead, IsAddressed, IsGiven, IsRead, IsReadAgainst, IsTested, IsTyped}
use Rattle.path_origins.specs.reading.Walks.{by_wanted, decided_by, end_by, IsBehind, sequenced_from}
use Rattle.std.proofs.Common.{ap, ap₂, Bool, false, is_some, length, List, refl, Result, sym, true, ℕ, ◌&&◌, ◌||◌, ◌∙◌}
use Rattle.std.proofs.Common.{◌≡◌}
use Rattle.std.proofs.lemmas.Result.{IfOk-weaker, on_ok_weaker}
use Rattle.std.specs.Prelude.{IfOk, OnOk, ℤ}
use Rattle.tm_cint.specs.declared.int_types.IntType.{IntType}
use Rattle.tm_laid.specs.Layouts.{callee, laid_tree}
use Rattle.tm_laid.specs.declared.layouts.Laid.{Laid}
use Rattle.tm_terms.specs.declared.places.Place.{Place}
use Rattle.tm_typed.specs.TypedTrees.{a_choice, a_comma, a_conversion, a_folded, a_function_call, a_load, a_not}
use Rattle.tm_typed.specs.TypedTrees.{a_structure, as_rvalues, lvalue_place, lvalue_tree, LvalueTree, rvalue_tree}
use Rattle.tm_typed.specs.TypedTrees.{RvalueTree, the_same}
use Rattle.tm_typed.specs.declared.expressions.Lvalue.{Lvalue}
use Rattle.tm_typed.specs.declared.expressions.Lvalue.TheVariants as Lvalues
use Rattle.tm_typed.specs.declared.expressions.Rvalue.{Rvalue}
use Rattle.tm_typed.specs.declared.scopes.ObjectNumber.{ObjectNumber}
use Rattle.tm_typed.specs.declared.types.Qualified.{Qualified}
use Rattle.tm_typed.specs.declared.types.Scalar.{Scalar}

-- a tree by what a box holds, or two boxes
pub boxed : {S T U : Type 0} {e : U} {x y : S} (g : S → T) (f : T → U) → y ≡ x → e ≡ f (g x) → e ≡ f (g y)
boxed g f same is = is ∙ ap (λ z. f (g z)) (sym same)

pub boxes : {S R T Q U : Type 0} {e : U} {x y : S} {v w : R} (g : S → T) (h : R → Q) (f : T → Q → U) → y ≡ x
    → w ≡ v → e ≡ f (g x) (h v) → e ≡ f (g y) (h w)
boxes g h f same other is = is ∙ ap₂ (λ z k. f (g z) (h k)) (sym same) (sym other)

-- the place of an lvalue that two boxes hold
pub placed_as : {q : Place} {l m n : Lvalue} → q ≡ lvalue_place (lvalue_tree m) → m ≡ n → l ≡ n
    → q ≡ lvalue_place (lvalue_tree l)
placed_as is same other = is ∙ ap (λ (z : Lvalue). lvalue_place (lvalue_tree z)) (same ∙ sym other)

module _ (laid : Laid) (opens : List Place) (sizes : List ℕ) (path : ℕ) where
  abbrev pub walks : Bool → RvalueTree → Walked
  walks = walked (laid_tree laid) (is_among opens) (sizes_in sizes) path

  abbrev pub reaches : LvalueTree → Noted
  reaches = addressed (laid_tree laid) (is_among opens) (sizes_in sizes) path

  abbrev pub gives : RvalueTree → Given
  gives = given (laid_tree laid) (is_among opens) path

  abbrev pub typed : LvalueTree → Qualified
  typed = type_of (laid_tree laid) (is_among opens) path

  -- ## What is known by its tree, once a call has noted its end

  pub read_by : {T E P : Type 0} (r : Result T E) (w : Wanted) (used : Bool) (u : Rvalue) (e : RvalueTree)
      (a b : Notes) → rvalue_tree u ≡ e → OnOk r P → (P → IsBehind a b (by_wanted w (walks used e)))
      → OnOk r (IsRead laid opens sizes path w used u a b)
  unfolding IsRead
  read_by r w used u e a b is h f =
      ends_read (laid_tree laid) (is_among opens) (sizes_in sizes) path r w used u e (shown a) (shown b) is h f

  pub gives_by : {E : Type 0} (r : Result Given E) (u : Rvalue) (e : RvalueTree) (g : Given) → rvalue_tree u ≡ e
      → IfOk r (λ x. x ≡ g) → g ≡ gives e → IfOk r (λ x. IsGiven laid opens path u x)
  unfolding IsGiven
  gives_by r u e g is h k =
      ends_given (laid_tree laid) (is_among opens) (sizes_in sizes) path r u e g is h k

  pub addressed_by : {T E P : Type 0} (r : Result T E) (u : Lvalue) (l : LvalueTree) (a b : Notes)
      → lvalue_tree u ≡ l → OnOk r P → (P → IsBehind a b (reaches l))
      → OnOk r (IsAddressed laid opens sizes path u a b)
  unfolding IsAddressed
  addressed_by r u l a b is h f =
      ends_addressed (laid_tree laid) (is_among opens) (sizes_in sizes) path r u l (shown a) (shown b) is h f

  pub typed_by : {E : Type 0} (r : Result Qualified E) (u : Lvalue) (l : LvalueTree) (q : Qualified)
      → lvalue_tree u ≡ l → IfOk r (λ x. x ≡ q) → q ≡ typed l → IfOk r (λ x. IsTyped laid opens path u x)
  unfolding IsTyped
  typed_by r u l q is h k =
      ends_typed (laid_tree laid) (is_among opens) (sizes_in sizes) path r u l q is h k

  -- ## Operands

  -- two operands, of which the second one stands against the first
  pub stands : (w : Wanted) (x y : Rvalue) (p : Place) (first second : Span) (a b c : Notes)
      → IsRead laid opens sizes path w true x a b → first.first ≡ a.size → first.end ≡ b.size
      → IsReadAgainst laid opens sizes path w y p first second b c → second.first ≡ b.size → second.end ≡ c.size
      → IsBehind a c (both p (by_wanted w (walks true (rvalue_tree x))) (by_wanted w (walks true (rvalue_tree y))))
  unfolding IsRead IsReadAgainst
  stands w x y p first second a b c ex e1 e2 ey e3 e4 =
      both_against p first second (shown a) (shown b) (shown c) (by_wanted w (walks true (rvalue_tree x)))
      (by_wanted w (walks true (rvalue_tree y))) ex e1 e2 e3 e4 ey

  -- ## Edges alone

  pub leaf_read : {E : Type 0} (r : Result Given E) (w : Wanted) (used : Bool) (u : Rvalue) (e : RvalueTree)
      (pointer : Bool) (p : Place) (f : Form) (a b : Notes) → rvalue_tree u ≡ e
      → walks used e ≡ valued (laid_tree laid) (is_among opens) (sizes_in sizes) path pointer p (one p f)
      → OnOk r (IsBehind a b (behind (one p f) (end_by w pointer p)))
      → OnOk r (IsRead laid opens sizes path w used u a b)
  leaf_read r w used u e pointer p f a b tree is h =
      read_by r w used u e a b tree h (λ k. only_valued (laid_tree laid) (is_among opens) (sizes_in sizes) path w
      pointer p f (shown a) (shown b) k ∙ ap (λ z. behind (shown a) (by_wanted w z)) (sym is))

  pub given_is : (u : Rvalue) (e : RvalueTree) (g : Given) → rvalue_tree u ≡ e → g ≡ gives e
      → IsGiven laid opens path u g
  unfolding IsGiven
  given_is u e g is h = h ∙ ap gives (sym is)

  -- what is folded
  pub folded_tested : (w : Wanted) (used : Bool) (u v : Rvalue) (z : ℤ) (a b : Notes)
      → rvalue_tree u ≡ a_folded z (rvalue_tree v) → w ≡ Wants.Branch
      → IsRead laid opens sizes path Wants.Branch true v a b → IsRead laid opens sizes path w used u a b
  unfolding IsRead
  folded_tested w used u v z a b tree is h =
      folded_branch (laid_tree laid) (is_among opens) (sizes_in sizes) path w used z (rvalue_tree v) (shown a) (shown b)
      is h ∙ ap (λ (e : RvalueTree). behind (shown a) (by_wanted w (walks used e))) (sym tree)

  pub folded_read : (w : Wanted) (used : Bool) (u v : Rvalue) (z : ℤ) (q : Place) (a b : Notes)
      → rvalue_tree u ≡ a_folded z (rvalue_tree v) → (w ≡ Wants.Branch → ⊥) → q ≡ rvalue_place (rvalue_tree v)
      → IsBehind a b (one q Forms.Constant) → IsRead laid opens sizes path w used u a b
  unfolding IsRead
  folded_read w used u v z q a b tree not place h =
      folded_value (laid_tree laid) (is_among opens) (sizes_in sizes) path w used z (rvalue_tree v) q (shown a)
      (shown b) not place h ∙ ap (λ (e : RvalueTree). behind (shown a) (by_wanted w (walks used e))) (sym tree)

  -- ## What one operand or address gives, and the end

  -- what is walked of an operand stands for the whole value
  pub part_read : {E : Type 0} (r : Result Given E) (w : Wanted) (used : Bool) (u : Rvalue) (e : RvalueTree)
      (pointer : Bool) (p : Place) (x : Noted) (a b c : Notes) → rvalue_tree u ≡ e
      → walks used e ≡ valued (laid_tree laid) (is_among opens) (sizes_in sizes) path pointer p x → IsBehind a b x
      → OnOk r (IsBehind b c (end_by w pointer p)) → OnOk r (IsRead laid opens sizes path w used u a c)
  part_read r w used u e pointer p x a b c tree is before h =
      read_by r w used u e a c tree h (λ k. value_noted (laid_tree laid) (is_among opens) (sizes_in sizes) path w
      pointer p (shown a) (shown b) (shown c) x before k ∙ ap (λ z. behind (shown a) (by_wanted w z)) (sym is))

  pub load_read : {E : Type 0} (r : Result Given E) (w : Wanted) (used : Bool) (u : Rvalue) (l m : Lvalue) (s : Scalar)
      (volatile : Bool) (q : Place) (is : Bool) (a b c : Notes) → rvalue_tree u ≡ a_load s volatile (lvalue_tree l)
      → m ≡ l → q ≡ lvalue_place (lvalue_tree m) → is ≡ is_pointer_scalar s → IsAddressed laid opens sizes path l a b
      → OnOk r (IsBehind b c (behind (one q Forms.Load) (end_by w is q)))
      → OnOk r (IsRead laid opens sizes path w used u a c)
  unfolding IsAddressed
  load_read r w used u l m s volatile q is a b c tree em eq same address h =
      read_by r w used u (a_load s volatile (lvalue_tree l)) a c tree h (load_noted (laid_tree laid) (is_among opens)
      (sizes_in sizes) path w is (is_pointer_scalar s) q (lvalue_place (lvalue_tree l)) (shown a) (shown b) (shown c)
      (reaches (lvalue_tree l)) (eq ∙ ap (λ (z : Lvalue). lvalue_place (lvalue_tree z)) em) same address)

  -- a structure, at a place that is known by another name
  pub structure_read : {E : Type 0} (r : Result Given E) (w : Wanted) (used : Bool) (u : Rvalue) (l : Lvalue)
      (q : Place) (a b c : Notes) → rvalue_tree u ≡ a_structure (lvalue_tree l) → q ≡ lvalue_place (lvalue_tree l)
      → IsAddressed laid opens sizes path l a b → OnOk r (IsBehind b c (end_by w false q))
      → OnOk r (IsRead laid opens sizes path w used u a c)
  unfolding IsAddressed
  structure_read r w used u l q a b c tree place address h =
      read_by r w used u (a_structure (lvalue_tree l)) a c tree h (value_placed (laid_tree laid) (is_among opens)
      (sizes_in sizes) path w false q (lvalue_place (lvalue_tree l)) (shown a) (shown b) (shown c)
      (reaches (lvalue_tree l)) place address)

  -- what is held in what an lvalue designates
  pub held_in : (l : Lvalue) (s : Scalar) (of : Qualified) (g : Given) → IsTyped laid opens path l of
      → ((o : Place → Bool) (k : ℕ) → g ≡ held_by (laid_tree laid) o k s of)
      → g ≡ held_by (laid_tree laid) (is_among opens) path s (typed (lvalue_tree l))
  unfolding IsTyped
  held_in l s of g et h = h (is_among opens) path ∙ ap (held_by (laid_tree laid) (is_among opens) path s) et

  pub same_read : {E : Type 0} (r : Result Given E) (w : Wanted) (used : Bool) (u v : Rvalue) (p : Place) (g : Given)
      (is : Bool) (a b c : Notes) → rvalue_tree u ≡ the_same (rvalue_tree v) p
      → IsRead laid opens sizes path Wants.Value true v a b → IsGiven laid opens path v g → is ≡ is_among opens p
      → OnOk r (shown c ≡ behind (enumerating_if (casts_number is g) p (shown b)) (end_by w (is_pointer g) p))
      → OnOk r (IsRead laid opens sizes path w used u a c)
  unfolding IsRead IsGiven
  same_read r w used u v p g is a b c tree value from same h =
      read_by r w used u (the_same (rvalue_tree v) p) a c tree h (same_noted (laid_tree laid) (is_among opens)
      (sizes_in sizes) path w g (gives (rvalue_tree v)) is (is_among opens p) p (shown a) (shown b) (shown c)
      (walks true (rvalue_tree v)).value from same value)

  pub converted_read : {E : Type 0} (r : Result Given E) (w : Wanted) (used : Bool) (u v k : Rvalue) (from to : IntType)
      (p q : Place) (alike makes : Bool) (a b c : Notes) → rvalue_tree u ≡ a_conversion from to (rvalue_tree v) p
      → k ≡ v → q ≡ rvalue_place (rvalue_tree k) → alike ≡ is_same_place p q → makes ≡ is_some (conversion from to)
      → IsRead laid opens sizes path Wants.Value true v a b → OnOk r (IsBehind b c (converted_end w alike p makes))
      → OnOk r (IsRead laid opens sizes path w used u a c)
  unfolding IsRead
  converted_read r w used u v k from to p q alike makes a b c tree ek eq same is value h =
      let e = rvalue_tree v in
      read_by r w used u (a_conversion from to e p) a c tree h (conversion_read (laid_tree laid) (is_among opens)
      (sizes_in sizes) path w alike (is_same_place p (rvalue_place e)) p makes (is_some (conversion from to)) (shown a)
      (shown b) (shown c) (walks true e).value
      (same ∙ ap (is_same_place p) (eq ∙ ap (λ (z : Rvalue). rvalue_place (rvalue_tree z)) ek)) is value)

  -- ## Calls

  pub call_read : {E : Type 0} (r : Result Given E) (w : Wanted) (used : Bool) (u : Rvalue) (f site : ℕ) (p : Place)
      (xs : List Rvalue) (to n : ℕ) (a b c : Notes) → rvalue_tree u ≡ a_function_call f site (as_rvalues xs) p
      → to ≡ callee (laid_tree laid) path site → n ≡ length xs → AreRead laid opens sizes path to xs p a b
      → OnOk r (IsBehind b c (behind (scoped (stores_and_body (laid_tree laid) (is_among opens) (sizes_in sizes) path to
      used n p)) (end_by w (is_pointer (given_by (function_at (laid_tree laid) to).result
      (result_type (laid_tree laid) (function_at (laid_tree laid) to)))) p)))
      → OnOk r (IsRead laid opens sizes path w used u a c)
  unfolding IsRead AreRead
  call_read r w used u f site p xs to n a b c tree goes counted arguments h =
      on_ok_weaker r (call_ended (laid_tree laid) (is_among opens) (sizes_in sizes) path w used (rvalue_tree u) f site p
      xs to n (shown a) (shown b) (shown c) tree goes counted arguments) h

  pub call_gives : {E : Type 0} (r : Result Given E) (u : Rvalue) (f site : ℕ) (p : Place) (xs : List Rvalue) (to : ℕ)
      → rvalue_tree u ≡ a_function_call f site (as_rvalues xs) p → to ≡ callee (laid_tree laid) path site
      → IfOk r (λ g. g ≡ given_by (function_at (laid_tree laid) to).result
      (result_type (laid_tree laid) (function_at (laid_tree laid) to)))
      → IfOk r (λ g. IsGiven laid opens path u g)
  call_gives r u f site p xs to tree goes h =
      let g = given_by (function_at (laid_tree laid) to).result
      (result_type (laid_tree laid) (function_at (laid_tree laid) to)) in
      gives_by r u (a_function_call f site (as_rvalues xs) p) g tree h (call_given (laid_tree laid) (is_among opens)
      (sizes_in sizes) path (a_function_call f site (as_rvalues xs) p) f site p (as_rvalues xs) to g refl goes refl)

  -- ## Sequence points

  pub comma_read : {E : Type 0} (r : Result Given E) (w : Wanted) (used : Bool) (u x y : Rvalue) (p : Place) (n : ℕ)
      (g : Given) (is : Bool) (a b c d f : Notes) → rvalue_tree u ≡ a_comma (rvalue_tree x) (rvalue_tree y) p
      → n ≡ length (shown a).pending → IsRead laid opens sizes path Wants.Value false x a b
      → shown c ≡ sequenced_from n (shown b) → IsRead laid opens sizes path Wants.Value used y c d
      → IsGiven laid opens path y g → is ≡ is_pointer g → OnOk r (IsBehind d f (end_by w is p))
      → OnOk r (IsRead laid opens sizes path w used u a f)
  unfolding IsRead IsGiven
  comma_read r w used u x y p n g is a b c d f tree before first ends second from same h =
      read_by r w used u (a_comma (rvalue_tree x) (rvalue_tree y) p) a f tree h (comma_noted (laid_tree laid)
      (is_among opens) (sizes_in sizes) path w is (is_pointer (gives (rvalue_tree y))) p n (shown a) (shown b) (shown c)
      (shown d) (shown f) (walks false (rvalue_tree x)).value (walks used (rvalue_tree y)).value
      (same ∙ ap is_pointer from) before first ends second)

  pub not_read : {E : Type 0} (r : Result Given E) (w : Wanted) (used : Bool) (u v : Rvalue) (p : Place)
      (a b c : Notes) → rvalue_tree u ≡ a_not (rvalue_tree v) p
      → IsRead laid opens sizes path Wants.Branch true v a b → OnOk r (IsBehind b c (decided_by w p))
      → OnOk r (IsRead laid opens sizes path w used u a c)
  unfolding IsRead
  not_read r w used u v p a b c tree value h =
      read_by r w used u (a_not (rvalue_tree v) p) a c tree h (fork_noted (laid_tree laid) (is_among opens)
      (sizes_in sizes) path w p (shown a) (shown b) (shown c) (walks true (rvalue_tree v)).fork value)

  -- `&&` and `||`, which note the same
  pub both_read : {E : Type 0} (r : Result Given E) (w : Wanted) (used : Bool) (u x y : Rvalue) (e : RvalueTree)
      (p : Place) (a b c d : Notes) → rvalue_tree u ≡ e
      → walks used e ≡ decided (laid_tree laid) (is_among opens) (sizes_in sizes) path p
      (behind (behind (sequenced (walks true (rvalue_tree x)).fork) (walks true (rvalue_tree y)).fork)
      (met (laid_tree laid) (is_among opens) (sizes_in sizes) path p))
      → IsTested laid opens sizes path x a b → IsRead laid opens sizes path Wants.Branch true y b c
      → OnOk r (IsBehind c d (behind (skips p 2) (decided_by w p))) → OnOk r (IsRead laid opens sizes path w used u a d)
  unfolding IsRead IsTested
  both_read r w used u x y e p a b c d tree is first second h =
      read_by r w used u e a d tree h (λ k. both_ways_noted (laid_tree laid) (is_among opens) (sizes_in sizes) path w p
      (shown a) (shown b) (shown c) (shown d) (walks true (rvalue_tree x)).fork (walks true (rvalue_tree y)).fork first
      second k ∙ ap (λ z. behind (shown a) (by_wanted w z)) (sym is))

  pub choice_read : {E : Type 0} (r : Result Given E) (w : Wanted) (used : Bool) (u v x y : Rvalue) (p : Place)
      (g : Given) (is : Bool) (a b c d f k : Notes)
      → rvalue_tree u ≡ a_choice (rvalue_tree v) (rvalue_tree x) (rvalue_tree y) p
      → IsTested laid opens sizes path v a b → IsRead laid opens sizes path Wants.Value used x b c
      → IsGiven laid opens path x g → is ≡ has_value g → IsBehind c d (one_if is p Forms.Copy)
      → IsRead laid opens sizes path Wants.Value used y d f
      → OnOk r (IsBehind f k (behind (behind (one_if (has_value g) p Forms.Copy) (skips p 2))
      (end_by w (is_pointer g) p)))
      → OnOk r (IsRead laid opens sizes path w used u a k)
  unfolding IsRead IsGiven IsTested
  choice_read r w used u v x y p g is a b c d f k tree test first from same copy second h =
      read_by r w used u (a_choice (rvalue_tree v) (rvalue_tree x) (rvalue_tree y) p) a k tree h
      (choice_noted (laid_tree laid) (is_among opens) (sizes_in sizes) path w g (gives (rvalue_tree x)) p is (shown a)
      (shown b) (shown c) (shown d) (shown f) (shown k) (walks used (rvalue_tree x)).value
      (walks used (rvalue_tree y)).value (walks true (rvalue_tree v)).fork from same test first copy second)

  -- ## Addresses

  pub object_read : {T E : Type 0} (r : Result T E) (P : T → Type 0) (u : Lvalue) (o : ObjectNumber) (p : Place)
      (a b : Notes) → u ≡ Lvalues.Object o p → IsBehind a b (one p Forms.Base) → IfOk r P
      → OnOk r (IsAddressed laid opens sizes path u a b)
  unfolding IsAddressed
  object_read r P u o p a b is own h =
      IfOk-weaker r P (λ _. IsBehind a b (reaches (lvalue_tree u)))
      (λ x e. own ∙ ap (λ z. behind (shown a) (reaches (lvalue_tree z))) (sym is)) h

  pub object_typed : {E : Type 0} (r : Result Qualified E) (u : Lvalue) (o : ObjectNumber) (p : Place)
      → u ≡ Lvalues.Object o p → IfOk r (λ q. (f : Place → Bool) → q ≡ object_type (laid_tree laid) f path o)
      → IfOk r (λ q. IsTyped laid opens path u q)
  unfolding IsTyped
  object_typed r u o p is h =
      IfOk-weaker r (λ q. (f : Place → Bool) → q ≡ object_type (laid_tree laid) f path o)
      (λ q. q ≡ typed (lvalue_tree u))
      (λ q e. e (is_among opens) ∙ ap (λ (z : Lvalue). typed (lvalue_tree z)) (sym is)) h

  -- what stands behind a part
  pub behind_part : {T E : Type 0} (r : Result T E) (u : Lvalue) (l : LvalueTree) (x y : Noted) (a b c : Notes)
      → lvalue_tree u ≡ l → reaches l ≡ behind x y → IsBehind a b x → OnOk r (IsBehind b c y)
      → OnOk r (IsAddressed laid opens sizes path u a c)
  behind_part r u l x y a b c tree is before h =
      addressed_by r u l a c tree h (λ k. then_behind (shown a) (shown b) (shown c) x y before k
      ∙ ap (behind (shown a)) (sym is))

  pub element_read : (l : Lvalue) (y : Rvalue) (p : Place) (first second : Span) (a b c : Notes)
      → IsAddressed laid opens sizes path l a b → first.first ≡ a.size → first.end ≡ b.size
      → IsReadAgainst laid opens sizes path Wants.Value y p first second b c → second.first ≡ b.size
      → second.end ≡ c.size
      → IsBehind a c (both p (reaches (lvalue_tree l)) (walks true (rvalue_tree y)).value)
  unfolding IsAddressed IsReadAgainst
  element_read l y p first second a b c address e1 e2 value e3 e4 =
      both_against p first second (shown a) (shown b) (shown c) (reaches (lvalue_tree l))
      (walks true (rvalue_tree y)).value address e1 e2 e3 e4 value
