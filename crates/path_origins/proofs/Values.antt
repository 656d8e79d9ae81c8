-- What is noted of expressions for their values and as branches, step by step: a was noted before, and each further
-- name stands for what is noted behind the next step.
use Rattle.std.proofs.Common.{◌≡◌, ◌⊎◌, inl, inr, ℕ, suc, Bool, true, false, List, [], ◌∷◌, length, refl, ap, sym, ◌∙◌}
use Rattle.std.proofs.Common.{ap₂, Result}
use Rattle.std.proofs.lemmas.Result.{on_ok_weaker, IfOk-weaker}
use Rattle.std.specs.Prelude.{ℤ, cond, IfOk, OnOk}
use Rattle.tm_terms.specs.declared.places.Place.{Place}
use Rattle.tm_typed.specs.declared.expressions.Rvalue.{Rvalue}
use Rattle.tm_typed.specs.declared.expressions.Lvalue.{Lvalue}
use Rattle.tm_typed.specs.declared.types.Qualified.{Qualified}
use Rattle.tm_typed.specs.TypedTrees.{RvalueTree, RvalueTrees, LvalueTree, a_folded, a_function_call, as_rvalues}
use Rattle.tm_typed.specs.TypedTrees.{rvalue_tree, lvalue_tree}
use Rattle.tm_laid.specs.Layouts.{LaidTree, callee}
use Rattle.body_builder.specs.concrete_steps.NextAction.{function_at}
use Rattle.body_builder.specs.concrete_steps.Places.{rvalue_place, result_type}
use Rattle.path_origins.specs.declared.origins.Form.{Form}
use Rattle.path_origins.specs.declared.origins.Form.TheVariants as Forms
use Rattle.path_origins.specs.declared.origins.Passed.TheVariants as Passes
use Rattle.path_origins.specs.declared.origins.Span.{Span}
use Rattle.path_origins.specs.declared.walks.Wanted.{Wanted}
use Rattle.path_origins.specs.declared.walks.Wanted.TheVariants as Wants
use Rattle.path_origins.specs.declared.types.Given.{Given}
use Rattle.path_origins.specs.Types.{given, type_of, given_by, is_pointer, has_value, casts_number}
use Rattle.path_origins.specs.Noted.{Noted, nothing, behind, both, sequenced, scoped, passing_if, one, one_if, skips}
use Rattle.path_origins.specs.Noted.{stored, enumerating_if}
use Rattle.path_origins.specs.Expressions.{all_arguments, walked, addressed, valued, decided, met, converted_if}
use Rattle.path_origins.specs.Expressions.{tested, operated, compared, against}
use Rattle.path_origins.specs.Expressions.{changed, called, count_of}
use Rattle.path_origins.specs.reading.Walks.{by_wanted, end_by, decided_by, operands_added, reload_added}
use Rattle.path_origins.specs.reading.Walks.{sequenced_from, stored_from, right_added}
use Rattle.path_origins.specs.reading.Ends.{converted_end, operator_end, equality_end, change_end}
use Rattle.path_origins.specs.reading.Ends.{stores_and_body}
use Rattle.path_origins.proofs.Laws.{behind_behind, behind_nothing, then_behind, value_ended, value_noted, fork_noted}
use Rattle.path_origins.proofs.Beside.{both_noted, stored_noted, sequenced_noted, passing_noted, given_noted}
use Rattle.path_origins.proofs.Beside.{against_noted, span_is}

-- ## Steps in a row

pub three_behind : (a b c d x y z : Noted) → b ≡ behind a x → c ≡ behind b y → d ≡ behind c z
    → d ≡ behind a (behind x (behind y z))
three_behind a b c d x y z e f g = then_behind a b d x (behind y z) e (then_behind b c d y z f g)

-- an edge or none, by another test
pub as_one : (p : Place) (f : Form) (is has : Bool) (a b : Noted) → is ≡ has → b ≡ behind a (one_if is p f)
    → b ≡ behind a (one_if has p f)
as_one p f is has a b e h = h ∙ ap (λ k. behind a (one_if k p f)) e

-- what is passed and what stands against what are noted apart
passed_beside : (is : Bool) (q p : Place) (first second : Span) (x : Noted)
    → passing_if is q (operands_added p first second x) ≡ operands_added p first second (passing_if is q x)
passed_beside true q p first second x = refl
passed_beside false q p first second x = refl

-- two operands, of which the second one stands against the first
pub both_against : (p : Place) (first second : Span) (a b c x y : Noted) → b ≡ behind a x → first.first ≡ a.size
    → first.end ≡ b.size → second.first ≡ b.size → second.end ≡ c.size
    → c ≡ operands_added p first second (behind b y) → c ≡ behind a (both p x y)
both_against p first second a b c x y eb e1 e2 e3 e4 ec =
    both_noted p first second a b (behind b y) c x y eb refl e1 e2 e3 (e4 ∙ ap (λ z. z.size) ec) ec

-- the right side of `op=`, step by step
pub right_steps : (p : Place) (edges right : Span) (a b c d l r : Noted) → b ≡ behind a l → c ≡ behind b r
    → right.first ≡ b.size → right.end ≡ c.size
    → d ≡ reload_added p a.size right (operands_added p edges right c) → d ≡ right_added p edges a l r
right_steps p edges right a b c d l r eb ec e1 e2 ed =
    let y : Noted = behind a l in
    let z : Noted = behind y r in
    let own : Span = record { first = y.size; end = z.size } in
    let whole : c ≡ z = ec ∙ ap (λ v. behind v r) eb in
    let same : right ≡ own = span_is right own (e1 ∙ ap (λ v. v.size) eb) (e2 ∙ ap (λ v. v.size) whole) in
    ed ∙ ap₂ (λ (s : Span) (v : Noted). reload_added p a.size s (operands_added p edges s v)) same whole

-- two edges on which control goes on
two_skips : (p : Place) → skips p 2 ≡ behind (one p Forms.Skip) (one p Forms.Skip)
two_skips p = ap (behind (one p Forms.Skip)) (behind_nothing (one p Forms.Skip))

pub passing_size : (is : Bool) (p : Place) (x : Noted) → (passing_if is p x).size ≡ x.size
passing_size true p x = refl
passing_size false p x = refl

-- what is wanted for its value is no branch
pub not_branch : (w : Wanted) → (w ≡ Wants.Value) ⊎ (w ≡ Wants.Bare) → w ≡ Wants.Branch → ⊥
not_branch w (inl e) h = cc
not_branch w (inr e) h = cc

-- there are as many arguments as the list has
pub count_of-length : (xs : List Rvalue) → count_of (as_rvalues xs) ≡ length xs
count_of-length [] = refl
count_of-length (x ∷ xs) = ap suc (count_of-length xs)

module _ (laid : LaidTree) (is_open : Place → Bool) (sizes : ℕ → ℕ) (path : ℕ) where
  -- ## What is read of the code's tree

  pub as_read : (w : Wanted) (used : Bool) (r s : Rvalue) (a b : Noted) → r ≡ s
      → b ≡ behind a (by_wanted w (walked laid is_open sizes path used (rvalue_tree s)))
      → b ≡ behind a (by_wanted w (walked laid is_open sizes path used (rvalue_tree r)))
  as_read w used r s a b e h =
      h ∙ ap (λ q. behind a (by_wanted w (walked laid is_open sizes path used (rvalue_tree q)))) (sym e)

  pub given_as : (r s : Rvalue) (g : Given) → r ≡ s → g ≡ given laid is_open path (rvalue_tree s)
      → g ≡ given laid is_open path (rvalue_tree r)
  given_as r s g e h = h ∙ ap (λ q. given laid is_open path (rvalue_tree q)) (sym e)

  pub address_read : (r s : Lvalue) (a b : Noted) → r ≡ s
      → b ≡ behind a (addressed laid is_open sizes path (lvalue_tree s))
      → b ≡ behind a (addressed laid is_open sizes path (lvalue_tree r))
  address_read r s a b e h = h ∙ ap (λ q. behind a (addressed laid is_open sizes path (lvalue_tree q))) (sym e)

  pub type_read : (r s : Lvalue) (q : Qualified) → r ≡ s → q ≡ type_of laid is_open path (lvalue_tree s)
      → q ≡ type_of laid is_open path (lvalue_tree r)
  type_read r s q e h = h ∙ ap (λ l. type_of laid is_open path (lvalue_tree l)) (sym e)

  -- ## Values

  -- a value that is tested by another test
  pub value_given : (w : Wanted) (is pointer : Bool) (p : Place) (a b c x : Noted) → is ≡ pointer → b ≡ behind a x
      → c ≡ behind b (end_by w is p) → c ≡ behind a (by_wanted w (valued laid is_open sizes path pointer p x))
  value_given w is pointer p a b c x same first second =
      value_noted laid is_open sizes path w pointer p a b c x first
      (second ∙ ap (λ k. behind b (end_by w k p)) same)

  pub two_given : (w : Wanted) (is pointer : Bool) (p : Place) (a b c d x y : Noted) → is ≡ pointer
      → b ≡ behind a x → c ≡ behind b y → d ≡ behind c (end_by w is p)
      → d ≡ behind a (by_wanted w (valued laid is_open sizes path pointer p (behind x y)))
  two_given w is pointer p a b c d x y same e f g =
      value_given w is pointer p a c d (behind x y) same (then_behind a b c x y e f) g

  -- the same at a place that is known by another name
  pub value_placed : (w : Wanted) (pointer : Bool) (q p : Place) (a b c x : Noted) → q ≡ p → b ≡ behind a x
      → c ≡ behind b (end_by w pointer q)
      → c ≡ behind a (by_wanted w (valued laid is_open sizes path pointer p x))
  value_placed w pointer q p a b c x place first second =
      value_noted laid is_open sizes path w pointer p a b c x first
      (second ∙ ap (λ r. behind b (end_by w pointer r)) place)

  -- an edge and the end of its value, alone and behind a part
  pub only_valued : (w : Wanted) (pointer : Bool) (p : Place) (f : Form) (a b : Noted)
      → b ≡ behind a (behind (one p f) (end_by w pointer p))
      → b ≡ behind a (by_wanted w (valued laid is_open sizes path pointer p (one p f)))
  only_valued w pointer p f a b e = e ∙ ap (behind a) (value_ended laid is_open sizes path w pointer p (one p f))

  pub edge_valued : (w : Wanted) (is pointer : Bool) (p : Place) (f : Form) (a b c x : Noted) → is ≡ pointer
      → b ≡ behind a x → c ≡ behind b (behind (one p f) (end_by w is p))
      → c ≡ behind a (by_wanted w (valued laid is_open sizes path pointer p (behind x (one p f))))
  edge_valued w is pointer p f a b c x same e g =
      two_given w is pointer p a b (behind b (one p f)) c x (one p f) same e refl
      (g ∙ sym (behind_behind b (one p f) (end_by w is p)))

  pub load_noted : (w : Wanted) (is pointer : Bool) (q p : Place) (a b c x : Noted) → q ≡ p → is ≡ pointer
      → b ≡ behind a x → c ≡ behind b (behind (one q Forms.Load) (end_by w is q))
      → c ≡ behind a (by_wanted w (valued laid is_open sizes path pointer p (behind x (one p Forms.Load))))
  load_noted w is pointer q p a b c x place same e f =
      edge_valued w is pointer p Forms.Load a b c x same e
      (f ∙ ap (λ r. behind b (behind (one r Forms.Load) (end_by w is r))) place)

  -- a value that is passed on, or cast
  pub same_noted : (w : Wanted) (g h : Given) (is has : Bool) (p : Place) (a b c x : Noted) → g ≡ h → is ≡ has
      → b ≡ behind a x → c ≡ behind (enumerating_if (casts_number is g) p b) (end_by w (is_pointer g) p)
      → c ≡ behind a (by_wanted w (valued laid is_open sizes path (is_pointer h) p
      (enumerating_if (casts_number has h) p x)))
  same_noted w g h is has p a b c x gives same e f =
      value_given w (is_pointer g) (is_pointer h) p a (enumerating_if (casts_number is g) p b) c
      (enumerating_if (casts_number has h) p x) (ap is_pointer gives)
      (given_noted (casts_number has h) Passes.Enumeration p a b (enumerating_if (casts_number is g) p b) x e
      (ap₂ (λ i j. enumerating_if (casts_number i j) p b) same gives)) f

  -- what is folded
  pub folded_branch : (w : Wanted) (used : Bool) (z : ℤ) (e : RvalueTree) (a b : Noted) → w ≡ Wants.Branch
      → b ≡ behind a (walked laid is_open sizes path true e).fork
      → b ≡ behind a (by_wanted w (walked laid is_open sizes path used (a_folded z e)))
  folded_branch w used z e a b is h =
      h ∙ ap (λ v. behind a (by_wanted v (walked laid is_open sizes path used (a_folded z e)))) (sym is)

  pub folded_value : (w : Wanted) (used : Bool) (z : ℤ) (e : RvalueTree) (q : Place) (a b : Noted)
      → (w ≡ Wants.Branch → ⊥) → q ≡ rvalue_place e → b ≡ behind a (one q Forms.Constant)
      → b ≡ behind a (by_wanted w (walked laid is_open sizes path used (a_folded z e)))
  folded_value Wants.Value used z e q a b not place h = h ∙ ap (λ r. behind a (one r Forms.Constant)) place
  folded_value Wants.Bare used z e q a b not place h = h ∙ ap (λ r. behind a (one r Forms.Constant)) place
  folded_value Wants.Branch used z e q a b not place h = absurd (not refl)

  pub comma_noted : (w : Wanted) (is pointer : Bool) (p : Place) (n : ℕ) (a b c d f x y : Noted) → is ≡ pointer
      → n ≡ length a.pending → b ≡ behind a x → c ≡ sequenced_from n b → d ≡ behind c y
      → f ≡ behind d (end_by w is p)
      → f ≡ behind a (by_wanted w (valued laid is_open sizes path pointer p (behind (sequenced x) y)))
  comma_noted w is pointer p n a b c d f x y same first e g h k =
      two_given w is pointer p a c d f (sequenced x) y same (sequenced_noted n a b c x first e g) h k

  conversion_ended : (w : Wanted) (same : Bool) (p : Place) (is : Bool) (x : Noted)
      → behind x (converted_end w same p is)
      ≡ by_wanted w (record {
        value = converted_if laid is_open sizes path is p x;
        bare = cond same x (converted_if laid is_open sizes path is p x);
        fork = tested laid is_open sizes path false p (converted_if laid is_open sizes path is p x);
      })
  conversion_ended Wants.Value same p is x = ap (behind x) (behind_nothing (one_if is p Forms.Conversion))
  conversion_ended Wants.Bare true p is x = behind_nothing x
  conversion_ended Wants.Bare false p is x = refl
  conversion_ended Wants.Branch same p is x =
      sym (behind_behind x (one_if is p Forms.Conversion) (end_by Wants.Branch false p))

  pub conversion_noted : (w : Wanted) (same : Bool) (p : Place) (is : Bool) (a b c x : Noted) → b ≡ behind a x
      → c ≡ behind b (converted_end w same p is)
      → c ≡ behind a (by_wanted w (record {
        value = converted_if laid is_open sizes path is p x;
        bare = cond same x (converted_if laid is_open sizes path is p x);
        fork = tested laid is_open sizes path false p (converted_if laid is_open sizes path is p x);
      }))
  conversion_noted w same p is a b c x e f =
      then_behind a b c x (converted_end w same p is) e f ∙ ap (behind a) (conversion_ended w same p is x)

  -- the same by other tests
  pub conversion_read : (w : Wanted) (alike same : Bool) (p : Place) (makes is : Bool) (a b c x : Noted)
      → alike ≡ same → makes ≡ is → b ≡ behind a x → c ≡ behind b (converted_end w alike p makes)
      → c ≡ behind a (by_wanted w (record {
        value = converted_if laid is_open sizes path is p x;
        bare = cond same x (converted_if laid is_open sizes path is p x);
        fork = tested laid is_open sizes path false p (converted_if laid is_open sizes path is p x);
      }))
  conversion_read w alike same p makes is a b c x e f g h =
      conversion_noted w same p is a b c x g
      (h ∙ ap (λ k. behind b (converted_end w k p makes)) e ∙ ap (λ k. behind b (converted_end w same p k)) f)

  -- a condition with the sequence point behind it, another one, and the end
  pub both_ways_noted : (w : Wanted) (p : Place) (a b c d x y : Noted) → b ≡ behind a (sequenced x)
      → c ≡ behind b y → d ≡ behind c (behind (skips p 2) (decided_by w p))
      → d ≡ behind a (by_wanted w (decided laid is_open sizes path p (behind (behind (sequenced x) y)
      (met laid is_open sizes path p))))
  both_ways_noted w p a b c d x y e f g =
      let z : Noted = behind (sequenced x) y in
      let s : Noted = skips p 2 in
      fork_noted laid is_open sizes path w p a (behind c s) d (behind z (met laid is_open sizes path p))
      (then_behind a c (behind c s) z (met laid is_open sizes path p) (then_behind a b c (sequenced x) y e f)
      (ap (behind c) (two_skips p))) (g ∙ sym (behind_behind c s (decided_by w p)))

  -- the condition, the first value and its copy, the second one and its copy, two edges, and the end
  pub choice_noted : (w : Wanted) (g h : Given) (p : Place) (is : Bool) (a b c d f k x y z : Noted) → g ≡ h
      → is ≡ has_value g → b ≡ behind a (sequenced z) → c ≡ behind b x → d ≡ behind c (one_if is p Forms.Copy)
      → f ≡ behind d y → k ≡ behind f (behind (behind (one_if (has_value g) p Forms.Copy) (skips p 2))
      (end_by w (is_pointer g) p))
      → k ≡ behind a (by_wanted w (valued laid is_open sizes path (is_pointer h) p (behind (sequenced z)
      (behind (behind x (one_if (has_value h) p Forms.Copy)) (behind (behind y (one_if (has_value h) p Forms.Copy))
      (met laid is_open sizes path p))))))
  choice_noted w g h p is a b c d f k x y z gives same eb ec ed ef ek =
      let copied = one_if (has_value g) p Forms.Copy in
      let s : Noted = skips p 2 in
      let meets : Noted = met laid is_open sizes path p in
      let end = end_by w (is_pointer g) p in
      let l : Noted = behind f copied in
      let both_ways : Noted = behind (behind x copied) (behind (behind y copied) meets) in
      value_noted laid is_open sizes path w (is_pointer g) p a (behind l s) k (behind (sequenced z) both_ways)
      (then_behind a b (behind l s) (sequenced z) both_ways eb
      (three_behind b d l (behind l s) (behind x copied) (behind y copied) meets
      (then_behind b c d x copied ec (ed ∙ ap (λ i. behind c (one_if i p Forms.Copy)) same))
      (then_behind d f l y copied ef refl) (ap (behind l) (two_skips p))))
      (ek ∙ sym (behind_behind f (behind copied s) end) ∙ ap (λ v. behind v end) (sym (behind_behind f copied s)))
      ∙ ap (λ v. behind a (by_wanted w (valued laid is_open sizes path (is_pointer v) p (behind (sequenced z)
      (behind (behind x (one_if (has_value v) p Forms.Copy)) (behind (behind y (one_if (has_value v) p Forms.Copy))
      (met laid is_open sizes path p))))))) gives

  -- the arguments, their stores with the body of the path, and the end
  pub call_noted : (w : Wanted) (is pointer : Bool) (p : Place) (to count n : ℕ) (used : Bool) (a b c d x : Noted)
      → is ≡ pointer → count ≡ n → b ≡ behind a (sequenced x)
      → c ≡ behind b (scoped (stores_and_body laid is_open sizes path to used n p)) → d ≡ behind c (end_by w is p)
      → d ≡ behind a (by_wanted w (valued laid is_open sizes path pointer p
      (called laid is_open sizes path to used count p x)))
  call_noted w is pointer p to count n used a b c d x same counted eb ec ed =
      two_given w is pointer p a b c d (sequenced x)
      (scoped (stores_and_body laid is_open sizes path to used count p)) same eb
      (ec ∙ ap (λ k. behind b (scoped (stores_and_body laid is_open sizes path to used k p))) (sym counted)) ed

  -- what a call gives, by the path to which it leads
  pub call_given : (u : RvalueTree) (f site : ℕ) (p : Place) (es : RvalueTrees) (to : ℕ) (g : Given)
      → u ≡ a_function_call f site es p → to ≡ callee laid path site
      → g ≡ given_by (function_at laid to).result (result_type laid (function_at laid to))
      → g ≡ given laid is_open path u
  call_given u f site p es to g tree goes e =
      e ∙ ap (λ n. given_by (function_at laid n).result (result_type laid (function_at laid n))) goes
      ∙ sym (ap (given laid is_open path) tree)

  -- the same of a list of arguments, for the path to which the call leads
  pub call_read : (w : Wanted) (used : Bool) (u : RvalueTree) (f site : ℕ) (p : Place) (xs : List Rvalue) (to n : ℕ)
      (is : Bool) (a b c d : Noted) → u ≡ a_function_call f site (as_rvalues xs) p → to ≡ callee laid path site
      → is ≡ is_pointer (given laid is_open path u) → n ≡ length xs
      → b ≡ behind a (sequenced (all_arguments laid is_open sizes path p (function_at laid to).parameters true nothing
      (as_rvalues xs)))
      → c ≡ behind b (scoped (stores_and_body laid is_open sizes path to used n p)) → d ≡ behind c (end_by w is p)
      → d ≡ behind a (by_wanted w (walked laid is_open sizes path used u))
  call_read w used u f site p xs to n is a b c d tree goes pointer counted eb ec ed =
      let at : ℕ = callee laid path site in
      let x : Noted = all_arguments laid is_open sizes path p (function_at laid at).parameters true nothing
      (as_rvalues xs) in
      let leads = a_function_call f site (as_rvalues xs) p in
      call_noted w is (is_pointer (given laid is_open path leads)) p at (count_of (as_rvalues xs)) n used a b c d x
      (pointer ∙ ap (λ v. is_pointer (given laid is_open path v)) tree) (count_of-length xs ∙ sym counted)
      (eb ∙ ap (λ k. behind a (sequenced (all_arguments laid is_open sizes path p (function_at laid k).parameters true
      nothing (as_rvalues xs)))) goes)
      (ec ∙ ap (λ k. behind b (scoped (stores_and_body laid is_open sizes path k used n p))) goes) ed
      ∙ ap (λ v. behind a (by_wanted w (walked laid is_open sizes path used v))) (sym tree)

  -- the same, where one call notes all behind the arguments
  pub call_ended : (w : Wanted) (used : Bool) (u : RvalueTree) (f site : ℕ) (p : Place) (xs : List Rvalue) (to n : ℕ)
      (a b c : Noted) → u ≡ a_function_call f site (as_rvalues xs) p → to ≡ callee laid path site → n ≡ length xs
      → b ≡ behind a (sequenced (all_arguments laid is_open sizes path p (function_at laid to).parameters true nothing
      (as_rvalues xs)))
      → c ≡ behind b (behind (scoped (stores_and_body laid is_open sizes path to used n p))
      (end_by w (is_pointer (given_by (function_at laid to).result (result_type laid (function_at laid to)))) p))
      → c ≡ behind a (by_wanted w (walked laid is_open sizes path used u))
  call_ended w used u f site p xs to n a b c tree goes counted eb ec =
      let s : Noted = scoped (stores_and_body laid is_open sizes path to used n p) in
      let g = given_by (function_at laid to).result (result_type laid (function_at laid to)) in
      call_read w used u f site p xs to n (is_pointer g) a b (behind b s) c tree goes
      (ap is_pointer (call_given u f site p (as_rvalues xs) to g tree goes refl)) counted eb refl
      (ec ∙ sym (behind_behind b s (end_by w (is_pointer g) p)))

  -- ## Operators

  operator_ended : (comparison unsigned : Bool) (w : Wanted) (p : Place) (x : Noted)
      → behind x (operator_end comparison unsigned w p)
      ≡ by_wanted w (operated laid is_open sizes path comparison unsigned p x)
  operator_ended true unsigned Wants.Value p x = refl
  operator_ended true unsigned Wants.Bare p x = refl
  operator_ended true unsigned Wants.Branch p x = refl
  operator_ended false unsigned w p x =
      sym (behind_behind x (one p (Forms.Binary unsigned)) (end_by w false p))
      ∙ value_ended laid is_open sizes path w false p (behind x (one p (Forms.Binary unsigned)))

  -- both operands with their edges, the conversions of both, and the operator
  binary_noted : (comparison unsigned : Bool) (w : Wanted) (p pl pr : Place) (il ir : Bool) (a b c d f x : Noted)
      → b ≡ behind a x → c ≡ behind b (one_if il pl Forms.Conversion)
      → d ≡ behind c (one_if ir pr Forms.Conversion) → f ≡ behind d (operator_end comparison unsigned w p)
      → f ≡ behind a (by_wanted w (operated laid is_open sizes path comparison unsigned p
      (behind (behind x (one_if il pl Forms.Conversion)) (one_if ir pr Forms.Conversion))))
  binary_noted comparison unsigned w p pl pr il ir a b c d f x eb ec ed ef =
      let l = one_if il pl Forms.Conversion in
      let r = one_if ir pr Forms.Conversion in
      let z : Noted = behind (behind x l) r in
      then_behind a d f z (operator_end comparison unsigned w p)
      (then_behind a c d (behind x l) r (then_behind a b c x l eb ec) ed) ef
      ∙ ap (behind a) (operator_ended comparison unsigned w p z)

  pub binary_ended : (comparison unsigned : Bool) (w : Wanted) (p pl pr : Place) (il ir : Bool) (a b c x : Noted)
      → b ≡ behind a x → c ≡ behind b (behind (behind (one_if il pl Forms.Conversion)
      (one_if ir pr Forms.Conversion)) (operator_end comparison unsigned w p))
      → c ≡ behind a (by_wanted w (operated laid is_open sizes path comparison unsigned p
      (behind (behind x (one_if il pl Forms.Conversion)) (one_if ir pr Forms.Conversion))))
  binary_ended comparison unsigned w p pl pr il ir a b c x eb ec =
      let l = one_if il pl Forms.Conversion in
      let r = one_if ir pr Forms.Conversion in
      let end = operator_end comparison unsigned w p in
      binary_noted comparison unsigned w p pl pr il ir a b (behind b l) (behind (behind b l) r) c x eb refl refl
      (ec ∙ sym (behind_behind b (behind l r) end) ∙ ap (λ v. behind v end) (sym (behind_behind b l r)))

  equality_ended : (w : Wanted) (p : Place) (x : Noted)
      → behind (behind x (behind (one p Forms.Usable) (one p Forms.Usable))) (equality_end w p)
      ≡ by_wanted w (compared laid is_open sizes path p x)
  equality_ended Wants.Value p x = refl
  equality_ended Wants.Bare p x = refl
  equality_ended Wants.Branch p x = refl

  pub pointers_noted : (w : Wanted) (p : Place) (a b c x : Noted) → b ≡ behind a x
      → c ≡ behind b (behind (behind (one p Forms.Usable) (one p Forms.Usable)) (equality_end w p))
      → c ≡ behind a (by_wanted w (compared laid is_open sizes path p x))
  pointers_noted w p a b c x e f =
      let usable : Noted = behind (one p Forms.Usable) (one p Forms.Usable) in
      then_behind a b c x (behind usable (equality_end w p)) e f
      ∙ ap (behind a) (sym (behind_behind x usable (equality_end w p)) ∙ equality_ended w p x)

  pub move_noted : (w : Wanted) (p : Place) (n m : ℕ) (a b c x : Noted) → n ≡ m → b ≡ behind a x
      → c ≡ behind b (behind (one p (Forms.Move n)) (end_by w true p))
      → c ≡ behind a (by_wanted w (valued laid is_open sizes path true p (behind x (one p (Forms.Move m)))))
  move_noted w p n m a b c x same e f =
      let g = f ∙ ap (λ k. behind b (behind (one p (Forms.Move k)) (end_by w true p))) same in
      then_behind a b c x (behind (one p (Forms.Move m)) (end_by w true p)) e g
      ∙ ap (behind a) (sym (behind_behind x (one p (Forms.Move m)) (end_by w true p))
      ∙ value_ended laid is_open sizes path w true p (behind x (one p (Forms.Move m))))

  -- ## What changes objects

  -- the address, the value, a pointer that is passed, both with their edges, the store, and the end
  assignment_noted : (w : Wanted) (is pointer : Bool) (p q : Place) (n : ℕ) (passed passes : Bool)
      (first second : Span) (a b c d f g h x y : Noted) → is ≡ pointer → passed ≡ passes → n ≡ length a.pending
      → b ≡ behind a x → c ≡ behind b y → d ≡ passing_if passed q c → first.first ≡ a.size → first.end ≡ b.size
      → second.first ≡ b.size → second.end ≡ c.size → f ≡ operands_added p first second d
      → g ≡ stored_from n p f → h ≡ behind g (end_by w is p)
      → h ≡ behind a (by_wanted w (valued laid is_open sizes path pointer p
      (stored p (both p x (passing_if passes q y)))))
  assignment_noted w is pointer p q n passed passes first second a b c d f g h x y same other before eb ec ed e1 e2 e3
      e4 ef eg eh =
      let given : Noted = passing_if passes q y in
      let dd : d ≡ passing_if passes q c = ed ∙ ap (λ k. passing_if k q c) other in
      let end : second.end ≡ d.size = e4 ∙ sym (passing_size passes q c) ∙ ap (λ z. z.size) (sym dd) in
      value_given w is pointer p a g h (stored p (both p x given)) same
      (stored_noted n p a f g (both p x given) before
      (both_noted p first second a b d f x given eb (passing_noted passes q b c d y ec dd) e1 e2 e3 end ef) eg) eh

  pub assigned : (w : Wanted) (is pointer : Bool) (p q : Place) (n : ℕ) (passed passes : Bool) (first second : Span)
      (a b c d f x y : Noted) → is ≡ pointer → passed ≡ passes → n ≡ length a.pending → b ≡ behind a x
      → first.first ≡ a.size → first.end ≡ b.size → second.first ≡ b.size → second.end ≡ c.size
      → c ≡ operands_added p first second (behind b y) → d ≡ passing_if passed q c
      → f ≡ behind (stored_from n p d) (end_by w is p)
      → f ≡ behind a (by_wanted w (valued laid is_open sizes path pointer p
      (stored p (both p x (passing_if passes q y)))))
  assigned w is pointer p q n passed passes first second a b c d f x y same other before eb e1 e2 e3 e4 ec ed ef =
      let z : Noted = behind b y in
      assignment_noted w is pointer p q n passed passes first second a b z (passing_if passed q z) d
      (stored_from n p d) f x y same other before eb refl refl e1 e2 e3 (e4 ∙ ap (λ k. k.size) ec)
      (ed ∙ (ap (passing_if passed q) ec ∙ passed_beside passed q p first second z)) refl ef

  -- conversions of both sides, the operator, and a conversion back
  in_turn : (y k l m o : Noted)
      → behind y (behind (behind (behind k l) m) o) ≡ behind (behind (behind (behind y k) l) m) o
  in_turn y k l m o =
      sym (behind_behind y (behind (behind k l) m) o)
      ∙ ap (λ z. behind z o) (sym (behind_behind y (behind k l) m)
      ∙ ap (λ z. behind z m) (sym (behind_behind y k l)))

  change_noted : (p at behind_it : Place) (n : ℕ) (unsigned loaded operand back : Bool) (a b c x : Noted)
      → n ≡ length a.pending → b ≡ behind a x
      → c ≡ stored_from n p (behind b (change_end unsigned loaded at operand behind_it back p))
      → c ≡ behind a (changed laid is_open sizes path unsigned loaded at operand behind_it back p x)
  change_noted p at behind_it n unsigned loaded operand back a b c x before e f =
      let l = one_if loaded at Forms.Conversion in
      let r = one_if operand behind_it Forms.Conversion in
      let o = one_if back p Forms.Conversion in
      let operator = one p (Forms.Binary unsigned) in
      let end : Noted = change_end unsigned loaded at operand behind_it back p in
      stored_noted n p a (behind b end) c (behind (behind (behind (behind x l) r) operator) o) before
      (then_behind a b (behind b end) x end e refl ∙ ap (behind a) (in_turn x l r operator o)) f

  -- an operator with its operand is stored, and the end
  compound_noted : (w : Wanted) (p at behind_it : Place) (n : ℕ) (found unsigned : Bool)
      (loaded operand operates back : Bool) (a b c d x : Noted) → found ≡ unsigned → operand ≡ operates
      → n ≡ length a.pending → b ≡ behind a x
      → c ≡ stored_from n p (behind b (change_end found loaded at operand behind_it back p))
      → d ≡ behind c (end_by w false p)
      → d ≡ behind a (by_wanted w (valued laid is_open sizes path false p
      (changed laid is_open sizes path unsigned loaded at operates behind_it back p x)))
  compound_noted w p at behind_it n found unsigned loaded operand operates back a b c d x other same before eb ec ed =
      value_noted laid is_open sizes path w false p a c d
      (changed laid is_open sizes path unsigned loaded at operates behind_it back p x)
      (change_noted p at behind_it n unsigned loaded operates back a b c x before eb
      (ec ∙ ap₂ (λ u k. stored_from n p (behind b (change_end u loaded at k behind_it back p))) other same)) ed

  pub compound_ended : (w : Wanted) (p at behind_it : Place) (n : ℕ) (found unsigned : Bool)
      (loaded operand operates back : Bool) (a b c x : Noted) → found ≡ unsigned → operand ≡ operates
      → n ≡ length a.pending → b ≡ behind a x
      → c ≡ behind (stored_from n p (behind b (change_end found loaded at operand behind_it back p)))
      (end_by w false p)
      → c ≡ behind a (by_wanted w (valued laid is_open sizes path false p
      (changed laid is_open sizes path unsigned loaded at operates behind_it back p x)))
  compound_ended w p at behind_it n found unsigned loaded operand operates back a b c x other same before eb ec =
      compound_noted w p at behind_it n found unsigned loaded operand operates back a b
      (stored_from n p (behind b
      (change_end found loaded at operand behind_it back p))) c x other same before eb refl ec

  -- a pointer is moved and stored, and the end
  moved_noted : (w : Wanted) (p : Place) (n k m : ℕ) (a b c d f x : Noted) → k ≡ m → n ≡ length a.pending
      → b ≡ behind a x → c ≡ behind b (one p (Forms.Move k)) → d ≡ stored_from n p c
      → f ≡ behind d (end_by w true p)
      → f ≡ behind a (by_wanted w (valued laid is_open sizes path true p
      (stored p (behind x (one p (Forms.Move m))))))
  moved_noted w p n k m a b c d f x same before eb ec ed ef =
      value_noted laid is_open sizes path w true p a d f (stored p (behind x (one p (Forms.Move m))))
      (stored_noted n p a c d (behind x (one p (Forms.Move m))) before
      (then_behind a b c x (one p (Forms.Move m)) eb (ec ∙ ap (λ i. behind b (one p (Forms.Move i))) same)) ed) ef

  pub moved_ended : (w : Wanted) (p : Place) (n k m : ℕ) (a b c x : Noted) → k ≡ m → n ≡ length a.pending
      → b ≡ behind a x → c ≡ behind (stored_from n p (behind b (one p (Forms.Move k)))) (end_by w true p)
      → c ≡ behind a (by_wanted w (valued laid is_open sizes path true p
      (stored p (behind x (one p (Forms.Move m))))))
  moved_ended w p n k m a b c x same before eb ec =
      moved_noted w p n k m a b (behind b (one p (Forms.Move k))) (stored_from n p (behind b (one p (Forms.Move k))))
      c x same before eb refl refl ec

  -- the right side of `op=`, behind the address
  pub right_noted : (p : Place) (edges : Span) (a b c x l r : Noted) → b ≡ behind a x → edges.first ≡ a.size
      → edges.end ≡ b.size → c ≡ right_added p edges b l r → c ≡ behind a (against laid is_open sizes path p x l r)
  right_noted p edges a b c x l r eb e1 e2 ec =
      let y : Noted = behind b l in
      let z : Noted = behind y r in
      let right : Span = record { first = y.size; end = z.size } in
      against_noted laid is_open sizes path p edges b.size right a b y z (operands_added p edges right z) c x l r eb
      refl refl e1 e2 refl refl refl refl ec

  -- ## What an arm of the walk reads, once the call with which it ends has noted and given something

  pub ends_read : {T E P : Type 0} (r : Result T E) (w : Wanted) (used : Bool) (u : Rvalue) (e : RvalueTree)
      (a b : Noted) → rvalue_tree u ≡ e → OnOk r P
      → (P → b ≡ behind a (by_wanted w (walked laid is_open sizes path used e)))
      → OnOk r (b ≡ behind a (by_wanted w (walked laid is_open sizes path used (rvalue_tree u))))
  ends_read r w used u e a b is h f =
      on_ok_weaker r (λ p. f p ∙ ap (λ (v : RvalueTree). behind a (by_wanted w (walked laid is_open sizes path used v)))
      (sym is)) h

  pub ends_given : {E : Type 0} (r : Result Given E) (u : Rvalue) (e : RvalueTree) (g : Given) → rvalue_tree u ≡ e
      → IfOk r (λ x. x ≡ g) → g ≡ given laid is_open path e
      → IfOk r (λ x. x ≡ given laid is_open path (rvalue_tree u))
  ends_given r u e g is h gives =
      IfOk-weaker r (λ x. x ≡ g) (λ x. x ≡ given laid is_open path (rvalue_tree u))
      (λ x same. same ∙ (gives ∙ ap (given laid is_open path) (sym is))) h

  pub ends_addressed : {T E P : Type 0} (r : Result T E) (u : Lvalue) (l : LvalueTree) (a b : Noted)
      → lvalue_tree u ≡ l → OnOk r P → (P → b ≡ behind a (addressed laid is_open sizes path l))
      → OnOk r (b ≡ behind a (addressed laid is_open sizes path (lvalue_tree u)))
  ends_addressed r u l a b is h f =
      on_ok_weaker r (λ p. f p ∙ ap (λ (v : LvalueTree). behind a (addressed laid is_open sizes path v)) (sym is)) h

  pub ends_typed : {E : Type 0} (r : Result Qualified E) (u : Lvalue) (l : LvalueTree) (q : Qualified)
      → lvalue_tree u ≡ l → IfOk r (λ x. x ≡ q) → q ≡ type_of laid is_open path l
      → IfOk r (λ x. x ≡ type_of laid is_open path (lvalue_tree u))
  ends_typed r u l q is h of =
      IfOk-weaker r (λ x. x ≡ q) (λ x. x ≡ type_of laid is_open path (lvalue_tree u))
      (λ x same. same ∙ (of ∙ ap (type_of laid is_open path) (sym is))) h
