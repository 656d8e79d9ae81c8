-- How control leaves statements, one behind another, by numbers that are counted from the first edge of the body.
use Rattle.std.proofs.Common.{◌≡◌, ℕ, zero, suc, ◌+◌, ◌<◌, ◌≤◌, Bool, true, false, ◌||◌, List, ◌∷◌, length, drop}
use Rattle.std.proofs.Common.{get_or}
use Rattle.std.proofs.Common.{not, refl, ap, sym, subst, ◌∙◌, add-zero, zero-add, add_assoc}
use Rattle.std.proofs.lemmas.List.{drop_more, drop_all}
use Rattle.tm_terms.specs.declared.places.Place.{Place}
use Rattle.tm_typed.specs.declared.statements.TypedStatement.{TypedStatement}
use Rattle.tm_typed.specs.declared.statements.TypedSwitchPart.{TypedSwitchPart}
use Rattle.tm_typed.specs.TypedStatements.{typed_tree, as_typed_trees, TypedCase, a_label, a_default_label}
use Rattle.tm_typed.specs.TypedStatements.{a_labelled_step, TypedCases, no_typed_cases, and_typed_case, typed_case}
use Rattle.tm_typed.specs.TypedStatements.{as_typed_cases, continues}
use Rattle.tm_laid.specs.Layouts.{LaidTree}
use Rattle.path_origins.specs.declared.origins.Form.TheVariants as Forms
use Rattle.path_origins.specs.declared.origins.Notes.{Notes}
use Rattle.path_origins.specs.declared.statements.Ways.{Ways}
use Rattle.path_origins.specs.Noted.{Noted, nothing, behind, one_if, tests, skips}
use Rattle.path_origins.specs.Statements.{Left, goes_on, left_behind, in_turn, then_noted, nowhere, continued, closed}
use Rattle.path_origins.specs.Statements.{labels_tested, has_default, exit_of, block, statement, statements, case_of}
use Rattle.path_origins.specs.Statements.{cases}
use Rattle.path_origins.specs.Shown.{shown}
use Rattle.path_origins.specs.reading.Walks.{IsBehind, IsLeftBehind, scoped_from}
use Rattle.path_origins.specs.reading.Leaving.{inside_of, chosen_in, behind_loop, behind_choice, IsClosed, turns_met}
use Rattle.path_origins.specs.reading.Leaving.{loop_end, gone_on, label_noted, labels_noted, is_default_label}
use Rattle.path_origins.specs.reading.Leaving.{is_default_among, missed, select_end}
use Rattle.path_origins.proofs.Laws.{behind_behind, behind_nothing, nothing_behind, then_behind}
use Rattle.path_origins.proofs.Beside.{scoped_noted}

-- a way past the labels, where none is a default
pub missed_unless : (default : Bool) → one_if (not default) nowhere Forms.Skip ≡ missed default
missed_unless true = refl
missed_unless false = refl

-- ## Parts of a list, one behind another

-- the next part, and those behind it
pub next : {X : Type 0} (xs : List X) (i : ℕ) (x : X) → i < length xs → x ≡ get_or xs i x
    → drop i xs ≡ x ∷ drop (i + 1) xs
next xs i x lt e = drop_more xs i x lt ∙ ap (λ y. y ∷ drop (i + 1) xs) (sym e)

-- what is left of a whole, behind what is noted of it so far
pub record IsYet (from to : Notes) (rest all : Noted) : Type 0 where
  pub left : behind (shown to) rest ≡ behind (shown from) all

pub yet_first : (from : Notes) (all : Noted) → IsYet from from all all
yet_first from all = record { left = refl }

pub yet_more : (from to new : Notes) (rest all x more : Noted) → rest ≡ behind x more → IsBehind to new x
    → IsYet from to rest all → IsYet from new more all
yet_more from to new rest all x more e h yet = record {
  left = ap (λ z. behind z more) h ∙ behind_behind (shown to) x more ∙ ap (behind (shown to)) (sym e) ∙ yet.left;
}

pub yet_same : (from to : Notes) (rest all more : Noted) → rest ≡ more → IsYet from to rest all
    → IsYet from to more all
yet_same from to rest all more e yet = record { left = ap (behind (shown to)) (sym e) ∙ yet.left }

pub yet_last : (from to : Notes) (rest all : Noted) → rest ≡ nothing → IsYet from to rest all → IsBehind from to all
yet_last from to rest all e yet =
    sym (behind_nothing (shown to)) ∙ ap (behind (shown to)) (sym e) ∙ yet.left

-- ## Statements, one behind another

summed : (a b c x y : ℕ) → b ≡ a + x → c ≡ b + y → c ≡ a + (x + y)
summed a b c x y e f = f ∙ ap (λ n. n + y) e ∙ add_assoc a x y

-- nothing leaves
pub still_left : (s : Left) (a b : Notes) (w : Ways) (x : Noted) → s ≡ goes_on x → IsBehind a b x
    → IsLeftBehind a b w w s
still_left s a b w x e h = subst (λ z. IsLeftBehind a b w w z) (sym e) (record {
  noted = h;
  breaks = sym (add-zero w.breaks);
  continues = sym (add-zero w.continues);
  returns = sym (add-zero w.returns);
})

pub turn_left : (a b c : Notes) (w v u : Ways) (s r : Left) → IsLeftBehind a b w v s → IsLeftBehind b c v u r
    → IsLeftBehind a c w u (in_turn s r)
turn_left a b c w v u s r h k = record {
  noted = then_behind (shown a) (shown b) (shown c) s.noted r.noted h.noted k.noted;
  breaks = summed w.breaks v.breaks u.breaks s.breaks r.breaks h.breaks k.breaks;
  continues = summed w.continues v.continues u.continues s.continues r.continues h.continues k.continues;
  returns = summed w.returns v.returns u.returns s.returns r.returns h.returns k.returns;
}

pub after_left : (a b c : Notes) (w v : Ways) (x : Noted) (s : Left) → IsBehind a b x → IsLeftBehind b c w v s
    → IsLeftBehind a c w v (left_behind x s)
after_left a b c w v x s h k = record {
  noted = then_behind (shown a) (shown b) (shown c) x s.noted h k.noted;
  breaks = k.breaks;
  continues = k.continues;
  returns = k.returns;
}

pub then_left : (a b c : Notes) (w v : Ways) (s : Left) (x : Noted) → IsLeftBehind a b w v s → IsBehind b c x
    → IsLeftBehind a c w v (then_noted s x)
then_left a b c w v s x h k = record {
  noted = then_behind (shown a) (shown b) (shown c) s.noted x h.noted k;
  breaks = h.breaks;
  continues = h.continues;
  returns = h.returns;
}

-- the same as another, which is what is said
pub as_left : (a b : Notes) (w v : Ways) (s r : Left) → s ≡ r → IsLeftBehind a b w v r → IsLeftBehind a b w v s
as_left a b w v s r e h = subst (λ z. IsLeftBehind a b w v z) (sym e) h

-- what is left of statements, behind what is left of them so far
pub record IsLeftYet (from to : Notes) (before now : Ways) (rest all : Left) : Type 0 where
  pub noted : behind (shown to) rest.noted ≡ behind (shown from) all.noted
  pub breaks : now.breaks + rest.breaks ≡ before.breaks + all.breaks
  pub continues : now.continues + rest.continues ≡ before.continues + all.continues
  pub returns : now.returns + rest.returns ≡ before.returns + all.returns

pub left_first : (from : Notes) (before : Ways) (all : Left) → IsLeftYet from from before before all all
left_first from before all = record { noted = refl; breaks = refl; continues = refl; returns = refl }

one_more : (b n m r x l all : ℕ) → r ≡ x + l → m ≡ n + x → n + r ≡ b + all → m + l ≡ b + all
one_more b n m r x l all e f g = ap (λ k. k + l) f ∙ add_assoc n x l ∙ ap (λ k. n + k) (sym e) ∙ g

pub left_more : (from to new : Notes) (before now after : Ways) (rest all s more : Left) → rest ≡ in_turn s more
    → IsLeftBehind to new now after s → IsLeftYet from to before now rest all
    → IsLeftYet from new before after more all
left_more from to new before now after rest all s more e h yet = record {
  noted = ap (λ z. behind z more.noted) h.noted ∙ behind_behind (shown to) s.noted more.noted
      ∙ ap (λ (z : Left). behind (shown to) z.noted) (sym e) ∙ yet.noted;
  breaks = one_more before.breaks now.breaks after.breaks rest.breaks s.breaks more.breaks all.breaks
      (ap (λ (z : Left). z.breaks) e) h.breaks yet.breaks;
  continues = one_more before.continues now.continues after.continues rest.continues s.continues more.continues
      all.continues (ap (λ (z : Left). z.continues) e) h.continues yet.continues;
  returns = one_more before.returns now.returns after.returns rest.returns s.returns more.returns all.returns
      (ap (λ (z : Left). z.returns) e) h.returns yet.returns;
}

none_more : (b n r all : ℕ) → r ≡ 0 → n + r ≡ b + all → n ≡ b + all
none_more b n r all e f = sym (add-zero n) ∙ ap (λ k. n + k) (sym e) ∙ f

pub left_last : (from to : Notes) (before now : Ways) (rest all : Left) → rest ≡ goes_on nothing
    → IsLeftYet from to before now rest all → IsLeftBehind from to before now all
left_last from to before now rest all e yet = record {
  noted = sym (behind_nothing (shown to)) ∙ ap (λ (z : Left). behind (shown to) z.noted) (sym e) ∙ yet.noted;
  breaks = none_more before.breaks now.breaks rest.breaks all.breaks (ap (λ (z : Left). z.breaks) e) yet.breaks;
  continues = none_more before.continues now.continues rest.continues all.continues
      (ap (λ (z : Left). z.continues) e) yet.continues;
  returns = none_more before.returns now.returns rest.returns all.returns (ap (λ (z : Left). z.returns) e)
      yet.returns;
}

-- where there are some that go on, they come together
pub turns_some : (n : ℕ) → (n ≡ 0 → ⊥) → skips nowhere (suc n) ≡ turns_met n
turns_some zero some = absurd (some refl)
turns_some (suc n) some = refl

module _ (laid : LaidTree) (is_open : Place → Bool) (sizes : ℕ → ℕ) (path : ℕ) where
  pub statements_more : (head : Bool) (xs : List TypedStatement) (i : ℕ) (x : TypedStatement) → i < length xs
      → x ≡ get_or xs i x → statements laid is_open sizes path head (as_typed_trees (drop i xs))
      ≡ in_turn (statement laid is_open sizes path head (typed_tree x))
      (statements laid is_open sizes path head (as_typed_trees (drop (i + 1) xs)))
  statements_more head xs i x lt e =
      ap (λ (ys : List TypedStatement). statements laid is_open sizes path head (as_typed_trees ys))
      (next xs i x lt e)

  pub statements_last : (head : Bool) (xs : List TypedStatement) (i : ℕ) → length xs ≤ i
      → statements laid is_open sizes path head (as_typed_trees (drop i xs)) ≡ goes_on nothing
  statements_last head xs i le =
      ap (λ (ys : List TypedStatement). statements laid is_open sizes path head (as_typed_trees ys))
      (drop_all i xs le)

  pub cases_more : (head : Bool) (xs : List TypedSwitchPart) (i : ℕ) (x : TypedSwitchPart) → i < length xs
      → x ≡ get_or xs i x → cases laid is_open sizes path head (as_typed_cases (drop i xs))
      ≡ in_turn (case_of laid is_open sizes path head (typed_case x))
      (cases laid is_open sizes path head (as_typed_cases (drop (i + 1) xs)))
  cases_more head xs i x lt e =
      ap (λ (ys : List TypedSwitchPart). cases laid is_open sizes path head (as_typed_cases ys)) (next xs i x lt e)

  pub cases_last : (head : Bool) (xs : List TypedSwitchPart) (i : ℕ) → length xs ≤ i
      → cases laid is_open sizes path head (as_typed_cases (drop i xs)) ≡ goes_on nothing
  cases_last head xs i le =
      ap (λ (ys : List TypedSwitchPart). cases laid is_open sizes path head (as_typed_cases ys)) (drop_all i xs le)

  -- ## Blocks

  pub block_left : (n : ℕ) (a b c : Notes) (w v : Ways) (s : Left) → n ≡ length (shown a).unended
      → IsLeftBehind a b w v s → shown c ≡ scoped_from n (shown b)
      → IsLeftBehind a c w v (block laid is_open sizes path s)
  block_left n a b c w v s e h k = record {
    noted = scoped_noted n (shown a) (shown b) (shown c) s.noted e h.noted k;
    breaks = h.breaks;
    continues = h.continues;
    returns = h.returns;
  }

  -- ## Loops and `switch`

  pub gone_left : (head : Bool) → statement laid is_open sizes path head continues ≡ gone_on head
  gone_left true = refl
  gone_left false = refl

  pub turns_left : (n m : ℕ) → m ≡ 0 + n → turns_met m ≡ continued laid is_open sizes path n
  turns_left zero m e = ap turns_met e
  turns_left (suc n) m e = ap turns_met (e ∙ zero-add (suc n))

  -- a loop comes to its end
  pub closed_left : (others : ℕ) (a b c : Notes) (w i v u : Ways) (s : Left) → i ≡ inside_of w
      → IsLeftBehind a b i v s → IsClosed b c u (behind_loop w v) (loop_end others v.breaks)
      → IsLeftBehind a c w u (closed laid is_open sizes path others s)
  closed_left others a b c w i v u s e h k =
      let start : IsLeftBehind a b (inside_of w) v s = subst (λ (x : Ways). IsLeftBehind a b x v s) e h in
      record {
        noted = then_behind (shown a) (shown b) (shown c) s.noted (loop_end others s.breaks) h.noted
            (k.noted ∙ ap (λ n. behind (shown b) (loop_end others n)) (start.breaks ∙ zero-add s.breaks));
        breaks = ap (λ (x : Ways). x.breaks) k.ways ∙ sym (add-zero w.breaks);
        continues = ap (λ (x : Ways). x.continues) k.ways ∙ sym (add-zero w.continues);
        returns = ap (λ (x : Ways). x.returns) k.ways ∙ start.returns;
      }

  -- so does a `switch`
  pub exit_left : (default : Bool) (a b c : Notes) (w i v u : Ways) (s : Left) → i ≡ chosen_in w
      → IsLeftBehind a b i v s → IsClosed b c u (behind_choice w v) (select_end default v.breaks)
      → IsLeftBehind a c w u (exit_of laid is_open sizes path default s)
  exit_left default a b c w i v u s e h k =
      let start : IsLeftBehind a b (chosen_in w) v s = subst (λ (x : Ways). IsLeftBehind a b x v s) e h in
      record {
        noted = then_behind (shown a) (shown b) (shown c) s.noted (select_end default s.breaks) h.noted
            (k.noted ∙ ap (λ n. behind (shown b) (select_end default n)) (start.breaks ∙ zero-add s.breaks));
        breaks = ap (λ (x : Ways). x.breaks) k.ways ∙ sym (add-zero w.breaks);
        continues = ap (λ (x : Ways). x.continues) k.ways ∙ start.continues;
        returns = ap (λ (x : Ways). x.returns) k.ways ∙ start.returns;
      }

  labels_by : (c : TypedCase) (cs : TypedCases) → labels_noted cs ≡ labels_tested laid is_open sizes path cs
      → labels_noted (and_typed_case c cs) ≡ labels_tested laid is_open sizes path (and_typed_case c cs)
  labels_by (a_label z p) cs e = ap (behind (tests p (Forms.Test false))) e
  labels_by (a_default_label p) cs e = nothing_behind (labels_noted cs) ∙ e
  labels_by (a_labelled_step s) cs e = nothing_behind (labels_noted cs) ∙ e

  pub labels_left : (cs : TypedCases) → labels_noted cs ≡ labels_tested laid is_open sizes path cs
  labels_left no_typed_cases = refl
  labels_left (and_typed_case c cs) = labels_by c cs (labels_left cs)

  default_by : (c : TypedCase) (cs : TypedCases) → is_default_among cs ≡ has_default laid is_open sizes path cs
      → is_default_among (and_typed_case c cs) ≡ has_default laid is_open sizes path (and_typed_case c cs)
  default_by (a_label z p) cs e = e
  default_by (a_default_label p) cs e = refl
  default_by (a_labelled_step s) cs e = e

  pub default_left : (cs : TypedCases) → is_default_among cs ≡ has_default laid is_open sizes path cs
  default_left no_typed_cases = refl
  default_left (and_typed_case c cs) = default_by c cs (default_left cs)

-- ## Labels, one after the other

pub labels_more : (xs : List TypedSwitchPart) (i : ℕ) (x : TypedSwitchPart) → i < length xs → x ≡ get_or xs i x
    → labels_noted (as_typed_cases (drop i xs))
    ≡ behind (label_noted (typed_case x)) (labels_noted (as_typed_cases (drop (i + 1) xs)))
labels_more xs i x lt e = ap (λ (ys : List TypedSwitchPart). labels_noted (as_typed_cases ys)) (next xs i x lt e)

pub labels_last : (xs : List TypedSwitchPart) (i : ℕ) → length xs ≤ i
    → labels_noted (as_typed_cases (drop i xs)) ≡ nothing
labels_last xs i le = ap (λ (ys : List TypedSwitchPart). labels_noted (as_typed_cases ys)) (drop_all i xs le)

default_more : (xs : List TypedSwitchPart) (i : ℕ) (x : TypedSwitchPart) (b : Bool) → i < length xs
    → x ≡ get_or xs i x → b ≡ is_default_label (typed_case x)
    → is_default_among (as_typed_cases (drop i xs)) ≡ b || is_default_among (as_typed_cases (drop (i + 1) xs))
default_more xs i x b lt e is =
    ap (λ (ys : List TypedSwitchPart). is_default_among (as_typed_cases ys)) (next xs i x lt e)
    ∙ ap (λ c. c || is_default_among (as_typed_cases (drop (i + 1) xs))) (sym is)

-- a part is a default
pub default_here : (xs : List TypedSwitchPart) (i : ℕ) (x : TypedSwitchPart) → i < length xs → x ≡ get_or xs i x
    → true ≡ is_default_label (typed_case x)
    → is_default_among (as_typed_cases (drop i xs)) ≡ is_default_among (as_typed_cases xs)
    → true ≡ is_default_among (as_typed_cases xs)
default_here xs i x lt e is h = sym (default_more xs i x true lt e is) ∙ h

-- or a later one may be
pub default_later : (xs : List TypedSwitchPart) (i : ℕ) (x : TypedSwitchPart) → i < length xs → x ≡ get_or xs i x
    → false ≡ is_default_label (typed_case x)
    → is_default_among (as_typed_cases (drop i xs)) ≡ is_default_among (as_typed_cases xs)
    → is_default_among (as_typed_cases (drop (i + 1) xs)) ≡ is_default_among (as_typed_cases xs)
default_later xs i x lt e is h = sym (default_more xs i x false lt e is) ∙ h

pub default_last : (xs : List TypedSwitchPart) (i : ℕ) → length xs ≤ i
    → is_default_among (as_typed_cases (drop i xs)) ≡ is_default_among (as_typed_cases xs)
    → false ≡ is_default_among (as_typed_cases xs)
default_last xs i le h =
    sym (ap (λ (ys : List TypedSwitchPart). is_default_among (as_typed_cases ys)) (drop_all i xs le)) ∙ h
