-- One part behind another, and another behind both.
use Rattle.std.proofs.Common.{◌≡◌, ℕ, ◌+◌, Bool, true, false, List, [], ◌∷◌, ◌++◌, map, Option, Some, None}
use Rattle.std.proofs.Common.{option_map, refl, ap, ap₂, sym, ◌∙◌, arith, add-zero, zero-add}
use Rattle.std.proofs.lemmas.List.{append-nil, append_assoc, map-append}
use Rattle.tm_terms.specs.declared.places.Place.{Place}
use Rattle.tm_laid.specs.Layouts.{LaidTree}
use Rattle.path_origins.specs.declared.origins.Form.TheVariants as Forms
use Rattle.path_origins.specs.declared.origins.NotedEdge.{NotedEdge}
use Rattle.path_origins.specs.declared.origins.NotedCall.{NotedCall}
use Rattle.path_origins.specs.declared.origins.Span.{Span}
use Rattle.path_origins.specs.declared.origins.Unsequenced.{Unsequenced}
use Rattle.path_origins.specs.declared.origins.Reload.{Reload}
use Rattle.path_origins.specs.declared.origins.Overwrite.{Overwrite}
use Rattle.path_origins.specs.declared.origins.Life.{Life}
use Rattle.path_origins.specs.declared.walks.Wanted.{Wanted}
use Rattle.path_origins.specs.declared.walks.Wanted.TheVariants as Wants
use Rattle.path_origins.specs.Noted.{Noted, nothing, edge_by, call_by, span_by, operands_by, reload_by, overwrite_by}
use Rattle.path_origins.specs.Noted.{life_by, behind, one}
use Rattle.path_origins.specs.Expressions.{valued, decided}
use Rattle.path_origins.specs.reading.Walks.{by_wanted, end_by, decided_by}

-- the same in each kind are the same
pub same : (x y : Noted) → x.size ≡ y.size → x.edges ≡ y.edges → x.calls ≡ y.calls → x.operands ≡ y.operands
    → x.reloads ≡ y.reloads → x.overwrites ≡ y.overwrites → x.lives ≡ y.lives → x.falls ≡ y.falls
    → x.passings ≡ y.passings → x.pending ≡ y.pending → x.unended ≡ y.unended → x ≡ y
same x y size edges calls operands reloads overwrites lives falls passings pending unended = λ i. record {
  size = size i;
  edges = edges i;
  calls = calls i;
  operands = operands i;
  reloads = reloads i;
  overwrites = overwrites i;
  lives = lives i;
  falls = falls i;
  passings = passings i;
  pending = pending i;
  unended = unended i;
}

-- ## Edges that are counted from an earlier one on

pub map_twice : {X : Type 0} (f g h : X → X) → ((x : X) → f (g x) ≡ h x) → (xs : List X)
    → map f (map g xs) ≡ map h xs
map_twice f g h e [] = refl
map_twice f g h e (x ∷ xs) = ap₂ (λ y ys. y ∷ ys) (e x) (map_twice f g h e xs)

pub map_same : {X : Type 0} (f : X → X) → ((x : X) → f x ≡ x) → (xs : List X) → map f xs ≡ xs
map_same f e [] = refl
map_same f e (x ∷ xs) = ap₂ (λ y ys. y ∷ ys) (e x) (map_same f e xs)

further : (m n k : ℕ) → m + (n + k) ≡ (m + n) + k
further m n k = omega arith

edge_further : (m n : ℕ) (e : NotedEdge) → edge_by m (edge_by n e) ≡ edge_by (m + n) e
edge_further m n e = λ i. record { at = further m n e.at i; place = e.place; form = e.form }

call_further : (m n : ℕ) (c : NotedCall) → call_by m (call_by n c) ≡ call_by (m + n) c
call_further m n c = λ i. record { path = c.path; at = further m n c.at i; used = c.used }

span_further : (m n : ℕ) (s : Span) → span_by m (span_by n s) ≡ span_by (m + n) s
span_further m n s = λ i. record { first = further m n s.first i; end = further m n s.end i }

operands_further : (m n : ℕ) (u : Unsequenced) → operands_by m (operands_by n u) ≡ operands_by (m + n) u
operands_further m n u = λ i. record {
  place = u.place;
  first = span_further m n u.first i;
  second = span_further m n u.second i;
}

reload_further : (m n : ℕ) (r : Reload) → reload_by m (reload_by n r) ≡ reload_by (m + n) r
reload_further m n r = λ i. record {
  place = r.place;
  load = further m n r.load i;
  right = span_further m n r.right i;
}

overwrite_further : (m n : ℕ) (o : Overwrite) → overwrite_by m (overwrite_by n o) ≡ overwrite_by (m + n) o
overwrite_further m n o = λ i. record {
  place = o.place;
  store = further m n o.store i;
  earlier = further m n o.earlier i;
}

some_further : (m n : ℕ) (s : Option Span)
    → option_map (span_by m) (option_map (span_by n) s) ≡ option_map (span_by (m + n)) s
some_further m n None = refl
some_further m n (Some s) = ap Some (span_further m n s)

life_further : (m n : ℕ) (l : Life) → life_by m (life_by n l) ≡ life_by (m + n) l
life_further m n l = λ i. record {
  object = l.object;
  place = l.place;
  begins = further m n l.begins i;
  scope = span_further m n l.scope i;
  initialiser = some_further m n l.initialiser i;
}

edge_same : (e : NotedEdge) → edge_by 0 e ≡ e
edge_same e = λ i. record { at = zero-add e.at i; place = e.place; form = e.form }

call_same : (c : NotedCall) → call_by 0 c ≡ c
call_same c = λ i. record { path = c.path; at = zero-add c.at i; used = c.used }

span_same : (s : Span) → span_by 0 s ≡ s
span_same s = λ i. record { first = zero-add s.first i; end = zero-add s.end i }

operands_same : (u : Unsequenced) → operands_by 0 u ≡ u
operands_same u = λ i. record { place = u.place; first = span_same u.first i; second = span_same u.second i }

reload_same : (r : Reload) → reload_by 0 r ≡ r
reload_same r = λ i. record { place = r.place; load = zero-add r.load i; right = span_same r.right i }

overwrite_same : (o : Overwrite) → overwrite_by 0 o ≡ o
overwrite_same o = λ i. record { place = o.place; store = zero-add o.store i; earlier = zero-add o.earlier i }

some_same : (s : Option Span) → option_map (span_by 0) s ≡ s
some_same None = refl
some_same (Some s) = ap Some (span_same s)

life_same : (l : Life) → life_by 0 l ≡ l
life_same l = λ i. record {
  object = l.object;
  place = l.place;
  begins = zero-add l.begins i;
  scope = span_same l.scope i;
  initialiser = some_same l.initialiser i;
}

-- ## Parts

each : {X : Type 0} (from : ℕ → X → X) → ((m n : ℕ) (x : X) → from m (from n x) ≡ from (m + n) x) → (m n : ℕ)
    (xs ys zs : List X)
    → (xs ++ map (from m) ys) ++ map (from (m + n)) zs ≡ xs ++ map (from m) (ys ++ map (from n) zs)
each from e m n xs ys zs =
    append_assoc xs (map (from m) ys) (map (from (m + n)) zs)
    ∙ ap (λ all. xs ++ all) (ap (λ all. map (from m) ys ++ all)
    (sym (map_twice (from m) (from n) (from (m + n)) (e m n) zs)) ∙ sym (map-append (from m) ys (map (from n) zs)))

pub behind_behind : (a x y : Noted) → behind (behind a x) y ≡ behind a (behind x y)
behind_behind a x y = same (behind (behind a x) y) (behind a (behind x y)) (sym (further a.size x.size y.size))
    (each edge_by edge_further a.size x.size a.edges x.edges y.edges)
    (each call_by call_further a.size x.size a.calls x.calls y.calls)
    (each operands_by operands_further a.size x.size a.operands x.operands y.operands)
    (each reload_by reload_further a.size x.size a.reloads x.reloads y.reloads)
    (each overwrite_by overwrite_further a.size x.size a.overwrites x.overwrites y.overwrites)
    (each life_by life_further a.size x.size a.lives x.lives y.lives)
    (each (λ n k. n + k) further a.size x.size a.falls x.falls y.falls)
    (append_assoc a.passings x.passings y.passings)
    (each (λ n k. n + k) further a.size x.size a.pending x.pending y.pending)
    (each life_by life_further a.size x.size a.unended x.unended y.unended)

pub behind_nothing : (x : Noted) → behind x nothing ≡ x
behind_nothing x = same (behind x nothing) x (add-zero x.size) (append-nil x.edges) (append-nil x.calls)
    (append-nil x.operands) (append-nil x.reloads) (append-nil x.overwrites) (append-nil x.lives) (append-nil x.falls)
    (append-nil x.passings) (append-nil x.pending) (append-nil x.unended)

pub nothing_behind : (x : Noted) → behind nothing x ≡ x
nothing_behind x = same (behind nothing x) x (zero-add x.size) (map_same (edge_by 0) edge_same x.edges)
    (map_same (call_by 0) call_same x.calls) (map_same (operands_by 0) operands_same x.operands)
    (map_same (reload_by 0) reload_same x.reloads) (map_same (overwrite_by 0) overwrite_same x.overwrites)
    (map_same (life_by 0) life_same x.lives) (map_same (λ k. 0 + k) zero-add x.falls) refl
    (map_same (λ k. 0 + k) zero-add x.pending) (map_same (life_by 0) life_same x.unended)

-- a part behind what was noted, and another behind it
pub then_behind : (a b c x y : Noted) → b ≡ behind a x → c ≡ behind b y → c ≡ behind a (behind x y)
then_behind a b c x y first second = second ∙ ap (λ z. behind z y) first ∙ behind_behind a x y

-- two parts and a third one behind both
pub pair_behind : (a b c d x y z : Noted) → b ≡ behind a x → c ≡ behind b y → d ≡ behind c z
    → d ≡ behind a (behind (behind x y) z)
pair_behind a b c d x y z e f g = then_behind a c d (behind x y) z (then_behind a b c x y e f) g

pub four_behind : (a b c d f x y z w : Noted) → b ≡ behind a x → c ≡ behind b y → d ≡ behind c z → f ≡ behind d w
    → f ≡ behind a (behind (behind (behind x y) z) w)
four_behind a b c d f x y z w eb ec ed ef =
    then_behind a d f (behind (behind x y) z) w (pair_behind a b c d x y z eb ec ed) ef

-- nothing more
pub behind_still : (a b : Noted) → b ≡ a → b ≡ behind a nothing
behind_still a b e = e ∙ sym (behind_nothing a)

-- ## Ends of expressions

module _ (laid : LaidTree) (is_open : Place → Bool) (sizes : ℕ → ℕ) (path : ℕ) where
  pub value_ended : (wanted : Wanted) (pointer : Bool) (p : Place) (x : Noted)
      → behind x (end_by wanted pointer p) ≡ by_wanted wanted (valued laid is_open sizes path pointer p x)
  value_ended Wants.Value pointer p x = behind_nothing x
  value_ended Wants.Bare pointer p x = behind_nothing x
  value_ended Wants.Branch true p x = refl
  value_ended Wants.Branch false p x = refl

  pub fork_ended : (wanted : Wanted) (p : Place) (x : Noted)
      → behind x (decided_by wanted p) ≡ by_wanted wanted (decided laid is_open sizes path p x)
  fork_ended Wants.Value p x = ap (λ y. behind x (behind (one p Forms.Constant) (behind (one p Forms.Constant)
      (behind (one p Forms.Skip) y)))) (behind_nothing (one p Forms.Skip))
  fork_ended Wants.Bare p x = ap (λ y. behind x (behind (one p Forms.Constant) (behind (one p Forms.Constant)
      (behind (one p Forms.Skip) y)))) (behind_nothing (one p Forms.Skip))
  fork_ended Wants.Branch p x = behind_nothing x

  -- the end of a value that stands behind what was noted
  pub value_noted : (wanted : Wanted) (pointer : Bool) (p : Place) (a b c x : Noted) → b ≡ behind a x
      → c ≡ behind b (end_by wanted pointer p)
      → c ≡ behind a (by_wanted wanted (valued laid is_open sizes path pointer p x))
  value_noted wanted pointer p a b c x first second =
      then_behind a b c x (end_by wanted pointer p) first second ∙ ap (behind a) (value_ended wanted pointer p x)

  pub fork_noted : (wanted : Wanted) (p : Place) (a b c x : Noted) → b ≡ behind a x
      → c ≡ behind b (decided_by wanted p) → c ≡ behind a (by_wanted wanted (decided laid is_open sizes path p x))
  fork_noted wanted p a b c x first second =
      then_behind a b c x (decided_by wanted p) first second ∙ ap (behind a) (fork_ended wanted p x)
