-- What the code notes beside edges, by numbers that are counted from the first edge of the body, is what is noted of
-- the part that stands there.
use Rattle.std.proofs.Common.{◌≡◌, ℕ, ◌+◌, Bool, true, false, List, [], ◌∷◌, ◌++◌, map, length, take, drop}
use Rattle.std.proofs.Common.{refl, ap, sym, ◌∙◌, add-zero, add_assoc}
use Rattle.std.proofs.lemmas.List.{append-nil, append_assoc, map-append}
use Rattle.tm_terms.specs.declared.places.Place.{Place}
use Rattle.tm_laid.specs.Layouts.{LaidTree}
use Rattle.path_origins.specs.declared.origins.Form.{Form}
use Rattle.path_origins.specs.declared.origins.Form.TheVariants as Forms
use Rattle.path_origins.specs.declared.origins.Span.{Span}
use Rattle.path_origins.specs.declared.origins.Unsequenced.{Unsequenced}
use Rattle.path_origins.specs.declared.origins.Reload.{Reload}
use Rattle.path_origins.specs.declared.origins.Life.{Life}
use Rattle.path_origins.specs.declared.origins.Passed.{Passed}
use Rattle.path_origins.specs.declared.origins.Passed.TheVariants as Passes
use Rattle.path_origins.specs.Noted.{Noted, span_by, operands_by, reload_by, overwrite_by, life_by, behind, span_of}
use Rattle.path_origins.specs.Noted.{both, sequenced, scoped, ending, given_if, passing_if, overwrites_of, stored, one}
use Rattle.path_origins.specs.Expressions.{against}
use Rattle.path_origins.specs.Bodies.{fall}
use Rattle.path_origins.specs.reading.Walks.{operands_added, reload_added, sequenced_from, stored_from, scoped_from}
use Rattle.path_origins.specs.reading.Walks.{fall_added, life_added}
use Rattle.path_origins.proofs.Laws.{same, behind_behind}

-- ## Lists

pub behind_drop : {X : Type 0} (xs ys : List X) → drop (length xs) (xs ++ ys) ≡ ys
behind_drop [] ys = refl
behind_drop (x ∷ xs) ys = behind_drop xs ys

pub before_take : {X : Type 0} (xs ys : List X) → take (length xs) (xs ++ ys) ≡ xs
before_take [] ys = refl
before_take (x ∷ xs) ys = ap (λ zs. x ∷ zs) (before_take xs ys)

pushed : {X : Type 0} (f : X → X) (xs ys : List X) (x y : X) → x ≡ f y
    → (xs ++ map f ys) ++ x ∷ [] ≡ xs ++ map f (ys ++ y ∷ [])
pushed f xs ys x y e =
    append_assoc xs (map f ys) (x ∷ []) ∙ ap (λ zs. xs ++ zs) (ap (λ z. map f ys ++ z ∷ []) e
    ∙ sym (map-append f ys (y ∷ [])))

all_pushed : {X : Type 0} (f : X → X) (xs ys us vs : List X) → us ≡ map f vs
    → (xs ++ map f ys) ++ us ≡ xs ++ map f (ys ++ vs)
all_pushed f xs ys us vs e =
    append_assoc xs (map f ys) us ∙ ap (λ zs. xs ++ zs) (ap (λ zs. map f ys ++ zs) e ∙ sym (map-append f ys vs))

-- ## Operands

pub span_is : (s t : Span) → s.first ≡ t.first → s.end ≡ t.end → s ≡ t
span_is s t first end = λ i. record { first = first i; end = end i }

-- the edges of a part that stands behind another one, behind what was noted
pub span_further : (n : ℕ) (s : Span) (a x : Noted) → s.first ≡ a.size + n → s.end ≡ a.size + n + x.size
    → s ≡ span_by a.size (span_of n x)
span_further n s a x first end = span_is s (span_by a.size (span_of n x)) first (end ∙ add_assoc a.size n x.size)

operands_in : (p : Place) (first second f s : Span) (a z : Noted) → first ≡ span_by a.size f
    → second ≡ span_by a.size s → operands_added p first second (behind a z) ≡ behind a (operands_added p f s z)
operands_in p first second f s a z e g =
    let u : Unsequenced = record { place = p; first = first; second = second } in
    let v : Unsequenced = record { place = p; first = f; second = s } in
    let same_operands : u ≡ operands_by a.size v = λ i. record { place = p; first = e i; second = g i } in
    same (operands_added p first second (behind a z)) (behind a (operands_added p f s z)) refl refl refl
    (pushed (operands_by a.size) a.operands z.operands u v same_operands) refl refl refl refl refl refl refl

reload_in : (p : Place) (load k : ℕ) (right s : Span) (a z : Noted) → load ≡ a.size + k → right ≡ span_by a.size s
    → reload_added p load right (behind a z) ≡ behind a (reload_added p k s z)
reload_in p load k right s a z e g =
    let u : Reload = record { place = p; load = load; right = right } in
    let v : Reload = record { place = p; load = k; right = s } in
    let same_reload : u ≡ reload_by a.size v = λ i. record { place = p; load = e i; right = g i } in
    same (reload_added p load right (behind a z)) (behind a (reload_added p k s z)) refl refl refl refl
    (pushed (reload_by a.size) a.reloads z.reloads u v same_reload) refl refl refl refl refl refl

-- two unsequenced operands, each with its edges
pub operands_behind : (p : Place) (first second : Span) (a x y : Noted) → first.first ≡ a.size
    → first.end ≡ a.size + x.size → second.first ≡ a.size + x.size → second.end ≡ a.size + x.size + y.size
    → operands_added p first second (behind (behind a x) y) ≡ behind a (both p x y)
operands_behind p first second a x y e f g h =
    ap (operands_added p first second) (behind_behind a x y)
    ∙ operands_in p first second (span_of 0 x) (span_of x.size y) a (behind x y)
    (span_further 0 first a x (e ∙ sym (add-zero a.size)) (f ∙ ap (λ n. n + x.size) (sym (add-zero a.size))))
    (span_further x.size second a y g h)

-- the right side of `op=`, with the edges of the address, the load and its own
pub against_behind : (laid : LaidTree) (is_open : Place → Bool) (sizes : ℕ → ℕ) (path : ℕ) (p : Place)
    (edges : Span) (load : ℕ) (right : Span) (a x l r : Noted) → edges.first ≡ a.size → edges.end ≡ a.size + x.size
    → load ≡ a.size + x.size → right.first ≡ a.size + x.size + l.size
    → right.end ≡ a.size + x.size + l.size + r.size
    → reload_added p load right (operands_added p edges right (behind (behind (behind a x) l) r))
    ≡ behind a (against laid is_open sizes path p x l r)
against_behind laid is_open sizes path p edges load right a x l r e f g h k =
    let before : Noted = behind x l in
    let all : Noted = behind before r in
    let joined : behind (behind (behind a x) l) r ≡ behind a all =
    ap (λ z. behind z r) (behind_behind a x l) ∙ behind_behind a before r in
    let own : right ≡ span_by a.size (span_of before.size r) = span_further before.size right a r
    (h ∙ add_assoc a.size x.size l.size) (k ∙ ap (λ n. n + r.size) (add_assoc a.size x.size l.size)) in
    let address : edges ≡ span_by a.size (span_of 0 x) = span_further 0 edges a x (e ∙ sym (add-zero a.size))
    (f ∙ ap (λ n. n + x.size) (sym (add-zero a.size))) in
    ap (λ z. reload_added p load right (operands_added p edges right z)) joined
    ∙ ap (reload_added p load right)
    (operands_in p edges right (span_of 0 x) (span_of before.size r) a all address own)
    ∙ reload_in p load x.size right (span_of before.size r) a
    (operands_added p (span_of 0 x) (span_of before.size r) all) g own

-- ## Stores

overwrites_further : (p : Place) (m s : ℕ) (ks : List ℕ)
    → overwrites_of p (m + s) (map (λ k. m + k) ks) ≡ map (overwrite_by m) (overwrites_of p s ks)
overwrites_further p m s [] = refl
overwrites_further p m s (k ∷ ks) =
    ap (λ os. record { place = p; store = m + s; earlier = m + k } ∷ os) (overwrites_further p m s ks)

stored_exactly : (p : Place) (a x : Noted) → stored_from (length a.pending) p (behind a x) ≡ behind a (stored p x)
stored_exactly p a x =
    let e : behind (behind a x) (one p Forms.Store) ≡ behind a (behind x (one p Forms.Store)) =
    behind_behind a x (one p Forms.Store) in
    let left : overwrites_of p (a.size + x.size)
    (drop (length a.pending) (a.pending ++ map (λ k. a.size + k) x.pending))
    ≡ map (overwrite_by a.size) (overwrites_of p x.size x.pending) =
    ap (overwrites_of p (a.size + x.size)) (behind_drop a.pending (map (λ k. a.size + k) x.pending))
    ∙ overwrites_further p a.size x.size x.pending in
    same (stored_from (length a.pending) p (behind a x)) (behind a (stored p x)) (ap (λ z. z.size) e)
    (ap (λ z. z.edges) e) (ap (λ z. z.calls) e) (ap (λ z. z.operands) e) (ap (λ z. z.reloads) e)
    (ap (λ os. os ++ overwrites_of p (a.size + x.size)
    (drop (length a.pending) (a.pending ++ map (λ k. a.size + k) x.pending))) (ap (λ z. z.overwrites) e)
    ∙ all_pushed (overwrite_by a.size) a.overwrites (x.overwrites ++ [])
    (overwrites_of p (a.size + x.size) (drop (length a.pending) (a.pending ++ map (λ k. a.size + k) x.pending)))
    (overwrites_of p x.size x.pending) left)
    (ap (λ z. z.lives) e) (ap (λ z. z.falls) e) (ap (λ z. z.passings) e)
    (pushed (λ k. a.size + k) a.pending x.pending (a.size + x.size) x.size refl) (ap (λ z. z.unended) e)

pub stored_behind : (n : ℕ) (p : Place) (a x : Noted) → n ≡ length a.pending
    → stored_from n p (behind a x) ≡ behind a (stored p x)
stored_behind n p a x e = ap (λ k. stored_from k p (behind a x)) e ∙ stored_exactly p a x

-- ## Sequence points

sequenced_exactly : (a x : Noted) → sequenced_from (length a.pending) (behind a x) ≡ behind a (sequenced x)
sequenced_exactly a x =
    same (sequenced_from (length a.pending) (behind a x)) (behind a (sequenced x)) refl refl refl refl refl refl refl
    refl refl (before_take a.pending (map (λ k. a.size + k) x.pending) ∙ sym (append-nil a.pending)) refl

pub sequenced_behind : (n : ℕ) (a x : Noted) → n ≡ length a.pending
    → sequenced_from n (behind a x) ≡ behind a (sequenced x)
sequenced_behind n a x e = ap (λ k. sequenced_from k (behind a x)) e ∙ sequenced_exactly a x

-- ## Lifetimes

ended_further : (m n : ℕ) (ls : List Life)
    → map (ending (m + n)) (map (life_by m) ls) ≡ map (life_by m) (map (ending n) ls)
ended_further m n [] = refl
ended_further m n (l ∷ ls) = ap (λ more. ending (m + n) (life_by m l) ∷ more) (ended_further m n ls)

scoped_exactly : (a x : Noted) → scoped_from (length a.unended) (behind a x) ≡ behind a (scoped x)
scoped_exactly a x =
    let left : map (ending (a.size + x.size))
    (drop (length a.unended) (a.unended ++ map (life_by a.size) x.unended))
    ≡ map (life_by a.size) (map (ending x.size) x.unended) =
    ap (map (ending (a.size + x.size))) (behind_drop a.unended (map (life_by a.size) x.unended))
    ∙ ended_further a.size x.size x.unended in
    same (scoped_from (length a.unended) (behind a x)) (behind a (scoped x)) refl refl refl refl refl refl
    (all_pushed (life_by a.size) a.lives x.lives
    (map (ending (a.size + x.size)) (drop (length a.unended) (a.unended ++ map (life_by a.size) x.unended)))
    (map (ending x.size) x.unended) left) refl refl refl
    (before_take a.unended (map (life_by a.size) x.unended) ∙ sym (append-nil a.unended))

pub scoped_behind : (n : ℕ) (a x : Noted) → n ≡ length a.unended
    → scoped_from n (behind a x) ≡ behind a (scoped x)
scoped_behind n a x e = ap (λ k. scoped_from k (behind a x)) e ∙ scoped_exactly a x

-- a lifetime that begins in a part
pub life_behind : (l k : Life) (a x : Noted) → l ≡ life_by a.size k
    → life_added l (behind a x) ≡ behind a (life_added k x)
life_behind l k a x e =
    same (life_added l (behind a x)) (behind a (life_added k x)) refl refl refl refl refl refl refl refl refl refl
    (pushed (life_by a.size) a.unended x.unended l k e)

-- ## What is given, and ends without `return`

pub given_behind : (b : Bool) (g : Passed) (p : Place) (a x : Noted)
    → given_if b g p (behind a x) ≡ behind a (given_if b g p x)
given_behind true g p a x =
    same (given_if true g p (behind a x)) (behind a (given_if true g p x)) refl refl refl refl refl refl refl refl
    (append_assoc a.passings x.passings (record { place = p; passed = g } ∷ [])) refl refl
given_behind false g p a x = refl

pub fall_behind : (p : Place) (f : Form) (a : Noted) → behind (fall_added a) (one p f) ≡ behind a (fall p f)
fall_behind p f a =
    same (behind (fall_added a) (one p f)) (behind a (fall p f)) refl refl refl refl refl refl refl
    (append-nil (a.falls ++ a.size ∷ []) ∙ ap (λ k. a.falls ++ k ∷ []) (sym (add-zero a.size))) refl refl refl

-- ## The same where what was noted has a name at each step

-- two operands: behind the first, behind both, and with their edges
pub both_noted : (p : Place) (first second : Span) (a b c d x y : Noted) → b ≡ behind a x → c ≡ behind b y
    → first.first ≡ a.size → first.end ≡ b.size → second.first ≡ b.size → second.end ≡ c.size
    → d ≡ operands_added p first second c → d ≡ behind a (both p x y)
both_noted p first second a b c d x y e f g h i j k =
    let size : b.size ≡ a.size + x.size = ap (λ z. z.size) e in
    k ∙ ap (operands_added p first second) (f ∙ ap (λ z. behind z y) e)
    ∙ operands_behind p first second a x y g (h ∙ size) (i ∙ size)
    (j ∙ ap (λ z. z.size) f ∙ ap (λ n. n + y.size) size)

-- the right side of `op=`: behind the address, the load and the right side, and with their edges
pub against_noted : (laid : LaidTree) (is_open : Place → Bool) (sizes : ℕ → ℕ) (path : ℕ) (p : Place)
    (edges : Span) (load : ℕ) (right : Span) (a b c d f g x l r : Noted) → b ≡ behind a x → c ≡ behind b l
    → d ≡ behind c r → edges.first ≡ a.size → edges.end ≡ b.size → load ≡ b.size → right.first ≡ c.size
    → right.end ≡ d.size → f ≡ operands_added p edges right d → g ≡ reload_added p load right f
    → g ≡ behind a (against laid is_open sizes path p x l r)
against_noted laid is_open sizes path p edges load right a b c d f g x l r eb ec ed e1 e2 e3 e4 e5 ef eg =
    let b_size : b.size ≡ a.size + x.size = ap (λ z. z.size) eb in
    let c_size : c.size ≡ a.size + x.size + l.size = ap (λ z. z.size) ec ∙ ap (λ n. n + l.size) b_size in
    let d_size : d.size ≡ a.size + x.size + l.size + r.size = ap (λ z. z.size) ed ∙ ap (λ n. n + r.size) c_size in
    eg ∙ ap (reload_added p load right) (ef ∙ ap (operands_added p edges right)
    (ed ∙ ap (λ z. behind z r) (ec ∙ ap (λ z. behind z l) eb)))
    ∙ against_behind laid is_open sizes path p edges load right a x l r e1 (e2 ∙ b_size) (e3 ∙ b_size) (e4 ∙ c_size)
    (e5 ∙ d_size)

pub stored_noted : (n : ℕ) (p : Place) (a b c x : Noted) → n ≡ length a.pending → b ≡ behind a x
    → c ≡ stored_from n p b → c ≡ behind a (stored p x)
stored_noted n p a b c x e f g = g ∙ ap (stored_from n p) f ∙ stored_behind n p a x e

pub sequenced_noted : (n : ℕ) (a b c x : Noted) → n ≡ length a.pending → b ≡ behind a x → c ≡ sequenced_from n b
    → c ≡ behind a (sequenced x)
sequenced_noted n a b c x e f g = g ∙ ap (sequenced_from n) f ∙ sequenced_behind n a x e

pub scoped_noted : (n : ℕ) (a b c x : Noted) → n ≡ length a.unended → b ≡ behind a x → c ≡ scoped_from n b
    → c ≡ behind a (scoped x)
scoped_noted n a b c x e f g = g ∙ ap (scoped_from n) f ∙ scoped_behind n a x e

pub given_noted : (is : Bool) (g : Passed) (p : Place) (a b c x : Noted) → b ≡ behind a x → c ≡ given_if is g p b
    → c ≡ behind a (given_if is g p x)
given_noted is g p a b c x e f = f ∙ ap (given_if is g p) e ∙ given_behind is g p a x

pub passing_noted : (is : Bool) (p : Place) (a b c x : Noted) → b ≡ behind a x → c ≡ passing_if is p b
    → c ≡ behind a (passing_if is p x)
passing_noted is p a b c x e f = given_noted is Passes.Pointer p a b c x e f

pub life_noted : (l k : Life) (a b c x : Noted) → l ≡ life_by a.size k → b ≡ behind a x → c ≡ life_added l b
    → c ≡ behind a (life_added k x)
life_noted l k a b c x e f g = g ∙ ap (life_added l) f ∙ life_behind l k a x e

pub fall_noted : (p : Place) (f : Form) (a b c : Noted) → b ≡ fall_added a → c ≡ behind b (one p f)
    → c ≡ behind a (fall p f)
fall_noted p f a b c e g = g ∙ ap (λ z. behind z (one p f)) e ∙ fall_behind p f a
