-- The table of names one text further, and the tokens one name further.
use Rattle.std.proofs.Common.{◌≡◌, ℕ, ◌+◌, ◌<◌, cond, List, [], ◌∷◌, ◌++◌, length, get_or, set, take, drop, Some, None, sym, ap, ◌∙◌, arith, append_assoc}
use Rattle.std.proofs.lemmas.List.{drop_more, take_more_set, drop-set-lt, take_all, append-nil, at_drop_all}
use Rattle.std.proofs.lemmas.Map.Text.{btree_map_updates_str}
use Rattle.std.specs.Prelude.{bytes_eq}
use Rattle.std.specs.Borrow.{Bor}
use Rattle.std.specs.BTreeMap.{BTreeMap, get_by, UpdatesBy}
use Rattle.std.specs.Cmp.Lexicographic.{slice_cmp}
use Rattle.std.specs.Ordering.{nat_cmp}
use Rattle.tm_terms.specs.Spelling.{noted, noted_at, start_of, told, with_first_names}
use Rattle.tm_terms.specs.declared.tokens.Token.{Token}
use Rattle.c_lexer.specs.reading.Starts.{HasStarts}

pub HasStarts-more : (m n : BTreeMap (Bor (List ℕ)) ℕ) (table : List (List ℕ × ℕ)) (text : List ℕ) (here : ℕ)
    → HasStarts m table → None ≡ get_by (λ k. slice_cmp nat_cmp text k.now) m
    → UpdatesBy (λ x y. slice_cmp nat_cmp x.now y.now) (λ k. slice_cmp nat_cmp text k.now) m n (Some here)
    → HasStarts n (noted_at table text here)
HasStarts-more m n table text here is absent updates =
    let unknown : start_of table text ≡ None = sym (is.same text) ∙ sym absent in
    rw unknown (record { same = λ other. btree_map_updates_str text m n (Some here) updates other ∙ ap (cond (bytes_eq text other) (Some here)) (is.same other) })

pub names_more : (source : List ℕ) (table : List (List ℕ × ℕ)) (tokens : List Token) (i : ℕ) (t u : Token) → i < length tokens → t ≡ get_or tokens i t
    → u ≡ record { shape = told source table t.shape; place = t.place }
    → take i tokens ++ with_first_names source table (drop i tokens) ≡ take (i + 1) (set tokens i u) ++ with_first_names source (noted source table t.shape) (drop (i + 1) (set tokens i u))
unfolding with_first_names
names_more source table tokens i t u within is told_as =
    let next : drop i tokens ≡ t ∷ drop (i + 1) tokens = drop_more tokens i t within ∙ ap (λ x. x ∷ drop (i + 1) tokens) (sym is) in
    let rest = with_first_names source (noted source table t.shape) (drop (i + 1) tokens) in
    let one : take i tokens ++ with_first_names source table (drop i tokens) ≡ take i tokens ++ (u ∷ rest) =
    ap (λ ts. take i tokens ++ with_first_names source table ts) next ∙ ap (λ x. take i tokens ++ (x ∷ rest)) (sym told_as) in
    let front : take (i + 1) (set tokens i u) ≡ take i tokens ++ u ∷ [] = take_more_set tokens i u within in
    let behind : drop (i + 1) (set tokens i u) ≡ drop (i + 1) tokens = drop-set-lt (i + 1) tokens i u (omega arith) in
    rw (front, behind, append_assoc) one

pub names_all : (source : List ℕ) (table : List (List ℕ × ℕ)) (tokens : List Token) (i : ℕ) → length tokens ≡ i
    → take i tokens ++ with_first_names source table (drop i tokens) ≡ tokens
unfolding with_first_names
names_all source table tokens i all =
    at_drop_all (λ ts. take i tokens ++ with_first_names source table ts) tokens i (omega arith) ∙ append-nil (take i tokens) ∙ take_all i tokens (omega arith)
