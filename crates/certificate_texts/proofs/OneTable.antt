-- Tables of states have one list of lines, where it is known how many nodes they have.
use Rattle.std.proofs.Common.{◌≡◌, refl, sym, ap, ◌∙◌, ℕ, ◌+◌, ◌<◌, List, [], ◌∷◌, ◌++◌, length, pos}
use Rattle.std.proofs.Common.{Option, Some, None, lit<, lit≤, append_assoc, arith}
use Rattle.std.specs.Prelude.{codes}
use Rattle.std.specs.List.{flat_map, enumerate_from}
use Rattle.transfer_rows.specs.StateForms.{State}
use Rattle.certificate_words.specs.Words.{number, Line}
use Rattle.certificate_texts.specs.StateLines.{numbered, state_lines}
use Rattle.certificate_texts.specs.TableLines.{node_lines, table_lines}
use Rattle.certificate_texts.proofs.Blocks.{IsBehind, behind_lower}
use Rattle.certificate_texts.proofs.OneValue.{natural, split}
use Rattle.certificate_texts.proofs.OneState.{rank, IsPlainState, one_state}

-- the lines of the nodes from this number on
abbrev nodes_from : ℕ → List (Option State) → List Line
nodes_from k table = flat_map node_lines (enumerate_from k table)

abbrev pub tables_from : ℕ → List (List (Option State)) → List Line
tables_from k tables = flat_map table_lines (enumerate_from k tables)

head_of : (l m : Line) (ls ms : List Line) → l ∷ ls ≡ m ∷ ms → l ≡ m
head_of l m ls ms e = cc

tail_of : (l m : Line) (ls ms : List Line) → l ∷ ls ≡ m ∷ ms → ls ≡ ms
tail_of l m ls ms e = cc

same_number : (letters : List ℕ) (k j : ℕ) → numbered letters k ≡ numbered letters j → k ≡ j
same_number letters k j e =
    natural k j (split (number (pos k)) (number (pos j)) [] [] (ap (λ (l : Line). l.rest) e)).0

-- ## Nodes

-- what stands behind nodes that follow
behind_nodes : (k : ℕ) (table : List (Option State)) (rest : List Line) → IsBehind rank 6 rest
    → IsBehind rank 5 (nodes_from k table ++ rest)
behind_nodes k [] rest behind = behind_lower rank 5 6 rest (lit≤ tt) behind
behind_nodes k (None ∷ table) rest behind = behind_nodes (k + 1) table rest behind
behind_nodes k (Some s ∷ table) rest behind = lit< tt

-- no line of a node stands among those of later nodes
no_node : (k j : ℕ) (table : List (Option State)) (rest more : List Line) → k < j → IsBehind rank 6 rest
    → nodes_from j table ++ rest ≡ numbered (codes "node") k ∷ more → ⊥
no_node k j [] [] more less behind e = cc
no_node k j [] (l ∷ rest) more less behind e =
    let same : rank l ≡ 6 = ap rank (head_of l (numbered (codes "node") k) rest more e) in
    omega (arith, behind, same)
no_node k j (None ∷ table) rest more less behind e = no_node k (j + 1) table rest more (omega (arith, less)) behind e
no_node k j (Some s ∷ table) rest more less behind e =
    let same : j ≡ k = same_number (codes "node") j k (head_of _ _ _ more e) in omega (arith, less, same)

-- tables of as many nodes each
abbrev pub HaveSameNodes : List (List (Option State)) → List (List (Option State)) → Type 0
HaveSameNodes [] [] = Unit {0}
HaveSameNodes [] (u ∷ us) = ⊥
HaveSameNodes (t ∷ ts) [] = ⊥
HaveSameNodes (t ∷ ts) (u ∷ us) = (length t ≡ length u) × HaveSameNodes ts us

module _ (sizes : ℕ → ℕ) where
  -- values of one kind in each state
  abbrev pub IsPlainTable : List (Option State) → Type 0
  IsPlainTable [] = Unit {0}
  IsPlainTable (None ∷ table) = IsPlainTable table
  IsPlainTable (Some s ∷ table) = IsPlainState sizes s × IsPlainTable table

  one_table : (k : ℕ) (t u : List (Option State)) (rest more : List Line) → length t ≡ length u → IsPlainTable t
      → IsPlainTable u → IsBehind rank 6 rest → IsBehind rank 6 more
      → nodes_from k t ++ rest ≡ nodes_from k u ++ more → (t ≡ u) × (rest ≡ more)
  one_table k [] [] rest more count t-is u-is behind after e = (refl, e)
  one_table k [] (x ∷ u) rest more count t-is u-is behind after e = absurd (omega (arith, count))
  one_table k (x ∷ t) [] rest more count t-is u-is behind after e = absurd (omega (arith, count))
  one_table k (None ∷ t) (None ∷ u) rest more count t-is u-is behind after e =
      let r = one_table (k + 1) t u rest more (omega (arith, count)) t-is u-is behind after e in
      (ap (λ z. None ∷ z) r.0, r.1)
  one_table k (None ∷ t) (Some s ∷ u) rest more count t-is u-is behind after e =
      absurd (no_node k (k + 1) t rest _ (omega arith) behind e)
  one_table k (Some s ∷ t) (None ∷ u) rest more count t-is u-is behind after e =
      absurd (no_node k (k + 1) u more _ (omega arith) after (sym e))
  one_table k (Some s ∷ t) (Some w ∷ u) rest more count t-is u-is behind after e =
      let n = nodes_from (k + 1) t in
      let m = nodes_from (k + 1) u in
      let here : state_lines s ++ (n ++ rest) ≡ state_lines w ++ (m ++ more) =
      sym (append_assoc (state_lines s) n rest)
      ∙ tail_of _ _ ((state_lines s ++ n) ++ rest) ((state_lines w ++ m) ++ more) e
      ∙ append_assoc (state_lines w) m more in
      let a = one_state sizes s w (n ++ rest) (m ++ more) t-is.0 u-is.0 (behind_nodes (k + 1) t rest behind)
      (behind_nodes (k + 1) u more after) here in
      let r = one_table (k + 1) t u rest more (omega (arith, count)) t-is.1 u-is.1 behind after a.1 in
      ((λ i. Some (a.0 i) ∷ r.0 i), r.1)

  -- ## Tables

  behind_tables : (k : ℕ) (tables : List (List (Option State))) (rest : List Line) → IsBehind rank 7 rest
      → IsBehind rank 6 (tables_from k tables ++ rest)
  behind_tables k [] rest behind = behind_lower rank 6 7 rest (lit≤ tt) behind
  behind_tables k (t ∷ tables) rest behind = lit< tt

  abbrev pub ArePlainTables : List (List (Option State)) → Type 0
  ArePlainTables [] = Unit {0}
  ArePlainTables (t ∷ tables) = IsPlainTable t × ArePlainTables tables

  pub one_tables : (k : ℕ) (ts us : List (List (Option State))) (rest more : List Line) → HaveSameNodes ts us
      → ArePlainTables ts → ArePlainTables us → IsBehind rank 7 rest → IsBehind rank 7 more
      → tables_from k ts ++ rest ≡ tables_from k us ++ more → (ts ≡ us) × (rest ≡ more)
  one_tables k [] [] rest more same t-is u-is behind after e = (refl, e)
  one_tables k [] (u ∷ us) rest more same t-is u-is behind after e = absurd same
  one_tables k (t ∷ ts) [] rest more same t-is u-is behind after e = absurd same
  one_tables k (t ∷ ts) (u ∷ us) rest more same t-is u-is behind after e =
      let n = tables_from (k + 1) ts in
      let m = tables_from (k + 1) us in
      let here : nodes_from 0 t ++ (n ++ rest) ≡ nodes_from 0 u ++ (m ++ more) =
      sym (append_assoc (nodes_from 0 t) n rest)
      ∙ tail_of _ _ ((nodes_from 0 t ++ n) ++ rest) ((nodes_from 0 u ++ m) ++ more) e
      ∙ append_assoc (nodes_from 0 u) m more in
      let a = one_table 0 t u (n ++ rest) (m ++ more) same.0 t-is.0 u-is.0 (behind_tables (k + 1) ts rest behind)
      (behind_tables (k + 1) us more after) here in
      let r = one_tables (k + 1) ts us rest more same.1 t-is.1 u-is.1 behind after a.1 in
      ((λ i. a.0 i ∷ r.0 i), r.1)
