-- How the work of a search falls.
use Rattle.std.proofs.Common.{◌≡◌, ℕ, ◌<◌, ◌≤◌, ◌+◌, ◌-◌, zero, suc, List, [], ◌∷◌, length, get_or, set, refl, sym, ap, ◌∙◌, arith}
use Rattle.call_graph.specs.declared.searches.Mark.{Mark}
use Rattle.call_graph.specs.declared.searches.Mark.TheVariants as Marks
use Rattle.call_graph.specs.Searches.{pending, weight, mark_of}

weight_done : (m : Mark) (n : ℕ) → n ≤ weight m n
weight_done Marks.New n = omega arith
weight_done Marks.Open n = omega arith
weight_done Marks.Done n = omega arith

pub pending-open : (ms : List Mark) (ts : List ℕ) (graph : List (List ℕ)) (i : ℕ) → i < length graph → length ms ≡ length graph → length ts ≡ length graph → mark_of ms i ≡ Marks.New → pending (set ms i Marks.Open) ts graph + 2 ≡ pending ms ts graph
pending-open [] ts (c ∷ graph) i l e d n = absurd (omega arith)
pending-open (m ∷ ms) [] (c ∷ graph) i l e d n = absurd (omega arith)
pending-open ms ts [] i l e d n = absurd (omega arith)
pending-open (m ∷ ms) (t ∷ ts) (c ∷ graph) zero l e d n = rw n (omega arith)
pending-open (m ∷ ms) (t ∷ ts) (c ∷ graph) (suc i) l e d n = omega (arith, pending-open ms ts graph i (omega arith) (omega arith) (omega arith) n)

pub pending-done : (ms : List Mark) (ts : List ℕ) (graph : List (List ℕ)) (i : ℕ) → pending (set ms i Marks.Done) ts graph ≤ pending ms ts graph
pending-done [] ts graph i = omega arith
pending-done (m ∷ ms) [] graph zero = omega arith
pending-done (m ∷ ms) [] graph (suc i) = omega arith
pending-done (m ∷ ms) (t ∷ ts) [] zero = omega arith
pending-done (m ∷ ms) (t ∷ ts) [] (suc i) = omega arith
pending-done (m ∷ ms) (t ∷ ts) (c ∷ graph) zero = omega (arith, weight_done m (length c - t))
pending-done (m ∷ ms) (t ∷ ts) (c ∷ graph) (suc i) = omega (arith, pending-done ms ts graph i)

weight_less : (m : Mark) (n k : ℕ) → n ≡ k + 1 → weight m k + 1 ≡ weight m n
weight_less Marks.New n k e = omega arith
weight_less Marks.Open n k e = omega arith
weight_less Marks.Done n k e = omega arith

pub pending-taken : (ms : List Mark) (ts : List ℕ) (graph : List (List ℕ)) (i : ℕ) → i < length graph → length ms ≡ length graph → length ts ≡ length graph → get_or ts i 0 < length (get_or graph i []) → pending ms (set ts i (get_or ts i 0 + 1)) graph + 1 ≡ pending ms ts graph
pending-taken [] ts (c ∷ graph) i l e d n = absurd (omega arith)
pending-taken (m ∷ ms) [] (c ∷ graph) i l e d n = absurd (omega arith)
pending-taken ms ts [] i l e d n = absurd (omega arith)
pending-taken (m ∷ ms) (t ∷ ts) (c ∷ graph) zero l e d n = omega (arith, weight_less m (length c - t) (length c - (t + 1)) (omega arith))
pending-taken (m ∷ ms) (t ∷ ts) (c ∷ graph) (suc i) l e d n = omega (arith, pending-taken ms ts graph i (omega arith) (omega arith) (omega arith) n)
