-- Edges that do not look into the store, or add nothing to it.
use Rattle.std.specs.Prelude.{◌≡◌, ℕ, zero, suc, Bool, true, false, List, [], ◌∷◌, map, get_or, slice_index_or, refl}
use Rattle.std.specs.Prelude.{option_map}
use Rattle.std.proofs.Common.{sym, ap, subst, ◌∙◌}
use Rattle.std.proofs.lemmas.Bool.{true≢false}
use Rattle.interfere_set.specs.Stores.{Interferences, IsStore, IsStoreBelow, no_interference}
use Rattle.program_equality.specs.program_equations.laws.StoresFit.{bottom}
use Rattle.flow_graph.specs.tm_laid.Layouts.{LaidTree}
use Rattle.flow_graph.specs.declared.operations.Operation.{Operation}
use Rattle.flow_graph.specs.declared.operations.Operation.TheVariants as Op
use Rattle.mutex_configs.specs.declared.nodes.EdgeCopy.{EdgeCopy}
use Rattle.program_equality.specs.transfer_rows.StateForms.{State}
use Rattle.program_equality.specs.transfer_rows.Actions.{Around}
use Rattle.program_equality.specs.transfer_rows.Rows.{effect, arrived}
use Rattle.program_equality.specs.transfer_rows.Contributions.{added}
use Rattle.program_equality.specs.state_fits.edge_actions.Edges.{action_of}
use Rattle.program_equality.specs.task_equations.Bodies.{Body, copy_at, edge_of, no_copy}
use Rattle.program_equality.specs.task_equations.Equations.{after_along, added_along, around_along, tests_pointer, led}
use Rattle.thread_pass.specs.StoreUses.{reads_store, adds_to_store, reads_along, adds_along}

module _ (around : Around) (laid : LaidTree) (task : ℕ) (pointers answer : Bool) where
  unread : (op : Operation) → reads_store op ≡ false → (s : State) (store other : Interferences)
      → effect around (action_of laid task pointers answer op) s store ≡ effect around (action_of laid task pointers answer op) s other
  unfolding reads_store effect
  unread Op.Skip unset s store other = refl
  unread (Op.Const to value) unset s store other = refl
  unread (Op.Copy to from) unset s store other = refl
  unread (Op.Un to operator of from place) unset s store other = refl
  unread (Op.Bin to operator of left right place) unset s store other = refl
  unread (Op.BinPointers to equal left right) unset s store other = refl
  unread (Op.Convert to was of from) unset s store other = refl
  unread (Op.Base to object) unset s store other = refl
  unread (Op.Offset to from cells) unset s store other = refl
  unread (Op.Index to from count cells by place) unset s store other = refl
  unread (Op.Move to from cells minus by place) unset s store other = refl
  unread (Op.Deref to from target path place) unset s store other = refl
  unread (Op.Load to address scalar place) unset s store other = absurd (true≢false unset)
  unread (Op.LoadAny to address scalar place) unset s store other = refl
  unread (Op.Store address value scalar into place) unset s store other = refl
  unread (Op.Any to low high) unset s store other = refl
  unread (Op.Clear object) unset s store other = refl
  unread (Op.Usable pointer place) unset s store other = refl
  unread (Op.Assume test) unset s store other = refl
  unread (Op.Lock mutex place) unset s store other = absurd (true≢false unset)
  unread (Op.Unlock mutex place) unset s store other = refl
  unread Op.Yield unset s store other = refl
  unread (Op.Probe to mutex place) unset s store other = absurd (true≢false unset)

  unadded : (op : Operation) → adds_to_store op ≡ false → (s : State) → added around (action_of laid task pointers answer op) s ≡ no_interference
  unfolding adds_to_store added
  unadded Op.Skip unset s = refl
  unadded (Op.Const to value) unset s = refl
  unadded (Op.Copy to from) unset s = refl
  unadded (Op.Un to operator of from place) unset s = refl
  unadded (Op.Bin to operator of left right place) unset s = refl
  unadded (Op.BinPointers to equal left right) unset s = refl
  unadded (Op.Convert to was of from) unset s = refl
  unadded (Op.Base to object) unset s = refl
  unadded (Op.Offset to from cells) unset s = refl
  unadded (Op.Index to from count cells by place) unset s = refl
  unadded (Op.Move to from cells minus by place) unset s = refl
  unadded (Op.Deref to from target path place) unset s = refl
  unadded (Op.Load to address scalar place) unset s = refl
  unadded (Op.LoadAny to address scalar place) unset s = refl
  unadded (Op.Store address value scalar into place) unset s = absurd (true≢false unset)
  unadded (Op.Any to low high) unset s = refl
  unadded (Op.Clear object) unset s = refl
  unadded (Op.Usable pointer place) unset s = refl
  unadded (Op.Assume test) unset s = refl
  unadded (Op.Lock mutex place) unset s = refl
  unadded (Op.Unlock mutex place) unset s = absurd (true≢false unset)
  unadded Op.Yield unset s = refl
  unadded (Op.Probe to mutex place) unset s = by answer
    where
      by : (a : Bool) → added around (action_of laid task pointers a (Op.Probe to mutex place)) s ≡ no_interference
      by true = refl
      by false = refl

-- what a mark of a list says
pub mark_at : (f : EdgeCopy → Bool) (copies : List EdgeCopy) (k : ℕ) → slice_index_or (map f copies) k true ≡ false → f (get_or copies k no_copy) ≡ false
mark_at f [] k unset = absurd (true≢false unset)
mark_at f (c ∷ cs) zero unset = unset
mark_at f (c ∷ cs) (suc k) unset = mark_at f cs k unset

module _ (b : Body) (c : EdgeCopy) where
  abbrev op : Operation
  op = let e = edge_of b c in e.op

  -- an edge that does not look into the store brings the same over each
  pub unread_along : reads_along b.edges c ≡ false → (s : State) (store other : Interferences)
      → after_along b store c s ≡ after_along b other c s
  unread_along unset s store other =
      ap (λ x. led c.to (option_map (arrived (around_along b c)) x))
      (unread (around_along b c) b.laid b.task (tests_pointer b.pointers op) c.answer op unset s store other)

  pub unadded_along : adds_along b.edges c ≡ false → (s : State) → added_along b c s ≡ no_interference
  unadded_along unset s = unadded (around_along b c) b.laid b.task (tests_pointer b.pointers op) c.answer op unset s

-- what the marks of a body's edges say of its contributions
pub adds_nothing : (x b : Body) → b ≡ x → (adds : List Bool) → adds ≡ map (adds_along x.edges) x.copies → (k : ℕ)
    → slice_index_or adds k true ≡ false → (s : State) → added_along b (copy_at b k) s ≡ no_interference
adds_nothing x b b-is adds is k unset s =
    subst (λ (y : Body). added_along y (copy_at y k) s ≡ no_interference) (sym b-is)
    (unadded_along x (copy_at x k)
    (mark_at (adds_along x.edges) x.copies k (sym (ap (λ ms. slice_index_or ms k true) is) ∙ unset)) s)

-- a store without entries lies below each
pub nothing_below : (store : Interferences) → IsStore store → IsStoreBelow no_interference store
nothing_below store is = let b = bottom [] in b.below store is
