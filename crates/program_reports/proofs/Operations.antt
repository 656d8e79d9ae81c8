-- Operations that reach cells.
use Rattle.std.proofs.Common.{◌≡◌, ℕ, refl, Bool, true, Some, arith}
use Rattle.std.specs.Prelude.{Contains}
use Rattle.tm_terms.specs.declared.places.Place.{Place}
use Rattle.flow_graph.specs.tm_laid.Layouts.{LaidTree}
use Rattle.flow_graph.specs.declared.operations.Operation.{Operation}
use Rattle.flow_graph.specs.declared.operations.Operation.TheVariants as Op
use Rattle.post_recheck.specs.transfer_rows.StateForms.{State}
use Rattle.post_recheck.specs.transfer_rows.Reports.{targets_of}
use Rattle.post_recheck.specs.edge_actions.Edges.{action_of}
use Rattle.program_reports.specs.Reports.{place_of, IsWriting}
use Rattle.program_reports.specs.reading.Found.{is_writing}

-- one that reaches a cell stands somewhere
pub stands : (laid : LaidTree) (task : ℕ) (pointers answer : Bool) (op : Operation) (s : State) (cell : ℕ)
    → Contains (targets_of (action_of laid task pointers answer op) s) cell
    → (place : Place) × (place_of op ≡ Some place)
unfolding place_of targets_of
stands laid task pointers answer Op.Skip s cell (k, lt, e) = absurd (omega (arith, lt))
stands laid task pointers answer (Op.Const to value) s cell (k, lt, e) = absurd (omega (arith, lt))
stands laid task pointers answer (Op.Copy to from) s cell (k, lt, e) = absurd (omega (arith, lt))
stands laid task pointers answer (Op.Un to operator of from place) s cell h = (place, refl)
stands laid task pointers answer (Op.Bin to operator of left right place) s cell h = (place, refl)
stands laid task pointers answer (Op.BinPointers to equal left right) s cell (k, lt, e) = absurd (omega (arith, lt))
stands laid task pointers answer (Op.Convert to was of from) s cell (k, lt, e) = absurd (omega (arith, lt))
stands laid task pointers answer (Op.Base to object) s cell (k, lt, e) = absurd (omega (arith, lt))
stands laid task pointers answer (Op.Offset to from cells) s cell (k, lt, e) = absurd (omega (arith, lt))
stands laid task pointers answer (Op.Index to from count cells by place) s cell h = (place, refl)
stands laid task pointers answer (Op.Move to from cells minus by place) s cell h = (place, refl)
stands laid task pointers answer (Op.Deref to from target path place) s cell h = (place, refl)
stands laid task pointers answer (Op.Load to address scalar place) s cell h = (place, refl)
stands laid task pointers answer (Op.LoadAny to address scalar place) s cell h = (place, refl)
stands laid task pointers answer (Op.Store address value scalar into place) s cell h = (place, refl)
stands laid task pointers answer (Op.Any to low high) s cell (k, lt, e) = absurd (omega (arith, lt))
stands laid task pointers answer (Op.Clear object) s cell (k, lt, e) = absurd (omega (arith, lt))
stands laid task pointers answer (Op.Usable pointer place) s cell h = (place, refl)
stands laid task pointers answer (Op.Assume test) s cell (k, lt, e) = absurd (omega (arith, lt))
stands laid task pointers answer (Op.Lock mutex place) s cell h = (place, refl)
stands laid task pointers answer (Op.Unlock mutex place) s cell h = (place, refl)
stands laid task pointers answer Op.Yield s cell (k, lt, e) = absurd (omega (arith, lt))
stands laid task pointers answer (Op.Probe to mutex place) s cell h = (place, refl)

pub writes : (op : Operation) → is_writing op ≡ true → IsWriting op
unfolding is_writing
writes (Op.Store address value scalar into place) e = tt
writes _ e = absurd cc

pub is_write : (op : Operation) → IsWriting op → is_writing op ≡ true
unfolding is_writing
is_write (Op.Store address value scalar into place) h = refl
is_write _ h = absurd h
