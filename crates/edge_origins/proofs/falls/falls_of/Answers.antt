use Rattle.std.proofs.Common.{◌≡◌, ◌++◌, [], List, Bool, false, cond, get_or, map, sym, ap, ◌∙◌}
use Rattle.std.proofs.lemmas.List.{append-nil}
use Rattle.tm_terms.specs.declared.places.Place.{Place}
use Rattle.tm_laid.specs.Layouts.{laid_tree}
use Rattle.body_builder.specs.concrete_steps.NextAction.{function_at}
use Rattle.path_origins.specs.Noted.{Noted}
use Rattle.edge_origins.specs.declared.origins.Fall.{Fall}
use Rattle.edge_origins.specs.declared.starts.Start.{Start}
use Rattle.edge_origins.specs.reading.PathNotes.{noted_in}
use Rattle.edge_origins.specs.reading.Gathered.{fall_by, falls_on}
use Rattle.edge_origins.proofs.Lists.{flat_next}
use Rattle.edge_origins.proofs.Walked.{noted_read}
use Rattle.edge_origins.proofs.falls.falls_of.Goals as goal
use Rattle.edge_origins.proofs.falls.falls_of.Goals.{then-start+in_ok-place_on+in_ok-put_falls, else-start}

pub loop-start-preserved : goal.loop-start-preserved
loop-start-preserved c =
    let none : Start = record { path = 0; at = 0; used = false } in
    let laid = laid_tree c.args.laid.now in
    let notes = c.args.notes.now in
    let start : Start = get_or c.args.starts.now c.loop-start.start-index none in
    let old = c.loop-start.to.items in
    let place = (function_at laid start.path).place in
    let ends : List Fall = map (fall_by place start.at) (noted_in notes start.path).falls in
    let look = c.in-Some.ensures.lookup in
    let read = noted_read notes start.path c.in-Some.found.now look.3.0 look.1 in
    let step : c.if-start.to.items ≡ old ++ falls_on laid notes start =
    elim c.if-start.branch [
      | then-start+in_ok-place_on+in_ok-put_falls w ↦
          ap (λ v. v.items) w.to-is ∙ w.in_ok-put_falls.ensures
          ∙ ap (λ (p : Place). old ++ map (fall_by p start.at) w.deref.result.now) w.in_ok-place_on.ensures
          ∙ ap (λ l. old ++ map (fall_by place start.at) l)
          (w.deref.ensures.value ∙ sym (ap (λ (x : Noted). x.falls) read))
          ∙ ap (λ (b : Bool). old ++ cond b ends []) (sym w.if-start.true)
      | else-start w ↦
          ap (λ v. v.items) w.to-is ∙ sym (append-nil old)
          ∙ ap (λ (b : Bool). old ++ cond b ends []) (sym w.if-start.false)
    ] in
    flat_next (falls_on laid notes) c.args.starts.now c.loop-start.start-index none old c.if-start.to.items
    c.loop-start-test.true c.loop-start.invariant step
