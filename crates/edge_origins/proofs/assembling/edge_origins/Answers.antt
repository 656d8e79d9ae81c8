use Rattle.std.proofs.Common.{Bool, List, subst}
use Rattle.std.proofs.Math.Path.{fun_ext}
use Rattle.std.proofs.lemmas.Result.{IfOk-weaker}
use Rattle.tm_terms.specs.declared.places.Place.{Place}
use Rattle.tm_laid.specs.Layouts.{laid_tree}
use Rattle.path_origins.specs.declared.origins.Notes.{Notes}
use Rattle.path_origins.specs.Opens.{is_among}
use Rattle.path_origins.specs.Shown.{sizes_in}
use Rattle.edge_origins.specs.Bodies.{AreBodyOrigins}
use Rattle.edge_origins.specs.reading.Gathered.{AreAssembled}
use Rattle.edge_origins.proofs.Assembled.{all_noted}
use Rattle.edge_origins.proofs.assembling.edge_origins.Goals as goal

pub returns : goal.returns
returns c =
    let laid = laid_tree c.args.laid.now in
    let graphs = c.args.graphs.now in
    IfOk-weaker c.all_bodies.result _ _
    (λ v h.
    let Noted : List Notes → Type 0 = λ l. AreAssembled laid l 0 graphs v.items in
    let By : (Place → Bool) → Type 0 = λ is_open. AreBodyOrigins laid is_open graphs v.items in
    subst By (fun_ext c.in_ok-opens.ensures)
    (all_noted laid (is_among c.in_ok-opens.opens) (sizes_in c.deref.result.now) c.in_ok-notes.notes.items
    c.in_ok-notes.ensures graphs v.items (subst Noted c.deref-2.ensures.value h))) c.all_bodies.ensures
