use Rattle.std.proofs.Common.{◌≡◌, ◌∙◌, ◌≤◌, ◌<◌, ◌∷◌, [], ◌++◌, List, length, get_or, map, ℕ, subst, arith, ap}
use Rattle.tm_laid.specs.Layouts.{first_path, laid_tree}
use Rattle.path_origins.specs.declared.origins.NotedCall.{NotedCall}
use Rattle.edge_origins.specs.declared.starts.Start.{Start}
use Rattle.edge_origins.specs.reading.Starts.{AreFollowed, start_by, first_start}
use Rattle.edge_origins.proofs.Following.{followed_none, followed_more, followed_all}
use Rattle.edge_origins.proofs.starts.starts_of.Goals as goal

pub loop-index-init : goal.loop-index-init
loop-index-init c =
    let notes = c.args.notes.now in
    let first = c.in-Some.first.now in
    let look = c.in-Some.ensures.lookup in
    let is : first ≡ first_path (laid_tree c.args.laid.now) c.args.body =
    look.3.1 0 ∙ ap (λ (l : List ℕ). get_or l c.args.body 0) c.deref.ensures.value in
    let alone : c.push.new.self.items ≡ first_start first ∷ [] =
    c.in_ok-push.ensures.items ∙ ap (λ (l : List Start). l ++ first_start first ∷ []) c.new-starts.ensures.items in
    let At : ℕ → Type 0 = λ p. AreFollowed notes p [] c.push.new.self.items in
    subst At is (followed_none notes first c.push.new.self.items alone)

pub loop-index-preserved : goal.loop-index-preserved
loop-index-preserved c =
    let notes = c.args.notes.now in
    let start = c.index-start.result.now in
    let starts = c.loop-index.starts.items in
    let found = c.in-Some-get.found.now in
    let look = c.in-Some-get.ensures.lookup in
    let lt : c.loop-index.index < length starts = omega arith in
    let pushed : c.put_called.new.to.items ≡ starts ++ map (start_by start.at) found.calls.items =
    c.in_ok-put_called.ensures
    ∙ ap (λ (l : List NotedCall). starts ++ map (start_by start.at) l) c.deref-in-loop-index.ensures.value in
    followed_more notes (first_path (laid_tree c.args.laid.now) c.args.body) starts c.loop-index.index start found lt
    c.index-start.ensures look.3.0 look.1 c.loop-index.invariant c.put_called.new.to.items pushed

pub returns-then-len-index : goal.returns-then-len-index
returns-then-len-index c =
    let le : length c.loop-index.starts.items ≤ c.loop-index.index = omega arith in
    followed_all c.args.notes.now (first_path (laid_tree c.args.laid.now) c.args.body) c.loop-index.starts.items
    c.loop-index.index le c.loop-index.invariant

pub returns : goal.returns
returns c =
    let le : length c.loop-index.starts.items ≤ c.loop-index.index = omega arith in
    followed_all c.args.notes.now (first_path (laid_tree c.args.laid.now) c.args.body) c.loop-index.starts.items
    c.loop-index.index le c.loop-index.invariant
