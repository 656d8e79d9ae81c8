use Rattle.std.proofs.Common.{◌∙◌, ap, sym, ℕ, List, [], ◌∷◌, ◌++◌, set}
use Rattle.std.specs.Prelude.{Vec}
use Rattle.std.specs.declared.alloc.Global.{Global}
use Rattle.std.proofs.lemmas.List.{map-set, get_or-map}
use Rattle.graph_facts.specs.Lists.{numbers}
use Rattle.graph_facts.proofs.lists.push_place.Goals as goal

pub returns : goal.returns
returns c =
    let lists = c.args.lists.now.items in
    let v : Vec ℕ Global = c.index_mut-list.result.now in
    map-set (λ (w : Vec ℕ Global). w.items) lists c.args.at c.push.new.self
    ∙ ap (λ (xs : List ℕ). set (numbers lists) c.args.at xs)
    (c.in_ok-push.ensures.items ∙ ap (λ (xs : List ℕ). xs ++ c.args.place ∷ [])
    (ap (λ (w : Vec ℕ Global). w.items) c.index_mut-list.ensures.value ∙ sym (get_or-map (λ (w : Vec ℕ Global). w.items) lists c.args.at v [] c.requires)))
