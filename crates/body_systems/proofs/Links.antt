-- What the list of links steps by.
use Rattle.std.proofs.Common.{◌≡◌, sym, ap, ◌∙◌, ℕ, ◌+◌, ◌<◌, List, [], ◌∷◌, ◌++◌, length, get_or, take}
use Rattle.std.specs.Prelude.{map}
use Rattle.std.proofs.lemmas.List.{take_more, map_push}
use Rattle.mutex_configs.specs.declared.nodes.EdgeCopy.{EdgeCopy}
use Rattle.table_covers.specs.declared.links.Link.{Link}
use Rattle.task_equations.specs.Equations.{link_of}

pub one_linked : (copies : List EdgeCopy) (k : ℕ) (c : EdgeCopy) (links more : List Link) → k < length copies
    → get_or copies k c ≡ c → more ≡ links ++ link_of c ∷ [] → links ≡ map link_of (take k copies)
    → more ≡ map link_of (take (k + 1) copies)
one_linked copies k c links more lt is pushed linked =
    pushed ∙ (ap (λ ls. ls ++ link_of c ∷ []) linked ∙ (sym (map_push link_of (take k copies) c)
    ∙ ap (map link_of) (sym (take_more copies k c lt ∙ ap (λ (x : EdgeCopy). take k copies ++ x ∷ []) is))))
