-- Tables with their numbers.
use Rattle.std.proofs.Common.{◌≡◌, sym, ap, ◌∙◌, ℕ, ◌<◌, List, length, get_or, Option, arith}
use Rattle.std.specs.declared.vec.Vec.{Vec}
use Rattle.std.specs.List.{enumerate_from}
use Rattle.std.proofs.lemmas.List.{length-map}
use Rattle.std.proofs.Math.ListN.{get_or-map}
use Rattle.std.proofs.lemmas.List.FromFn.{length-enumerate_from}
use Rattle.transfer_rows.specs.StateForms.{State}
use Rattle.post_recheck.specs.Pairs.{lists_of}
use Rattle.certificate_texts.proofs.Adding.{numbered_element}

module _ {A : Type 0} where
  pub numbered_table : (tables : List (Vec (Option State) A)) (i : ℕ) (v : Vec (Option State) A) → i < length tables
      → v ≡ get_or tables i v → (i < length (enumerate_from 0 (lists_of tables)))
      × ((i, v.items) ≡ get_or (enumerate_from 0 (lists_of tables)) i (i, v.items))
  numbered_table tables i v less is =
      let size = length-map tables (λ (t : Vec (Option State) A). t.items) in
      numbered_element (lists_of tables) i v.items (omega (arith, size, less))
      (ap (λ (t : Vec (Option State) A). t.items) is ∙ sym (get_or-map (λ (t : Vec (Option State) A). t.items) tables i v))

  pub tables_count : (tables : List (Vec (Option State) A)) → length (enumerate_from 0 (lists_of tables)) ≡ length tables
  tables_count tables =
      length-enumerate_from 0 (lists_of tables) ∙ length-map tables (λ (t : Vec (Option State) A). t.items)
