-- What typing leaves behind of a typed file.
use Rattle.std.proofs.Common.{◌≡◌, refl, sym, subst, inl, inr, ℕ, ◌<◌, List, length}
use Rattle.std.specs.Prelude.{All, Contains, Option, Some, None, Result, Ok, Err}
use Rattle.call_graph.specs.tm_terms.declared.places.Place.{Place}
use Rattle.call_graph.specs.tm_terms.declared.tokens.Name.{Name}
use Rattle.call_graph.specs.tm_terms.declared.refusals.Refusal.{Refusal}
use Rattle.call_graph.specs.tm_trees.FileTrees.{ItemTree}
use Rattle.call_graph.specs.tm_typed.CallGraph.{AreCalleesFirst, calls_in}
use Rattle.call_graph.specs.tm_typed.Files.{FileState, TypedFileTree, first_file_state, items_in, file_of}
use Rattle.call_graph.specs.tm_typed.Files.{undefined_use}
use Rattle.call_graph.specs.tm_typed.Files.{IsAcyclic, Closes, Ends, IsTyped}
use Rattle.call_graph.specs.tm_typed.WellTyped.{OnAnswer}
use Rattle.cell_layout.specs.tm_laid.Layable.{IsLayable}
use Rattle.call_graph.specs.Orders.{IsWholeOrder}
use Rattle.typed_file_laws.specs.LawfulFiles.{IsLawfulFile}
use Rattle.typed_file_laws.proofs.ItemSteps.{file_lawful}
use Rattle.typed_file_laws.proofs.Layable.{are_layable}
use Rattle.lowering_laws.proofs.Orders.{whole_order}
use Rattle.lowering_laws.proofs.Placed.{IsPlacedFunction, ArePlacedBodies, file_placed}

-- the file is that of a lawful state, in whose bodies jumps are placed, and in which no function reaches itself
pub record IsFounded (main : Option Name) (file : TypedFileTree) : Type 0 where
  pub found : FileState
  pub lawful : IsLawfulFile found
  pub placed : ArePlacedBodies found
  pub acyclic : IsAcyclic found
  pub is : file ≡ file_of found main

abbrev AreLawful : FileState → Type 0
AreLawful f = IsLawfulFile f × ArePlacedBodies f

both_of : (r : Result FileState Refusal) → OnAnswer IsLawfulFile r → OnAnswer ArePlacedBodies r
    → OnAnswer AreLawful r
both_of (Err e) h k = tt
both_of (Ok f) h k = (h, k)

refused_is : (main : Option Name) (answer : Result TypedFileTree Refusal) (r : Refusal) → answer ≡ Err r
    → OnAnswer (IsFounded main) answer
refused_is main answer r e =
    let P : Result TypedFileTree Refusal → Type 0 = OnAnswer (IsFounded main) in subst P (sym e) tt

closes_by : (f : FileState) (main : Option Name) (answer : Result TypedFileTree Refusal) (o : Option Place)
    → AreLawful f → Closes f main o answer → OnAnswer (IsFounded main) answer
closes_by f main answer (Some p) h c = refused_is main answer _ c
closes_by f main answer None h (inl r) = refused_is main answer _ r.answered
closes_by f main answer None h (inr d) =
    let P : Result TypedFileTree Refusal → Type 0 = OnAnswer (IsFounded main) in
    subst P (sym d.answered) (record { found = f; lawful = h.0; placed = h.1; acyclic = d.acyclic; is = refl })

ends_by : (main : Option Name) (answer : Result TypedFileTree Refusal) (r : Result FileState Refusal)
    → OnAnswer AreLawful r → Ends main r answer → OnAnswer (IsFounded main) answer
ends_by main answer (Err r) h e = refused_is main answer r e
ends_by main answer (Ok f) h e = closes_by f main answer (undefined_use f) h e

founded : (main : Option Name) (items : List ItemTree) (file : TypedFileTree) → IsTyped main items (Ok file)
    → IsFounded main file
founded main items file e =
    ends_by main (Ok file) (items_in first_file_state items)
    (both_of (items_in first_file_state items) (file_lawful items) (file_placed items)) e

-- ## What follows

abbrev Arranged : TypedFileTree → Type 0
Arranged file = (order : List ℕ) × AreCalleesFirst (calls_in file.calls) order
    × All (λ f. f < length file.functions) order × ((f : ℕ) → f < length file.functions → Contains order f)

arranged : (f : FileState) (main : Option Name) → IsLawfulFile f → IsAcyclic f → Arranged (file_of f main)
arranged f main h acyclic =
    let inside : All (All (λ g. g < length f.calls)) f.calls =
    subst (λ n. All (All (λ g. g < n)) f.calls) (sym h.graph) h.callees in
    let o = whole_order f.calls acyclic inside in
    let is : IsWholeOrder f.calls o.0 = o.1 in (
      o.0,
      is.callees_first,
      subst (λ n. All (λ g. g < n) o.0) h.graph is.within,
      λ g l. is.whole g (subst (λ n. g < n) (sym h.graph) l),
    )

-- the functions of a typed file have an order with callees first, so that it can be laid out
pub file_layable : (main : Option Name) (items : List ItemTree) (file : TypedFileTree) → IsTyped main items (Ok file)
    → (order : List ℕ) × IsLayable file order
file_layable main items file e =
    let c : IsFounded main file = founded main items file e in
    let a : Arranged file = subst Arranged (sym c.is) (arranged c.found main c.lawful c.acyclic) in
    (a.0, are_layable main items file a.0 e a.1 a.2 a.3)

pub bodies_placed : (main : Option Name) (items : List ItemTree) (file : TypedFileTree) → IsTyped main items (Ok file)
    → All IsPlacedFunction file.functions
bodies_placed main items file e =
    let c : IsFounded main file = founded main items file e in
    subst (λ (x : TypedFileTree). All IsPlacedFunction x.functions) (sym c.is) c.placed.bodies
