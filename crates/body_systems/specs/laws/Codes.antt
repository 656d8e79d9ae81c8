-- How the equations of a body are told apart: by the tuples of their parts.
use Rattle.std.specs.Prelude.{ℕ, ℤ, List, Option, refl}
use Rattle.std.specs.Coded.{Coded, code_by, coded_ℕ, coded_ℤ, coded_list, coded_option, coded×}
use Rattle.tm_laid.specs.declared.layouts.Laid.{Laid}
use Rattle.flow_graph.specs.declared.graphs.Graph.{Graph}
use Rattle.mutex_configs.specs.declared.nodes.ConfiguredGraph.{ConfiguredGraph}
use Rattle.pointer_dom.specs.laws.Codes.{values_code}
use Rattle.cell_env.specs.laws.Codes.{state_code}
use Rattle.interfere_set.specs.Stores.{Interferences}
use Rattle.interfere_set.specs.laws.StoreLaws.{store_code}
use Rattle.transfer_mem.specs.edge_actions.transfer_rows.StateForms.{State}
use Rattle.body_systems.specs.Facts.{Facts}
use Rattle.body_systems.specs.Systems.{SystemOf}

module _ (laid : Coded Laid) (graph : Coded Graph) (configured : Coded ConfiguredGraph) (facts : Coded Facts) where
  abbrev Body : Type 0
  Body = Laid × (Graph × (ConfiguredGraph × Facts))

  abbrev Around : Type 0
  Around = ℕ × (List ℕ × (List ℤ × (Option State × Interferences)))

  abbrev body_code : Coded Body
  body_code = coded× laid (coded× graph (coded× configured facts))

  abbrev around_code : Coded Around
  around_code = coded× coded_ℕ (coded× (coded_list coded_ℕ) (coded× (coded_list coded_ℤ)
      (coded× (coded_option (state_code values_code)) store_code)))

  abbrev pub system_code : Coded SystemOf
  system_code =
      code_by (Body × Around) (coded× body_code around_code)
      (λ v. ((v.laid, (v.graph, (v.configured, v.facts))), (v.task, (v.priorities, (v.marks, (v.entry, v.store))))))
      (λ p. record {
        laid = p.0.0;
        task = p.1.0;
        priorities = p.1.1.0;
        marks = p.1.1.1.0;
        graph = p.0.1.0;
        configured = p.0.1.1.0;
        facts = p.0.1.1.1;
        entry = p.1.1.1.1.0;
        store = p.1.1.1.1.1;
      })
      (λ _. refl)
