-- Partners are so both ways.
use Rattle.std.proofs.Common.{ℕ, ◌==◌, ap, sym, ◌∙◌, inl, inr}
use Rattle.std.proofs.lemmas.Nat.{and_comm}
use Rattle.post_recheck.specs.transfer_rows.StateForms.{State}
use Rattle.post_recheck.specs.table_covers.Solutions.{NodeTable}
use Rattle.post_recheck.specs.program_equations.Programs.{ProgramBodies}
use Rattle.access_races.proofs.Joins.{either}
use Rattle.access_groups.specs.program_reports.Reports.{AreRacing, left_in}
use Rattle.access_groups.specs.declared.object_access.ObjectAccess.{ObjectAccess}
use Rattle.access_partners.specs.Partners.{ArePartners}

module _ (p : ProgramBodies) (tables : ℕ → NodeTable State) where
  racing_back : (t k u l : ℕ) → AreRacing p tables t k u l → AreRacing p tables u l t k
  racing_back t k u l h = record {
    tasks = λ same. h.tasks (sym same);
    cell = h.cell;
    one = h.other;
    other = h.one;
    writes = either (λ w. inr w) (λ w. inl w) h.writes;
    apart = ap (λ n. n == 0) (and_comm (left_in p u l).held (left_in p t k).held) ∙ h.apart;
    forth = h.back;
    back = h.forth;
  }

  pub partners_back : (object : ℕ) (e f : ObjectAccess) → ArePartners p tables object e f → ArePartners p tables object f e
  unfolding racing_back
  partners_back object e f h = record {
    cell = h.cell;
    race = record {
      copy = h.race.other_copy;
      other_copy = h.race.copy;
      race = record {
        races = racing_back e.task h.race.copy f.task h.race.other_copy h.race.race.races;
        cell = h.race.race.cell;
        one = h.race.race.other;
        other = h.race.race.one;
      };
    };
  }
