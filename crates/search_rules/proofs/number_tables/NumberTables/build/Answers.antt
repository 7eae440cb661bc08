use Rattle.std.proofs.Common.{◌≡◌, ℕ, List, subst}
use Rattle.calculus_specs.specs.Shape.{Shape, shape_of}
use Rattle.step_finders.specs.Found.{AreCarriesOf}
use Rattle.step_finders.specs.Clashing.{AreMosts}
use Rattle.search_rules.specs.Lists.{list_at}
use Rattle.search_rules.specs.Files.{rows_at_shape}
use Rattle.search_rules.specs.Tables.{role_context}
use Rattle.search_rules.proofs.number_tables.NumberTables.build.Goals as goal

pub returns-clause-lists : goal.returns-clause-lists
returns-clause-lists c =
    let same = c.complement_numbers.ensures.same in
    record {
      carries_are =
          subst (λ (t : List Shape). (k : ℕ)
          → AreCarriesOf (role_context t c.args.roles.now) (shape_of t k) (list_at c.in_ok-carries.carries.items k))
          same c.in_ok-carries.ensures;
      complements_are = c.in_ok-complements.ensures.found;
      mosts_are =
          subst (λ (t : List Shape). (k : ℕ) → AreMosts t k (list_at c.in_ok-mosts.mosts.items k)) same
          c.in_ok-mosts.ensures;
      named_are =
          subst (λ (t : List Shape). (k : ℕ)
          → list_at c.in_ok-named.named.items k ≡ rows_at_shape c.args.rows.now.at_names (shape_of t k))
          same c.in_ok-named.ensures;
    }
