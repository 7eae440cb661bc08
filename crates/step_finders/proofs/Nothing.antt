-- Where nothing is to be added because of what the representatives have, nothing is to be added.
use Rattle.std.proofs.Common.{◌≡◌, ℕ, ◌<◌, ◌&&◌, eqb, Bool, true, List, get_or, ap, ◌∙◌, sym, subst, arith, eq-eqb}
use Rattle.std.specs.List.{list_all}
use Rattle.std.proofs.lemmas.List.Elements.{All-contains}
use Rattle.calculus_specs.specs.Shape.{Shape, shape_of, IsTable}
use Rattle.calculus_specs.specs.Shape.Shape.{top, bottom, name, not_name, intersection, union, some_of, all_of}
use Rattle.calculus_specs.specs.Shape.Shape.{at_least, at_most}
use Rattle.calculus_specs.specs.declared.facts.Fact.{Fact}
use Rattle.calculus_specs.specs.Joins.{rep}
use Rattle.calculus_specs.specs.State.{node_count_from, has, has_edge, is_successor}
use Rattle.calculus_specs.proofs.Joined.{rep-le}
use Rattle.tableau_specs.specs.Steps.{SearchContext, below_of, Adds, IsCarried}
use Rattle.tableau_specs.specs.Steps.Adds.{by_and, by_all, by_carry, by_row}
use Rattle.tableau_specs.proofs.Listed.{listed}
use Rattle.tableau_specs.proofs.Moved.{has_at, edge_from, edge_to}
use Rattle.step_finders.specs.Found.{Files, AreFiled, HoldsRows, NoneByShape, NothingFrom, NothingToAdd}
use Rattle.step_finders.proofs.Edges.{rep_twice}

-- the representative of the end of an edge is a successor
next_of_edge : (fs : List (Fact ℕ)) (roles : ℕ → Bool) (x y : ℕ) → has_edge fs roles x y ≡ true
    → is_successor fs roles x (rep fs y) ≡ true
next_of_edge fs roles x y h =
    rw (eq-eqb (rep fs (rep fs y)) (rep fs y) (rep_twice fs y)) (edge_to fs roles (rep fs y) y x (rep_twice fs y) ∙ h)

module _ (w : SearchContext) (files : Files) (fs : List (Fact ℕ))
    (each : (z : ℕ) → z < node_count_from w.first fs → rep fs z ≡ z → NothingFrom w fs files z) (x : ℕ)
    (lt : x < node_count_from w.first fs) where
  at_rep : NothingFrom w fs files (rep fs x)
  at_rep = each (rep fs x) (omega (arith, rep-le fs x, lt)) (rep_twice fs x)

  has_moved : (c : ℕ) → has fs (rep fs x) c ≡ has fs x c
  has_moved c = has_at fs (rep fs x) x c (rep_twice fs x)

  all_moved : (cs : List ℕ) → list_all (has fs (rep fs x)) cs ≡ list_all (has fs x) cs
  all_moved cs = ap (λ (p : ℕ → Bool). list_all p cs) (λ i c. has_moved c i)

  next_moved : (roles : ℕ → Bool) (y : ℕ) → is_successor fs roles (rep fs x) y ≡ is_successor fs roles x y
  next_moved roles y = ap (λ (b : Bool). eqb (rep fs y) y && b) (edge_from fs roles (rep fs x) x y (rep_twice fs x))

  shape_moved : (sh : Shape) → NoneByShape w fs (rep fs x) sh → NoneByShape w fs x sh
  shape_moved (intersection parts) h = λ k d lt'. sym (has_moved (get_or parts k d)) ∙ h k d lt'
  shape_moved (all_of s e) h = (
    record { have = λ y next. h.0.have y (next_moved (λ r. below_of w r s) y ∙ next) },
    record {
      carried =
          λ t y transitive below next. h.1.carried t y transitive below (next_moved (λ r. below_of w r t) y ∙ next);
    },
  )
  shape_moved top h = tt
  shape_moved bottom h = tt
  shape_moved (name a) h = tt
  shape_moved (not_name a) h = tt
  shape_moved (union parts) h = tt
  shape_moved (some_of s e) h = tt
  shape_moved (at_least n s e) h = tt
  shape_moved (at_most n s e) h = tt

  pub none_by : (c : ℕ) (sh : Shape) → has fs x c ≡ true → shape_of w.table c ≡ sh → NoneByShape w fs x sh
  none_by c sh h e =
      subst (NoneByShape w fs x) e (shape_moved (shape_of w.table c) (at_rep.by_concepts.none c (has_moved c ∙ h)))

  pub rows_hold : HoldsRows files fs x
  rows_hold =
      let h = at_rep.by_rows in
      record {
        at_each = λ k d lt'. sym (has_moved (get_or files.general k d).gives) ∙ h.at_each k d lt';
        names = record {
          at_names = λ c there k d lt'. record {
            holds =
                λ all. sym (has_moved (get_or (files.named c) k d).gives)
                ∙ (h.names.at_names c (has_moved c ∙ there) k d lt').holds
                (all_moved (get_or (files.named c) k d).waits ∙ all);
          };
        };
        edges = record {
          at_edges = λ r y next.
              let e = h.edges.at_edges r y (next_moved (λ q. eqb q r) y ∙ next) in
              record {
                at_begin = λ k d lt'. sym (has_moved (get_or (files.begins r) k d).gives) ∙ e.at_begin k d lt';
                at_end = e.at_end;
              };
        };
      }

module _ (w : SearchContext) (files : Files) (good : IsTable w.table) (filed : AreFiled w files) (fs : List (Fact ℕ))
    (each : (z : ℕ) → z < node_count_from w.first fs → rep fs z ≡ z → NothingFrom w fs files z) where
  carry_there : (x y c s t e : ℕ) → IsCarried w fs x y c s t e
      → (d : ℕ) × (shape_of w.table d ≡ all_of t e) × (has fs y d ≡ true)
  carry_there x y c s t e h =
      let k =
      (none_by w files fs each x h.begin_is_node c (all_of s e) h.holds h.shape).1.carried t (rep fs y) h.transitive
      h.role_below (next_of_edge fs (λ r. below_of w r t) x y h.edge) in
      (k.0, k.1, sym (has_at fs (rep fs y) y k.0 (rep_twice fs y)) ∙ k.2)

  add_there : (x d : ℕ) → Adds w fs x d → has fs x d ≡ true
  add_there x d (by_and x' c d' parts lt h sh m) =
      All-contains (λ k. has fs x k ≡ true) parts d (none_by w files fs each x lt c (intersection parts) h sh) m
  add_there y' e' (by_all x y c s e lt mt h sh edge) =
      sym (has_at fs (rep fs y) y e (rep_twice fs y))
      ∙ (none_by w files fs each x lt c (all_of s e) h sh).0.have (rep fs y)
      (next_of_edge fs (λ r. below_of w r s) x y edge)
  add_there y' d' (by_carry x y c s t e d carried sh) =
      let k = carry_there x y c s t e carried in
      let same =
      good.are_distinct k.0 d (listed w.table k.0 (λ l. (let m = sym k.1 ∙ l in cc)))
      (listed w.table d (λ l. (let m = sym sh ∙ l in cc))) (k.1 ∙ sym sh) in
      ap (has fs y) (sym same) ∙ k.2
  add_there x' d (by_row x row lt m used) =
      filed.each_filed fs (λ z zlt. rows_hold w files fs each z zlt) x row lt m used

  pub nothing_to_add : NothingToAdd w fs
  nothing_to_add = record { no_add = add_there; no_carry = carry_there }
