-- When two sets are equal, and what a hasher is fed of one.
use Rattle.std.specs.Prelude.{◌≡◌, ◌&&◌, ◌==◌, ◌++◌, Bool, true, Decides}
use Rattle.std.specs.FinSet as set
use Rattle.std.specs.Hash as fed
use Rattle.std.specs.List.{flat_map}
use Rattle.std.specs.Bool.{one_answer}
use Rattle.std.specs.Cmp.{nat_cmp_total}
use Rattle.std.proofs.Common.{sym, ap, ◌∙◌, eq-eqb}
use Rattle.std.proofs.lemmas.Bool.{and_parts, eqb-true}
use Rattle.lane_sieve.specs.Sets.{NumberSet}
use Rattle.axiom_sets.specs.Sets.{Limited, member_list}

-- the limits are the same, and each set has the members of the other one
abbrev pub limited_eq : Limited → Limited → Bool
limited_eq s t = s.limit == t.limit && set.is_subset s.members t.members && set.is_subset t.members s.members

-- the limit, and then the members in ascending order
abbrev pub limited_writes : Limited → fed.HashWrites
limited_writes s = fed.u32 s.limit ++ flat_map fed.u32 (member_list s)

subsets_both_ways : (s t : NumberSet) → set.is_subset s t ≡ true → set.is_subset t s ≡ true → s ≡ t
subsets_both_ways s t st ts =
    set.same_set nat_cmp_total set.nat_cmp-IsAntisymmetric s t
    (λ k. one_answer (set.contains s k) (set.contains t k)
    (set.is_subset-contains nat_cmp_total s t st k, set.is_subset-contains nat_cmp_total t s ts k) (λ h. h, λ h. h))

along : (s t : Limited) → s ≡ t → set.is_subset s.members t.members ≡ true
along s t e =
    set.contains-is_subset nat_cmp_total s.members t.members
    (λ k h. ap (λ (x : Limited). set.contains x.members k) (sym e) ∙ h)

pub limited_decides : (s t : Limited) → Decides (limited_eq s t) (s ≡ t)
limited_decides s t = (
  λ h.
      let outer =
      and_parts (s.limit == t.limit && set.is_subset s.members t.members) (set.is_subset t.members s.members) h in
      let inner = and_parts (s.limit == t.limit) (set.is_subset s.members t.members) outer.0 in
      let limits : s.limit ≡ t.limit = eqb-true s.limit t.limit inner.0 in
      let members : s.members ≡ t.members = subsets_both_ways s.members t.members inner.1 outer.1 in
      λ i. record { limit = limits i; members = members i },
  λ e i. eq-eqb s.limit t.limit (ap (λ (x : Limited). x.limit) e) i && along s t e i && along t s (sym e) i,
)
