-- What a node of the search finds.
use Rattle.std.proofs.Common.{◌≡◌, ℕ, zero, suc, ◌+◌, ◌-◌, ◌<◌, ◌≤◌, Option, Some, None, refl, ◌∷◌, [], true, false}
use Rattle.std.proofs.Common.{List, length, get_or, ◌⊎◌, sym, ap, ◌∙◌, subst, arith, inl, inr}
use Rattle.std.specs.Prelude.{◌↔◌, IfNone}
use Rattle.std.specs.Option.{is_some}
use Rattle.std.specs.List.{Contains, All}
use Rattle.std.specs.FinSet as set
use Rattle.std.proofs.lemmas.Bool.{cases_Bool, true≢false, cases_eq, ne_eqb}
use Rattle.std.proofs.lemmas.List.{get_or_default, length-append}
use Rattle.std.proofs.lemmas.List.Elements.{Contains-get_or}
use Rattle.lane_sieve.specs.Sets.{NumberSet, IsPart, DoMeet, passing}
use Rattle.lane_sieve.proofs.Bits.{contains_insert}
use Rattle.lane_sieve.proofs.Ranges.{passing-add, passing_same, passing_take, passing_skip}
use Rattle.axiom_sets.specs.Sets.{Limited, IsWithin, member_list}
use Rattle.axiom_sets.proofs.Listed.{member_list-ascends, member_list-short}
use Rattle.axiom_sets.proofs.Same.{set_of_parts, same_limited}
use Rattle.pinpointing_specs.specs.Smallest.{AreApart, IsHitAlone, MeetsEach}
use Rattle.pinpointing_specs.specs.Order.{IsAscending}
use Rattle.set_questions.specs.InOrder.{HasMore}
use Rattle.audit_check.specs.Transversals.{IsMinimalTransversal, AreTransversals}
use Rattle.audit_check.proofs.Hits.{told_by_hits, smallest_hits_alone}
use Rattle.audit_check.specs.Territory.{AreMet, IsUnmetAt, with_number, InTerritory, ComesFrom, GrowsBy, AreChoices}
use Rattle.audit_check.proofs.Growing.{in_more, to_more, has_more, number_listed}

-- ---- a set that meets each of the sets

pub met_each : (sets : List Limited) (hit : Limited) → AreMet sets hit (length sets) → MeetsEach sets hit.members
met_each sets hit met j listed =
    subst (λ (x : Limited). DoMeet x.members hit.members) listed.2 (met listed.0 j listed.1)

pub met_more : (sets : List Limited) (hit : Limited) (p : ℕ) (read : Limited) → p < length sets
    → read ≡ get_or sets p read → DoMeet read.members hit.members → AreMet sets hit p → AreMet sets hit (p + 1)
met_more sets hit p read lt is meet met k d low =
    elim (cases_eq k p) [
      | inl e ↦
          subst (λ (x : Limited). DoMeet x.members hit.members)
          (is ∙ get_or_default sets p read d lt ∙ ap (λ (n : ℕ). get_or sets n d) (sym e)) meet
      | inr ne ↦ met k d (omega arith)
    ]

module _ (sets : List Limited) (hit barred : Limited) (within : IsWithin hit.limit hit.members)
    (meets : MeetsEach sets hit.members) (alone : IsHitAlone sets hit)
    (apart : AreApart barred.members hit.members) where
  ends_here : InTerritory sets hit barred hit
  ends_here = record {
    limit = λ i. hit.limit;
    minimal = (told_by_hits sets hit).1 (within, meets, alone);
    has = λ k h. h;
    free = apart;
  }

  nothing_else : (x : Limited) → InTerritory sets hit barred x → x ≡ hit
  nothing_else x inside =
      same_limited x hit inside.limit
      (set_of_parts x.members hit.members (inside.minimal.smallest hit.members inside.has meets) inside.has)

  pub put_grows : (old new : List Limited) → HasMore old hit new → GrowsBy sets hit barred old new
  put_grows old new more x = (
    λ h. elim ((more x).0 h)
        [ inl had ↦ inl had | inr e ↦ inr (subst (InTerritory sets hit barred) (sym e) ends_here) ],
    λ h. elim h [ inl had ↦ (more x).1 (inl had) | inr inside ↦ (more x).1 (inr (nothing_else x inside)) ],
  )

pub put_limits : (n : ℕ) (old new : List Limited) (s : Limited) → HasMore old s new → s.limit ≡ n
    → All (λ (x : Limited). x.limit ≡ n) old → All (λ (x : Limited). x.limit ≡ n) new
put_limits n old new s more e limits k d lt =
    elim ((more (get_or new k d)).0 (Contains-get_or new k d lt)) [
      | inl had ↦ subst (λ (x : Limited). x.limit ≡ n) had.2 (limits had.0 (get_or new k d) had.1)
      | inr same ↦ ap (λ (x : Limited). x.limit) same ∙ e
    ]

-- ---- the branches of a node

-- what was found with what is left is what is to be found
abbrev pub IsLeft : List Limited → Limited → Limited → Limited → List Limited → List Limited → Type 0
IsLeft sets hit barred shut old now = (x : Limited)
    → (Contains now x ⊎ InTerritory sets hit shut x) ↔ (Contains old x ⊎ InTerritory sets hit barred x)

module _ (sets : List Limited) (hit shut shut' more : Limited) (n : ℕ) (more_is : more ≡ with_number hit n)
    (shut_is : shut'.members ≡ set.insert shut.members n) where
  with_it : (x : Limited) → InTerritory sets hit shut x → set.contains x.members n ≡ true → InTerritory sets more shut x
  with_it x inside has =
      subst (λ (s : Limited). InTerritory sets s shut x) (sym more_is)
      (record {
        limit = inside.limit;
        minimal = inside.minimal;
        has =
            λ k h. elim (in_more hit.members n k h)
            [ inl e ↦ ap (set.contains x.members) e ∙ has | inr old ↦ inside.has k old ];
        free = inside.free;
      })

  without_it : (x : Limited) → InTerritory sets hit shut x → set.contains x.members n ≡ false
      → InTerritory sets hit shut' x
  without_it x inside lacks =
      record {
        limit = inside.limit;
        minimal = inside.minimal;
        has = inside.has;
        free = λ k h. elim (in_more shut.members n k (subst (λ (s : NumberSet). set.contains s k ≡ true) shut_is h)) [
          | inl e ↦ ap (set.contains x.members) e ∙ lacks
          | inr old ↦ inside.free k old
        ];
      }

  from_with : (x : Limited) → InTerritory sets more shut x → InTerritory sets hit shut x
  from_with x inside' =
      let inside = subst (λ (s : Limited). InTerritory sets s shut x) more_is inside' in
      record {
        limit = inside.limit;
        minimal = inside.minimal;
        has = λ k h. inside.has k (to_more hit.members n k h);
        free = inside.free;
      }

  from_without : (x : Limited) → InTerritory sets hit shut' x → InTerritory sets hit shut x
  from_without x inside =
      record {
        limit = inside.limit;
        minimal = inside.minimal;
        has = inside.has;
        free =
            λ k h. inside.free k
            (subst (λ (s : NumberSet). set.contains s k ≡ true) (sym shut_is) (to_more shut.members n k h));
      }

  pub left_next : (barred : Limited) (old now new : List Limited) → IsLeft sets hit barred shut old now
      → GrowsBy sets more shut now new → IsLeft sets hit barred shut' old new
  left_next barred old now new left grows x = (
    λ h. elim h [
      | inl in_new ↦ elim ((grows x).0 in_new) [
        | inl in_now ↦ (left x).0 (inl in_now)
        | inr branch ↦ (left x).0 (inr (from_with x branch))
      ]
      | inr later ↦ (left x).0 (inr (from_without x later))
    ],
    λ h. elim ((left x).1 h) [
      | inl in_now ↦ inl ((grows x).1 (inl in_now))
      | inr inside ↦ elim (cases_Bool (set.contains x.members n)) [
        | inl has ↦ inl ((grows x).1 (inr (with_it x inside has)))
        | inr lacks ↦ inr (without_it x inside lacks)
      ]
    ],
  )

  pub left_from : (barred : Limited) (old now new : List Limited) → IsLeft sets hit barred shut old now
      → ComesFrom sets more shut now new → ComesFrom sets hit barred old new
  left_from barred old now new left from x in_new =
      elim (from x in_new) [
        | inl in_now ↦ (left x).0 (inl in_now)
        | inr branch ↦ (left x).0 (inr (from_with x branch))
      ]

pub from_grown : (sets : List Limited) (hit barred : Limited) (old new : List Limited) → GrowsBy sets hit barred old new
    → ComesFrom sets hit barred old new
from_grown sets hit barred old new grows x = (grows x).0

pub left_all : (sets : List Limited) (hit barred : Limited) (old : List Limited) → IsLeft sets hit barred barred old old
left_all sets hit barred old x = (λ h. h, λ h. h)

-- a part of a smallest transversal hits some set in each member alone
part_hits_alone : (sets : List Limited) (x t : Limited) → IsMinimalTransversal sets x → IsPart t.members x.members
    → IsHitAlone sets t
part_hits_alone sets x t minimal part k member =
    let found = smallest_hits_alone sets x minimal k (part k member) in
    (found.0, found.1, found.2, λ m in_t in_j. found.3 m (part m in_t) in_j)

-- once each choice is shut, nothing is left
module _ (sets : List Limited) (unmet hit barred shut : Limited) (fitting : NumberSet) (listed : Contains sets unmet)
    (choices : AreChoices sets unmet hit barred fitting)
    (opens : (k : ℕ) → set.contains fitting k ≡ true → set.contains shut.members k ≡ true)
    (bars : (k : ℕ) → set.contains barred.members k ≡ true → set.contains shut.members k ≡ true) where
  none_left : (x : Limited) → InTerritory sets hit shut x → ⊥
  none_left x inside =
      let meet = inside.minimal.meets unmet listed in
      let n = meet.0 in
      let not_shut : set.contains shut.members n ≡ true → ⊥ = λ h. true≢false (sym meet.2 ∙ inside.free n h) in
      let not_barred : set.contains barred.members n ≡ false = elim (cases_Bool (set.contains barred.members n))
      [ inl yes' ↦ absurd (not_shut (bars n yes')) | inr no' ↦ no' ] in
      not_shut (opens n ((choices n).1 (
        meet.1,
        not_barred,
        part_hits_alone sets x (with_number hit n) inside.minimal (λ k h. elim (in_more hit.members n k h)
            [ inl e ↦ ap (set.contains x.members) e ∙ meet.2 | inr old ↦ inside.has k old ]),
      )))

  pub all_found : (old now : List Limited) → IsLeft sets hit barred shut old now → GrowsBy sets hit barred old now
  all_found old now left x = (
    λ h. (left x).0 (inl h),
    λ h. elim ((left x).1 h) [ inl found ↦ found | inr inside ↦ absurd (none_left x inside) ],
  )

-- ---- a node that is gone through

abbrev pub Ascends : List ℕ → Type 0
Ascends us = (i j : ℕ) → i < j → j < length us → get_or us i 0 < get_or us j 0

-- of all numbers by which the hit set may grow those ahead are left, and the others are shut
pub record IsRunning (sets : List Limited) (hit barred shut : Limited) (all ahead : List ℕ) (old now : List Limited) :
    Type 0 where
  pub shut_limit : shut.limit ≡ hit.limit
  pub limits : All (λ (s : Limited). s.limit ≡ hit.limit) now
  pub order : IsAscending now
  pub left : IsLeft sets hit barred shut old now
  pub bars : (k : ℕ) → set.contains barred.members k ≡ true → set.contains shut.members k ≡ true
  pub covers : (k : ℕ) → Contains all k → (set.contains shut.members k ≡ true) ⊎ Contains ahead k
  pub from : (k : ℕ) → Contains ahead k → Contains all k × (set.contains shut.members k ≡ false)
  pub ascends : Ascends ahead
  pub apart : AreApart shut.members hit.members

head_is : (u : ℕ) (us : List ℕ) (k : ℕ) → Contains (u ∷ us) k → (k ≡ u) ⊎ Contains us k
head_is u us k (zero, lt, e) = inl (sym e)
head_is u us k (suc i, lt, e) = inr (i, omega (arith, lt), e)

pub running_first : (sets : List Limited) (hit barred shut fitting : Limited) (all : List ℕ) (old : List Limited)
    → shut ≡ barred → barred.limit ≡ hit.limit → all ≡ member_list fitting
    → All (λ (s : Limited). s.limit ≡ hit.limit) old → IsAscending old → AreApart barred.members hit.members
    → ((k : ℕ) → Contains all k → set.contains barred.members k ≡ false)
    → IsRunning sets hit barred shut all all old old
running_first sets hit barred shut fitting all old e limit listed limits order apart free =
    subst (λ (s : Limited). IsRunning sets hit barred s all all old old) (sym e)
    (record {
      shut_limit = limit;
      limits = limits;
      order = order;
      left = left_all sets hit barred old;
      bars = λ k h. h;
      covers = λ k at. inr at;
      from = λ k at. (at, free k at);
      ascends = subst Ascends (sym listed) (member_list-ascends fitting);
      apart = apart;
    })

module _ (sets : List Limited) (hit barred shut : Limited) (all : List ℕ) (u : ℕ) (us : List ℕ) (old now : List Limited)
    (running : IsRunning sets hit barred shut all (u ∷ us) old now) where
  not_later : Contains us u → ⊥
  not_later at =
      let low = running.ascends 0 (suc at.0) (omega arith) (omega (arith, at.1)) in
      let same : get_or us at.0 0 ≡ u = get_or_default us at.0 0 u at.1 ∙ at.2 in
      omega (arith, low, same)

  pub running_next : (shut' more : Limited) (new : List Limited) → more ≡ with_number hit u → shut'.limit ≡ shut.limit
      → shut'.members ≡ set.insert shut.members u → set.contains hit.members u ≡ false
      → GrowsBy sets more shut now new → All (λ (s : Limited). s.limit ≡ more.limit) new → IsAscending new
      → IsRunning sets hit barred shut' all us old new
  running_next shut' more new more_is limit shut_is lacks grows limits order =
      record {
        shut_limit = limit ∙ running.shut_limit;
        limits = subst (λ (s : Limited). All (λ (x : Limited). x.limit ≡ s.limit) new) more_is limits;
        order = order;
        left = left_next sets hit shut shut' more u more_is shut_is barred old now new running.left grows;
        bars =
            λ k h. subst (λ (s : NumberSet). set.contains s k ≡ true) (sym shut_is)
            (to_more shut.members u k (running.bars k h));
        covers = λ k at. elim (running.covers k at) [
          | inl shut_now ↦
              inl (subst (λ (s : NumberSet). set.contains s k ≡ true) (sym shut_is) (to_more shut.members u k shut_now))
          | inr ahead ↦ elim (head_is u us k ahead) [
            | inl e ↦
                inl (subst (λ (s : NumberSet). set.contains s k ≡ true) (sym shut_is)
                (subst (λ (n : ℕ). set.contains (set.insert shut.members u) n ≡ true) (sym e)
                (has_more shut.members u)))
            | inr later ↦ inr later
          ]
        ];
        from = λ k at.
            let before = running.from k (suc at.0, omega (arith, at.1), at.2) in (
              before.0,
              elim (cases_Bool (set.contains shut'.members k)) [
                | inl yes' ↦
                    elim (in_more shut.members u k (subst (λ (s : NumberSet). set.contains s k ≡ true) shut_is yes')) [
                      | inl e ↦ absurd (not_later (subst (Contains us) e at))
                      | inr was ↦ absurd (true≢false (sym was ∙ before.1))
                    ]
                | inr no' ↦ no'
              ],
            );
        ascends = λ i j lt within. running.ascends (suc i) (suc j) (omega (arith, lt)) (omega (arith, within));
        apart = λ k h. elim (in_more shut.members u k (subst (λ (s : NumberSet). set.contains s k ≡ true) shut_is h)) [
          | inl e ↦ ap (set.contains hit.members) e ∙ lacks
          | inr was ↦ running.apart k was
        ];
      }

  pub branch_apart : (more : Limited) → more ≡ with_number hit u → AreApart shut.members more.members
  branch_apart more more_is k shut_now =
      subst (λ (s : Limited). set.contains s.members k ≡ false) (sym more_is)
      (elim (cases_Bool (set.contains (set.insert hit.members u) k)) [
        | inl yes' ↦ elim (in_more hit.members u k yes') [
          | inl e ↦
              absurd (true≢false
              (sym shut_now ∙ ap (set.contains shut.members) e ∙ (running.from u (0, omega arith, λ i. u)).1))
          | inr was ↦ absurd (true≢false (sym was ∙ running.apart k shut_now))
        ]
        | inr no' ↦ no'
      ])

-- ---- which set is branched at

-- a set that is met changes nothing
pub met_kept : (sets : List Limited) (hit : Limited) (p : ℕ) (read : Limited) → p < length sets
    → read ≡ get_or sets p read → DoMeet read.members hit.members → (n : Option ℕ) → IfNone n (AreMet sets hit p)
    → IfNone n (AreMet sets hit (p + 1))
met_kept sets hit p read lt is meet None met = met_more sets hit p read lt is meet met
met_kept sets hit p read lt is meet (Some n) met = tt

-- one that is not met is such a place
pub unmet_at : (sets : List Limited) (hit : Limited) (p : ℕ) (read : Limited) → p < length sets
    → read ≡ get_or sets p read → ¬ DoMeet read.members hit.members → IsUnmetAt sets hit p
unmet_at sets hit p read lt is apart =
    (lt, subst (λ (s : Limited). ¬ DoMeet s.members hit.members) (is ∙ get_or_default sets p read hit lt) apart)

-- where there is a place, nothing is asked of those before
pub some_kept : (n : Option ℕ) (P : Type 0) → is_some n ≡ true → IfNone n P
some_kept None P h = absurd (true≢false (sym h))
some_kept (Some n) P h = tt

-- ---- how deep the search can go

module _ (s : NumberSet) (u : ℕ) (lacks : set.contains s u ≡ false) where
  other_number : (k : ℕ) → (k ≡ u → ⊥) → set.contains (set.insert s u) k ≡ set.contains s k
  other_number k ne = contains_insert s u k ∙ rw (ne_eqb k u ne) refl

  one_more : (n : ℕ)
      → length (passing (set.contains (set.insert s u)) 0 (u + suc n))
      ≡ length (passing (set.contains s) 0 (u + suc n)) + 1
  one_more n =
      let p = set.contains s in
      let q = set.contains (set.insert s u) in
      let before : passing q 0 u ≡ passing p 0 u =
      passing_same q p 0 u (λ k low high. other_number k (λ e. omega (arith, high, e))) in
      let after : passing q (u + 1) n ≡ passing p (u + 1) n =
      passing_same q p (u + 1) n (λ k low high. other_number k (λ e. omega (arith, low, e))) in
      let here : passing q u (suc n) ≡ u ∷ passing p (u + 1) n =
      passing_take q u n (has_more s u) ∙ ap (λ (xs : List ℕ). u ∷ xs) after in
      let there : passing p u (suc n) ≡ passing p (u + 1) n = passing_skip p u n lacks in
      let z : 0 + u ≡ u = omega arith in
      let left : length (passing q 0 (u + suc n)) ≡ length (passing p 0 u) + suc (length (passing p (u + 1) n)) =
      ap length (passing-add q 0 u (suc n)) ∙ length-append (passing q 0 u) (passing q (0 + u) (suc n))
      ∙ (λ i. length (before i) + length (passing q (z i) (suc n)))
      ∙ ap (λ (xs : List ℕ). length (passing p 0 u) + length xs) here in
      let right : length (passing p 0 (u + suc n)) ≡ length (passing p 0 u) + length (passing p (u + 1) n) =
      ap length (passing-add p 0 u (suc n)) ∙ length-append (passing p 0 u) (passing p (0 + u) (suc n))
      ∙ ap (λ (k : ℕ). length (passing p 0 u) + length (passing p k (suc n))) z
      ∙ ap (λ (xs : List ℕ). length (passing p 0 u) + length xs) there in
      omega (arith, left, right)

-- a set with one number more has fewer that it lacks
pub branch_falls : (hit more : Limited) (u : ℕ) → more ≡ with_number hit u → set.contains hit.members u ≡ false
    → u ≤ hit.limit → IsWithin more.limit more.members
    → more.limit - length (member_list more) < hit.limit - length (member_list hit)
branch_falls hit more u more_is lacks high within =
    let e : hit.limit + 1 ≡ u + suc (hit.limit - u) = omega arith in
    let longer : length (member_list more) ≡ length (member_list hit) + 1 =
    ap (λ (s : Limited). length (member_list s)) more_is
    ∙ ap (λ (k : ℕ). length (passing (set.contains (set.insert hit.members u)) 0 k)) e
    ∙ one_more hit.members u lacks (hit.limit - u)
    ∙ ap (λ (k : ℕ). length (passing (set.contains hit.members) 0 k) + 1) (sym e) in
    let short : length (member_list more) ≤ more.limit = member_list-short more within in
    let same : more.limit ≡ hit.limit = ap (λ (s : Limited). s.limit) more_is in
    omega (arith, longer, short, same)

pub same_limits : (hit more : Limited) (u : ℕ) → more ≡ with_number hit u → hit.limit ≡ more.limit
same_limits hit more u e = ap (λ (s : Limited). s.limit) (sym e)

pub limits_along : (n m : ℕ) (xs : List Limited) → n ≡ m → All (λ (s : Limited). s.limit ≡ n) xs
    → All (λ (s : Limited). s.limit ≡ m) xs
limits_along n m xs e limits k d lt = limits k d lt ∙ e

-- ---- the root

pub empty_alone : (sets : List Limited) (hit : Limited) → hit.members ≡ set.empty → IsHitAlone sets hit
empty_alone sets hit e k member =
    absurd (true≢false (sym (subst (λ (s : NumberSet). set.contains s k ≡ true) e member) ∙ set.contains-empty _ k))

pub empty_apart : (barred hit : Limited) → barred.members ≡ set.empty → AreApart barred.members hit.members
empty_apart barred hit e k member =
    absurd (true≢false (sym (subst (λ (s : NumberSet). set.contains s k ≡ true) e member) ∙ set.contains-empty _ k))

pub from_root : (limit : ℕ) (sets : List Limited) (hit barred : Limited) (found : List Limited) → hit.limit ≡ limit
    → ComesFrom sets hit barred [] found → (x : Limited) → Contains found x
    → (x.limit ≡ limit) × IsMinimalTransversal sets x
from_root limit sets hit barred found e from x h =
    elim (from x h) [ inl had ↦ absurd (omega (arith, had.1)) | inr inside ↦ (inside.limit ∙ e, inside.minimal) ]

pub all_transversals : (limit : ℕ) (sets : List Limited) (hit barred : Limited) (found : List Limited)
    → hit.limit ≡ limit → hit.members ≡ set.empty → barred.members ≡ set.empty
    → GrowsBy sets hit barred [] found → AreTransversals limit sets found
all_transversals limit sets hit barred found e none none' grows x = (
  λ h. elim ((grows x).0 h)
      [ inl had ↦ absurd (omega (arith, had.1)) | inr inside ↦ (inside.limit ∙ e, inside.minimal) ],
  λ h. (grows x).1 (inr (record {
    limit = h.0 ∙ sym e;
    minimal = h.1;
    has =
        λ k in_hit. absurd
        (true≢false (sym (subst (λ (s : NumberSet). set.contains s k ≡ true) none in_hit) ∙ set.contains-empty _ k));
    free =
        λ k in_barred. absurd
        (true≢false
        (sym (subst (λ (s : NumberSet). set.contains s k ≡ true) none' in_barred) ∙ set.contains-empty _ k));
  })),
)

pub not_hit : (sets : List Limited) (hit unmet : Limited) (n : ℕ) → n < length sets → unmet ≡ get_or sets n unmet
    → ¬ DoMeet (get_or sets n hit).members hit.members → (u : ℕ) → set.contains unmet.members u ≡ true
    → set.contains hit.members u ≡ false
not_hit sets hit unmet n lt is apart u member =
    elim (cases_Bool (set.contains hit.members u)) [
      | inl yes' ↦ absurd (apart (
        u,
        subst (λ (s : Limited). set.contains s.members u ≡ true) (is ∙ get_or_default sets n unmet hit lt) member,
        yes',
      ))
      | inr no' ↦ no'
    ]

pub with_number_alone : (sets : List Limited) (hit more : Limited) (u : ℕ) → more ≡ with_number hit u
    → IsHitAlone sets (with_number hit u) → IsHitAlone sets more
with_number_alone sets hit more u e alone = subst (IsHitAlone sets) (sym e) alone

-- once none is ahead
pub all_left_out : (sets : List Limited) (unmet hit barred shut fitting : Limited) (all : List ℕ)
    (old now : List Limited)
    → Contains sets unmet → AreChoices sets unmet hit barred fitting.members → all ≡ member_list fitting
    → IsWithin fitting.limit fitting.members → IsRunning sets hit barred shut all [] old now
    → GrowsBy sets hit barred old now
all_left_out sets unmet hit barred shut fitting all old now listed choices all_is within running =
    all_found sets unmet hit barred shut fitting.members listed choices
    (λ k h. elim
    (running.covers k (subst (λ (xs : List ℕ). Contains xs k) (sym all_is) (number_listed fitting within k h)))
    [ inl yes' ↦ yes' | inr none ↦ absurd (omega (arith, none.1)) ])
    running.bars old now running.left

pub ahead_is : (sets : List Limited) (hit barred shut : Limited) (all ahead us : List ℕ) (old now : List Limited)
    → ahead ≡ us → IsRunning sets hit barred shut all ahead old now → IsRunning sets hit barred shut all us old now
ahead_is sets hit barred shut all ahead us old now e running =
    subst (λ (xs : List ℕ). IsRunning sets hit barred shut all xs old now) e running
