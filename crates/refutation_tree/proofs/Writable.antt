-- What is read can be written: its names are listed, its numbers are small, and it keeps what a refutation keeps.
use Rattle.std.proofs.Common.{◌≡◌, ℕ, ◌+◌, ◌^◌, ◌<◌, Bool, true, false, not, ◌&&◌, List, [], ◌∷◌, ◌++◌, length, refl}
use Rattle.std.proofs.Common.{ap, subst, sym, ◌∙◌, Option, Some, None, option_map, arith, length-append}
use Rattle.std.specs.Prelude.{nat_lt, nat_le, codes, position, option_and_then, if◌then◌else◌}
use Rattle.std.specs.List.{list_all, prefix_len}
use Rattle.std.specs.Str.{bytes_eq}
use Rattle.std.specs.Str.Parse.{digits_value}
use Rattle.std.specs.FinSet as set
use Rattle.std.specs.Ordering.{nat_cmp}
use Rattle.std.proofs.lemmas.Bool.{and_parts, and_from, ltb-true, leb-true, eqb-true, false≢true}
use Rattle.std.proofs.lemmas.List.Folds.{list_all-append}
use Rattle.axiom_sets.specs.NumberSets.{NumberSet}
use Rattle.axiom_sets.specs.Sets.{Limited, IsWithin}
use Rattle.axiom_sets.proofs.Kept.{put_within}
use Rattle.certificate_lines.specs.Lines.{words, is_numeral, number_in, iri_in}
use Rattle.certificate_lines.specs.Names.{name_place}
use Rattle.certificate_lines.proofs.Body.{body_keeps}
use Rattle.certificate_lines.specs.Listed.{Listed}
use Rattle.shq_nnf.specs.TheoryRows.{is_ascending}
use Rattle.shq_nnf.specs.Shape.{Shape}
use Rattle.shq_nnf.specs.Shape.Shape.{top, bottom, name, not_name, intersection, union, some_of, all_of}
use Rattle.shq_nnf.specs.Shape.Shape.{at_least, at_most}
use Rattle.shq_nnf.specs.Line.{Line}
use Rattle.shq_nnf.specs.Line.Line.{start_line, and_line, or_line, all_line, carry_line, row_line, range_line}
use Rattle.shq_nnf.specs.Line.Line.{some_line, least_line, choose_line, pair_line, bottom_line, clash_line}
use Rattle.shq_nnf.specs.Line.Line.{most_line, fact_line, differ_line}
use Rattle.refutation_tree.specs.Shapes.{admits}
use Rattle.refutation_tree.specs.RuleLine.{names_concepts}
use Rattle.refutation_tree.specs.RefutationLists.{RefutationLists}
use Rattle.refutation_tree.specs.Keywords.{shape_kind, line_kind}
use Rattle.refutation_tree.specs.RefutationText.{is_number, numbers_in, are_axiom_numbers, with_numbers, axiom_set}
use Rattle.refutation_tree.specs.RefutationText.{axioms_numbered, axioms_line, class_in, restriction_in, counted_in}
use Rattle.refutation_tree.specs.RefutationText.{when_none, shape_in, concept_in, one_of, two_of, three_of, start_in}
use Rattle.refutation_tree.specs.RefutationText.{short_line, row_in, most_in, numbered_line, carry_in, rule_in}
use Rattle.refutation_tree.specs.RefutationText.{rule_line, with_shape, with_line, concept_read, is_concept_line}
use Rattle.refutation_tree.specs.RefutationText.{refutation_line_read, refutation_body, begun, axioms_in, axioms_from}
use Rattle.refutation_tree.specs.RefutationText.{head_in, refutation_of}
use Rattle.refutation_tree.specs.Written.{shape_is_listed, line_is_listed}
use Rattle.refutation_tree.specs.ReadBack.{has_nodes, is_small, IsWritable}
use Rattle.refutation_tree.specs.declared.keywords.ShapeKind.{ShapeKind}
use Rattle.refutation_tree.specs.declared.keywords.ShapeKind.TheVariants as S
use Rattle.refutation_tree.specs.declared.keywords.LineKind.{LineKind}
use Rattle.refutation_tree.specs.declared.keywords.LineKind.TheVariants as L
use Rattle.refutation_tree.specs.declared.fields.Restriction.{Restriction}
use Rattle.refutation_tree.specs.declared.fields.Counted.{Counted}
use Rattle.refutation_tree.proofs.FieldsBack.{are_small}
use Rattle.refutation_tree.proofs.Shapes.{shapes_push}

-- ---- options that are there

pub and_then_some : {A B : Type 0} (f : A → Option B) (o : Option A) (y : B) → option_and_then f o ≡ Some y
    → (x : A) × (o ≡ Some x) × (f x ≡ Some y)
and_then_some f None y h = cc
and_then_some f (Some x) y h = (x, refl, h)

map_some : {A B : Type 0} (f : A → B) (o : Option A) (y : B) → option_map f o ≡ Some y
    → (x : A) × (o ≡ Some x) × (f x ≡ y)
map_some f None y h = cc
map_some f (Some x) y h = (x, refl, cc)

pub when_some : {A : Type 0} (b : Bool) (o : Option A) (y : A) → (if b then o else None) ≡ Some y
    → (b ≡ true) × (o ≡ Some y)
when_some true o y h = (refl, h)
when_some false o y h = cc

-- ---- fields

number_small : (w : List ℕ) (n : ℕ) → number_in w ≡ Some n → nat_lt n (2 ^ 32) ≡ true
number_small w n h =
    let value =
    when_some (is_numeral w) (if nat_lt (digits_value 10 w) (2 ^ 32) then Some (digits_value 10 w) else None) n h in
    let small = when_some (nat_lt (digits_value 10 w) (2 ^ 32)) (Some (digits_value 10 w)) n value.1 in
    let same : digits_value 10 w ≡ n = cc small.1 in
    ap (λ m. nat_lt m (2 ^ 32)) (sym same) ∙ small.0

numbers_small : (ws : List (List ℕ)) (ns : List ℕ) → numbers_in ws ≡ Some ns → are_small ns ≡ true
numbers_small [] ns h = let same : [] ≡ ns = cc h in ap are_small (sym same)
numbers_small (w ∷ ws) ns h = by (numbers_small ws) (number_in w) refl h
  where
    by : ((ms : List ℕ) → numbers_in ws ≡ Some ms → are_small ms ≡ true) → (o : Option ℕ) → number_in w ≡ o
        → (elim o [ None ↦ None | Some n ↦ option_map (λ ms. n ∷ ms) (numbers_in ws) ]) ≡ Some ns → are_small ns ≡ true
    by rest None is g = cc
    by rest (Some n) is g =
        let more = map_some (λ ms. n ∷ ms) (numbers_in ws) ns g in
        subst (λ (ms : List ℕ). are_small ms ≡ true) more.2
        (and_from (nat_lt n (2 ^ 32)) (are_small more.0) (number_small w n is) (rest more.0 more.1))

position_within : {A : Type 0} (p : A → Bool) (xs : List A) (n : ℕ) → position p xs ≡ Some n
    → nat_lt n (length xs) ≡ true
position_within p xs n h =
    let m = prefix_len (λ x. not (p x)) xs in
    let found = when_some (nat_lt m (length xs)) (Some m) n h in
    let same : m ≡ n = cc found.1 in
    ap (λ k. nat_lt k (length xs)) (sym same) ∙ found.0

named_listed : (names : List (List ℕ)) (w : List ℕ) (n : ℕ) → name_place names w ≡ Some n
    → nat_lt n (length names) ≡ true
named_listed names w n h =
    let at = and_then_some (λ i. position (bytes_eq i) names) (iri_in w) n h in
    position_within (bytes_eq at.0) names n at.2

module _ (o : Listed) where
  class_listed : (ws : List (List ℕ)) (a : ℕ) → class_in o ws ≡ Some a → nat_lt a (length o.classes) ≡ true
  class_listed [] a h = cc
  class_listed (w ∷ []) a h = named_listed o.classes w a h
  class_listed (w ∷ v ∷ ws) a h = cc

  restriction_listed : (ws : List (List ℕ)) (q : Restriction) → restriction_in o ws ≡ Some q
      → (nat_lt q.role (length o.roles) ≡ true) × (nat_lt q.filler (2 ^ 32) ≡ true)
  restriction_listed [] q h = cc
  restriction_listed (r ∷ []) q h = cc
  restriction_listed (r ∷ c ∷ []) q h =
      let role =
      and_then_some (λ (m : ℕ). option_map (λ (n : ℕ). record { role = m; filler = n }) (number_in c))
      (name_place o.roles r) q h in
      let filler = map_some (λ (n : ℕ). record { role = role.0; filler = n }) (number_in c) q role.2 in
      subst (λ (p : Restriction). (nat_lt p.role (length o.roles) ≡ true) × (nat_lt p.filler (2 ^ 32) ≡ true)) filler.2
      (named_listed o.roles r role.0 role.1, number_small c filler.0 filler.1)
  restriction_listed (r ∷ c ∷ w ∷ ws) q h = cc

  counted_listed : (ws : List (List ℕ)) (q : Counted) → counted_in o ws ≡ Some q
      → nat_lt q.rest.role (length o.roles) ≡ true
  counted_listed [] q h = cc
  counted_listed (w ∷ ws) q h =
      let count =
      and_then_some (λ (m : ℕ). option_map (λ (p : Restriction). record { count = m; rest = p }) (restriction_in o ws))
      (number_in w) q h in
      let rest = map_some (λ (p : Restriction). record { count = count.0; rest = p }) (restriction_in o ws) q count.2 in
      subst (λ (p : Counted). nat_lt p.rest.role (length o.roles) ≡ true) rest.2 (restriction_listed ws rest.0 rest.1).0

  -- ---- concept lines

  constant_listed : (ws : List (List ℕ)) (t s : Shape) → shape_is_listed o t ≡ true → when_none ws t ≡ Some s
      → shape_is_listed o s ≡ true
  constant_listed [] t s good h = let same : t ≡ s = cc h in ap (shape_is_listed o) (sym same) ∙ good
  constant_listed (w ∷ ws) t s good h = cc

  made_listed : {A : Type 0} (make : A → Shape) (found : Option A) (s : Shape) → option_map make found ≡ Some s
      → ((x : A) → found ≡ Some x → shape_is_listed o (make x) ≡ true) → shape_is_listed o s ≡ true
  made_listed make found s h good = let x = map_some make found s h in ap (shape_is_listed o) (sym x.2) ∙ good x.0 x.1

  shape_listed : (kind : ShapeKind) (ws : List (List ℕ)) (s : Shape) → shape_in o kind ws ≡ Some s
      → shape_is_listed o s ≡ true
  shape_listed S.Top ws s h = constant_listed ws top s refl h
  shape_listed S.Bottom ws s h = constant_listed ws bottom s refl h
  shape_listed S.Name ws s h = made_listed name (class_in o ws) s h (λ a e. class_listed ws a e)
  shape_listed S.NotName ws s h = made_listed not_name (class_in o ws) s h (λ a e. class_listed ws a e)
  shape_listed S.And ws s h = made_listed intersection (numbers_in ws) s h (λ ns e. refl)
  shape_listed S.Or ws s h = made_listed union (numbers_in ws) s h (λ ns e. refl)
  shape_listed S.SomeOf ws s h =
      made_listed (λ (q : Restriction). some_of q.role q.filler) (restriction_in o ws) s h
      (λ q e. (restriction_listed ws q e).0)
  shape_listed S.AllOf ws s h =
      made_listed (λ (q : Restriction). all_of q.role q.filler) (restriction_in o ws) s h
      (λ q e. (restriction_listed ws q e).0)
  shape_listed S.Least ws s h =
      made_listed (λ (q : Counted). at_least q.count q.rest.role q.rest.filler) (counted_in o ws) s h
      (λ q e. counted_listed ws q e)
  shape_listed S.Most ws s h =
      made_listed (λ (q : Counted). at_most q.count q.rest.role q.rest.filler) (counted_in o ws) s h
      (λ q e. counted_listed ws q e)

  is_small_number : (n : ℕ) (w : List ℕ) (found : Option ℕ) → number_in w ≡ found → is_number n found ≡ true
      → n < 2 ^ 32
  is_small_number n w None is h = cc
  is_small_number n w (Some m) is h =
      let same : m ≡ n = eqb-true m n h in omega (arith, same, ltb-true m (2 ^ 32) (number_small w m is))

  concept_listed : (n : ℕ) (ws : List (List ℕ)) (s : Shape) → concept_in o n ws ≡ Some s
      → (shape_is_listed o s ≡ true) × (n < 2 ^ 32)
  concept_listed n [] s h = cc
  concept_listed n (c ∷ []) s h = cc
  concept_listed n (c ∷ k ∷ []) s h = cc
  concept_listed n (c ∷ k ∷ kind ∷ ws) s h =
      let at = when_some (is_number n (number_in k)) (option_and_then (λ t. shape_in o t ws) (shape_kind kind)) s h in
      let shape = and_then_some (λ t. shape_in o t ws) (shape_kind kind) s at.1 in
      (shape_listed shape.0 ws s shape.2, is_small_number n k (number_in k) refl at.0)

  -- ---- rule lines

  record IsGood (line : Line) : Type 0 where
    listed : line_is_listed o line ≡ true
    nodes : has_nodes line ≡ true
    small : is_small line ≡ true

  one_is : (ns : List ℕ) (x : ℕ) → one_of ns ≡ Some x → ns ≡ x ∷ []
  one_is [] x h = cc
  one_is (n ∷ []) x h = let same : n ≡ x = cc h in ap (λ m. m ∷ []) same
  one_is (n ∷ m ∷ ms) x h = cc

  two_is : (ns : List ℕ) (t : ℕ × ℕ) → two_of ns ≡ Some t → ns ≡ t.0 ∷ t.1 ∷ []
  two_is [] t h = cc
  two_is (n ∷ []) t h = cc
  two_is (n ∷ m ∷ []) t h = let same : ◌≡◌ {A = ℕ × ℕ} (n, m) t = cc h in ap (λ (p : ℕ × ℕ). p.0 ∷ p.1 ∷ []) same
  two_is (n ∷ m ∷ l ∷ ls) t h = cc

  three_is : (ns : List ℕ) (t : ℕ × ℕ × ℕ) → three_of ns ≡ Some t → ns ≡ t.0 ∷ t.1 ∷ t.2 ∷ []
  three_is [] t h = cc
  three_is (n ∷ []) t h = cc
  three_is (n ∷ m ∷ []) t h = cc
  three_is (n ∷ m ∷ l ∷ []) t h =
      let same : ◌≡◌ {A = ℕ × ℕ × ℕ} (n, m, l) t = cc h in ap (λ (p : ℕ × ℕ × ℕ). p.0 ∷ p.1 ∷ p.2 ∷ []) same
  three_is (n ∷ m ∷ l ∷ k ∷ ks) t h = cc

  module _ (ns : List ℕ) (line : Line) (all_small : are_small ns ≡ true) where
    by_two : (make : ℕ × ℕ → Line) → ((t : ℕ × ℕ) → are_small (t.0 ∷ t.1 ∷ []) ≡ true → IsGood (make t))
        → option_map make (two_of ns) ≡ Some line → IsGood line
    by_two make good h =
        let t = map_some make (two_of ns) line h in
        subst IsGood t.2 (good t.0 (ap are_small (sym (two_is ns t.0 t.1)) ∙ all_small))

    by_three : (make : ℕ × ℕ × ℕ → Line) → ((t : ℕ × ℕ × ℕ) → are_small (t.0 ∷ t.1 ∷ t.2 ∷ []) ≡ true → IsGood (make t))
        → option_map make (three_of ns) ≡ Some line → IsGood line
    by_three make good h =
        let t = map_some make (three_of ns) line h in
        subst IsGood t.2 (good t.0 (ap are_small (sym (three_is ns t.0 t.1)) ∙ all_small))

    short_good : (kind : LineKind) → short_line kind ns ≡ Some line → IsGood line
    short_good L.Start h = start_good ns h
      where
        start_good : (ms : List ℕ) → start_in ms ≡ Some line → IsGood line
        start_good [] g =
            let same : start_line ≡ line = cc g in
            subst IsGood same (record { listed = refl; nodes = refl; small = refl })
        start_good (m ∷ ms) g = cc
    short_good L.And h = by_two (λ t. and_line t.0 t.1) (λ t s. record { listed = refl; nodes = refl; small = s }) h
    short_good L.Or h = by_two (λ t. or_line t.0 t.1) (λ t s. record { listed = refl; nodes = refl; small = s }) h
    short_good L.All h =
        by_three (λ t. all_line t.0 t.1 t.2) (λ t s. record { listed = refl; nodes = refl; small = s }) h
    short_good L.Carry h = cc
    short_good L.Row h = cc
    short_good L.Range h =
        by_three (λ t. range_line t.0 t.1 t.2) (λ t s. record { listed = refl; nodes = refl; small = s }) h
    short_good L.SomeOf h =
        by_three (λ t. some_line t.0 t.1 t.2) (λ t s. record { listed = refl; nodes = refl; small = s }) h
    short_good L.Least h =
        by_three (λ t. least_line t.0 t.1 t.2) (λ t s. record { listed = refl; nodes = refl; small = s }) h
    short_good L.Choose h =
        by_two (λ t. choose_line t.0 t.1) (λ t s. record { listed = refl; nodes = refl; small = s }) h
    short_good L.Pair h = by_two (λ t. pair_line t.0 t.1) (λ t s. record { listed = refl; nodes = refl; small = s }) h
    short_good L.Bottom h =
        let x = map_some bottom_line (one_of ns) line h in
        subst IsGood x.2
        (record { listed = refl; nodes = refl; small = ap are_small (sym (one_is ns x.0 x.1)) ∙ all_small })
    short_good L.Clash h = by_two (λ t. clash_line t.0 t.1) (λ t s. record { listed = refl; nodes = refl; small = s }) h
    short_good L.Most h = cc
    short_good L.Fact h = by_two (λ t. fact_line t.0 t.1) (λ t s. record { listed = refl; nodes = refl; small = s }) h
    short_good L.Differ h =
        by_two (λ t. differ_line t.0 t.1) (λ t s. record { listed = refl; nodes = refl; small = s }) h

  row_good : (ns : List ℕ) (line : Line) → are_small ns ≡ true → row_in ns ≡ Some line → IsGood line
  row_good [] line s h = cc
  row_good (x ∷ []) line s h = cc
  row_good (x ∷ a ∷ []) line s h = cc
  row_good (x ∷ a ∷ p ∷ is) line s h =
      let same : row_line x a p is ≡ line = cc h in
      subst IsGood same (record { listed = refl; nodes = refl; small = s })

  most_good : (ns : List ℕ) (line : Line) → are_small ns ≡ true → most_in ns ≡ Some line → IsGood line
  most_good [] line s h = cc
  most_good (x ∷ []) line s h = cc
  most_good (x ∷ c ∷ []) line s h = cc
  most_good (x ∷ c ∷ y ∷ ys) line s h =
      let same : most_line x c (y ∷ ys) ≡ line = cc h in
      subst IsGood same (record { listed = refl; nodes = refl; small = s })

  numbered_good : (kind : LineKind) (ns : List ℕ) (line : Line) → are_small ns ≡ true
      → numbered_line kind ns ≡ Some line → IsGood line
  numbered_good L.Row ns line s h = row_good ns line s h
  numbered_good L.Most ns line s h = most_good ns line s h
  numbered_good L.Start ns line s h = short_good ns line s L.Start h
  numbered_good L.And ns line s h = short_good ns line s L.And h
  numbered_good L.Or ns line s h = short_good ns line s L.Or h
  numbered_good L.All ns line s h = short_good ns line s L.All h
  numbered_good L.Carry ns line s h = short_good ns line s L.Carry h
  numbered_good L.Range ns line s h = short_good ns line s L.Range h
  numbered_good L.SomeOf ns line s h = short_good ns line s L.SomeOf h
  numbered_good L.Least ns line s h = short_good ns line s L.Least h
  numbered_good L.Choose ns line s h = short_good ns line s L.Choose h
  numbered_good L.Pair ns line s h = short_good ns line s L.Pair h
  numbered_good L.Bottom ns line s h = short_good ns line s L.Bottom h
  numbered_good L.Clash ns line s h = short_good ns line s L.Clash h
  numbered_good L.Fact ns line s h = short_good ns line s L.Fact h
  numbered_good L.Differ ns line s h = short_good ns line s L.Differ h

  carry_good : (ws : List (List ℕ)) (line : Line) → carry_in o ws ≡ Some line → IsGood line
  carry_good [] line h = cc
  carry_good (x ∷ []) line h = cc
  carry_good (x ∷ y ∷ ws) line h =
      let from =
      and_then_some
      (λ (m : ℕ). option_and_then
      (λ (n : ℕ). option_map (λ (q : Restriction). carry_line m n q.role q.filler) (restriction_in o ws)) (number_in y))
      (number_in x) line h in
      let to =
      and_then_some
      (λ (n : ℕ). option_map (λ (q : Restriction). carry_line from.0 n q.role q.filler) (restriction_in o ws))
      (number_in y) line from.2 in
      let rest =
      map_some (λ (q : Restriction). carry_line from.0 to.0 q.role q.filler) (restriction_in o ws) line to.2 in
      let q = restriction_listed ws rest.0 rest.1 in
      subst IsGood rest.2 (record {
        listed = q.0;
        nodes = refl;
        small = and_from (nat_lt from.0 (2 ^ 32)) (are_small (to.0 ∷ rest.0.filler ∷ [])) (number_small x from.0 from.1)
            (and_from (nat_lt to.0 (2 ^ 32)) (are_small (rest.0.filler ∷ [])) (number_small y to.0 to.1)
            (and_from (nat_lt rest.0.filler (2 ^ 32)) true q.1 refl));
      })

  by_numbers : (kind : LineKind) (ws : List (List ℕ)) (line : Line)
      → option_and_then (numbered_line kind) (numbers_in ws) ≡ Some line → IsGood line
  by_numbers kind ws line h =
      let ns = and_then_some (numbered_line kind) (numbers_in ws) line h in
      numbered_good kind ns.0 line (numbers_small ws ns.0 ns.1) ns.2

  rule_good : (kind : LineKind) (ws : List (List ℕ)) (line : Line) → rule_in o kind ws ≡ Some line → IsGood line
  rule_good L.Carry ws line h = carry_good ws line h
  rule_good L.Start ws line h = by_numbers L.Start ws line h
  rule_good L.And ws line h = by_numbers L.And ws line h
  rule_good L.Or ws line h = by_numbers L.Or ws line h
  rule_good L.All ws line h = by_numbers L.All ws line h
  rule_good L.Row ws line h = by_numbers L.Row ws line h
  rule_good L.Range ws line h = by_numbers L.Range ws line h
  rule_good L.SomeOf ws line h = by_numbers L.SomeOf ws line h
  rule_good L.Least ws line h = by_numbers L.Least ws line h
  rule_good L.Choose ws line h = by_numbers L.Choose ws line h
  rule_good L.Pair ws line h = by_numbers L.Pair ws line h
  rule_good L.Bottom ws line h = by_numbers L.Bottom ws line h
  rule_good L.Clash ws line h = by_numbers L.Clash ws line h
  rule_good L.Most ws line h = by_numbers L.Most ws line h
  rule_good L.Fact ws line h = by_numbers L.Fact ws line h
  rule_good L.Differ ws line h = by_numbers L.Differ ws line h

  line_good : (ws : List (List ℕ)) (line : Line) → rule_line o ws ≡ Some line → IsGood line
  line_good [] line h = cc
  line_good (k ∷ ws) line h =
      let kind = and_then_some (λ t. rule_in o t ws) (line_kind k) line h in rule_good kind.0 ws line kind.2

  -- ---- one line more

  push_passes : {A : Type 0} (p : A → Bool) (xs : List A) (x : A) → list_all p xs ≡ true → p x ≡ true
      → list_all p (xs ++ x ∷ []) ≡ true
  push_passes p xs x all one =
      list_all-append p xs (x ∷ []) ∙ and_from (list_all p xs) (list_all p (x ∷ [])) all (and_from (p x) true one refl)

  shape_more : (k next : RefutationLists) (s : Shape) → k.lines ≡ [] → length k.shapes + 1 < 2 ^ 32
      → shape_is_listed o s ≡ true → IsWritable o k → with_shape k s ≡ Some next → IsWritable o next
  shape_more k next s none room listed can h =
      let put = when_some (admits k.shapes s) (Some (record k { shapes = k.shapes ++ s ∷ [] })) next h in
      let same : record k { shapes = k.shapes ++ s ∷ [] } ≡ next = cc put.1 in
      let names = and_parts (list_all (shape_is_listed o) k.shapes) (list_all (line_is_listed o) k.lines) can.listed in
      subst (IsWritable o) same (record {
        kept = record {
          few = omega (arith, room, length-append k.shapes (s ∷ []));
          are_shapes = shapes_push k.shapes s can.kept.are_shapes put.0;
          are_known = ap (list_all (names_concepts (k.shapes ++ s ∷ []))) none;
        };
        limit = can.limit;
        within = can.within;
        few_axioms = can.few_axioms;
        listed =
            and_from (list_all (shape_is_listed o) (k.shapes ++ s ∷ [])) (list_all (line_is_listed o) k.lines)
            (push_passes (shape_is_listed o) k.shapes s names.0 listed) names.1;
        have_nodes = can.have_nodes;
        are_small = can.are_small;
      })

  line_more : (k next : RefutationLists) (line : Line) → IsGood line → IsWritable o k → with_line k line ≡ Some next
      → IsWritable o next
  line_more k next line good can h =
      let put = when_some (names_concepts k.shapes line) (Some (record k { lines = k.lines ++ line ∷ [] })) next h in
      let same : record k { lines = k.lines ++ line ∷ [] } ≡ next = cc put.1 in
      let names = and_parts (list_all (shape_is_listed o) k.shapes) (list_all (line_is_listed o) k.lines) can.listed in
      subst (IsWritable o) same (record {
        kept = record {
          few = can.kept.few;
          are_shapes = can.kept.are_shapes;
          are_known = push_passes (names_concepts k.shapes) k.lines line can.kept.are_known put.0;
        };
        limit = can.limit;
        within = can.within;
        few_axioms = can.few_axioms;
        listed =
            and_from (list_all (shape_is_listed o) k.shapes) (list_all (line_is_listed o) (k.lines ++ line ∷ []))
            names.0 (push_passes (line_is_listed o) k.lines line names.1 good.listed);
        have_nodes = push_passes has_nodes k.lines line can.have_nodes good.nodes;
        are_small = push_passes is_small k.lines line can.are_small good.small;
      })

  concept_more : (k next : RefutationLists) (ls : List Line) (ws : List (List ℕ)) → k.lines ≡ ls → IsWritable o k
      → concept_read o k ls ws ≡ Some next → IsWritable o next
  concept_more k next [] ws none can h =
      let shape = and_then_some (with_shape k) (concept_in o (length k.shapes + 1) ws) next h in
      let good = concept_listed (length k.shapes + 1) ws shape.0 shape.1 in
      shape_more k next shape.0 none good.1 good.0 can shape.2
  concept_more k next (l ∷ ls) ws some can h = cc

  words_more : (k next : RefutationLists) (ws : List (List ℕ)) (b : Bool) → IsWritable o k
      → (if b then concept_read o k k.lines ws else option_and_then (with_line k) (rule_line o ws)) ≡ Some next
      → IsWritable o next
  words_more k next ws true can h = concept_more k next k.lines ws refl can h
  words_more k next ws false can h =
      let line = and_then_some (with_line k) (rule_line o ws) next h in
      line_more k next line.0 (line_good ws line.0 line.1) can line.2

  line_writable : (n : ℕ) (k next : RefutationLists) (l : List ℕ) → IsWritable o k
      → refutation_line_read o k l ≡ Some next → IsWritable o next
  line_writable n k next l can h = words_more k next (words l) (is_concept_line (words l)) can h

  pub body_writable : (k m : RefutationLists) (ls : List (List ℕ)) → IsWritable o k → refutation_body o k ls ≡ Some m
      → IsWritable o m
  body_writable k m ls can h =
      let ends =
      body_keeps (refutation_line_read o) (λ last. last) (λ n b. IsWritable o b) line_writable 0 k m ls can h in
      subst (IsWritable o) ends.becomes ends.keeps

  -- ---- the axioms

  within_numbers : (count : ℕ) (ns : List ℕ) (s : NumberSet) → list_all (λ n. nat_lt 0 n && nat_le n count) ns ≡ true
      → IsWithin count s → IsWithin count (with_numbers ns s)
  within_numbers count [] s h within = within
  within_numbers count (n ∷ ns) s h within =
      let parts = and_parts (nat_lt 0 n && nat_le n count) (list_all (λ m. nat_lt 0 m && nat_le m count) ns) h in
      let bounds = and_parts (nat_lt 0 n) (nat_le n count) parts.0 in
      within_numbers count ns (set.insert s n) parts.1
      (put_within count n s within (omega (arith, ltb-true 0 n bounds.0)) (leb-true n count bounds.1))

  none_within : (count : ℕ) → IsWithin count (set.empty {R = nat_cmp})
  none_within count k h = absurd (false≢true (sym (set.contains-empty nat_cmp k) ∙ h))

  pub begun_writable : (ws : List (List ℕ)) (a : Limited) → length o.axioms < 2 ^ 32
      → axioms_line (length o.axioms) ws ≡ Some a → IsWritable o (begun a)
  begun_writable [] a few h = cc
  begun_writable (k ∷ ws) a few h =
      let keyword =
      when_some (bytes_eq k (codes "axioms")) (option_and_then (axioms_numbered (length o.axioms)) (numbers_in ws)) a
      h in
      let ns = and_then_some (axioms_numbered (length o.axioms)) (numbers_in ws) a keyword.1 in
      let set_of =
      when_some (are_axiom_numbers (length o.axioms) ns.0) (Some (axiom_set (length o.axioms) ns.0)) a ns.2 in
      let same : axiom_set (length o.axioms) ns.0 ≡ a = cc set_of.1 in
      let bounds =
      (and_parts (list_all (λ n. nat_lt 0 n && nat_le n (length o.axioms)) ns.0) (is_ascending ns.0) set_of.0).0 in
      subst (λ (b : Limited). IsWritable o (begun b)) same (record {
        kept = record {
          few = omega arith;
          are_shapes =
              record { fit = λ n lt. absurd (omega arith); are_distinct = λ n m lt mt e. absurd (omega arith) };
          are_known = refl;
        };
        limit = refl;
        within = within_numbers (length o.axioms) ns.0 set.empty bounds (none_within (length o.axioms));
        few_axioms = few;
        listed = refl;
        have_nodes = refl;
        are_small = refl;
      })

  axioms_writable : (ls : List (List ℕ)) (k : RefutationLists) → length o.axioms < 2 ^ 32 → axioms_from o ls ≡ Some k
      → IsWritable o k
  axioms_writable [] k few h = cc
  axioms_writable (l ∷ ls) k few h =
      let a = and_then_some (λ b. refutation_body o (begun b) ls) (axioms_in o l) k h in
      body_writable (begun a.0) k ls (begun_writable (words l) a.0 few a.1) a.2

  pub read_is_writable : (ls : List (List ℕ)) (k : RefutationLists) → length o.axioms < 2 ^ 32
      → refutation_of o ls ≡ Some k → IsWritable o k
  read_is_writable [] k few h = cc
  read_is_writable (l ∷ ls) k few h =
      let head = and_then_some (λ u. axioms_from o ls) (head_in l) k h in axioms_writable ls k few head.2
