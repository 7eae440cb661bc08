-- The IRIs of names may stand in a text.
use Rattle.std.proofs.Common.{◌≡◌, ℕ, zero, suc, ◌+◌, Bool, true, false, not, cond, List, [], ◌∷◌, ◌++◌, length, get_or}
use Rattle.std.proofs.Common.{take, drop, Option, Some, None, refl, sym, ◌∙◌, subst, arith, codes, inl, inr}
use Rattle.std.proofs.lemmas.Grind.{common_steps}
use Rattle.std.proofs.lemmas.List.{drop_all}
use Rattle.std.proofs.lemmas.List.Folds.{list_all-append}
use Rattle.std.proofs.lemmas.List.Sums.{prefix_len_stops}
use Rattle.std.proofs.lemmas.Bool.{cases_lt, and_parts, and_from}
use Rattle.std.proofs.lemmas.Str.{IsUtf8-nil, IsUtf8-append, IsUtf8-drop, IsCharBoundary-after_ascii}
use Rattle.std.specs.List.{list_all, prefix_len}
use Rattle.std.specs.Str.{IsUtf8, bytes_eq}
use Rattle.ofn_tree.specs.Lexemes.{is_iri_byte, is_name_byte}
use Rattle.ofn_tree.specs.Items.{Item, name_item, iri_item, literal_item, sign_item, group_item, Items, no_items, item}
use Rattle.ofn_tree.specs.Items.{items_of}
use Rattle.ofn_expressions.specs.Names.{Prefix, predeclared, prefix_iri, is_colon, prefix_part, local_part, full_iri}
use Rattle.ofn_expressions.specs.Names.{iri_of}
use Rattle.ofn_reader.specs.Groups.{inner_items}
use Rattle.ofn_reader.specs.Prefixes.{declared_name, declared_iri, or_empty, declared_at, with_prefix_items}
use Rattle.ofn_reader.specs.Prefixes.{with_prefix, prefixes_behind}
use Rattle.text_laws.proofs.Terms.{low_text}
use Rattle.text_laws.proofs.GoodTokens.{IsGood, IsGoodItem, AreGoodItems}

abbrev pub IsGoodIri : List ℕ → Type 0
IsGoodIri w = IsGood is_iri_byte w

abbrev pub AreGoodPrefixes : List Prefix → Type 0
AreGoodPrefixes [] = Unit {0}
AreGoodPrefixes (p ∷ ps) = IsGoodIri p.iri × AreGoodPrefixes ps

no_bytes : IsGoodIri []
no_bytes = record { bytes = refl; utf8 = IsUtf8-nil }

plain_iri : (w : List ℕ) → list_all is_iri_byte w ≡ true → IsUtf8 w → IsGoodIri w
plain_iri w bytes utf8 = record { bytes = bytes; utf8 = utf8 }

pub predeclared_good : AreGoodPrefixes predeclared
unfolding predeclared
predeclared_good = (
  plain_iri (codes "http://www.w3.org/1999/02/22-rdf-syntax-ns#") refl
      (low_text (codes "http://www.w3.org/1999/02/22-rdf-syntax-ns#") refl),
  (
    plain_iri (codes "http://www.w3.org/2000/01/rdf-schema#") refl
        (low_text (codes "http://www.w3.org/2000/01/rdf-schema#") refl),
    (
      plain_iri (codes "http://www.w3.org/2001/XMLSchema#") refl
          (low_text (codes "http://www.w3.org/2001/XMLSchema#") refl),
      (
        plain_iri (codes "http://www.w3.org/2002/07/owl#") refl
            (low_text (codes "http://www.w3.org/2002/07/owl#") refl),
        tt,
      ),
    ),
  ),
)

-- ---- names

name_is_iri_byte : (b : ℕ) → is_name_byte b ≡ true → is_iri_byte b ≡ true
name_is_iri_byte b h = grind (arith, common_steps, h)

names_are_iri_bytes : (w : List ℕ) → list_all is_name_byte w ≡ true → list_all is_iri_byte w ≡ true
names_are_iri_bytes [] h = refl
names_are_iri_bytes (b ∷ w) h =
    and_from (is_iri_byte b) (list_all is_iri_byte w)
    (name_is_iri_byte b (and_parts (is_name_byte b) (list_all is_name_byte w) h).0)
    (names_are_iri_bytes w (and_parts (is_name_byte b) (list_all is_name_byte w) h).1)

rest_passes : (p : ℕ → Bool) (n : ℕ) (w : List ℕ) → list_all p w ≡ true → list_all p (drop n w) ≡ true
rest_passes p zero w h = h
rest_passes p (suc n) [] h = refl
rest_passes p (suc n) (b ∷ w) h = rest_passes p n w (and_parts (p b) (list_all p w) h).1

colon_of : (b : ℕ) → not (is_colon b) ≡ false → b ≡ 58
colon_of b h = grind (arith, common_steps, h)

local_good : (w : List ℕ) → IsGood is_name_byte w → IsGoodIri (local_part w)
local_good w good =
    let n : ℕ = prefix_len (λ b. not (is_colon b)) w in
    record {
      bytes = names_are_iri_bytes (drop (n + 1) w) (rest_passes is_name_byte (n + 1) w good.bytes);
      utf8 = elim (cases_lt n (length w)) as (λ _. IsUtf8 (drop (n + 1) w)) [
        | inl inside ↦
            let colon : get_or w n 0 ≡ 58 =
            colon_of (get_or w n 0) (prefix_len_stops (λ b. not (is_colon b)) w 0 inside) in
            IsUtf8-drop w (n + 1) good.utf8 (IsCharBoundary-after_ascii w n good.utf8 inside (omega (arith, colon)))
        | inr past ↦ subst IsUtf8 (sym (drop_all (n + 1) w (omega (arith, past)))) IsUtf8-nil
      ];
    }

abbrev IsGoodFound : Option (List ℕ) → Type 0
IsGoodFound None = Unit {0}
IsGoodFound (Some w) = IsGoodIri w

found_good : (ps : List Prefix) (name : List ℕ) → AreGoodPrefixes ps → IsGoodFound (prefix_iri ps name)
found_good [] name good = tt
found_good (p ∷ ps) name good = by (found_good ps name good.1) (bytes_eq name p.name)
  where
    by : IsGoodFound (prefix_iri ps name) → (v : Bool) → IsGoodFound (cond v (Some p.iri) (prefix_iri ps name))
    by rest true = good.0
    by rest false = rest

joined_good : (v w : List ℕ) → IsGoodIri v → IsGoodIri w → IsGoodIri (v ++ w)
joined_good v w first second = record {
  bytes =
      list_all-append is_iri_byte v w
      ∙ and_from (list_all is_iri_byte v) (list_all is_iri_byte w) first.bytes second.bytes;
  utf8 = IsUtf8-append v w first.utf8 second.utf8;
}

full_good : (r : Option (List ℕ)) (w : List ℕ) → IsGoodFound r → IsGoodIri w → IsGoodIri (full_iri r w)
full_good None w found rest = no_bytes
full_good (Some v) w found rest = joined_good v w found rest

pub iri_good : (ps : List Prefix) (i : Item) → AreGoodPrefixes ps → IsGoodItem i → IsGoodIri (iri_of ps i)
iri_good ps (name_item w n) prefixes good =
    full_good (prefix_iri ps (prefix_part w)) (local_part w) (found_good ps (prefix_part w) prefixes)
    (local_good w good)
iri_good ps (iri_item w n) prefixes good = good
iri_good ps (literal_item n) prefixes good = no_bytes
iri_good ps (sign_item k n) prefixes good = no_bytes
iri_good ps (group_item h is n) prefixes good = no_bytes

-- ---- declarations of prefixes

inner_good : (i : Item) → IsGoodItem i → AreGoodItems (inner_items i)
inner_good (name_item w n) good = tt
inner_good (iri_item w n) good = tt
inner_good (literal_item n) good = tt
inner_good (sign_item k n) good = tt
inner_good (group_item h is n) good = good

declared_iri_good : (i : Item) → IsGoodItem i → IsGoodIri (or_empty (declared_iri i))
declared_iri_good (name_item w n) good = no_bytes
declared_iri_good (iri_item w n) good = good
declared_iri_good (literal_item n) good = no_bytes
declared_iri_good (sign_item k n) good = no_bytes
declared_iri_good (group_item h is n) good = no_bytes

prefix_last : (ps : List Prefix) (name w : List ℕ) → AreGoodPrefixes ps → IsGoodIri w
    → AreGoodPrefixes (ps ++ record { name = name; iri = w } ∷ [])
prefix_last [] name w prefixes good = (good, tt)
prefix_last (p ∷ ps) name w prefixes good = (prefixes.0, prefix_last ps name w prefixes.1 good)

declared_good : (known : Option (List ℕ)) (ps : List Prefix) (name w : List ℕ) → AreGoodPrefixes ps → IsGoodIri w
    → AreGoodPrefixes (declared_at known ps name w)
declared_good (Some v) ps name w prefixes good = prefixes
declared_good None ps name w prefixes good = prefix_last ps name w prefixes good

items_declare : (ps : List Prefix) (is : Items) → AreGoodPrefixes ps → AreGoodItems is
    → AreGoodPrefixes (with_prefix_items ps is)
items_declare ps no_items prefixes good = prefixes
items_declare ps (item n no_items) prefixes good = prefixes
items_declare ps (item n (item e no_items)) prefixes good = prefixes
items_declare ps (item n (item e (item i is))) prefixes good =
    declared_good (prefix_iri ps (or_empty (declared_name n))) ps (or_empty (declared_name n))
    (or_empty (declared_iri i)) prefixes (declared_iri_good i good.1.1.0)

pub prefixes_good : (ps : List Prefix) (is : List Item) → AreGoodPrefixes ps → AreGoodItems (items_of is)
    → AreGoodPrefixes (prefixes_behind ps is)
prefixes_good ps [] prefixes good = prefixes
prefixes_good ps (i ∷ is) prefixes good =
    prefixes_good (with_prefix ps i) is (items_declare ps (inner_items i) prefixes (inner_good i good.0)) good.1

pub front_items_good : (n : ℕ) (is : List Item) → AreGoodItems (items_of is) → AreGoodItems (items_of (take n is))
front_items_good zero is good = tt
front_items_good (suc n) [] good = tt
front_items_good (suc n) (i ∷ is) good = (good.0, front_items_good n is good.1)

pub rest_items_good : (n : ℕ) (is : List Item) → AreGoodItems (items_of is) → AreGoodItems (items_of (drop n is))
rest_items_good zero is good = good
rest_items_good (suc n) [] good = tt
rest_items_good (suc n) (i ∷ is) good = rest_items_good n is good.1
