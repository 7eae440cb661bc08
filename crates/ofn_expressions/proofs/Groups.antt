-- A group is its head and its items.
use Rattle.std.proofs.Common.{◌≡◌, ℕ, List, length, Option, Some, None, Result, Ok, Err, refl, ap, sym, ◌∙◌, subst}
use Rattle.ofn_tree.specs.Items.{Item, items_of}
use Rattle.ofn_expressions.specs.Counts.{Counts}
use Rattle.ofn_expressions.specs.Walk.{Test, walked, Judged}
use Rattle.ofn_expressions.specs.Classes.{item_count, role_group_tests, role_group_refusal, group_tests, head_tests}
use Rattle.ofn_expressions.specs.Classes.{inner_tests, operand_tests}
use Rattle.ofn_expressions.specs.Names.{Prefix}
use Rattle.ofn_expressions.specs.declared.construct.Construct.{Construct}
use Rattle.ofn_expressions.specs.declared.keywords.ClassKeyword.{ClassKeyword}
use Rattle.ofn_expressions.specs.declared.keywords.Keyword.{Keyword}
use Rattle.ofn_expressions.specs.declared.keywords.Keyword.TheVariants.{Class}
use Rattle.ofn_expressions.specs.declared.refusal.Refusal.{Refusal}
use Rattle.ofn_expressions.proofs.Walks.{goes_judged, stops}
use Rattle.ofn_expressions.proofs.Lists.{item_count_is}

module _ (ps : List Prefix) (w : Keyword) (line : ℕ) (items : List Item) (each : List (List Test)) (s : Counts) where
  counted : head_tests w line (item_count (items_of items)) ≡ head_tests w line (length items)
  counted = ap (head_tests w line) (item_count_is items)

  pub group_stops : (e : Refusal) → walked s (head_tests w line (length items)) ≡ Err e
      → walked s (group_tests ps w line (items_of items) each) ≡ Err e
  group_stops e first =
      stops s (head_tests w line (item_count (items_of items))) (inner_tests ps w (items_of items) each) e
      (ap (walked s) counted ∙ first)

  pub group_goes : {X : Type 0} (r : Result X Refusal) (k : ClassKeyword) (mid new : Counts)
      → walked s (head_tests w line (length items)) ≡ Ok mid → w ≡ Class k
      → Judged r mid (operand_tests ps k (items_of items) each) new
      → Judged r s (group_tests ps w line (items_of items) each) new
  group_goes r k mid new first same rest =
      goes_judged r s mid new (head_tests w line (item_count (items_of items))) (inner_tests ps w (items_of items) each)
      (ap (walked s) counted ∙ first)
      (subst (λ v. Judged r mid (inner_tests ps v (items_of items) each) new) (sym same) rest)

pub role_group_refused : (s : Counts) (excluded : Option Construct) (line : ℕ)
    → walked s (role_group_tests excluded line) ≡ Err (role_group_refusal excluded line)
role_group_refused s (Some c) line = refl
role_group_refused s None line = refl
