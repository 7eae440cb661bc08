-- Prefixes that were declared stand for the same IRIs after further declarations.
use Rattle.std.proofs.Common.{◌≡◌, ℕ, Bool, true, false, cond, List, [], ◌∷◌, ◌++◌, Option, Some, None, refl, sym}
use Rattle.std.proofs.Common.{subst, codes, bytes_eq}
use Rattle.ofn_tree.specs.Items.{Item, Items, no_items, item}
use Rattle.ofn_expressions.specs.Names.{Prefix, predeclared, prefix_iri}
use Rattle.ofn_reader.specs.DocumentContext.{DocumentContext}
use Rattle.ofn_reader.specs.Groups.{inner_items}
use Rattle.ofn_reader.specs.Prefixes.{declared_name, declared_iri, or_empty, declared_at, with_prefix_items}
use Rattle.ofn_reader.specs.Prefixes.{with_prefix, prefixes_behind}
use Rattle.ofn_reader.specs.Documents.{prefix_groups}
use Rattle.text_laws.specs.WritingLaws.{owl_iri, KnowsOwl, DocumentsKnowOwl}

pub owl_known : KnowsOwl predeclared
unfolding predeclared
owl_known = refl

module _ (w v : List ℕ) where
  abbrev Knows : List Prefix → Type 0
  Knows ps = prefix_iri ps w ≡ Some v

  last_keeps : (ps : List Prefix) (p : Prefix) → Knows ps → Knows (ps ++ p ∷ [])
  last_keeps [] p knows = let clash : ◌≡◌ {A = Option (List ℕ)} None (Some v) = knows in absurd (cc clash)
  last_keeps (q ∷ qs) p knows = by (last_keeps qs p) (bytes_eq w q.name) knows
    where
      by : (Knows qs → Knows (qs ++ p ∷ [])) → (b : Bool) → cond b (Some q.iri) (prefix_iri qs w) ≡ Some v
          → cond b (Some q.iri) (prefix_iri (qs ++ p ∷ []) w) ≡ Some v
      by others true known = known
      by others false known = others known

  declared_keeps : (known : Option (List ℕ)) (ps : List Prefix) (name iri : List ℕ) → Knows ps
      → Knows (declared_at known ps name iri)
  declared_keeps (Some u) ps name iri knows = knows
  declared_keeps None ps name iri knows = last_keeps ps (record { name = name; iri = iri }) knows

  items_keep : (ps : List Prefix) (is : Items) → Knows ps → Knows (with_prefix_items ps is)
  items_keep ps no_items knows = knows
  items_keep ps (item n no_items) knows = knows
  items_keep ps (item n (item e no_items)) knows = knows
  items_keep ps (item n (item e (item i is))) knows =
      declared_keeps (prefix_iri ps (or_empty (declared_name n))) ps (or_empty (declared_name n))
      (or_empty (declared_iri i)) knows

  all_keep : (ps : List Prefix) (is : List Item) → Knows ps → Knows (prefixes_behind ps is)
  all_keep ps [] knows = knows
  all_keep ps (i ∷ is) knows = all_keep (with_prefix ps i) is (items_keep ps (inner_items i) knows)

pub documents_know : DocumentsKnowOwl
documents_know text o kept end d =
    subst (λ (k : DocumentContext). KnowsOwl k.prefixes) (sym d.takes)
    (all_keep (codes "owl") owl_iri predeclared (prefix_groups d.items) owl_known)
